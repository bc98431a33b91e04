use Rattle.std.proofs.Common.{ℕ, List, Bool, Option, map, drop, ◌++◌, []}
use Rattle.std.specs.List.{AllByRecursion}
use Rattle.dcv_lexer.specs.Cuts.{Token}
use Rattle.dcv_lustre.specs.Placed.{equation_of}
use Rattle.dcv_lustre.specs.Words.{AreWordsOfEquation}
use Rattle.dcv_lustre.specs.Tree.{Node}
use Rattle.dcv_lustre.specs.Rules.{keeps_equations}
use Rattle.dcv_lustre_read.specs.Seen.{seen_equation}
use Rattle.dcv_lustre_read.specs.Scope.{seen_row, Knows}
use Rattle.dcv_observer.specs.Judged.{IsLeft}
use Rattle.dcv_lustre_read.specs.Judged.{words_of_equations}
use Rattle.dcv_lustre_read.proofs.Lefts.{AreEquationsSoFar}
use Rattle.dcv_lustre_read.proofs.scope.Scope.equations.Given as goal

abbrev pub invariant-loop-equation : goal.invariant-loop-equation
invariant-loop-equation l =
    AllByRecursion AreWordsOfEquation (map seen_equation (drop l.equation-index l.equations))
    × ((node : Node) → Knows node [] l.initial.self.declared (map seen_row l.initial.self.names.items)
    → (whole : Option ℕ) (words : List Token) (keeps : List Bool)
    → IsLeft whole (words_of_equations (map seen_equation l.equations) ++ words) (keeps_equations node [] (map equation_of (map seen_equation l.equations)) ++ keeps)
    → AreEquationsSoFar node whole words keeps l.equations l.all.items (drop l.equation-index l.equations) l.self.declared (map seen_row l.self.names.items))
