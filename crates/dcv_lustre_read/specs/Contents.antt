-- The words of a node that stands in a text, and its names once all are declared, of code that has them by places.
--     first_fault_of placed                           where its first word begins that breaks a rule of names, if there is one
--     words_behind placed, keeps_behind node          the words behind the names that are declared, and whether each keeps its rule
--     AreDeclared placed inputs locals names rows     these are the inputs and the locals, and all names are known
use Rattle.std.specs.Prelude.{◌≡◌, ℕ, Bool, List, [], ◌∷◌, ◌++◌, Option, map}
use Rattle.dcv_lexer.specs.Cuts.{Token}
use Rattle.dcv_observer.specs.Conditions.{Names}
use Rattle.dcv_observer.specs.Judged.{IsLeft}
use Rattle.dcv_observer.specs.Subsets.{first_broken}
use Rattle.dcv_lustre.specs.declared.node.Local.{Local as CodeLocal}
use Rattle.dcv_lustre.specs.Seen.{seen_local}
use Rattle.dcv_lustre.specs.Tree.{Node}
use Rattle.dcv_lustre.specs.Placed.{PlacedNode, node_of}
use Rattle.dcv_lustre.specs.Rules.{words_of, judged, keeps_equations, has_all_equations}
use Rattle.dcv_lustre_read.specs.Judged.{words_of_equations}
use Rattle.dcv_lustre_read.specs.Scope.{Row, Knows}

abbrev pub first_fault_of : PlacedNode → Option ℕ
first_fault_of placed = first_broken (words_of placed) (judged (node_of placed))

abbrev pub words_behind : PlacedNode → List Token
words_behind placed = words_of_equations placed.equations ++ placed.tel ∷ []

abbrev pub keeps_behind : Node → List Bool
keeps_behind node = keeps_equations node [] node.equations ++ has_all_equations node ∷ []

pub record AreDeclared (placed : PlacedNode) (inputs : Names) (locals : List CodeLocal) (names : Names) (rows : List Row) : Type 0 where
  pub inputs_are : inputs ≡ (node_of placed).inputs
  pub locals_are : map seen_local locals ≡ (node_of placed).locals
  pub knows : Knows (node_of placed) [] names rows
  pub left : IsLeft (first_fault_of placed) (words_behind placed) (keeps_behind (node_of placed))
