use Rattle.std.proofs.Common.{◌≡◌, ℕ, List, Bool, Option, map, drop, ◌∷◌, [], ◌+◌, ap, sym, subst, ◌∙◌}
use Rattle.std.specs.List.{AllByRecursion}
use Rattle.std.proofs.lemmas.List.{drop_more, at_drop_all}
use Rattle.dcv_lexer.specs.Cuts.{Token}
use Rattle.dcv_lustre.specs.Words.{AreWordsOfEquation}
use Rattle.dcv_lustre.specs.Tree.{Node}
use Rattle.dcv_lustre_read.specs.declared.placed.PlacedEquation.{PlacedEquation as CodeEquation}
use Rattle.dcv_lustre_read.specs.Seen.{seen_equation}
use Rattle.dcv_lustre_read.specs.Scope.{seen_row}
use Rattle.dcv_observer.proofs.Judging.{leads_on}
use Rattle.dcv_lustre_read.proofs.Lefts.{AreEquationsSoFar, equation_left, equations_more, equations_end}
use Rattle.dcv_lustre_read.proofs.scope.Scope.equations.Goals as goal

pub returns-in_err-equation : goal.returns-in_err-equation
returns-in_err-equation c = λ (node : Node) knows (whole : Option ℕ) (words : List Token) (keeps : List Bool) left.
    let items = c.args.equations.now in
    let i = c.loop-equation.equation-index in
    let names = c.loop-equation.self.declared in
    let rows = map seen_row c.loop-equation.self.names.items in
    let split : drop i items ≡ c.equation-item.result ∷ drop (i + 1) items =
    drop_more items i c.equation-item.result c.loop-equation-test.true ∙ ap (λ (x : CodeEquation). x ∷ drop (i + 1) items) (sym c.equation-item.is) in
    let sofar = subst (λ (later : List CodeEquation). AreEquationsSoFar node whole words keeps items c.loop-equation.all.items later names rows) split
    (c.loop-equation.invariant.1 node knows whole words keeps left) in
    leads_on whole _ c.from_residual-in_err-equation.result c.in_err-equation.field-0.0 c.from_residual-in_err-equation.ensures.1
    (c.in_err-equation.ensures node sofar.earlier sofar.knows whole _ _ (equation_left node whole words keeps items c.loop-equation.all.items _ (drop (i + 1) items) names rows sofar))

pub loop-equation-preserved : goal.loop-equation-preserved
loop-equation-preserved c =
    let items = c.args.equations.now in
    let i = c.loop-equation.equation-index in
    let names = c.loop-equation.self.declared in
    let rows = map seen_row c.loop-equation.self.names.items in
    let split : drop i items ≡ c.equation-item.result ∷ drop (i + 1) items =
    drop_more items i c.equation-item.result c.loop-equation-test.true ∙ ap (λ (x : CodeEquation). x ∷ drop (i + 1) items) (sym c.equation-item.is) in (
      (subst (λ (later : List CodeEquation). AllByRecursion AreWordsOfEquation (map seen_equation later)) split c.loop-equation.invariant.0).1,
      λ (node : Node) knows (whole : Option ℕ) (words : List Token) (keeps : List Bool) left.
          let sofar = subst (λ (later : List CodeEquation). AreEquationsSoFar node whole words keeps items c.loop-equation.all.items later names rows) split
          (c.loop-equation.invariant.1 node knows whole words keeps left) in
          equations_more node whole words keeps items c.loop-equation.all.items _ (drop (i + 1) items) names rows sofar c.push.new.self.items c.in_ok-equation.field-0 _ _ c.in_ok-push.ensures.items
          (c.in_ok-equation.ensures node sofar.earlier sofar.knows whole _ _ (equation_left node whole words keeps items c.loop-equation.all.items _ (drop (i + 1) items) names rows sofar)),
    )

pub returns : goal.returns
returns c = λ (node : Node) knows (whole : Option ℕ) (words : List Token) (keeps : List Bool) left.
    let items = c.args.equations.now in
    let names = c.loop-equation.self.declared in
    let rows = map seen_row c.loop-equation.self.names.items in
    let none : drop c.loop-equation.equation-index items ≡ [] = at_drop_all (λ (later : List CodeEquation). later) items c.loop-equation.equation-index c.loop-equation-test.false in
    equations_end node whole words keeps items c.loop-equation.all.items names rows
    (subst (λ (later : List CodeEquation). AreEquationsSoFar node whole words keeps items c.loop-equation.all.items later names rows) none
    (c.loop-equation.invariant.1 node knows whole words keeps left))
