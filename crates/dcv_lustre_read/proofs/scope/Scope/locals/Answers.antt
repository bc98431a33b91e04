use Rattle.std.proofs.Common.{◌≡◌, ℕ, List, Bool, Option, map, drop, length, [], sym, subst, ◌∙◌, arith}
use Rattle.std.proofs.lemmas.List.{drop_more, at_drop_all, append-nil}
use Rattle.dcv_lexer.specs.Cuts.{Token}
use Rattle.dcv_lustre.specs.Tree.{Node}
use Rattle.dcv_lustre.specs.Seen.{seen_local as local_seen}
use Rattle.dcv_lustre_read.specs.declared.placed.PlacedLocal.{PlacedLocal as CodeLocal}
use Rattle.dcv_lustre_read.specs.Scope.{seen_row}
use Rattle.dcv_observer.proofs.Judging.{leads_on}
use Rattle.dcv_lustre_read.proofs.Inputs.{AreLocalsSoFar, behind_inputs, told_here, locals_made}
use Rattle.dcv_lustre_read.proofs.scope.Scope.locals.Goals as goal

pub returns-in_err-declare : goal.returns-in_err-declare
returns-in_err-declare c = λ (node : Node) (whole : Option ℕ) (others : List Token) (others_keep : List Bool) d behind.
    let items = c.args.locals.now in
    let i = c.loop-local.local-index in
    let names = c.loop-local.self.declared in
    let rows = map seen_row c.loop-local.self.names.items in
    let sofar = subst (λ (rest : List CodeLocal). AreLocalsSoFar node whole others others_keep items c.loop-local.all.items rest names rows) (drop_more items i _ c.loop-local-test.true)
    (c.loop-local.invariant node whole others others_keep d behind) in
    leads_on whole _ c.from_residual-in_err-declare.result c.in_err-declare.field-0.0 c.from_residual-in_err-declare.ensures.1
    (c.in_err-declare.ensures node whole others others_keep _ _ _ _ (told_here (sym c.kind_at-kind.ensures) sofar.declaring) (behind_inputs node (length names) sofar.behind))

pub loop-local-preserved : goal.loop-local-preserved
loop-local-preserved c = λ (node : Node) (whole : Option ℕ) (others : List Token) (others_keep : List Bool) d behind.
    let items = c.args.locals.now in
    let i = c.loop-local.local-index in
    let names = c.loop-local.self.declared in
    let rows = map seen_row c.loop-local.self.names.items in
    let sofar = subst (λ (rest : List CodeLocal). AreLocalsSoFar node whole others others_keep items c.loop-local.all.items rest names rows) (drop_more items i _ c.loop-local-test.true)
    (c.loop-local.invariant node whole others others_keep d behind) in
    let then = c.in_ok-declare.ensures node whole others others_keep _ _ _ _ (told_here (sym c.kind_at-kind.ensures) sofar.declaring) (behind_inputs node (length names) sofar.behind) in
    record {
      are_made = locals_made _ sofar c.in_ok-push.ensures.items (λ j. record { name = c.in_ok-name.ensures j; kind = c.kind_at-kind.ensures j });
      behind = omega (arith, then.1, sofar.behind);
      declaring = then.0;
    }

pub returns : goal.returns
returns c = λ (node : Node) (whole : Option ℕ) (others : List Token) (others_keep : List Bool) d behind.
    let items = c.args.locals.now in
    let none : drop c.loop-local.local-index items ≡ [] = at_drop_all (λ (rest : List CodeLocal). rest) items c.loop-local.local-index c.loop-local-test.false in
    let sofar = subst
    (λ (rest : List CodeLocal). AreLocalsSoFar node whole others others_keep items c.loop-local.all.items rest c.loop-local.self.declared (map seen_row c.loop-local.self.names.items)) none
    (c.loop-local.invariant node whole others others_keep d behind) in
    (sym (append-nil (map local_seen c.loop-local.all.items)) ∙ sofar.are_made, sofar.declaring)
