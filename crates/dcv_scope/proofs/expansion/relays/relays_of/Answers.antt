use Rattle.std.proofs.Common.{◌≡◌, ◌++◌, ◌∷◌, [], ℕ, ◌+◌, List, Option, length, take, ap, sym, subst, ◌∙◌, arith, length-append}
use Rattle.std.proofs.lemmas.List.{take_more}
use Rattle.dcv_syntax.specs.declared.files.Macro.{Macro}
use Rattle.dcv_scope.specs.Expansions.{AreRelays}
use Rattle.dcv_scope.proofs.InSight.{length-first}
use Rattle.dcv_scope.proofs.Relays.{one_more}
use Rattle.dcv_scope.proofs.expansion.relays.relays_of.Goals as goal

pub loop-place-preserved : goal.loop-place-preserved
loop-place-preserved c =
    let variables = c.args.variables.now in
    let macros = c.args.macros.now in
    let i = c.loop-place.place in
    let last = c.index-macros-place.result in
    let relays = c.loop-place.relays.items in
    let relay = c.in_ok-relay.relay in
    let pushed = c.in_ok-push.ensures.items in
    let before = c.loop-place.invariant in
    let long : length relays ≡ length (take i macros) = before.1 ∙ length-first macros i (omega (arith, c.loop-place-test.true)) in
    let grown : take (i + 1) macros ≡ take i macros ++ last ∷ [] =
    take_more macros i last c.loop-place-test.true ∙ ap (λ (m : Macro). take i macros ++ m ∷ []) (sym c.index-macros-place.is) in
    let more = one_more variables (take i macros) relays last relay before.0 long c.in_ok-relay.ensures in (
      subst (λ (t : List Macro × List (Option ℕ)). AreRelays variables t.0 t.1) (λ k. (sym grown k, sym pushed k)) more,
      omega (arith, before.1, ap length pushed, length-append relays (relay ∷ [])),
    )
