use Rattle.std.proofs.Common.{◌≡◌, ℕ, List, [], ◌∷◌, ◌++◌, length, map, ap, arith, ◌∙◌, false, true, ◌==◌}
use Rattle.std.specs.Prelude.{codes}
use Rattle.std.proofs.lemmas.Grind.{common_steps}
use Rattle.dcv_io.proofs.Putting.{puts_one_more, puts_both, puts_nothing, puts_same}
use Rattle.dcv_observer.specs.Layouts.{Each}
use Rattle.dcv_observer.proofs.Listing.{all_seen}
use Rattle.dcv_lustre.specs.declared.node.Local.{Local as CodeLocal}
use Rattle.dcv_lustre.specs.Tree.{Local}
use Rattle.dcv_lustre.specs.Seen.{seen_local}
use Rattle.dcv_lustre.specs.Layout.{text_in, local_line, local_lines}
use Rattle.dcv_lustre.proofs.layout.put_locals.Goals as goal

some_lines : (locals : List CodeLocal) (lines : List ℕ) → (length locals ≡ 0 → ⊥) → lines ≡ text_in (Each local_line (map seen_local locals))
    → codes "var\n" ++ lines ≡ text_in (local_lines (map seen_local locals))
some_lines [] lines some is = absurd (some (λ i. 0))
some_lines (local ∷ locals) lines some is = ap (λ lines. codes "var\n" ++ lines) is

pub loop-local-init : goal.loop-local-init
loop-local-init g c = puts_nothing _

pub loop-local-preserved : goal.loop-local-preserved
loop-local-preserved g c =
    puts_one_more (λ (local : CodeLocal). text_in (local_line (seen_local local))) c.args.locals.now c.loop-local.local-index c.local-item.result
    _ _ _ c.loop-local-test.true c.loop-local.invariant
    (puts_same _ _ _ _ c.put_local.ensures (ap (λ (local : CodeLocal). text_in (local_line (seen_local local))) c.local-item.is))

pub returns : goal.returns
returns g c =
    puts_same _ _ _ _ (puts_both _ _ _ _ _ c.put.ensures c.loop-local.invariant)
    (some_lines c.args.locals.now _ (λ none. let bad : false ≡ true = c.if-is_empty.ensures ∙ ap (λ n. n == 0) none in cc) (all_seen (λ (local : Local). text_in (local_line local)) seen_local c.args.locals.now c.loop-local.local-index (grind (arith, common_steps))))
