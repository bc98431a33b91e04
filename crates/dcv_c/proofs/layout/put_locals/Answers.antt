use Rattle.std.proofs.Common.{◌≡◌, ℕ, List, [], ◌∷◌, ◌≤◌, length, take, ap, ◌∙◌, true, false, ◌==◌}
use Rattle.dcv_observer.specs.Layouts.{Newline, ◌<>◌, Each}
use Rattle.std.proofs.lemmas.List.{take_all}
use Rattle.dcv_io.proofs.Putting.{puts_one_more, puts_both, puts_same}
use Rattle.dcv_c.specs.Layout.{text_in, local_line, local_lines}
use Rattle.dcv_c.proofs.layout.put_locals.Goals as goal

some_lines : (locals : List (List ℕ)) (k : ℕ) → (length locals ≡ 0 → ⊥) → length locals ≤ k
    → text_in (Each local_line (take k locals) <> Newline) ≡ text_in (local_lines locals)
some_lines [] k some whole = absurd (some (λ i. 0))
some_lines (name ∷ names) k some whole = ap (λ names. text_in (Each local_line names <> Newline)) (take_all k (name ∷ names) whole)

pub loop-name-preserved : goal.loop-name-preserved
loop-name-preserved g c =
    puts_one_more (λ name. text_in (local_line name)) c.args.locals.now c.loop-name.name-index c.name-item.result _ _ _ c.loop-name-test.true c.loop-name.invariant
    (puts_same _ _ _ _ c.put_local.ensures (ap (λ name. text_in (local_line name)) (c.as_bytes.ensures ∙ c.name-item.is)))

pub returns : goal.returns
returns g c =
    puts_same _ _ _ _ (puts_both _ _ _ _ _ c.loop-name.invariant c.put.ensures)
    (some_lines c.args.locals.now c.loop-name.name-index (λ none. let bad : false ≡ true = c.if-is_empty.ensures ∙ ap (λ n. n == 0) none in cc) c.loop-name-test.false)
