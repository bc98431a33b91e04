use Rattle.std.proofs.Common.{◌<◌, ◌++◌, ◌∷◌, [], ◌∙◌, ℕ, List, length, slice_index_or, ap, sym}
use Rattle.std.proofs.lemmas.List.{map-append, append_assoc}
use Rattle.dcv_sets.specs.Bits.{has_state, states_below}
use Rattle.dcv_sets.specs.Rows.{numbers_of}
use Rattle.dcv_sets.proofs.SetBits.{state_has, one_more_in}
use Rattle.dcv_sets.proofs.bit_rows.push_bit_numbers.Goals as goal

pub bounds-column-state : goal.bounds-column-state
bounds-column-state c =
    state_has (λ state. state < length c.args.column.now) c.args.words.now c.loop-state.state c.loop-state-test.true (sym c.has_bit.ensures ∙ c.if-not-has_bit.false) c.requires.states

pub loop-state-preserved : goal.loop-state-preserved
loop-state-preserved c =
    let state = c.loop-state.state in
    let has = has_state c.args.words.now in
    let before = states_below has state in
    let column = c.args.column.now in
    let old = c.args.to.now.items in
    let number = slice_index_or column state 0 in
    c.in_ok-push.ensures.ok ∙ ap (λ (to : List ℕ). to ++ number ∷ []) c.loop-state.invariant
    ∙ append_assoc old (numbers_of column before) (number ∷ [])
    ∙ ap (λ (numbers : List ℕ). old ++ numbers) (sym (map-append (λ (state : ℕ). slice_index_or column state 0) before (state ∷ [])))
    ∙ ap (λ (states : List ℕ). old ++ numbers_of column states) (one_more_in has state (sym c.has_bit.ensures ∙ c.if-not-has_bit.false))
