-- The rows that were made are those of the least outputs.
use Rattle.std.proofs.Common.{◌≡◌, inl, inr, ⊎_elim, ℕ, ◌-◌, ◌<◌, ltb, eqb, Bool, true, false, List, length, get_or, Some, Contains, refl, sym, ◌∙◌, subst, arith}
use Rattle.std.specs.Prelude.{slice_get}
use Rattle.std.specs.List.{AllPairs, filter, range_with_len}
use Rattle.std.proofs.lemmas.Bool.{true≢false, ltb-true, ltb-false, eqb-true, eq-eqb, or_cases, or_left, or_right}
use Rattle.std.proofs.lemmas.List.{get_or_past}
use Rattle.std.proofs.lemmas.List.Elements.{Contains-get_or}
use Rattle.std.proofs.lemmas.Option.{slice_get_within, get_or_from_slice_get}
use Rattle.dcv_word.specs.Letter.{bits_of}
use Rattle.dcv_dfa.specs.Raw.{RawValue, IsRaw, automaton_of, row_of}
use Rattle.dcv_synth.specs.Winning.{is_answered, is_held, IsWin}
use Rattle.dcv_synth.specs.Play.{IsStartOr, answer_of}
use Rattle.dcv_synth.specs.Answered.{won_at}
use Rattle.dcv_synth.specs.Merged.{told, behind, IsMerged, AreAllMerged}
use Rattle.dcv_synth.specs.Listing.{starts_or_wins}
use Rattle.dcv_synth.specs.Control.{RowsValue, AreRowsOf, IsControlOf}
use Rattle.dcv_synth.specs.declared.merging.Part.{Part}
use Rattle.dcv_synth.specs.declared.merging.Part.TheVariants.{Next, Output}
use Rattle.dcv_arena.specs.declared.nodes.Ref.TheVariants.{Leaf}
use Rattle.dcv_synth.proofs.Tracks.{each-at}
use Rattle.dcv_synth.proofs.Keeping.{kept_pass, kept_there, kept_in_order}

module _ (raw : RawValue) (raw_is : IsRaw raw) (n : ℕ) (win : List Bool) (states : List ℕ)
    (greatest : IsWin n (raw.arena.slots - n) (automaton_of raw) (won_at win))
    (held : is_held n (raw.arena.slots - n) (automaton_of raw) (won_at win) raw.start ≡ true)
    (states_are : states ≡ filter (starts_or_wins raw.start win) (range_with_len 0 (length raw.rows))) where
  abbrev m : ℕ
  m = raw.arena.slots - n

  from_start : (state : ℕ) → starts_or_wins raw.start win state ≡ true → IsStartOr (automaton_of raw) (won_at win) state
  from_start state e = ⊎_elim (λ same. inl (eqb-true state raw.start same)) (λ won. inr won) (or_cases (eqb state raw.start) (won_at win state) e)

  kept_from : (state : ℕ) → IsStartOr (automaton_of raw) (won_at win) state → (state < length raw.rows) × (starts_or_wins raw.start win state ≡ true)
  kept_from state (inl same) = (subst (λ s. s < length raw.rows) (sym same) raw_is.start, or_left (eqb state raw.start) (won_at win state) (eq-eqb state raw.start same))
  kept_from state (inr won) = (by (ltb state (length raw.rows)) refl, or_right (eqb state raw.start) (won_at win state) won)
    where
      by : (b : Bool) → ltb state (length raw.rows) ≡ b → state < length raw.rows
      by true e = ltb-true state (length raw.rows) e
      by false e =
          absurd (true≢false (sym (greatest.safe.accepts state won) ∙ get_or_past raw.accepting state false (omega (arith, ltb-false state (length raw.rows) e, raw_is.flags))))

  states_there : (state : ℕ) → (Contains states state → IsStartOr (automaton_of raw) (won_at win) state) × (IsStartOr (automaton_of raw) (won_at win) state → Contains states state)
  states_there state = (
    λ there. from_start state (kept_pass (starts_or_wins raw.start win) (length raw.rows) state (subst (λ xs. Contains xs state) states_are there)),
    λ from. let both = kept_from state from in
        subst (λ xs. Contains xs state) (sym states_are) (kept_there (starts_or_wins raw.start win) (length raw.rows) state both.0 both.1),
  )

  answered : (place state : ℕ) (input : List Bool) → slice_get states place ≡ Some state → length input ≡ n → is_answered m (automaton_of raw) (won_at win) state input ≡ true
  answered place state input at width =
      let there : Contains states state = subst (Contains states) (get_or_from_slice_get states place state 0 at) (Contains-get_or states place 0 (slice_get_within states place state at)) in
      let is_held_there = ⊎_elim (λ same. subst (λ s. is_held n m (automaton_of raw) (won_at win) s ≡ true) (sym same) held) (λ won. greatest.safe.held state won) ((states_there state).0 there) in
      each-at n (is_answered m (automaton_of raw) (won_at win) state) is_held_there input width

  rows_of_part : (part : Part) (f : ℕ → List Bool → ℕ) (rows : RowsValue) → rows.arena.slots ≡ n → length rows.rows ≡ length states → AreAllMerged part raw win states rows
      → ((state : ℕ) (input : List Bool) → told part m (win) (behind raw.arena (row_of raw state) input) ≡ f state input) → AreRowsOf n states f rows
  rows_of_part part f rows slots count are same = record {
    slots = slots;
    count = count;
    values = λ place state input at width.
        let is = subst (λ k. IsMerged part (raw.arena.slots - k) raw.arena win rows.arena (row_of raw state) (get_or rows.rows place (Leaf 0))) slots (are place state at) in
        is.value input (width ∙ sym slots) (answered place state input at width) ∙ same state input;
  }

  pub is_control_of : (next output : RowsValue) → next.arena.slots ≡ n → length next.rows ≡ length states → AreAllMerged Next raw win states next
      → output.arena.slots ≡ n → length output.rows ≡ length states → AreAllMerged Output raw win states output
      → IsControlOf n m (automaton_of raw) (record { states = states; next = next; output = output })
  is_control_of next output next_slots next_count next_are output_slots output_count output_are = record {
    realisable = record { win = won_at win; greatest = greatest; held = held };
    states = states_there;
    in_order = subst (AllPairs (λ (one other : ℕ). one < other)) (sym states_are) (kept_in_order (starts_or_wins raw.start win) (length raw.rows));
    next = rows_of_part Next (λ state input. (answer_of m (automaton_of raw) (won_at win) state input).0) next next_slots next_count next_are (λ state input. refl);
    output = rows_of_part Output (λ state input. bits_of (answer_of m (automaton_of raw) (won_at win) state input).1) output output_slots output_count output_are (λ state input. refl);
  }
