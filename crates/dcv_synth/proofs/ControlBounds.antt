-- The numbers of a controller of least outputs: its next states are states, and its outputs have few digits.
use Rattle.std.proofs.Common.{◌≡◌, ℕ, ◌+◌, ◌<◌, ◌≤◌, ◌^◌, Bool, List, ◌++◌, length, get_or, sym, ap, subst, ◌∙◌, arith}
use Rattle.std.specs.List.{All}
use Rattle.std.proofs.Math.Pow.{pow_mono}
use Rattle.std.proofs.lemmas.List.{length-append, get_or_default}
use Rattle.std.proofs.lemmas.Option.{slice_get-get_or}
use Rattle.dcv_word.specs.Letter.{bits_of}
use Rattle.dcv_word.proofs.Bits.{bits_of-lt}
use Rattle.dcv_language.specs.Limits.{most_states, number_bound}
use Rattle.dcv_arena.specs.Arena.{value_of}
use Rattle.dcv_arena.specs.declared.nodes.Ref.TheVariants.{Leaf}
use Rattle.dcv_dfa.specs.Raw.{RawValue, IsRaw, automaton_of}
use Rattle.dcv_synth.specs.Winning.{leads}
use Rattle.dcv_synth.specs.Play.{answer_of}
use Rattle.dcv_synth.specs.Control.{RowsValue, ControlValue, IsRows, AreRowsOf, AreRowsBelow, IsControl, IsControlOf}
use Rattle.dcv_synth.proofs.Tracks.{least-length}

rows_below : (bound n : ℕ) (states : List ℕ) (f : ℕ → List Bool → ℕ) (rows : RowsValue) → IsRows rows → AreRowsOf n states f rows
    → ((k : ℕ) (input : List Bool) → k < length states → length input ≡ n → f (get_or states k 0) input < bound) → AreRowsBelow bound states rows
rows_below bound n states f rows are of below = record {
  are = are;
  count = of.count;
  below = λ k d within letter width.
      let inside : k < length states = omega (arith, within, of.count) in
      let value = of.values k (get_or states k 0) letter (slice_get-get_or states k 0 inside) (width ∙ of.slots) in
      let same = ap (λ ref. value_of rows.arena ref letter) (get_or_default rows.rows k (Leaf 0) d within) in
      subst (λ v. v < bound) (sym value ∙ same) (below k letter inside (width ∙ of.slots));
}

module _ (raw : RawValue) (raw_is : IsRaw raw) (n m : ℕ) (slots : raw.arena.slots ≡ n + m) (few : m ≤ 8) (count : length raw.rows ≤ most_states)
    (control : ControlValue) (is : IsControlOf n m (automaton_of raw) control) (below : All (λ state. state < length raw.rows) control.states) where
  abbrev answer : ℕ → List Bool → ℕ × List Bool
  answer state input = answer_of m (automaton_of raw) is.realisable.win state input

  wide : (state : ℕ) (input : List Bool) → length (answer state input).1 ≡ m
  wide state input = least-length m (λ output. is.realisable.win (leads (automaton_of raw) state input output))

  next_below : (k : ℕ) (input : List Bool) → k < length control.states → length input ≡ n → (answer (get_or control.states k 0) input).0 < number_bound
  next_below k input within width =
      let state = get_or control.states k 0 in
      let output = (answer state input).1 in
      let letter : length (input ++ output) ≡ raw.arena.slots = omega (arith, length-append input output, width, wide state input, slots) in
      omega (arith, raw_is.numbers state (Leaf 0) (below k 0 within) (input ++ output) letter, count)

  output_below : (k : ℕ) (input : List Bool) → k < length control.states → length input ≡ n → bits_of (answer (get_or control.states k 0) input).1 < 256
  output_below k input within width =
      let output = (answer (get_or control.states k 0) input).1 in
      let digits : bits_of output < 2 ^ m = subst (λ k. bits_of output < 2 ^ k) (wide (get_or control.states k 0) input) (bits_of-lt output) in
      let most : 2 ^ m ≤ 2 ^ 8 = pow_mono few in
      omega (arith, digits, most)

  pub is_control : IsRows control.next → IsRows control.output → IsControl control
  is_control next output = record {
    in_order = is.in_order;
    below = λ k d within. omega (arith, below k d within, count);
    next = rows_below number_bound n control.states (λ state input. (answer state input).0) control.next next is.next next_below;
    output = rows_below 256 n control.states (λ state input. bits_of (answer state input).1) control.output output is.output output_below;
    inputs = is.output.slots ∙ sym is.next.slots;
  }
