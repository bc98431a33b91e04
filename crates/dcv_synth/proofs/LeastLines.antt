-- The controller of least outputs has the least lines, and there are no others.
use Rattle.std.proofs.Common.{◌≡◌, ℕ, ◌≤◌, Bool, List, length, get_or, refl, sym, ◌∙◌, subst, arith}
use Rattle.std.proofs.lemmas.Option.{slice_get_within, slice_get-get_or}
use Rattle.dcv_word.specs.Letter.{bits_of}
use Rattle.dcv_language.specs.Limits.{most_nodes, number_bound}
use Rattle.dcv_dfa.specs.NodeLines.{NodeLinesValue, lines_of_rows}
use Rattle.dcv_dfa.proofs.LineStates.{lines_have_the_numbers_of_the_rows}
use Rattle.dcv_automaton_file.specs.Listed.{AreListed}
use Rattle.dcv_automaton_file.proofs.ListedLines.{one_listing, rows_are_listed}
use Rattle.dcv_synth.specs.Control.{RowsValue, AreRowsBelow, AreRowsOf}
use Rattle.dcv_synth.specs.Laws.{ControlsHaveLeastLines, LeastLinesAreOne}
use Rattle.dcv_synth.specs.Least.{AreRowsFor}
use Rattle.dcv_synth.specs.Play.{answer_of}
use Rattle.dcv_synth.proofs.OneAnswer.{wins_are_one, states_are_one}

-- ---- of a controller

rows_have : (n bound : ℕ) (states : List ℕ) (f : ℕ → List Bool → ℕ) (rows : RowsValue) → AreRowsBelow bound states rows → AreRowsOf n states f rows
    → length (lines_of_rows rows.arena rows.rows).lines ≤ most_nodes → AreRowsFor n bound states f (lines_of_rows rows.arena rows.rows)
rows_have n bound states f rows below of few =
    let are = below.are in
    let count = of.count in
    let all = lines_of_rows rows.arena rows.rows in
    record {
      listed = subst (λ (sizes : ℕ × ℕ). AreListed sizes.0 bound sizes.1 all) (λ i. (of.slots i, count i))
          (rows_are_listed rows.arena rows.rows bound are.arena are.refs below.below few);
      numbers = λ place state input at width.
          let within = slice_get_within states place state at in
          lines_have_the_numbers_of_the_rows rows.arena rows.rows place input are.arena are.refs (omega arith) ∙ of.values place state input at width;
    }

pub controls_have_least_lines : ControlsHaveLeastLines
controls_have_least_lines names n m automaton control has is = record {
  of = refl;
  are_names = has.are_names;
  inputs = has.inputs ∙ is.next.slots;
  realisable = is.realisable;
  states = is.states;
  in_order = is.in_order;
  below = has.is_control.below;
  next = rows_have n number_bound control.states (λ state input. (answer_of m automaton is.realisable.win state input).0) control.next has.is_control.next is.next has.next_lines;
  output = rows_have n 256 control.states (λ state input. bits_of (answer_of m automaton is.realisable.win state input).1) control.output has.is_control.output is.output has.output_lines;
}

-- ---- no others

rows_are_one : (n bound : ℕ) (states : List ℕ) (f : ℕ → List Bool → ℕ) (one other : NodeLinesValue) → n ≤ 32 → AreRowsFor n bound states f one → AreRowsFor n bound states f other → one ≡ other
rows_are_one n bound states f one other narrow a b =
    one_listing n bound (length states) one other narrow a.listed b.listed (λ place input within width.
    let at = slice_get-get_or states place 0 within in
    a.numbers place (get_or states place 0) input at width ∙ sym (b.numbers place (get_or states place 0) input at width))

pub least_lines_are_one : LeastLinesAreOne
least_lines_are_one names n m automaton one other a b =
    let names_are = a.of ∙ sym b.of in
    let inputs = a.inputs in
    let narrow : n ≤ 32 = let count = a.are_names.count in omega arith in
    let wins = wins_are_one n m automaton a.realisable b.realisable in
    let states = states_are_one n m automaton a.realisable b.realisable one.states other.states a.in_order b.in_order a.states b.states in
    let next = rows_are_one n number_bound other.states (λ state input. (answer_of m automaton b.realisable.win state input).0) one.next other.next narrow
    (subst (λ (parts : List ℕ × (ℕ → Bool)). AreRowsFor n number_bound parts.0 (λ state input. (answer_of m automaton parts.1 state input).0) one.next) (λ i. (states i, wins i)) a.next) b.next in
    let output = rows_are_one n 256 other.states (λ state input. bits_of (answer_of m automaton b.realisable.win state input).1) one.output other.output narrow
    (subst (λ (parts : List ℕ × (ℕ → Bool)). AreRowsFor n 256 parts.0 (λ state input. bits_of (answer_of m automaton parts.1 state input).1) one.output) (λ i. (states i, wins i)) a.output)
    b.output in
    λ i. record { names = names_are i; states = states i; next = next i; output = output i }
