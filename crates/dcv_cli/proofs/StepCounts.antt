-- What the steps of a formula file take, where all are within limits that may be asked for, may be printed.
use Rattle.dcv_cli.proofs.Common.{◌≡◌, inl, inr, refl, ℕ, zero, suc, ◌<◌, ◌≤◌, Bool, true, false, List, [], ◌∷◌, length, get_or, None, Some}
use Rattle.dcv_cli.proofs.Common.{slice_get, arith, nat_le, if◌then◌else◌, cases_lt, nat_tests, slice_get-get_or, Count, most_steps, row_at}
use Rattle.dcv_cli.proofs.Common.{AreCounts, AreInRange, PlainStep, Limits, TooManyStates, TooManyNodes, ArePrintableCounts, fault_of_goal}
use Rattle.dcv_cli.proofs.Common.{fault_of_names, StepsAreFew, ScopeFault, PlainFile, steps_of_file, IsFormulaFile}
use Rattle.dcv_build.specs.Counts.{HasAllCounts}
use Rattle.dcv_explore.specs.Budget.{Row, IsWithin}
use Rattle.dcv_explore.proofs.Budgets.{within_excludes_exceeding}
use Rattle.dcv_print.specs.Counts.{IsPrintableCount}
use Rattle.dcv_scope.specs.Faults.{above}
use Rattle.dcv_scope.specs.Measures.{measure_of_file}
use Rattle.dcv_scope.proofs.Faulting.{few_slots}
use Rattle.dcv_places.proofs.StepSpans.{steps_begin_in_text}
use Rattle.dcv_cli.proofs.VariableNames.{none_of_both}

-- ---- a row

-- what a row counts is no more than the limits that it is within
module _ (row : Row) (limits : Limits) (fits : IsWithin row limits) (states nodes : ℕ) (is : HasAllCounts row.machine row.parts states nodes) where
  states_within : states ≤ limits.states
  states_within = elim (cases_lt limits.states states) [
    | inl more ↦ absurd (within_excludes_exceeding row limits TooManyStates fits
        (record { list = is.counts.list; are_reached = is.counts.all.are_reached; more = omega (arith, more, is.counts.states_are) }))
    | inr few ↦ few
  ]

  nodes_within : nodes ≤ limits.nodes
  nodes_within = elim (cases_lt limits.nodes nodes) [
    | inl more ↦ absurd (within_excludes_exceeding row limits TooManyNodes fits (record {
      list = is.counts.list;
      are_reached = is.counts.all.are_reached;
      more = λ number numbering. omega (arith, more, is.nodes_are, is.counts.nodes_are number numbering);
    }))
    | inr few ↦ few
  ]

  -- its start is reached by no letters
  some_states : 1 ≤ states
  some_states =
      let start = is.counts.all.all row.machine.start (record { word = []; widths = λ k d within. absurd (omega arith); leads = refl }) in
      omega (arith, start.1, is.counts.states_are)

-- ---- the steps

some_at : (steps : List PlainStep) (place : ℕ) → place < length steps → (step : PlainStep) × (slice_get steps place ≡ Some step)
some_at [] place within = absurd (omega arith)
some_at (step ∷ steps) zero within = (step, refl)
some_at (step ∷ steps) (suc place) within = some_at steps place (omega arith)

not_above : (most n : ℕ) (fault : ScopeFault) → above most n fault ≡ None → n ≤ most
not_above most n fault none = by (nat_le n most) refl none
  where
    by : (few : Bool) → nat_le n most ≡ few → (if few then None else Some fault) ≡ None → n ≤ most
    by true is none = grind (arith, nat_tests)
    by false is none = let wrong : Some fault ≡ None = none in cc

-- a formula file has few steps
few_counts : StepsAreFew → (text : List ℕ) (file : PlainFile) → IsFormulaFile text file → (limits : Limits) (counts : List Count)
    → AreCounts (steps_of_file file) limits counts → length counts ≤ most_steps
few_counts steps_are_few text file is limits counts are =
    let none = (none_of_both (fault_of_names file) (fault_of_goal file) is.has_core).1 in
    let size = not_above _ (measure_of_file file).size _ (none_of_both _ _ none).0 in
    let slots = few_slots file none in
    omega (arith, steps_are_few file, size, slots, are.one_each)

module _ (steps_are_few : StepsAreFew) (text : List ℕ) (file : PlainFile) (is : IsFormulaFile text file) (limits : Limits) (range : AreInRange limits)
    (counts : List Count) (are : AreCounts (steps_of_file file) limits counts) where
  count_is_printable : (count : Count) (place : ℕ) → place < length counts → slice_get counts place ≡ Some count → IsPrintableCount count
  count_is_printable count place within there =
      let step = some_at (steps_of_file file) place (omega (arith, within, are.one_each)) in
      let one = are.each place step.0 count step.1 there in
      let done = are.done.each place step.0 _ step.1 (slice_get-get_or are.tables place [] (omega (arith, within, are.one_each, are.all))) in
      let row = row_at step.0 are.tables in
      let short = is.sentence.fits in
      let begins = steps_begin_in_text text file is.sentence.spelled place step.0 step.1 in
      let states = states_within row limits done.within count.states count.nodes one.counts in
      let nodes = nodes_within row limits done.within count.states count.nodes one.counts in
      record {
        at = omega (arith, begins, short, one.place);
        some_states = some_states row limits done.within count.states count.nodes one.counts;
        few_states = omega (arith, states, range.few_states);
        few_nodes = omega (arith, nodes, range.few_nodes);
      }

  pub printable_counts : ArePrintableCounts counts
  printable_counts = record {
    few = few_counts steps_are_few text file is limits counts are;
    each = λ place d within. count_is_printable (get_or counts place d) place within (slice_get-get_or counts place d within);
  }
