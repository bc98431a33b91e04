-- Where a controller is asked for, each formula file has a right answer: its variables cannot be divided, a step is over the limits, or there is
-- the controller or the strategy of what models it.
--     some_synthesised      so there is one
use Rattle.dcv_cli.proofs.Common.{◌≡◌, ◌⊎◌, inl, inr, ℕ, ◌+◌, ◌-◌, ◌≤◌, Bool, true, false, List, length, take, None, refl, sym, subst}
use Rattle.dcv_cli.proofs.Common.{arith, length-map, length-take, AreNames, Limits, IsWithinBudget, MachineAcceptsStep, IsCanonical}
use Rattle.dcv_cli.proofs.Common.{WordLaws, models, fault_of_file, WordsAreModels, PlainFile, Name, most_states, most_nodes, Formula}
use Rattle.dcv_cli.proofs.Common.{Outputs, Only, steps_of_file, IsBudgeted, WithinBudget, Outcome, refused, can_be_divided, IsSynthesisOf}
use Rattle.dcv_cli.proofs.Common.{IsSynthesised, Undivided, Divided, IsTableWithin}
use Rattle.dcv_automaton_file.specs.File.{texts_of}
use Rattle.dcv_cli.proofs.SomeBounds.{within_of_file}
use Rattle.dcv_cli.proofs.SomeControllers.{GameLaws, some_synthesis_of}
use Rattle.dcv_cli.proofs.SomeReports.{table_of_file, over_or_within}
use Rattle.dcv_cli.proofs.Syntheses.{AreDivided, divided, names_of_inputs, texts_of_some}

-- the inputs have as many names
inputs_named : (n : ℕ) (names : List Name) → n ≤ length names → length (take n (texts_of names)) ≡ n
inputs_named n names within =
    let count = length-map names (λ (name : Name). name.text) in
    omega (arith, length-take n (texts_of names))

module _ (laws : WordLaws) (accept : MachineAcceptsStep) (models_are : WordsAreModels) (game : GameLaws) where
  module _ (inputs : ℕ) (limits : Limits) (file : PlainFile) (few_states : limits.states ≤ most_states) (few_nodes : limits.nodes ≤ most_nodes)
      (named : AreNames (texts_of file.variables)) (none : fault_of_file file ≡ None) where
    abbrev k : ℕ
    k = length file.variables

    of_inputs : AreNames (take inputs (texts_of file.variables))
    of_inputs = subst AreNames (sym (texts_of_some inputs file.variables)) (names_of_inputs inputs file.variables named)

    within_limits : AreDivided inputs k → IsWithinBudget (steps_of_file file) limits → (outcome : Outcome) × IsSynthesisOf inputs file outcome
    within_limits are within =
        let (table, (access, of_models)) = table_of_file models_are limits file none within in
        let some = are.some in
        let few = are.few in
        let width : k ≡ inputs + (k - inputs) = omega arith in
        let over_both = subst (λ count. IsCanonical count (models file) table access) width of_models in
        let bounds = subst (λ count. IsTableWithin count limits table) width (within_of_file accept models_are limits file none within table access of_models) in
        let states = bounds.states in
        let nodes = bounds.nodes in
        some_synthesis_of game inputs (k - inputs) (models file) table access over_both (take inputs (texts_of file.variables)) of_inputs (inputs_named inputs file.variables some)
        (omega arith) (omega arith) (omega arith)

    budgeted : AreDivided inputs k → ((outcome : Outcome) × IsBudgeted limits Only (IsSynthesisOf inputs) file outcome) ⊎ IsWithinBudget (steps_of_file file) limits
        → (outcome : Outcome) × IsBudgeted limits Only (IsSynthesisOf inputs) file outcome
    budgeted are (inl over) = over
    budgeted are (inr within) = let (outcome, is) = within_limits are within in (outcome, WithinBudget within is)

    by_division : (test : Bool) → can_be_divided inputs k ≡ test → (outcome : Outcome) × IsSynthesised inputs limits file outcome
    by_division false not = (refused (Formula Outputs) Only, Undivided not refl)
    by_division true is =
        let (outcome, right) = budgeted (divided inputs k is) (over_or_within laws accept limits Only (IsSynthesisOf inputs) file) in
        (outcome, Divided is right)

    pub some_synthesised : (outcome : Outcome) × IsSynthesised inputs limits file outcome
    some_synthesised = by_division (can_be_divided inputs k) refl
