-- The canonical table of a core whose steps are all within the limits is within them.
--     within_of_core       so it is with the table of its words
--     within_of_set        and with that of a set that has the same behaviours
--     within_of_file       and with that of what models a file
use Rattle.dcv_cli.proofs.Common.{◌≡◌, ℕ, List, [], length, None, sym, ◌∙◌, subst, arith, slice_get_within, slice_get-get_or, Word, accepts}
use Rattle.dcv_cli.proofs.Common.{IsCanonical, Language, HaveSameBehaviours, Table, canonical_for_same_behaviours, CoreTree, words_of}
use Rattle.dcv_cli.proofs.Common.{steps_of, Limits, models, core_of_file, fault_of_file, WordsAreModels}
use Rattle.dcv_cli.proofs.Common.{PlainFile, row_at, IsWithinBudget, MachineAcceptsStep, steps_of_file, IsTableWithin}
use Rattle.dcv_core.specs.Steps.{steps_before}
use Rattle.dcv_core.proofs.StepList.{last_step_is_core}
use Rattle.dcv_build.specs.Laws.{AreCanonicalBefore}
use Rattle.dcv_build.proofs.Progress.{row_slots}
use Rattle.dcv_build.proofs.SameRows.{table_at}
use Rattle.dcv_quotient.proofs.TableBounds.{within_of_row}
use Rattle.dcv_cli.proofs.VariableNames.{no_shift_is_bound}

module _ (accept : MachineAcceptsStep) (k : ℕ) (tree : CoreTree) (limits : Limits) (within : IsWithinBudget (steps_of k tree) limits) where
  canonical_before : (n : ℕ) → AreCanonicalBefore (steps_of k tree) n within.tables
  canonical_before n number step before at =
      let all = within.all in
      let there = slice_get_within (steps_of k tree) number step at in
      let found = within.done.each number step (table_at within.tables number) at (slice_get-get_or within.tables number [] (omega arith)) in
      (found.access, found.canonical)

  pub within_of_core : (table : Table) (access : List Word) → IsCanonical k (words_of tree) table access → IsTableWithin k limits table
  within_of_core table access canonical =
      let (step, there, count, core_is, slots_are) = last_step_is_core k tree in
      let all = within.all in
      let n = steps_before tree in
      let inside = slice_get_within (steps_of k tree) n step there in
      let done = within.done.each n step (table_at within.tables n) there (slice_get-get_or within.tables n [] (omega arith)) in
      let row = row_at step within.tables in
      let same : HaveSameBehaviours step.slots (accepts row.machine.automaton) (words_of step.core) = accept k tree n step within.tables there (canonical_before n) in
      let of_core = subst (λ (core : CoreTree). IsCanonical k (words_of core) table access) (sym core_is) canonical in
      let over_slots = subst (λ slots. IsCanonical slots (words_of step.core) table access) (sym slots_are) of_core in
      let of_machine =
      canonical_for_same_behaviours step.slots (words_of step.core) (accepts row.machine.automaton) table access (λ word behaves. sym (same word behaves)) over_slots in
      let own = row_slots step.op step.slots within.tables in
      let of_row = subst (λ slots. IsCanonical slots (accepts row.machine.automaton) table access) (sym own) of_machine in
      subst (λ slots. IsTableWithin slots limits table) (own ∙ slots_are) (within_of_row row limits done.within table access of_row)

  pub within_of_set : (L : Language) → HaveSameBehaviours k (words_of tree) L → (table : Table) (access : List Word) → IsCanonical k L table access
      → IsTableWithin k limits table
  within_of_set L same table access canonical =
      within_of_core table access (canonical_for_same_behaviours k L (words_of tree) table access (λ word behaves. sym (same word behaves)) canonical)

pub within_of_file : MachineAcceptsStep → WordsAreModels → (limits : Limits) (file : PlainFile) → fault_of_file file ≡ None → IsWithinBudget (steps_of_file file) limits
    → (table : Table) (access : List Word) → IsCanonical (length file.variables) (models file) table access → IsTableWithin (length file.variables) limits table
within_of_file accept models_are limits file none within =
    within_of_set accept (length file.variables) (core_of_file file) limits within (models file) (λ word behaves. models_are file word (no_shift_is_bound file none) behaves)
