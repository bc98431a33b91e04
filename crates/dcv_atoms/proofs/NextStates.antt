-- The state that comes next, by what the form asks of a letter.
use Rattle.std.proofs.Common.{rules, ◌≡◌, ◌==◌, ℕ, Bool, List, slice_index_or, ap, sym, ◌∙◌}
use Rattle.dcv_core.specs.Core.{PlainBasic}
use Rattle.dcv_atoms.specs.declared.states.AtomMacro.{AtomMacro}
use Rattle.dcv_atoms.specs.AtomRows.{atom_machine, test_of, slot_test_of, after_letter}
use Rattle.dcv_atoms.specs.Columns.{column_of}
use Rattle.dcv_atoms.proofs.Joining.{truth_again}

by_truths : (slots : ℕ) (basic : PlainBasic) (from : AtomMacro) (letter : List Bool)
    → after_letter basic from (test_of basic letter) (slot_test_of basic letter) ≡ (atom_machine slots basic).next from letter
by_truths slots basic from letter = search rules

pub comes_next : (slots : ℕ) (basic : PlainBasic) (from : AtomMacro) (letter : List Bool) (column : List ℕ) → column_of basic letter ≡ column
    → after_letter basic from (slice_index_or column 0 0 == 1) (slice_index_or column 1 0 == 1) ≡ (atom_machine slots basic).next from letter
comes_next slots basic from letter column are =
    let holds : (slice_index_or column 0 0 == 1) ≡ test_of basic letter = ap (λ (column : List ℕ). slice_index_or column 0 0 == 1) (sym are) ∙ truth_again (test_of basic letter) in
    let shifted : (slice_index_or column 1 0 == 1) ≡ slot_test_of basic letter = ap (λ (column : List ℕ). slice_index_or column 1 0 == 1) (sym are) ∙ truth_again (slot_test_of basic letter) in
    (λ i. after_letter basic from (holds i) (shifted i)) ∙ by_truths slots basic from letter
