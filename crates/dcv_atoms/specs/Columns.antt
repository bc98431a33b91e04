-- What a form asks of a letter, as numbers: 1 where the answer is yes, and 0 where it is no.
--     column_by P T letter       whether each of two tests is true of it
--     column_of basic letter     whether the form's proposition holds in it, and whether the slot of a shift is true
use Rattle.std.specs.Prelude.{ℕ, Bool, List, [], ◌∷◌}
use Rattle.dcv_core.specs.Core.{PlainBasic}
use Rattle.dcv_atoms.specs.AtomRows.{test_of, slot_test_of}
use Rattle.dcv_atoms.specs.Parts.{number_of_truth}

abbrev pub column_by : (P T : List Bool → Bool) → List Bool → List ℕ
column_by P T letter = number_of_truth (P letter) ∷ number_of_truth (T letter) ∷ []

abbrev pub column_of : PlainBasic → List Bool → List ℕ
column_of basic = column_by (test_of basic) (slot_test_of basic)
