-- Parities: functions that tell letters apart by how many of some slots are true.
--     counts each slot                           whether the slot counts: it is a multiple of `each`, which is not 0
--     true_slots each letter slots               how many of these slots count and are true
--     parity_number each even odd slots letter   the one number where these are even in number, and else the other
use Rattle.std.specs.Prelude.{ℕ, ◌%◌, ◌==◌, Bool, false, not, ◌&&◌, if◌then◌else◌, List, length, filter, slice_index_or}

abbrev pub counts : ℕ → ℕ → Bool
counts each slot = not (each == 0) && (slot % each == 0)

abbrev pub true_slots : ℕ → List Bool → List ℕ → ℕ
true_slots each letter slots = length (filter (λ slot. counts each slot && slice_index_or letter slot false) slots)

abbrev pub parity_number : ℕ → ℕ → ℕ → List ℕ → List Bool → ℕ
parity_number each even odd slots letter = if true_slots each letter slots % 2 == 0 then even else odd
