-- The selections that stand for what an observer does.
--     select, copy          a selection, and one that takes a number as it is
--     slot_of place         the slot of the name at a place
--     test_select           the target is 1 where the test passes, and else as it was
--     IsFresh count store   a store with the constants, and a 0 for each of so many names and for one slot more
use Rattle.std.specs.Prelude.{◌≡◌, ℕ, ◌+◌, ◌<◌, ◌≤◌, List, length}
use Rattle.dcv_replay.specs.declared.replay.Select.{Select}
use Rattle.dcv_replay.specs.Program.{first_name, number_in}

abbrev pub select : ℕ → ℕ → ℕ → ℕ → ℕ → Select
select target tested number when_equal otherwise =
    record { target = target; tested = tested; number = number; when_equal = when_equal; otherwise = otherwise }

abbrev pub copy : ℕ → ℕ → Select
copy target from = select target 0 0 from from

abbrev pub slot_of : ℕ → ℕ
slot_of place = first_name + place

-- the slot that is tested, and the number that it is to have
abbrev pub test_select : ℕ → ℕ → ℕ → Select
test_select target tested number = select target tested number 1 target

-- places below this have slots with another slot after them
abbrev pub most_names : ℕ
most_names = 4294934525

pub record IsFresh (count : ℕ) (store : List ℕ) : Type 0 where
  pub long : length store ≡ first_name + count + 1
  pub literals : (number : ℕ) → number < first_name → number_in store number ≡ number
  pub names : (slot : ℕ) → first_name ≤ slot → number_in store slot ≡ 0
