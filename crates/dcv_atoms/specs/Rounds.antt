-- The rounds of a memo.
--     HasEarlier next memo    each entry is of a round before this one
use Rattle.std.specs.Prelude.{◌<◌, ℕ, Contains}
use Rattle.dcv_apply.specs.Memo.{EntryValue, MemoValue}

abbrev pub HasEarlier : ℕ → MemoValue → Type 0
HasEarlier next memo = (entry : EntryValue) → Contains memo.entries entry → entry.round < next
