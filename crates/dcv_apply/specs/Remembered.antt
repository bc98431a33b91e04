-- The entries of what a memo stands on, two maps by two operands, a map by lists of them, and a cache, as plain data.
--     entry_of pair             the entry that a key and its ref are
--     entry_of_pair pair        the entry that two operands and their ref are
--     cached made capacity      a cache, or the empty one that none stands for
--     Adds entry old new        nothing is remembered that was not before, but for this entry
--     KeepsEntries old new      nothing is remembered that was not before
use Rattle.std.specs.Prelude.{◌≡◌, ℕ, List, [], Option, None, Some, Contains, ◌⊎◌}
use Rattle.lru.specs.LruCache.{LruCache, lru_cache}
use Rattle.dcv_arena.specs.declared.nodes.Ref.{Ref}
use Rattle.dcv_apply.specs.Memo.{EntryValue, MemoValue}
use Rattle.dcv_apply.specs.Pairs.{pair_operands}
use Rattle.dcv_apply.specs.declared.keys.Key.{Key}
use Rattle.dcv_apply.specs.declared.keys.Pair.{Pair}

abbrev pub entry : ℕ → List (ℕ × Ref) → Ref → EntryValue
entry round operands root = record { round = round; operands = operands; root = root }

abbrev pub entry_of : Key × Ref → EntryValue
entry_of pair = entry pair.0.round pair.0.operands.items pair.1

abbrev pub entry_of_pair : Pair × Ref → EntryValue
entry_of_pair kept = entry kept.0.round (pair_operands kept.0) kept.1

abbrev pub cached : Option (LruCache Key Ref) → ℕ → LruCache Key Ref
cached None capacity = lru_cache [] capacity
cached (Some cache) capacity = cache

abbrev pub KeepsEntries : MemoValue → MemoValue → Type 0
KeepsEntries old new = (one : EntryValue) → Contains new.entries one → Contains old.entries one

abbrev pub Adds : EntryValue → MemoValue → MemoValue → Type 0
Adds added old new = (one : EntryValue) → Contains new.entries one → Contains old.entries one ⊎ (one ≡ added)
