-- What a memo remembers: of rounds and lists of operands the ref that they were merged into.
--     EntryValue                          one thing that is remembered: in a round, of these operands, this ref
--     MemoValue                           what a `Memo` is seen as
--     HoldsRound gives numbers arena round memo   each entry of the round holds a ref with the numbers that the merge gives for its operands
--     KeepsOthers round old new           an entry of another round that is there was there before
--     Remembers gives numbers arena round old new   the memo holds what the merge gives, in the round, and of other rounds only what it held
use Rattle.std.specs.Prelude.{◌≡◌, ◌≢◌, ℕ, Bool, List, Contains}
use Rattle.dcv_arena.specs.Arena.{ArenaValue, IsRef}
use Rattle.dcv_arena.specs.declared.nodes.Ref.{Ref}
use Rattle.dcv_arena.specs.Pointwise.{MeansMerged}

pub record EntryValue : Type 0 where
  pub round : ℕ
  pub operands : List (ℕ × Ref)
  pub root : Ref

-- the entries of the younger map of two operands, then those of the older, of the map of other numbers of operands, and of the cache
pub record MemoValue : Type 0 where
  pub entries : List EntryValue
  pub capacity : ℕ

-- each entry of the round holds a ref of the arena that has, at each letter, the number that the merge gives for its operands' numbers there
abbrev pub HoldsRound : (List ℕ → ℕ → Type 0) → (List (ℕ × Ref) → List Bool → List ℕ) → ArenaValue → ℕ → MemoValue → Type 0
HoldsRound gives numbers arena round memo = (entry : EntryValue) → Contains memo.entries entry → entry.round ≡ round
    → IsRef arena entry.root × MeansMerged gives (numbers entry.operands) arena entry.root

-- an entry of another round that is there was there before
abbrev pub KeepsOthers : ℕ → MemoValue → MemoValue → Type 0
KeepsOthers round old new = (entry : EntryValue) → Contains new.entries entry → entry.round ≢ round → Contains old.entries entry

pub record Remembers (gives : List ℕ → ℕ → Type 0) (numbers : List (ℕ × Ref) → List Bool → List ℕ) (arena : ArenaValue) (round : ℕ) (old new : MemoValue) : Type 0 where
  pub holds : HoldsRound gives numbers arena round new
  pub others : KeepsOthers round old new
  pub capacity : new.capacity ≡ old.capacity
