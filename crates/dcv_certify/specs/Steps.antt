-- For the proofs: where letters lead from all states, as it is kept.
--     LeadTo table letter next    the states to which a letter leads, for each state in turn
--     next_of step                the states of a letter that is kept, and none where none is
--     IsStep table step           it is so where a letter is kept
--     AreKept table kept          the letters that are kept lead to these states, and there is room for one at least
use Rattle.std.specs.Prelude.{◌≡◌, ℕ, ◌<◌, Bool, List, [], length, Option, None, Some, slice_index_or}
use Rattle.dcv_language.specs.Table.{Table, next_in}
use Rattle.dcv_certify.specs.declared.steps.Step.{Step}

pub record LeadTo (table : Table) (letter : List Bool) (next : List ℕ) : Type 0 where
  pub count : length next ≡ length table
  pub each : (state : ℕ) → state < length table → slice_index_or next state 0 ≡ next_in table state letter

abbrev pub next_of : Option Step → List ℕ
next_of None = []
next_of (Some step) = step.next.items

abbrev pub IsStep : Table → Option Step → Type 0
IsStep table None = Unit {0}
IsStep table (Some step) = LeadTo table step.letter step.next.items

pub record AreKept (table : Table) (kept : List (Option Step)) : Type 0 where
  pub some : 0 < length kept
  pub each : (place : ℕ) → IsStep table (slice_index_or kept place None)
