-- The marks of each block, counted: where a block has one function alone, and each of its states has it, no letter tells its states apart.
--     number_of entry                how many states an entry counts
--     HasNoOther entry mark          an entry is of this function, or there is none
--     tallied, was_met tally         the entry of each block, and the states that were met
--     IsTally states blocks at met marks    what is known of the marks that were added
--     IsAdded at met state block mark ..    what one mark more changes
--     AreMarkedAlike blocks marks    no letter tells states of one block apart by their marks
--     count_up count block           the count of blocks, with a block that may stand after the last
--     AreSizes blocks count sizes    each of so many blocks has as many states as its size says
use Rattle.std.specs.Prelude.{◌≡◌, ◌≢◌, ℕ, ◌+◌, ◌<◌, ◌≤◌, ◌==◌, ◌&&◌, nat_eq, Bool, true, if◌then◌else◌, List, Option, None, Some, length, slice_index_or}
use Rattle.std.specs.List.{All, list_any}
use Rattle.indexmap.specs.IndexMap.{get}
use Rattle.indexmap.specs.IndexSet.{contains}
use Rattle.dcv_arena.specs.Arena.{ArenaValue}
use Rattle.dcv_arena.specs.declared.nodes.Ref.{Ref}
use Rattle.dcv_refinement.specs.Members.{block_of}
use Rattle.dcv_certificate.specs.declared.tally.Tally.{Tally}
use Rattle.dcv_certificate.specs.Separation.{count_below}
use Rattle.dcv_certificate.specs.Marks.{marked}

abbrev pub number_of : Option (Ref × ℕ) → ℕ
number_of None = 0
number_of (Some entry) = entry.1

abbrev pub HasNoOther : Option (Ref × ℕ) → Ref → Type 0
HasNoOther None mark = Unit {0}
HasNoOther (Some entry) mark = entry.0 ≡ mark

abbrev pub tallied : Tally → ℕ → Option (Ref × ℕ)
tallied tally block = get nat_eq tally.blocks block

abbrev pub was_met : Tally → ℕ → Bool
was_met tally state = contains nat_eq tally.states state

abbrev pub has_mark : List (ℕ × Ref) → ℕ → Bool
has_mark marks state = list_any (λ mark. mark.0 == state) marks

-- a state of the block that has a mark
abbrev pub is_counted : List ℕ → List (ℕ × Ref) → ℕ → ℕ → Bool
is_counted blocks marks block state = (block_of blocks state == block) && has_mark marks state

pub record IsTally (states : ℕ) (blocks : List ℕ) (at : ℕ → Option (Ref × ℕ)) (met : ℕ → Bool) (marks : List (ℕ × Ref)) : Type 0 where
  pub met_ones : (state : ℕ) → met state ≡ has_mark marks state
  pub others : (block : ℕ) → at block ≡ None → All (λ mark. block_of blocks mark.0 ≢ block) marks
  pub alike : (block : ℕ) (entry : Ref × ℕ) → at block ≡ Some entry → All (λ mark. block_of blocks mark.0 ≡ block → mark.1 ≡ entry.0) marks
  pub counted : (block : ℕ) → number_of (at block) ≤ count_below states (is_counted blocks marks block)

pub record IsAdded (at : ℕ → Option (Ref × ℕ)) (met : ℕ → Bool) (state block : ℕ) (mark : Ref) (new_at : ℕ → Option (Ref × ℕ)) (new_met : ℕ → Bool) : Type 0 where
  pub number : ℕ
  pub bound : number ≤ number_of (at block) + (if met state then 0 else 1)
  pub alone : HasNoOther (at block) mark
  pub here : new_at block ≡ Some (mark, number)
  pub others : (other : ℕ) → other ≢ block → new_at other ≡ at other
  pub met_here : new_met state ≡ true
  pub met_others : (other : ℕ) → other ≢ state → new_met other ≡ met other

pub record AreSizes (blocks : List ℕ) (count : ℕ) (sizes : List ℕ) : Type 0 where
  pub each : length sizes ≡ count
  pub are : (block : ℕ) → block < count → count_below (length blocks) (λ state. block_of blocks state == block) ≡ slice_index_or sizes block 0

-- the count of blocks, with a block that may stand after the last
abbrev pub count_up : ℕ → ℕ → ℕ
count_up count block = if block == count then count + 1 else count

abbrev pub AreMarkedAlike : List ℕ → List (ℕ × Ref) → Type 0
AreMarkedAlike blocks marks = (arena : ArenaValue) (letter : List Bool) (first second : ℕ) → first < length blocks → second < length blocks
    → block_of blocks first ≡ block_of blocks second → marked arena marks letter first ≡ marked arena marks letter second
