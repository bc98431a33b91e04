-- A controller's diagrams over the inputs, while they are made of the automaton's rows.
--     part_of part answer                             the answer's next state, or its output, and 0 where there is no answer
--     behind old root input                           the state to which a ref leads after these inputs, for each rest of the letter
--     told part m win go                              the state to which the least output leads, or its number, where outputs lead so
--     IsMerged part m old win new root ref            the ref of the new arena has these, wherever some output leads into the set
--     AreMerged part m old win new merged             the list has such a ref for each place that it has
--     merged_at part win answers merged root          the leaf's part, or what the list has of the place
--     merged_row part raw win answers merged state    what the row of a state became
--     AreAllMerged part raw win states rows           the rows of these states are such refs
use Rattle.std.specs.Prelude.{◌≡◌, ℕ, ◌<◌, ◌≤◌, Bool, List, ◌++◌, length, ◌-◌, slice_get, slice_index_or, Option, Some, None, IsTrue}
use Rattle.dcv_word.specs.Letter.{bits_of}
use Rattle.dcv_language.specs.Operations.{some_track}
use Rattle.dcv_arena.specs.Arena.{ArenaValue, IsRef, level_of, value_of}
use Rattle.dcv_arena.specs.declared.nodes.Ref.{Ref}
use Rattle.dcv_arena.specs.declared.nodes.Ref.TheVariants.{Leaf, Place}
use Rattle.dcv_dfa.specs.Raw.{RawValue, row_of}
use Rattle.dcv_synth.specs.Tracks.{least_track}
use Rattle.dcv_synth.specs.Control.{RowsValue}
use Rattle.dcv_synth.specs.Answered.{won_at, leads_in, answer_at}
use Rattle.dcv_synth.specs.declared.answers.Answer.{Answer}
use Rattle.dcv_synth.specs.declared.merging.Part.{Part}
use Rattle.dcv_synth.specs.declared.merging.Part.TheVariants.{Next, Output}

abbrev pub part_of : Part → Option Answer → ℕ
part_of part None = 0
part_of Next (Some answer) = answer.next
part_of Output (Some answer) = answer.output

abbrev pub behind : ArenaValue → Ref → List Bool → List Bool → ℕ
behind old root input rest = value_of old root (input ++ rest)

abbrev pub told : Part → ℕ → List Bool → (List Bool → ℕ) → ℕ
told Next m win go = go (least_track m (λ rest. won_at win (go rest)))
told Output m win go = bits_of (least_track m (λ rest. won_at win (go rest)))

pub record IsMerged (part : Part) (m : ℕ) (old : ArenaValue) (win : List Bool) (new : ArenaValue) (root ref : Ref) : Type 0 where
  pub is_ref : IsRef new ref
  pub level : (slot : ℕ) → slot ≤ level_of old root → slot ≤ new.slots → slot ≤ level_of new ref
  pub value : (input : List Bool) → length input ≡ new.slots → IsTrue (some_track m (leads_in old win root input))
      → value_of new ref input ≡ told part m win (behind old root input)

abbrev pub AreMerged : Part → ℕ → ArenaValue → List Bool → ArenaValue → List Ref → Type 0
AreMerged part m old win new merged = (place : ℕ) → place < length merged → IsMerged part m old win new (Place place) (slice_index_or merged place (Leaf 0))

abbrev pub merged_at : Part → List Bool → List (Option Answer) → List Ref → Ref → Ref
merged_at part win answers merged (Leaf state) = Leaf (part_of part (answer_at win answers (Leaf state)))
merged_at part win answers merged (Place place) = slice_index_or merged place (Leaf 0)

abbrev pub merged_row : Part → RawValue → List Bool → List (Option Answer) → List Ref → ℕ → Ref
merged_row part raw win answers merged state = merged_at part win answers merged (row_of raw state)

abbrev pub AreAllMerged : Part → RawValue → List Bool → List ℕ → RowsValue → Type 0
AreAllMerged part raw win states rows = (place state : ℕ) → slice_get states place ≡ Some state
    → IsMerged part (raw.arena.slots - rows.arena.slots) raw.arena win rows.arena (row_of raw state) (slice_index_or rows.rows place (Leaf 0))
