-- What a `Partition` holds, as plain lists.
--     raw_in, listed_in, parts_in      the automaton, the suffixes as words, and the states that each took out of their blocks
--     Separates raw partition          what is true of each partition
--     HasFinished raw partition count  the first suffixes were gone on from
--     GoesOn raw old new               suffixes were added, and blocks were split
--     IsButMended old new              nothing is other but the lists of members
--     IsMovedTo count old new block number    the new number of a block that is left: after the count, at its place among the blocks that are left
use Rattle.std.specs.Prelude.{◌≡◌, ◌⊎◌, ℕ, ◌+◌, ◌<◌, ◌≤◌, List, Some, length, map, slice_get}
use Rattle.std.specs.List.{All}
use Rattle.dcv_word.specs.Behaviour.{Word}
use Rattle.dcv_dfa.specs.Raw.{RawValue}
use Rattle.dcv_certificate.specs.declared.partition.Partition.{Partition}
use Rattle.dcv_certificate.specs.Proof.{suffix_words}
use Rattle.dcv_certificate.specs.Vertices.{raw_of}
use Rattle.dcv_certificate.specs.Tallies.{AreSizes}
use Rattle.dcv_refinement.specs.Members.{list_of, HaveTheirOwn}
use Rattle.dcv_certificate.specs.Separation.{IsSeparation, AreFinished, Advances}

abbrev pub raw_in : Partition → RawValue
raw_in partition = raw_of partition.vertices.now

abbrev pub listed_in : Partition → List Word
listed_in partition = suffix_words partition.suffixes.items

abbrev pub parts_in : Partition → List (List ℕ)
parts_in partition = map (λ part. part.items) partition.parts.items

pub record Separates (raw : RawValue) (partition : Partition) : Type 0 where
  pub separation : IsSeparation raw partition.suffixes.items partition.blocks.items (parts_in partition)
  pub numbers : All (λ block. block < partition.count) partition.blocks.items
  pub sizes : AreSizes partition.blocks.items partition.count partition.sizes.items
  pub members : HaveTheirOwn partition.blocks.items (list_of partition.members)
  pub states : All (All (λ state. state < length raw.rows)) (parts_in partition)

abbrev pub HasFinished : RawValue → Partition → ℕ → Type 0
HasFinished raw partition count = AreFinished raw (listed_in partition) partition.blocks.items count

abbrev pub GoesOn : RawValue → Partition → Partition → Type 0
GoesOn raw old new = Advances raw (listed_in old) old.blocks.items (listed_in new) new.blocks.items

pub record IsButMended (old new : Partition) : Type 0 where
  pub vertices : raw_in new ≡ raw_in old
  pub suffixes : new.suffixes ≡ old.suffixes
  pub blocks : new.blocks ≡ old.blocks
  pub parts : new.parts ≡ old.parts
  pub count : new.count ≡ old.count
  pub sizes : new.sizes ≡ old.sizes

abbrev pub OnceEach : List ℕ → Type 0
OnceEach numbers = (first second number : ℕ) → slice_get numbers first ≡ Some number → slice_get numbers second ≡ Some number → first ≡ second

-- the number is as far after the count as the block stands in the list
pub record IsBehind (count : ℕ) (left : List ℕ) (block number : ℕ) : Type 0 where
  pub place : ℕ
  pub is : number ≡ count + place
  pub at : slice_get left place ≡ Some block

-- the blocks that were left stay at their places
pub record IsMovedTo (count : ℕ) (old new : List ℕ) (block number : ℕ) : Type 0 where
  pub kept : (place other : ℕ) → slice_get old place ≡ Some other → slice_get new place ≡ Some other
  pub once : OnceEach old → OnceEach new
  pub moved : block < count → IsBehind count new block number
  pub stays : count ≤ block → number ≡ block
  -- a block that is left for the first time gets the next number
  pub grown : (length new ≡ length old) ⊎ ((length new ≡ length old + 1) × (number ≡ count + length old))
