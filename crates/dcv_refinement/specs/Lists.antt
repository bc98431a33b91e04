-- Lists of numbers, one for each leaf and each place of an arena. Their entries stand in one list for all.
--     entry number earlier         the entry of a number, with the entry before it in its own list
--     chain entries last           the numbers of a list, from its last entry back; entries are counted from 1, and 0 is none
--     AreEarlier entries           each entry names one that stands before it, or none
--     last_of lists ref            the last entry of the list of a leaf or a place
--     listed_at lists ref          the list of a leaf or a place
--     AreLinked lists              all of the lists' entries are there
--     HasList lists ref            there is a list for the leaf or the place
--     Adds old new ref number      the list of the ref, if there is one, has this number more, and no list has anything else more
--     AreEmpty lists ..            so many lists, with nothing in them
use Rattle.std.specs.Prelude.{◌≡◌, ℕ, zero, suc, ◌<◌, ◌≤◌, List, [], ◌∷◌, length, slice_index_or, Contains, ◌⊎◌}
use Rattle.dcv_arena.specs.declared.nodes.Ref.{Ref}
use Rattle.dcv_arena.specs.declared.nodes.Ref.TheVariants.{Leaf, Place}
use Rattle.dcv_refinement.specs.declared.lists.Entry.{Entry}
use Rattle.dcv_refinement.specs.declared.lists.Lists.{Lists}

abbrev pub entry : ℕ → ℕ → Entry
entry number earlier = record { number = number; earlier = earlier }

abbrev pub entry_at : List Entry → ℕ → Entry
entry_at entries place = slice_index_or entries place (entry 0 0)

-- as far back as so many steps
abbrev pub chain_in : ℕ → List Entry → ℕ → List ℕ
chain_in zero entries last = []
chain_in (suc steps) entries zero = []
chain_in (suc steps) entries (suc place) = (entry_at entries place).number ∷ chain_in steps entries (entry_at entries place).earlier

abbrev pub chain : List Entry → ℕ → List ℕ
chain entries last = chain_in last entries last

abbrev pub AreEarlier : List Entry → Type 0
AreEarlier entries = (place : ℕ) → place < length entries → (entry_at entries place).earlier ≤ place

abbrev pub last_of : Lists → Ref → ℕ
last_of lists (Leaf leaf) = slice_index_or lists.leaves.items leaf 0
last_of lists (Place place) = slice_index_or lists.places.items place 0

abbrev pub listed_at : Lists → Ref → List ℕ
listed_at lists ref = chain lists.entries.items (last_of lists ref)

pub record AreLinked (lists : Lists) : Type 0 where
  pub earlier : AreEarlier lists.entries.items
  pub lasts : (ref : Ref) → last_of lists ref ≤ length lists.entries.items

abbrev pub HasList : Lists → Ref → Type 0
HasList lists (Leaf leaf) = leaf < length lists.leaves.items
HasList lists (Place place) = place < length lists.places.items

pub record Adds (old new : Lists) (ref : Ref) (number : ℕ) : Type 0 where
  pub linked : AreLinked new
  pub leaves : length new.leaves.items ≡ length old.leaves.items
  pub places : length new.places.items ≡ length old.places.items
  pub keeps : (at : Ref) (one : ℕ) → Contains (listed_at old at) one → Contains (listed_at new at) one
  pub has : HasList old ref → Contains (listed_at new ref) number
  pub only : (at : Ref) (one : ℕ) → Contains (listed_at new at) one → Contains (listed_at old at) one ⊎ ((at ≡ ref) × (one ≡ number))

pub record AreEmpty (lists : Lists) (many_leaves many_places : ℕ) : Type 0 where
  pub linked : AreLinked lists
  pub leaves : length lists.leaves.items ≡ many_leaves
  pub places : length lists.places.items ≡ many_places
  pub none : (at : Ref) → listed_at lists at ≡ []
