-- For the proofs: the suffixes of a file as a tree, and links from one to the next.
--     suffix_at file place               how the suffix at a place is spelled
--     parent_at file place               the suffix that it goes on from
--     leads_to link place                whether a link leads there
--     light_parent_at file heaviest place    the suffix that it goes on from, where it is not the heaviest there
--     root_of file                       the first suffix, where there is one
--     link_at links place                the link of a suffix
--     Below first next from place        the suffix is met on the links from this one on
--     HaveOneParent file place other     both suffixes go on from one
--     AreHeaviest file heaviest          the links lead to suffixes that go on from the one that they are of
--     AreLinks file first next           all suffixes are met from the first one on, and links along those that go on from one suffix end
use Rattle.std.specs.Prelude.{◌≡◌, ◌⊎◌, ℕ, ◌<◌, ◌==◌, Bool, false, if◌then◌else◌, List, length, Option, None, Some, slice_index_or}
use Rattle.dcv_automaton_text.specs.File.{Suffix, EmptySuffix, ThenSuffix, AutomatonFile}

abbrev pub suffix_at : AutomatonFile → ℕ → Suffix
suffix_at file place = (slice_index_or file.suffix_lines place (record { number = 0; suffix = EmptySuffix })).suffix

abbrev pub parent : Suffix → Option ℕ
parent EmptySuffix = None
parent (ThenSuffix letter from) = Some from

abbrev pub parent_at : AutomatonFile → ℕ → Option ℕ
parent_at file place = parent (suffix_at file place)

abbrev pub leads_to : Option ℕ → ℕ → Bool
leads_to None place = false
leads_to (Some other) place = other == place

abbrev pub light_parent : List (Option ℕ) → ℕ → Option ℕ → Option ℕ
light_parent heaviest place None = None
light_parent heaviest place (Some from) = if leads_to (slice_index_or heaviest from None) place then None else Some from

abbrev pub light_parent_at : AutomatonFile → List (Option ℕ) → ℕ → Option ℕ
light_parent_at file heaviest place = light_parent heaviest place (parent_at file place)

abbrev pub root_of : AutomatonFile → Option ℕ
root_of file = if length file.suffix_lines == 0 then None else Some 0

abbrev pub link_at : List (Option ℕ) → ℕ → Option ℕ
link_at links place = slice_index_or links place None

pub data Below (first next : List (Option ℕ)) : Option ℕ → ℕ → Type 0 where
  Here : (from : Option ℕ) (place : ℕ) → from ≡ Some place → Below first next from place
  Beside : (from : Option ℕ) (one place : ℕ) → Below first next (link_at next one) place → from ≡ Some one → Below first next from place
  Under : (from : Option ℕ) (one place : ℕ) → Below first next (link_at first one) place → from ≡ Some one → Below first next from place

abbrev pub HaveOneParent : AutomatonFile → ℕ → ℕ → Type 0
HaveOneParent file place other = (from : ℕ) × (parent_at file place ≡ Some from) × (parent_at file other ≡ Some from)

pub record AreHeaviest (file : AutomatonFile) (heaviest : List (Option ℕ)) : Type 0 where
  pub count : length heaviest ≡ length file.suffix_lines
  pub goes_on : (place heavy : ℕ) → link_at heaviest place ≡ Some heavy → parent_at file heavy ≡ Some place

pub record AreLinks (file : AutomatonFile) (first next : List (Option ℕ)) : Type 0 where
  pub count : length first ≡ length file.suffix_lines
  pub next_count : length next ≡ length file.suffix_lines
  pub goes_on : (place child : ℕ) → link_at first place ≡ Some child → parent_at file child ≡ Some place
  pub goes_on_too : (place other : ℕ) → link_at next place ≡ Some other → HaveOneParent file place other
  pub in_order : (place other : ℕ) → link_at next place ≡ Some other → (place < other) ⊎ (link_at next other ≡ None)
  pub all : (place : ℕ) → place < length file.suffix_lines → Below first next (Some 0) place
