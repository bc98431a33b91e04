-- An observer's text: a sentence whose derivation tree stands for a tree of the subset, and whose words keep the rules of names.
--     Subset                     a language, the trees of its sentences with their words where they stand, and what is judged of them
--     Spells subset text placed  the text stands for this placed tree
--     first_broken words keeps   the offset of the first of some words that breaks a rule
--     HasFault subset text fault  the fault of a text, at its offset
--     IsReadAs subset text tree  the text spells the tree, which keeps the rules of names
-- The syntax is judged over the whole text first, and names only where the text is a sentence.
use Rattle.std.specs.Prelude.{◌≡◌, ℕ, Bool, not, IsTrue, List, Option, Some, option_map, find}
use Rattle.std.specs.List.{list_all, zip}
use Rattle.dcv_lexer.specs.Cuts.{Token}
use Rattle.dcv_observer.specs.declared.fault.ObsFault.{ObsFault}
use Rattle.dcv_observer.specs.declared.fault.ObsFault.TheVariants.{Syntax, Names, Memory}
use Rattle.dcv_observer.specs.Items.{IsSyntaxFault}
use Rattle.dcv_observer.specs.Scheme.{Scheme, StandsFor}

pub record Subset (Part Placed Tree : Type 0) : Type 0 where
  pub scheme : Scheme Part
  -- what a whole sentence stands for
  pub whole : Placed → Part
  pub tree_of : Placed → Tree
  -- the words that are judged, and whether each keeps the rules of names
  pub words_of : Placed → List Token
  pub judged : Tree → List Bool

-- ---- names

abbrev pub first_broken : List Token → List Bool → Option ℕ
first_broken words keeps = option_map (λ judged. judged.0.start) (find (λ judged. not judged.1) (zip words keeps))

module _ {Part Placed Tree : Type 0} (subset : Subset Part Placed Tree) where
  abbrev pub IsNamesFault : Placed → ℕ → Type 0
  IsNamesFault placed at = first_broken (subset.words_of placed) (subset.judged (subset.tree_of placed)) ≡ Some at

  abbrev pub IsWellNamed : Tree → Type 0
  IsWellNamed tree = IsTrue (list_all (λ keeps. keeps) (subset.judged tree))

  -- ---- texts

  abbrev pub Spells : List ℕ → Placed → Type 0
  Spells text placed = StandsFor subset.scheme text (subset.whole placed)

  abbrev pub HasFault : List ℕ → ObsFault → Type 0
  HasFault text (Syntax at) = IsSyntaxFault subset.scheme.lexicon subset.scheme.grammar text at
  HasFault text (Names at) = (placed : Placed) × Spells text placed × IsNamesFault placed at
  HasFault text Memory = ⊥

-- with its words where they stand
pub record IsReadAs {Part Placed Tree : Type 0} (subset : Subset Part Placed Tree) (text : List ℕ) (tree : Tree) : Type 0 where
  pub placed : Placed
  pub spelled : Spells subset text placed
  pub is : subset.tree_of placed ≡ tree
  pub well_named : IsWellNamed subset tree
