-- Satisfaction of a core on an interval of a word, each letter of which has a truth for each slot: an equation for each form.
--     truth_holds      a proposition holds in a letter
--     value_at         a proposition with shifts, at an instant of a word
--     basic_holds      a form without a formula in it
--     core_holds       a core, from instant b to instant e
--     expanded_holds   a goal with shifts
--     words_of         the set of words on the whole of which a core holds
use Rattle.std.specs.Prelude.{ℕ, ◌+◌, ◌-◌, Bool, false, ◌&&◌, not, List, [], ◌∷◌, length, slice_index_or, take, drop, suc}
use Rattle.dcv_logic.specs.Search.{some_between, each_between}
use Rattle.dcv_language.specs.Operations.{some_track, iff, with_track}
use Rattle.dcv_logic.specs.Track.{truth_at}
use Rattle.dcv_logic.specs.Satisfaction.{compares}
use Rattle.dcv_word.specs.Behaviour.{Word}
use Rattle.dcv_language.specs.Language.{Language}
use Rattle.dcv_syntax.specs.declared.propositions.Connective.{Connective}
use Rattle.dcv_syntax.specs.declared.propositions.Direction.{Direction}
use Rattle.dcv_syntax.specs.declared.propositions.Direction.TheVariants.{Prior, Next}
use Rattle.dcv_logic.specs.Value.{shifted}
use Rattle.dcv_logic.specs.Connectives.{joins, of_none, bracket_holds, counted, star}
use Rattle.dcv_core.specs.Core.{PlainTruth, TruthConstant, TruthSlot, TruthNot, TruthJoined, TruthShift, PlainTruths, no_truths, truth_operand}
use Rattle.dcv_core.specs.Core.{PlainBasic, BasicConstant, BasicBracketed, BasicSlen, BasicCounted, BasicTrack}
use Rattle.dcv_core.specs.Core.{CoreTree, CoreAtom, CoreNot, CoreJoined, CoreChop, CoreStar, CoreExists}

-- the letter at an instant
abbrev pub letter_at : Word → ℕ → List Bool
letter_at word i = slice_index_or word i []

abbrev mutual
  pub truth_holds : PlainTruth → List Bool → Bool
  truth_holds (TruthConstant truth) letter = truth
  truth_holds (TruthSlot slot) letter = truth_at letter slot
  truth_holds (TruthNot p) letter = not (truth_holds p letter)
  truth_holds (TruthJoined connective operands) letter = joined_truths connective (of_none connective) operands letter
  -- a letter alone says nothing of other instants
  truth_holds (TruthShift direction p span) letter = false

  -- from the left: each operand is joined to those before it
  pub joined_truths : Connective → Bool → PlainTruths → List Bool → Bool
  joined_truths connective so_far no_truths letter = so_far
  joined_truths connective so_far (truth_operand p operands) letter = joined_truths connective (joins connective so_far (truth_holds p letter)) operands letter

-- a proposition at the instants of a word
abbrev pub holds_at : PlainTruth → Word → ℕ → Bool
holds_at p word i = truth_holds p (letter_at word i)

-- the same of a proposition with shifts, which look at other instants of the word
abbrev mutual
  pub value_at : PlainTruth → Word → ℕ → Bool
  value_at (TruthConstant truth) word i = truth
  value_at (TruthSlot slot) word i = truth_at (letter_at word i) slot
  value_at (TruthNot p) word i = not (value_at p word i)
  value_at (TruthJoined connective operands) word i = joined_values connective (of_none connective) operands word i
  value_at (TruthShift direction p span) word i = shifted direction (length word) (value_at p word) i

  pub joined_values : Connective → Bool → PlainTruths → Word → ℕ → Bool
  joined_values connective so_far no_truths word i = so_far
  joined_values connective so_far (truth_operand p operands) word i = joined_values connective (joins connective so_far (value_at p word i)) operands word i

-- ---- forms and formulas, where this is what a proposition is at an instant

-- on an interval the track is what the proposition is one instant earlier, or later, and false at the end that has none
abbrev pub track_holds : Direction → (ℕ → Bool) → (ℕ → Bool) → ℕ → ℕ → Bool
track_holds Prior track p b e = not (track b) && each_between (b + 1) e (λ i. iff (track i) (p (i - 1)))
track_holds Next track p b e = not (track e) && each_between (b + 1) e (λ i. iff (track (i - 1)) (p i))

abbrev pub basic_holds_by : (PlainTruth → Word → ℕ → Bool) → PlainBasic → Word → ℕ → ℕ → Bool
basic_holds_by at (BasicConstant truth) word b e = truth
basic_holds_by at (BasicBracketed bracket p) word b e = bracket_holds bracket (at p word) b e
basic_holds_by at (BasicSlen relation n) word b e = compares relation (e - b) n
basic_holds_by at (BasicCounted count p relation n) word b e = compares relation (counted count (at p word) b e) n
basic_holds_by at (BasicTrack direction p slot) word b e = track_holds direction (at (TruthSlot slot) word) (at p word) b e

abbrev pub core_holds_by : (PlainTruth → Word → ℕ → Bool) → CoreTree → Word → ℕ → ℕ → Bool
core_holds_by at (CoreAtom basic span) word b e = basic_holds_by at basic word b e
core_holds_by at (CoreNot d span) word b e = not (core_holds_by at d word b e)
core_holds_by at (CoreJoined connective c d span) word b e = joins connective (core_holds_by at c word b e) (core_holds_by at d word b e)
core_holds_by at (CoreChop c d span) word b e = some_between b e (λ m. core_holds_by at c word b m && core_holds_by at d word m e)
core_holds_by at (CoreStar d span) word b e = star (core_holds_by at d word) (e - b) b e
-- some track in the last slot
core_holds_by at (CoreExists d span) word b e = some_track (length word) (λ track. core_holds_by at d (with_track word track) b e)

abbrev pub basic_holds : PlainBasic → Word → ℕ → ℕ → Bool
basic_holds = basic_holds_by holds_at

-- of a core, whose shifts have slots
abbrev pub core_holds : CoreTree → Word → ℕ → ℕ → Bool
core_holds = core_holds_by holds_at

-- of a goal in which shifts stand as they are
abbrev pub expanded_holds : CoreTree → Word → ℕ → ℕ → Bool
expanded_holds = core_holds_by value_at

-- the nonempty words on the whole of which the core holds
abbrev pub words_of : CoreTree → Language
words_of core [] = false
words_of core (letter ∷ letters) = core_holds core (letter ∷ letters) 0 (length letters)

-- the part of a word from instant b to instant e, both in it
abbrev pub part_of : Word → ℕ → ℕ → Word
part_of word b e = take (suc (e - b)) (drop b word)
