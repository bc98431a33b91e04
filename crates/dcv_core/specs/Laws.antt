-- The laws that `src/laws.rt` proves.
use Rattle.std.specs.Prelude.{◌≡◌, ℕ, suc, ◌-◌, ◌<◌, ◌≤◌, length, Some}
use Rattle.std.specs.List.{slice_get}
use Rattle.dcv_syntax.specs.declared.names.Span.{Span}
use Rattle.dcv_syntax.specs.declared.propositions.Connective.{Connective}
use Rattle.dcv_word.specs.Behaviour.{Word}
use Rattle.dcv_language.specs.Language.{Language, outside}
use Rattle.dcv_language.specs.Operations.{chop, star, projection}
use Rattle.dcv_core.specs.Core.{PlainBasic, CoreTree, CoreAtom, CoreNot, CoreJoined, CoreChop, CoreStar, CoreExists}
use Rattle.dcv_core.specs.Holds.{core_holds, words_of, part_of}
use Rattle.dcv_core.specs.Steps.{PlainStep, steps_of, steps_before}
use Rattle.dcv_core.specs.StepWords.{basic_words, joined_words, IsOperation}

-- a core holds on an interval exactly where it holds on the whole of that part of the word
abbrev pub CoreIsLocal : Type 0
CoreIsLocal = (core : CoreTree) (word : Word) (b e : ℕ) → b ≤ e → e < length word
    → core_holds core word b e ≡ core_holds core (part_of word b e) 0 (e - b)

-- ---- the nonempty words of each form

abbrev pub SameNonempty : Language → Language → Type 0
SameNonempty L M = (word : Word) → 0 < length word → L word ≡ M word

abbrev pub WordsOfAtom : Type 0
WordsOfAtom = (basic : PlainBasic) (span : Span) → SameNonempty (words_of (CoreAtom basic span)) (basic_words basic)

abbrev pub WordsOfNot : Type 0
WordsOfNot = (d : CoreTree) (span : Span) → SameNonempty (words_of (CoreNot d span)) (outside (words_of d))

abbrev pub WordsOfJoined : Type 0
WordsOfJoined = (connective : Connective) (c d : CoreTree) (span : Span)
    → SameNonempty (words_of (CoreJoined connective c d span)) (joined_words connective (words_of c) (words_of d))

abbrev pub WordsOfChop : Type 0
WordsOfChop = (c d : CoreTree) (span : Span) → SameNonempty (words_of (CoreChop c d span)) (chop (words_of c) (words_of d))

abbrev pub WordsOfStar : Type 0
WordsOfStar = (d : CoreTree) (span : Span) → SameNonempty (words_of (CoreStar d span)) (star (words_of d))

abbrev pub WordsOfExists : Type 0
WordsOfExists = (d : CoreTree) (span : Span) → SameNonempty (words_of (CoreExists d span)) (projection (words_of d))

-- ---- steps

-- each step's words are its operator's operation on those of its operands, which are earlier steps
abbrev pub StepsAreOperations : Type 0
StepsAreOperations = (k : ℕ) (core : CoreTree) (n : ℕ) (step : PlainStep)
    → slice_get (steps_of k core) n ≡ Some step → IsOperation (steps_of k core) n step step.op

-- the last step is the core's own
abbrev pub LastStepIsCore : Type 0
LastStepIsCore = (k : ℕ) (core : CoreTree) → (step : PlainStep) × (slice_get (steps_of k core) (steps_before core) ≡ Some step)
    × (length (steps_of k core) ≡ suc (steps_before core)) × (step.core ≡ core) × (step.slots ≡ k)
