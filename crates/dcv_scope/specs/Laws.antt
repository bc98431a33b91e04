-- The laws that `src/laws.rt` proves.
use Rattle.std.specs.Prelude.{◌≡◌, ℕ, ◌+◌, ◌*◌, ◌<◌, ◌≤◌, List, length, Some, None}
use Rattle.std.specs.List.{All, slice_get}
use Rattle.dcv_syntax.specs.Plain.{PlainFile}
use Rattle.dcv_logic.specs.Models.{goal_environment, models}
use Rattle.dcv_logic.specs.Satisfaction.{satisfies}
use Rattle.dcv_logic.specs.Track.{Track}
use Rattle.dcv_word.specs.Behaviour.{Word, IsBehaviour}
use Rattle.dcv_core.specs.Holds.{core_holds, expanded_holds, words_of}
use Rattle.dcv_core.specs.Steps.{PlainStep, steps_of}
use Rattle.dcv_core.specs.Slots.{OpIsBelow, OpHasNoShift}
use Rattle.dcv_tracks.specs.Shifting.{shifts_in, placed_core, bound_shift}
use Rattle.dcv_tracks.specs.Tracks.{with_tracks, AreTracks}
use Rattle.dcv_scope.specs.CoreOf.{expanded_file, core_of_file}
use Rattle.dcv_scope.specs.Measures.{measure_of_file, slots_of_file}

-- over each word of the declared variables the goal without its macros holds on an interval exactly where the goal does
abbrev pub GoalMeansText : Type 0
GoalMeansText = (file : PlainFile) (word : Word) → All (λ letter. length letter ≡ length file.variables) word → (b e : ℕ) → b ≤ e → e < length word
    → expanded_holds (expanded_file file) word b e ≡ satisfies (goal_environment file word) file.goal.formula.kind b e

-- no shift looks at a quantified variable
abbrev pub HasNoBoundShift : PlainFile → Type 0
HasNoBoundShift file = bound_shift (length file.variables) (expanded_file file) ≡ None

-- then, with the one list of tracks of its shifts, the goal's steps hold on an interval exactly where the goal does
abbrev pub CoreMeansText : Type 0
CoreMeansText = (file : PlainFile) (word : Word) (tracks : List Track) → IsBehaviour (length file.variables) word → HasNoBoundShift file
    → AreTracks (length file.variables) (shifts_in (expanded_file file)) (length file.variables) (shifts_in (expanded_file file)) word tracks → (b e : ℕ) → b ≤ e → e < length word
    → core_holds (placed_core (length file.variables) (shifts_in (expanded_file file)) (expanded_file file)) (with_tracks word tracks) b e
    ≡ satisfies (goal_environment file word) file.goal.formula.kind b e

-- and the words of the core are the behaviours that model the file
abbrev pub WordsAreModels : Type 0
WordsAreModels = (file : PlainFile) (word : Word) → HasNoBoundShift file → IsBehaviour (length file.variables) word → words_of (core_of_file file) word ≡ models file word

-- ---- how large a core is

-- the core of a file has fewer than twice as many steps as its goal has nodes, and three for each shift
abbrev pub StepsAreFew : Type 0
StepsAreFew = (file : PlainFile)
    → length (steps_of (length file.variables) (core_of_file file)) < 2 * (measure_of_file file).size + 3 * length (shifts_in (expanded_file file))

-- and each step is over no more slots than the goal has
abbrev pub SlotsAreFew : Type 0
SlotsAreFew = (file : PlainFile) (n : ℕ) (step : PlainStep)
    → slice_get (steps_of (length file.variables) (core_of_file file)) n ≡ Some step → step.slots ≤ slots_of_file file

-- and a step's proposition names only slots over which the step is judged
abbrev pub SlotsAreInUse : Type 0
SlotsAreInUse = (file : PlainFile) → HasNoBoundShift file → (n : ℕ) (step : PlainStep)
    → slice_get (steps_of (length file.variables) (core_of_file file)) n ≡ Some step → OpIsBelow step.slots step.op

-- and no shift is left in it
abbrev pub NoShiftIsLeft : Type 0
NoShiftIsLeft = (file : PlainFile) (n : ℕ) (step : PlainStep)
    → slice_get (steps_of (length file.variables) (core_of_file file)) n ≡ Some step → OpHasNoShift step.op
