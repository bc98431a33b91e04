-- What is right where a set of formula files is decided together, over the names of all of them.
--     OnFiles held time read names ..     the files of the names are taken in order, each as it is held then; a text that is refused ends the run
--     joint_of files                      the names of all files, each once, those of the first file first
--     models_over joint file              the behaviours over these names that model the file by what they are on its own
--     steps_over joint file               the steps of the file's goal over these names
--     AreBudgeted limits joint ..         the first file whose goal has too many slots, or whose steps are over the limits, is named
--     set_outcome names example stuck     what is said of a set: the least behaviour of all files, and the least stuck one
--     following_outcome names least       what is said of a set of which the first file is to follow from the others
--     IsAnswered question tuples ..       it is said of these files, or there are too many tuples
--     IsOfSet question limits tuples ..   the outcome is right for these files
--     LeavesSet names held ..             what was written where an input failed
use Rattle.std.specs.Prelude.{◌≡◌, ◌+◌, ◌⊎◌, ℕ, suc, Bool, true, false, List, [], ◌∷◌, ◌++◌, Option, None, Some, length, map, codes}
use Rattle.std.specs.Option.{option_or, option_map}
use Rattle.dcv_automaton_text.specs.Spelled.{name_words}
use Rattle.dcv_command.specs.declared.words.SetQuestion.{SetQuestion}
use Rattle.dcv_command.specs.declared.words.SetQuestion.TheVariants.{Together, Follows}
use Rattle.dcv_core.specs.Steps.{PlainStep, steps_of, without_core}
use Rattle.dcv_io.specs.Disk.{WhereTold, ReadsAtMost}
use Rattle.dcv_joint.specs.Faults.{has_few_slots, most_names, too_many_at}
use Rattle.dcv_joint.specs.Moved.{moved_core, places_of}
use Rattle.dcv_joint.specs.Names.{joint_names, over, with_new}
use Rattle.dcv_language.specs.VerdictText.{shown}
use Rattle.dcv_print.specs.Pushed.{spaced}
use Rattle.dcv_print.specs.Stuck.{stuck_text}
use Rattle.dcv_scope.specs.CoreOf.{core_of_file}
use Rattle.dcv_scope.specs.declared.faults.ScopeFault.TheVariants.{Slots}
use Rattle.dcv_together.specs.Answers.{TooMany, Least, IsPossible, IsStuckOf, IsFollowingFirst}
use Rattle.dcv_cli.specs.Common.{Asks, Budget, Formula, IsWithinBudget, Language, Limits, Only, Over, PlainFile, Word, line, models, texts_of}
use Rattle.dcv_cli.specs.declared.faults.FormulaFault.TheVariants.{Names, Scope}
use Rattle.dcv_cli.specs.declared.refusal.Refusal.TheVariants.{Tuples}
use Rattle.dcv_cli.specs.declared.refused.Which.TheVariants.{Number}
use Rattle.dcv_cli.specs.Budget.{IsFirstOverIn, steps_of_file}
use Rattle.dcv_cli.specs.Comparison.{HasFormula}
use Rattle.dcv_cli.specs.FormulaFile.{OnText}
use Rattle.dcv_cli.specs.Held.{Texts, OnHeld}
use Rattle.dcv_cli.specs.Outcome.{Outcome, refused}
use Rattle.dcv_cli.specs.Outside.{Outside}
use Rattle.dcv_cli.specs.Refusal.{most_bytes}
use Rattle.dcv_cli.specs.Status.{status_of_least}

-- ---- the files

-- (the first has number 1, and is opened at time 0)
abbrev pub OnFiles : Texts → ℕ → List PlainFile → List (List ℕ) → (List PlainFile → Outcome → Type 0) → Outcome → Type 0
OnFiles held time read [] RightFor outcome = RightFor read outcome
OnFiles held time read (name ∷ names) RightFor outcome =
    OnHeld (held time) name (λ text. OnText text (Number (suc time)) (λ file. OnFiles held (suc time) (read ++ file ∷ []) names RightFor)) outcome

abbrev pub own_names : PlainFile → List (List ℕ)
own_names file = texts_of file.variables

abbrev pub joint_of : List PlainFile → List (List ℕ)
joint_of files = joint_names (map own_names files)

abbrev pub models_over : List (List ℕ) → PlainFile → Language
models_over joint file = over joint (own_names file) (models file)

abbrev pub steps_over : List (List ℕ) → PlainFile → List PlainStep
steps_over joint file = steps_of (length joint) (moved_core joint (own_names file) (core_of_file file))

-- whether each step is over no more slots than there may be
abbrev pub fits_over : List (List ℕ) → PlainFile → Bool
fits_over joint file = has_few_slots (places_of joint (own_names file)) (length joint) (map without_core (steps_of_file file))

-- ---- too many names, too many slots, too large a step

-- the first name that the joint list has no place for, with the number of its file
abbrev pub extra_in : List (List ℕ) → ℕ → List PlainFile → Option (ℕ × ℕ)
extra_in joint number [] = None
extra_in joint number (file ∷ files) =
    option_or (option_map (λ at. (number, at)) (too_many_at most_names joint file.variables)) (extra_in (with_new joint (own_names file)) (suc number) files)

-- The goal has too many slots over the joint names; or some step is over the limits, and the first such step is named; or neither is so, and the outcome is
-- right in another way.
pub data IsBudgetedAt (limits : Limits) (joint : List (List ℕ)) (number : ℕ) (RightFor : Outcome → Type 0) (file : PlainFile) (outcome : Outcome) : Type 0 where
  OverSlots : fits_over joint file ≡ false → outcome ≡ refused (Formula (Scope (Slots file.goal.span.start))) (Number number)
      → IsBudgetedAt limits joint number RightFor file outcome
  OverLimits : fits_over joint file ≡ true → (over : Over) → IsFirstOverIn (steps_over joint file) limits over
      → outcome ≡ refused (Budget over) (Number number) → IsBudgetedAt limits joint number RightFor file outcome
  WithinLimits : fits_over joint file ≡ true → IsWithinBudget (steps_over joint file) limits → RightFor outcome
      → IsBudgetedAt limits joint number RightFor file outcome

-- the files from this number on
abbrev pub AreBudgeted : Limits → List (List ℕ) → ℕ → (Outcome → Type 0) → List PlainFile → Outcome → Type 0
AreBudgeted limits joint number RightFor [] outcome = RightFor outcome
AreBudgeted limits joint number RightFor (file ∷ files) outcome =
    IsBudgetedAt limits joint number (AreBudgeted limits joint (suc number) RightFor files) file outcome

-- ---- what is said

abbrev pub names_line : List (List ℕ) → List ℕ
names_line names = codes "variables" ++ (spaced (name_words names) ++ codes "\n")

abbrev pub possible_text : Option Word → List ℕ
possible_text None = line (codes "impossible")
possible_text (Some word) = shown (codes "possible") (Some word)

abbrev pub follows_text : Option Word → List ℕ
follows_text None = line (codes "follows")
follows_text (Some word) = shown (codes "does not follow") (Some word)

abbrev pub set_outcome : List (List ℕ) → Option Word → Option Word → Outcome
set_outcome names example stuck =
    record { status = status_of_least stuck; out = names_line names ++ (possible_text example ++ stuck_text stuck); err = [] }

abbrev pub following_outcome : List (List ℕ) → Option Word → Outcome
following_outcome names least = record { status = status_of_least least; out = names_line names ++ follows_text least; err = [] }

-- Whether the sets have a behaviour in common, and after which least behaviour one that has kept to all cannot go on; or more tuples come before one of
-- both answers than the limit.
pub data IsDecidedTogether (tuples : ℕ) (names : List (List ℕ)) (Ls : List Language) (outcome : Outcome) : Type 0 where
  TooManyTuples : IsPossible tuples (length names) Ls TooMany ⊎ IsStuckOf tuples (length names) Ls TooMany → outcome ≡ refused (Tuples tuples) Only
      → IsDecidedTogether tuples names Ls outcome
  FewTuples : (example stuck : Option Word) → IsPossible tuples (length names) Ls (Least example) → IsStuckOf tuples (length names) Ls (Least stuck)
      → outcome ≡ set_outcome names example stuck → IsDecidedTogether tuples names Ls outcome

-- whether each behaviour of all sets but the first is in the first
pub data IsDecidedFollowing (tuples : ℕ) (names : List (List ℕ)) (Ls : List Language) (outcome : Outcome) : Type 0 where
  TooManyFollowing : IsFollowingFirst tuples (length names) Ls TooMany → outcome ≡ refused (Tuples tuples) Only → IsDecidedFollowing tuples names Ls outcome
  FewFollowing : (least : Option Word) → IsFollowingFirst tuples (length names) Ls (Least least) → outcome ≡ following_outcome names least
      → IsDecidedFollowing tuples names Ls outcome

abbrev pub IsAnswered : SetQuestion → ℕ → List (List ℕ) → List Language → Outcome → Type 0
IsAnswered Together = IsDecidedTogether
IsAnswered Follows = IsDecidedFollowing

-- The files are joined by the names of their variables, judged one after another by their budgets, and then searched together.
pub data IsOfSet (question : SetQuestion) (limits : Limits) (tuples : ℕ) (files : List PlainFile) (outcome : Outcome) : Type 0 where
  ManyNames : (number at : ℕ) → extra_in [] 1 files ≡ Some (number, at) → outcome ≡ refused (Formula (Names at)) (Number number) → IsOfSet question limits tuples files outcome
  Joined : extra_in [] 1 files ≡ None
      → AreBudgeted limits (joint_of files) 1 (IsAnswered question tuples (joint_of files) (map (models_over (joint_of files)) files)) files outcome
      → IsOfSet question limits tuples files outcome

-- ---- where an input failed

-- the files before it are formula files without a fault
abbrev pub HaveFormulas : Texts → ℕ → List (List ℕ) → Type 0
HaveFormulas held time [] = Unit {0}
HaveFormulas held time (name ∷ names) = HasFormula (held time name) × HaveFormulas held (suc time) names

-- Nothing was written, and of the file that failed at most one byte past the limit was read.
pub record LeavesSet (names : List (List ℕ)) (held : Texts) (before after : Outside) (bytes : List ℕ) : Type 0 where
  pub earlier : List (List ℕ)
  pub name : List ℕ
  pub others : List (List ℕ)
  pub are : names ≡ earlier ++ name ∷ others
  pub asked : Asks (earlier ++ name ∷ []) before.asked after.asked
  pub read : WhereTold (ReadsAtMost name (most_bytes + 1)) before.told after.told
  pub have : HaveFormulas held 0 earlier
  pub none : bytes ≡ []
