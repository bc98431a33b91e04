-- For the proofs alone: the files of a set, taken and joined.
--     AreReadAs texts files formulas        the texts spell the files, and this is what is kept of them
--     TakesAll names formulas before after  all files were taken, and no call of the outside failed
--     StopsTaking names refused before ..   a command over these files has ended so
--     AreRead files formulas                this is what is kept of each file
--     WereRead formulas                     so it is of some files
--     IsJoint files joint                   all names fit in one list, and this is it
--     IsExtraName files refused             some name does not, and the refusal names the first that does not
--     AreAutosOver limits joint files autos     the files are within the limits, and these are their automata over the joint names
--     IsOverAt limits joint files refused   some file is not, and the refusal names the first
--     IsJoinedSet limits files set          the names and the automata of the files
use Rattle.std.specs.Prelude.{◌≡◌, ◌<◌, ◌≤◌, ◌+◌, ◌*◌, ℕ, suc, true, false, List, [], ◌∷◌, ◌++◌, None, Some, length, Option, Err}
use Rattle.std.specs.List.{All}
use Rattle.dcv_core.specs.Steps.{IsCoreOf, PlainCore}
use Rattle.dcv_dfa.specs.Raw.{RawValue, raw_accepts}
use Rattle.dcv_joint.specs.Faults.{most_names, too_many_at}
use Rattle.dcv_joint.specs.Moved.{moved_core}
use Rattle.dcv_joint.specs.declared.joint.JointFault.{JointFault}
use Rattle.dcv_joint.specs.declared.joint.JointFault.TheVariants.{TooMany, Slots as ManySlotsFault, Memory as MemoryFault}
use Rattle.dcv_language.specs.Language.{HaveSameBehaviours}
use Rattle.dcv_scope.specs.CoreOf.{core_of_file}
use Rattle.dcv_scope.specs.declared.faults.ScopeFault.TheVariants.{Slots}
use Rattle.dcv_syntax.specs.declared.names.Name.{Name}
use Rattle.dcv_cli.specs.Budget.{NamesFirstOver}
use Rattle.dcv_cli.specs.Common.{Asks, Disk, Formula, IsWithinBudget, Limits, PlainFile, Refusal, Refused, held_of}
use Rattle.dcv_command.specs.declared.words.SetQuestion.{SetQuestion}
use Rattle.dcv_cli.specs.FileSet.{IsOfSet, LeavesSet, OnFiles, extra_in, fits_over, joint_of, models_over, own_names, steps_over}
use Rattle.dcv_cli.specs.Held.{ForHeld, IsHeldText}
use Rattle.dcv_cli.specs.Outcome.{Outcome}
use Rattle.dcv_cli.specs.Outside.{Outside, Stream, with_output}
use Rattle.dcv_cli.specs.Performed.{Performs}
use Rattle.dcv_cli.specs.ReadFile.{IsRead}
use Rattle.dcv_cli.specs.Refusal.{marked, most_bytes, only}
use Rattle.dcv_cli.specs.declared.faults.FormulaFault.TheVariants.{Names, Scope}
use Rattle.dcv_cli.specs.declared.file_set.JoinedSet.{JoinedSet}
use Rattle.dcv_cli.specs.declared.formula_file.FormulaFile.{FormulaFile}
use Rattle.dcv_cli.specs.declared.refusal.Refusal.TheVariants.{Memory}
use Rattle.dcv_cli.specs.declared.refused.Which.TheVariants.{Number}

-- under each name the text at its place is held, or may be
abbrev pub AreHeldTexts : Option Disk → List (List ℕ) → List (List ℕ) → Type 0
AreHeldTexts told [] [] = Unit {0}
AreHeldTexts told (name ∷ names) (text ∷ texts) = IsHeldText told name text × AreHeldTexts told names texts
AreHeldTexts told _ _ = ⊥

abbrev pub AreReadAs : List (List ℕ) → List PlainFile → List FormulaFile → Type 0
AreReadAs [] [] [] = Unit {0}
AreReadAs (text ∷ texts) (file ∷ files) (formula ∷ formulas) = IsRead text file formula × AreReadAs texts files formulas
AreReadAs _ _ _ = ⊥

abbrev pub most_calls : List (List ℕ) → ℕ
most_calls names = length names * (most_bytes + 2)

pub record TakesAll (names : List (List ℕ)) (formulas : List FormulaFile) (before after : Outside) : Type 0 where
  pub texts : List (List ℕ)
  pub files : List PlainFile
  pub there : AreHeldTexts before.told names texts
  pub are : AreReadAs texts files formulas
  pub asked : Asks names before.asked after.asked
  pub calls : after.calls ≤ before.calls + most_calls names
  pub opened : after.open_faults ≡ before.open_faults
  pub read : after.read_faults ≡ before.read_faults
  pub held : held_of after.told ≡ held_of before.told

abbrev pub OnHeldFiles : List (List ℕ) → (List PlainFile → Outcome → Type 0) → Option Disk → Outcome → Type 0
OnHeldFiles names RightFor told outcome = ForHeld told (λ held. OnFiles held 0 [] names RightFor outcome)

abbrev pub LeavesFiles : List (List ℕ) → Outside → Outside → List ℕ → Type 0
LeavesFiles names before after bytes = ForHeld before.told (λ held. LeavesSet names held before after bytes)

abbrev pub StopsTaking : List (List ℕ) → Refused → Outside → Outside → Type 0
StopsTaking names refused before after = (asked : SetQuestion) (limits : Limits) (tuples : ℕ) (out : Stream)
    → Performs (OnHeldFiles names (IsOfSet asked limits tuples) before.told) (LeavesFiles names) names (most_calls names) (Err refused) (with_output before out) (with_output after out)

abbrev pub AreRead : List PlainFile → List FormulaFile → Type 0
AreRead [] [] = Unit {0}
AreRead (file ∷ files) (formula ∷ formulas) = ((text : List ℕ) × IsRead text file formula) × AreRead files formulas
AreRead _ _ = ⊥

abbrev pub WereRead : List FormulaFile → Type 0
WereRead formulas = (files : List PlainFile) × AreRead files formulas

-- ---- one list of names

pub record IsJoint (files : List PlainFile) (joint : List (List ℕ)) : Type 0 where
  pub fits : extra_in [] 1 files ≡ None
  pub is : joint ≡ joint_of files

abbrev pub of_file : ℕ → Refusal → Refused
of_file number refusal = record { refusal = refusal; which = Number number }

abbrev pub refusal_of_joint : JointFault → ℕ → Refusal
refusal_of_joint (TooMany at) goal = Formula (Names at)
refusal_of_joint ManySlotsFault goal = Formula (Scope (Slots goal))
refusal_of_joint MemoryFault goal = Memory

-- the names of a file do not fit, and the refusal names the first that does not, or memory ran out
pub data IsRefusedName (joint : List (List ℕ)) (names : List Name) (refusal : Refusal) : Type 0 where
  ExtraName : (at : ℕ) → too_many_at most_names joint names ≡ Some at → refusal ≡ Formula (Names at) → IsRefusedName joint names refusal
  NoMemoryForName : refusal ≡ Memory → IsRefusedName joint names refusal

pub data IsExtraName (files : List PlainFile) (refused : Refused) : Type 0 where
  ExtraAt : (number at : ℕ) → extra_in [] 1 files ≡ Some (number, at) → refused ≡ of_file number (Formula (Names at)) → IsExtraName files refused
  NoMemoryForNames : refused ≡ only Memory → IsExtraName files refused

-- ---- automata over it

pub record IsAutoOver (limits : Limits) (joint : List (List ℕ)) (file : PlainFile) (auto : RawValue) : Type 0 where
  pub fits : fits_over joint file ≡ true
  pub within : IsWithinBudget (steps_over joint file) limits
  pub slots : auto.arena.slots ≡ length joint
  pub same : HaveSameBehaviours (length joint) (raw_accepts auto) (models_over joint file)

abbrev pub AreAutosOver : Limits → List (List ℕ) → List PlainFile → List RawValue → Type 0
AreAutosOver limits joint [] [] = Unit {0}
AreAutosOver limits joint (file ∷ files) (auto ∷ autos) = IsAutoOver limits joint file auto × AreAutosOver limits joint files autos
AreAutosOver limits joint _ _ = ⊥

pub record IsCoreOver (joint : List (List ℕ)) (file : PlainFile) (core : PlainCore) : Type 0 where
  pub declared : core.declared ≡ length joint
  pub is : IsCoreOf (moved_core joint (own_names file) (core_of_file file)) core
  pub fits : fits_over joint file ≡ true

pub data IsSlotsRefusal (joint : List (List ℕ)) (file : PlainFile) (refusal : Refusal) : Type 0 where
  SlotsAre : fits_over joint file ≡ false → refusal ≡ Formula (Scope (Slots file.goal.span.start)) → IsSlotsRefusal joint file refusal
  NoMemoryForCore : refusal ≡ Memory → IsSlotsRefusal joint file refusal

pub data IsRefusedOver (limits : Limits) (joint : List (List ℕ)) (file : PlainFile) (refusal : Refusal) : Type 0 where
  ManySlots : fits_over joint file ≡ false → refusal ≡ Formula (Scope (Slots file.goal.span.start)) → IsRefusedOver limits joint file refusal
  FewSlots : fits_over joint file ≡ true → NamesFirstOver (steps_over joint file) limits refusal → IsRefusedOver limits joint file refusal
  NoMemory : refusal ≡ Memory → IsRefusedOver limits joint file refusal

-- all files before this one are within the limits
pub record IsFirstRefused (limits : Limits) (joint : List (List ℕ)) (files : List PlainFile) (refused : Refused) : Type 0 where
  pub earlier : List PlainFile
  pub autos : List RawValue
  pub within : AreAutosOver limits joint earlier autos
  pub file : PlainFile
  pub others : List PlainFile
  pub are : files ≡ earlier ++ file ∷ others
  pub refusal : Refusal
  pub is_refused : IsRefusedOver limits joint file refusal
  pub is : refused ≡ marked (Number (suc (length earlier))) refusal

pub data IsOverAt (limits : Limits) (joint : List (List ℕ)) (files : List PlainFile) (refused : Refused) : Type 0 where
  OverAt : IsFirstRefused limits joint files refused → IsOverAt limits joint files refused
  NoMemoryForAutos : refused ≡ only Memory → IsOverAt limits joint files refused

pub record IsJoinedSet (limits : Limits) (files : List PlainFile) (set : JoinedSet) : Type 0 where
  pub names : IsJoint files set.joint
  pub autos : AreAutosOver limits (joint_of files) files set.autos.items

pub data IsUnjoined (limits : Limits) (files : List PlainFile) (refused : Refused) : Type 0 where
  NamesAreMany : IsExtraName files refused → IsUnjoined limits files refused
  FilesAreOver : extra_in [] 1 files ≡ None → IsOverAt limits (joint_of files) files refused → IsUnjoined limits files refused

-- what can be asked: there is a file, and all automata are over the joint names
pub record IsWhole (set : JoinedSet) : Type 0 where
  pub some : 0 < length set.autos.items
  pub widths : All (λ auto. auto.arena.slots ≡ length set.joint) set.autos.items
