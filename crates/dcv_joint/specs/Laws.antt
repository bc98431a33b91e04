-- The laws that `src/laws.rt` proves.
use Rattle.std.specs.Prelude.{◌≡◌, ◌≢◌, ◌↔◌, ℕ, ◌≤◌, List, [], ◌∷◌, ◌++◌, length, map, None}
use Rattle.std.specs.List.{All, AllPairs}
use Rattle.dcv_core.specs.Core.{CoreTree}
use Rattle.dcv_core.specs.Holds.{words_of}
use Rattle.dcv_core.specs.Slots.{CoreIsBelow, OpIsBelow}
use Rattle.dcv_core.specs.Steps.{CoreStep, without_core, steps_of}
use Rattle.dcv_joint.specs.Faults.{too_many_at}
use Rattle.dcv_joint.specs.Moved.{moved_core}
use Rattle.dcv_joint.specs.Names.{with_new, joint_names, HasAll, restricted, over}
use Rattle.dcv_language.specs.Language.{HaveSameBehaviours}
use Rattle.dcv_logic.specs.Models.{models}
use Rattle.dcv_scope.specs.CoreOf.{core_of_file}
use Rattle.dcv_scope.specs.Faults.{fault_of_file}
use Rattle.dcv_scope.specs.Names.{texts}
use Rattle.dcv_syntax.specs.Plain.{PlainFile}
use Rattle.dcv_syntax.specs.declared.names.Name.{Name}
use Rattle.dcv_word.specs.Behaviour.{Word, IsBehaviour}

-- ---- cores over the joint names

-- a moved core holds on a behaviour over the joint names exactly where the core holds on what that is on the own names
abbrev pub MovedMeansRestricted : Type 0
MovedMeansRestricted = (joint own : List (List ℕ)) (tree : CoreTree) (word : Word) → HasAll joint own → CoreIsBelow (length own) tree
    → IsBehaviour (length joint) word → words_of (moved_core joint own tree) word ≡ words_of tree (restricted joint own word)

-- the behaviours of a file's moved core are those over the joint names that model the file on its own
abbrev pub FileMeansOver : Type 0
FileMeansOver = (joint : List (List ℕ)) (file : PlainFile) → HasAll joint (texts file.variables) → fault_of_file file ≡ None
    → HaveSameBehaviours (length joint) (words_of (moved_core joint (texts file.variables) (core_of_file file))) (over joint (texts file.variables) (models file))

-- the steps of a file's core name slots in use alone
abbrev pub StepsAreInUse : Type 0
StepsAreInUse = (file : PlainFile) → fault_of_file file ≡ None
    → All (λ (step : CoreStep). OpIsBelow step.slots step.op) (map without_core (steps_of (length file.variables) (core_of_file file)))

-- ---- lists of names

-- no name is one too many exactly where the list with all has no more than the most
abbrev pub NamesFit : Type 0
NamesFit = (most : ℕ) (names : List (List ℕ)) (more : List Name) → length names ≤ most
    → (too_many_at most names more ≡ None) ↔ (length (with_new names (texts more)) ≤ most)

-- the joint list has each name once
abbrev pub JointNamesDiffer : Type 0
JointNamesDiffer = (lists : List (List (List ℕ))) → AllPairs ◌≢◌ (joint_names lists)

-- it has the names of each list
abbrev pub JointHasEach : Type 0
JointHasEach = (before after : List (List (List ℕ))) (own : List (List ℕ)) → HasAll (joint_names (before ++ own ∷ after)) own

-- that of one list is the list
abbrev pub JointOfOne : Type 0
JointOfOne = (names : List (List ℕ)) → AllPairs ◌≢◌ names → joint_names (names ∷ []) ≡ names

-- ---- words over them

abbrev pub RestrictedIsBehaviour : Type 0
RestrictedIsBehaviour = (joint own : List (List ℕ)) (word : Word) → IsBehaviour (length joint) word → IsBehaviour (length own) (restricted joint own word)

-- on all of its names a behaviour is itself
abbrev pub RestrictedToAll : Type 0
RestrictedToAll = (names : List (List ℕ)) (word : Word) → AllPairs ◌≢◌ names → IsBehaviour (length names) word → restricted names names word ≡ word

-- what a word is on some names, on fewer of these, it is on these at once
abbrev pub RestrictedInTurn : Type 0
RestrictedInTurn = (outer joint own : List (List ℕ)) (word : Word) → HasAll joint own → restricted joint own (restricted outer joint word) ≡ restricted outer own word

-- each behaviour over the own names is what one over the joint names is on these
abbrev pub EachIsRestricted : Type 0
EachIsRestricted = (joint own : List (List ℕ)) (word : Word) → AllPairs ◌≢◌ own → HasAll joint own → IsBehaviour (length own) word
    → (wider : Word) × IsBehaviour (length joint) wider × (restricted joint own wider ≡ word)
