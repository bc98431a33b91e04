-- Some outcome is right for files that are decided together.
--     HaveCores files      each file is without a fault
--     some_of_set          they have a right outcome, whatever is asked of them
use Rattle.dcv_cli.proofs.Common.{◌≡◌, inl, inr, ℕ, suc, ◌<◌, Bool, true, false, List, [], ◌∷◌, ◌++◌, length, map, Option, None, Some, refl, sym, ◌∙◌, arith}
use Rattle.dcv_cli.proofs.Common.{canonical_for_same_behaviours, core_of_file, fault_of_file, append_assoc, words_of, Budget, Formula, IsCanonical, IsWithinBudget}
use Rattle.dcv_cli.proofs.Common.{Language, Limits, MachineAcceptsStep, Outcome, PlainFile, Table, Word, WordLaws, Only, refused}
use Rattle.dcv_command.specs.declared.words.SetQuestion.{SetQuestion}
use Rattle.dcv_command.specs.declared.words.SetQuestion.TheVariants.{Together, Follows}
use Rattle.dcv_existence.proofs.SomeBudgets.{some_budget, table_of_core}
use Rattle.dcv_joint.specs.Laws.{FileMeansOver, JointHasEach}
use Rattle.dcv_joint.specs.Moved.{moved_core}
use Rattle.dcv_joint.specs.Names.{HasAll}
use Rattle.dcv_scope.specs.declared.faults.ScopeFault.TheVariants.{Slots}
use Rattle.dcv_together.specs.Answers.{Answer, TooMany, Least, IsPossible, IsStuckOf, IsFollowingFirst}
use Rattle.dcv_together.specs.Laws.{SomeFollowing, SomePossible, SomeStuckOf}
use Rattle.dcv_together.specs.Tuples.{AreCanonical}
use Rattle.dcv_cli.specs.FileSet.{AreBudgeted, FewFollowing, FewTuples, IsAnswered, IsBudgetedAt, IsDecidedFollowing, IsDecidedTogether, IsOfSet, Joined, ManyNames, OverLimits, OverSlots}
use Rattle.dcv_cli.specs.FileSet.{TooManyFollowing, TooManyTuples, WithinLimits, extra_in, fits_over, following_outcome, joint_of, models_over, own_names, set_outcome, steps_over}
use Rattle.dcv_cli.specs.declared.faults.FormulaFault.TheVariants.{Names, Scope}
use Rattle.dcv_cli.specs.declared.refusal.Refusal.TheVariants.{Tuples}
use Rattle.dcv_cli.specs.declared.refused.Which.TheVariants.{Number}
use Rattle.dcv_cli.proofs.JoinedSets.{has_own}
use Rattle.dcv_cli.proofs.SomeReports.{first_over}

abbrev pub HaveCores : List PlainFile → Type 0
HaveCores [] = Unit {0}
HaveCores (file ∷ files) = (fault_of_file file ≡ None) × HaveCores files

-- ---- what is said of sets

module _ (tuples : ℕ) (names : List (List ℕ)) where
  together_by : (Ls : List Language) (possible stuck : Answer) → IsPossible tuples (length names) Ls possible → IsStuckOf tuples (length names) Ls stuck
      → (outcome : Outcome) × IsDecidedTogether tuples names Ls outcome
  together_by Ls TooMany stuck possible is = (refused (Tuples tuples) Only, TooManyTuples (inl possible) refl)
  together_by Ls (Least example) TooMany possible is = (refused (Tuples tuples) Only, TooManyTuples (inr is) refl)
  together_by Ls (Least example) (Least stuck) possible is = (set_outcome names example stuck, FewTuples example stuck possible is refl)

  follows_by : (Ls : List Language) (answer : Answer) → IsFollowingFirst tuples (length names) Ls answer → (outcome : Outcome) × IsDecidedFollowing tuples names Ls outcome
  follows_by Ls TooMany is = (refused (Tuples tuples) Only, TooManyFollowing is refl)
  follows_by Ls (Least least) is = (following_outcome names least, FewFollowing least is refl)

  module _ (some_possible : SomePossible) (some_stuck : SomeStuckOf) (some_following : SomeFollowing) where
    some_answered : (question : SetQuestion) (first : Language) (others : List Language) (tables : List Table) → AreCanonical (length names) (first ∷ others) tables
        → (outcome : Outcome) × IsAnswered question tuples names (first ∷ others) outcome
    some_answered Together first others tables are =
        let (possible, is) = some_possible tuples (length names) (first ∷ others) tables are in
        let (stuck, stuck_is) = some_stuck tuples (length names) (first ∷ others) tables are in
        together_by (first ∷ others) possible stuck is stuck_is
    some_answered Follows first others tables are =
        let (answer, is) = some_following tuples (length names) first others tables are in
        follows_by (first ∷ others) answer is

-- ---- the files over the joint names

-- each file is without a fault, and its names are among the joint ones
abbrev AreOver : List (List ℕ) → List PlainFile → Type 0
AreOver joint [] = Unit {0}
AreOver joint (file ∷ files) = (fault_of_file file ≡ None) × HasAll joint (own_names file) × AreOver joint files

are_over : JointHasEach → (all before files : List PlainFile) → all ≡ before ++ files → HaveCores files → AreOver (joint_of all) files
are_over each all before [] is cores = tt
are_over each all before (file ∷ files) is cores =
    (cores.0, has_own each all before files file is, are_over each all (before ++ file ∷ []) files (is ∙ sym (append_assoc before (file ∷ []) files)) cores.1)

module _ (laws : WordLaws) (accept : MachineAcceptsStep) (means : FileMeansOver) (limits : Limits) (joint : List (List ℕ)) where
  table_over : (file : PlainFile) → fault_of_file file ≡ None → HasAll joint (own_names file) → IsWithinBudget (steps_over joint file) limits
      → (table : Table) × ((access : List Word) × IsCanonical (length joint) (models_over joint file) table access)
  table_over file none has within =
      let tree = moved_core joint (own_names file) (core_of_file file) in
      let (table, (access, canonical)) = table_of_core (length joint) tree limits within in
      (table, (access, canonical_for_same_behaviours (length joint) (words_of tree) (models_over joint file) table access (means joint file has none) canonical))

  -- the file is refused, or it is right to go on with its table
  some_budgeted_at : (RightFor : Outcome → Type 0) (number : ℕ) (file : PlainFile) → fault_of_file file ≡ None → HasAll joint (own_names file)
      → ((table : Table) → ((access : List Word) × IsCanonical (length joint) (models_over joint file) table access) → (outcome : Outcome) × RightFor outcome)
      → (outcome : Outcome) × IsBudgetedAt limits joint number RightFor file outcome
  some_budgeted_at RightFor number file none has right = by (fits_over joint file) refl
    where
      by : (fits : Bool) → fits_over joint file ≡ fits → (outcome : Outcome) × IsBudgetedAt limits joint number RightFor file outcome
      by false many = (refused (Formula (Scope (Slots file.goal.span.start))) (Number number), OverSlots many refl)
      by true fits = elim (some_budget (length joint) (moved_core joint (own_names file) (core_of_file file)) limits laws accept) [
        | inl within ↦
            let (table, canonical) = table_over file none has within in
            let found = right table canonical in
            (found.0, WithinLimits fits within found.1)
        | inr (kind, (step, is)) ↦
            let (over, first) = first_over limits (steps_over joint file) kind step is in
            (refused (Budget over) (Number number), OverLimits fits over first refl)
      ]

  some_budgets : (RightFor : Outcome → Type 0) (number : ℕ) (files : List PlainFile) → AreOver joint files
      → ((tables : List Table) → AreCanonical (length joint) (map (models_over joint) files) tables → (outcome : Outcome) × RightFor outcome)
      → (outcome : Outcome) × AreBudgeted limits joint number RightFor files outcome
  some_budgets RightFor number [] are right = right [] tt
  some_budgets RightFor number (file ∷ files) (none, has, are) right =
      some_budgeted_at (AreBudgeted limits joint (suc number) RightFor files) number file none has
      (λ table canonical. some_budgets RightFor (suc number) files are (λ tables canonicals. right (table ∷ tables) (canonical, canonicals)))

-- ---- the set

module _ (laws : WordLaws) (accept : MachineAcceptsStep) (means : FileMeansOver) (each : JointHasEach) (some_possible : SomePossible) (some_stuck : SomeStuckOf) (some_following : SomeFollowing) where
  joined : (question : SetQuestion) (limits : Limits) (tuples : ℕ) (files : List PlainFile) → 0 < length files → HaveCores files → extra_in [] 1 files ≡ None
      → (outcome : Outcome) × IsOfSet question limits tuples files outcome
  joined question limits tuples [] some cores none = absurd (omega (arith, some))
  joined question limits tuples (file ∷ files) some cores none =
      let joint = joint_of (file ∷ files) in
      let found = some_budgets laws accept means limits joint (IsAnswered question tuples joint (map (models_over joint) (file ∷ files))) 1 (file ∷ files)
      (are_over each (file ∷ files) [] (file ∷ files) refl cores)
      (λ tables are. some_answered tuples joint some_possible some_stuck some_following question (models_over joint file) (map (models_over joint) files) tables are) in
      (found.0, Joined none found.1)

  pub some_of_set : (question : SetQuestion) (limits : Limits) (tuples : ℕ) (files : List PlainFile) → 0 < length files → HaveCores files
      → (outcome : Outcome) × IsOfSet question limits tuples files outcome
  some_of_set question limits tuples files some cores = by (extra_in [] 1 files) refl
    where
      by : (found : Option (ℕ × ℕ)) → extra_in [] 1 files ≡ found → (outcome : Outcome) × IsOfSet question limits tuples files outcome
      by None none = joined question limits tuples files some cores none
      by (Some (number, at)) is = (refused (Formula (Names at)) (Number number), ManyNames number at is refl)
