-- The budget of a formula file: the steps of its goal's core, and the first that is over the limits.
--     steps_of_file file              the steps, in post-order
--     kind_of, limit_of               what there is too much of, and how much there may be
--     IsFirstOver limits file over    this step is the first over the limits, with what it has too much of and where its text begins
--     NamesFirstOver steps limits r   the refusal names the first of these steps that is over the limits, or memory ran out
--     IsAtSomeStep core fault         a fault of the builder is at a step of the core
--     IsBudgeted limits which Right ..
--                                     the outcome names the first step over the limits, or there is none and it is right otherwise
use Rattle.std.specs.Prelude.{◌≡◌, ℕ, ◌<◌, List, Some, length, slice_get}
use Rattle.dcv_cli.specs.Common.{PlainFile, Limits, IsOver, IsWithinBudget, Excess, States, Nodes, Over}
use Rattle.dcv_cli.specs.Common.{Refusal, Budget, Which}
use Rattle.std.specs.Option.{option_map}
use Rattle.dcv_scope.specs.CoreOf.{core_of_file}
use Rattle.dcv_core.specs.Steps.{PlainStep, PlainCore, steps_of}
use Rattle.dcv_explore.specs.Budget.{Kind, TooManyStates, TooManyNodes}
use Rattle.dcv_build.specs.declared.faults.BuildFault.{BuildFault}
use Rattle.dcv_build.specs.declared.faults.BuildFault.TheVariants.{States as OverStates, Nodes as OverNodes, Memory as NoMemory}
use Rattle.dcv_cli.specs.declared.refusal.Refusal.TheVariants.{Memory}
use Rattle.dcv_cli.specs.Outcome.{Outcome, refused}

abbrev pub steps_of_file : PlainFile → List PlainStep
steps_of_file file = steps_of (length file.variables) (core_of_file file)

abbrev pub kind_of : Excess → Kind
kind_of States = TooManyStates
kind_of Nodes = TooManyNodes

abbrev pub limit_of : Excess → Limits → ℕ
limit_of States limits = limits.states
limit_of Nodes limits = limits.nodes

-- of any steps
pub record IsFirstOverIn (steps : List PlainStep) (limits : Limits) (over : Over) : Type 0 where
  pub is_over : IsOver steps limits (kind_of over.excess) over.step
  pub limit : over.limit ≡ limit_of over.excess limits
  pub begins : option_map (λ step. step.span.start) (slice_get steps over.step) ≡ Some over.at

abbrev pub IsFirstOver : Limits → PlainFile → Over → Type 0
IsFirstOver limits file over = IsFirstOverIn (steps_of_file file) limits over

abbrev pub NamesFirstOver : List PlainStep → Limits → Refusal → Type 0
NamesFirstOver steps limits (Budget over) = IsFirstOverIn steps limits over
NamesFirstOver steps limits Memory = Unit {0}
NamesFirstOver steps limits _ = ⊥

abbrev pub IsAtSomeStep : PlainCore → BuildFault → Type 0
IsAtSomeStep core (OverStates step limit) = step < length core.steps
IsAtSomeStep core (OverNodes step limit) = step < length core.steps
IsAtSomeStep core NoMemory = Unit {0}

-- Some step is over the limits, and the first such step is named, of this file of the request; or none is, and the outcome is right for the file in another way, `RightFor`.
pub data IsBudgeted (limits : Limits) (which : Which) (RightFor : PlainFile → Outcome → Type 0) (file : PlainFile) (outcome : Outcome) : Type 0 where
  OverBudget : (over : Over) → IsFirstOver limits file over → outcome ≡ refused (Budget over) which → IsBudgeted limits which RightFor file outcome
  WithinBudget : IsWithinBudget (steps_of_file file) limits → RightFor file outcome → IsBudgeted limits which RightFor file outcome
