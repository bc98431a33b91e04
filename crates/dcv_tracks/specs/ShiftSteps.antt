-- What the code does with the steps of a goal.
--     step_truth                 the proposition in a step
--     with_steps                 a core with other steps
--     placed_op, placed_step     slots in place of the shifts of a step, over the slots of the core
--     closed_step, closed_steps  the steps that close one shift, and those from a slot on
use Rattle.std.specs.Prelude.{ℕ, suc, ◌+◌, ◌-◌, List, [], ◌∷◌, ◌++◌, length, Option, None}
use Rattle.dcv_syntax.specs.declared.propositions.Connective.TheVariants.{And}
use Rattle.dcv_core.specs.Core.{PlainTruth, truth_in}
use Rattle.dcv_core.specs.Steps.{PlainOp, OpAtom, OpJoined, OpExists, CoreStep, PlainCore}
use Rattle.dcv_tracks.specs.Shifting.{Shift, placed_basic, shift_basic}

-- the proposition in a step
abbrev pub step_truth : PlainOp → Option PlainTruth
step_truth (OpAtom basic) = truth_in basic
step_truth op = None

-- the core with other steps
abbrev pub with_steps : PlainCore → List CoreStep → PlainCore
with_steps core steps = record core { steps = steps }

-- ---- slots in place of shifts

abbrev pub placed_op : ℕ → List Shift → PlainOp → PlainOp
placed_op k all (OpAtom basic) = OpAtom (placed_basic k all basic)
placed_op k all op = op

abbrev pub placed_step : ℕ → List Shift → CoreStep → CoreStep
placed_step k all step = record { op = placed_op k all step.op; span = step.span; slots = step.slots + length all }

-- ---- a track for each slot

-- after these steps, the last of which is that of the whole: the track, both, and that there is one
abbrev pub closed_step : ℕ → List Shift → ℕ → Shift → List CoreStep → List CoreStep
closed_step k all slot shift steps =
    steps
    ++ record { op = OpAtom (shift_basic k all shift slot); span = shift.span; slots = slot + 1 }
    ∷ record { op = OpJoined And (length steps - 1) (length steps); span = shift.span; slots = slot + 1 }
    ∷ record { op = OpExists (length steps + 1); span = shift.span; slots = slot }
    ∷ []

abbrev pub closed_steps : ℕ → List Shift → ℕ → List Shift → List CoreStep → List CoreStep
closed_steps k all slot [] steps = steps
closed_steps k all slot (shift ∷ shifts) steps = closed_step k all slot shift (closed_steps k all (suc slot) shifts steps)
