-- The steps of the code as those of `Steps`.
use Rattle.dcv_core.specs.declared.steps.Op.{Op}
use Rattle.dcv_core.specs.declared.steps.Op.TheVariants.{Atom, Not, Joined, Chop, Star, Exists}
use Rattle.dcv_core.specs.declared.steps.Operator.{Operator}
use Rattle.dcv_core.specs.declared.steps.Operator.TheVariants.{Atom as OwnAtom, Not as OwnNot, Joined as OwnJoined, Chop as OwnChop}
use Rattle.dcv_core.specs.declared.steps.Operator.TheVariants.{Star as OwnStar, Exists as OwnExists}
use Rattle.dcv_core.specs.declared.steps.Step.{Step}
use Rattle.dcv_core.specs.Steps.{PlainOp, OpAtom, OpNot, OpJoined, OpChop, OpStar, OpExists, CoreStep}
use Rattle.dcv_core.specs.TruthViews.{plain_basic}

abbrev pub plain_op : Op → PlainOp
plain_op (Atom basic) = OpAtom (plain_basic basic.now)
plain_op (Not operand) = OpNot operand
plain_op (Joined connective first second) = OpJoined connective first second
plain_op (Chop first second) = OpChop first second
plain_op (Star operand) = OpStar operand
plain_op (Exists operand) = OpExists operand

abbrev pub plain_operator : Operator → PlainOp
plain_operator (OwnAtom basic) = OpAtom (plain_basic basic)
plain_operator (OwnNot operand) = OpNot operand
plain_operator (OwnJoined connective first second) = OpJoined connective first second
plain_operator (OwnChop first second) = OpChop first second
plain_operator (OwnStar operand) = OpStar operand
plain_operator (OwnExists operand) = OpExists operand

abbrev pub plain_step : Step → CoreStep
plain_step step = record { op = plain_operator step.operator; span = step.span; slots = step.slots }
