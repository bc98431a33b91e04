use Rattle.std.proofs.Common.{◌≡◌, drop}
use Rattle.dcv_syntax.specs.declared.propositions.Prop.{Prop}
use Rattle.dcv_syntax.specs.declared.propositions.PropOperand.{PropOperand}
use Rattle.dcv_syntax.specs.Views.{plain_prop_kind}
use Rattle.dcv_scope.specs.Names.{occurrences_in_prop, first_fault}
use Rattle.dcv_scope.specs.Sights.{in_sight_of, first_of}
use Rattle.dcv_scope.proofs.naming.Sight.+names.Given as goal

-- In each loop what is left has the first fault of the whole.
abbrev pub invariant-arguments-loop-argument : goal.invariant-arguments-loop-argument
invariant-arguments-loop-argument l =
    let fault = λ (p : Prop). first_fault (occurrences_in_prop (in_sight_of l.self) (plain_prop_kind p.kind)) in
    first_of fault (drop l.argument-index l.arguments) ≡ first_of fault l.arguments

abbrev pub invariant-prop_operands-loop-operand : goal.invariant-prop_operands-loop-operand
invariant-prop_operands-loop-operand l =
    let fault = λ (o : PropOperand). first_fault (occurrences_in_prop (in_sight_of l.self) (plain_prop_kind o.prop.kind)) in
    first_of fault (drop l.operand-index l.operands) ≡ first_of fault l.operands
