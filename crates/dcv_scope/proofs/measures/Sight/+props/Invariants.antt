use Rattle.std.proofs.Common.{◌≡◌, map, drop}
use Rattle.dcv_syntax.specs.declared.propositions.Prop.{Prop}
use Rattle.dcv_syntax.specs.declared.propositions.PropOperand.{PropOperand}
use Rattle.dcv_syntax.specs.Views.{plain_prop_kind}
use Rattle.dcv_scope.specs.Measures.{nothing}
use Rattle.dcv_scope.specs.Linear.{capped_macro}
use Rattle.dcv_scope.specs.Walk.{constant, linear_of_prop, linear_in_sight, linear_with_all, linear_at, all_in_turn}
use Rattle.dcv_scope.proofs.measures.Sight.+props.Given as goal

-- what is made and what is left measure the whole
abbrev pub invariant-prop_operands-loop-operand : goal.invariant-prop_operands-loop-operand
invariant-prop_operands-loop-operand l =
    let each = λ (o : PropOperand). linear_of_prop (linear_in_sight l.self) (plain_prop_kind o.prop.kind) in
    (l.all.value ≡ capped_macro l.all.value)
    × (capped_macro (all_in_turn each l.all.value (drop l.operand-index l.operands)) ≡ capped_macro (all_in_turn each (constant nothing) l.operands))

abbrev pub invariant-expanded-loop-place : goal.invariant-expanded-loop-place
invariant-expanded-loop-place l =
    let arguments = map (λ (p : Prop). linear_of_prop (linear_in_sight l.self) (plain_prop_kind p.kind)) l.arguments in
    (l.whole.value ≡ capped_macro l.whole.value)
    × (capped_macro (linear_with_all l.whole.value (drop l.place l.called.shares) (drop l.place arguments)) ≡ capped_macro (linear_at l.called arguments))
