use Rattle.std.proofs.Common.{◌≡◌, length, sym, subst, rules, arith}
use Rattle.std.specs.Prelude.{IfSome}
use Rattle.dcv_syntax.specs.declared.propositions.PropKind.{PropKind}
use Rattle.dcv_syntax.specs.Views.{plain_prop_kind}
use Rattle.dcv_scope.specs.Expansions.{IsParameter}
use Rattle.dcv_scope.proofs.Relays.{is_parameter}
use Rattle.dcv_scope.proofs.expansion.relays.parameter_at.Goals as goal

pub returns : goal.returns
returns c =
    let none : length c.in-Call.arguments.items ≡ 0 = grind (arith, rules) in
    let of_call = is_parameter c.args.parameters.now c.in-Call.name c.in-Call.arguments none c.place_of.result c.place_of.ensures in
    subst (λ (kind : PropKind). IfSome c.place_of.result (IsParameter c.args.parameters.now (plain_prop_kind kind))) (sym c.in-Call.is) of_call
