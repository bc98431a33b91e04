use Rattle.std.proofs.Common.{◌++◌, List, ap, subst, ◌∙◌}
use Rattle.std.specs.Prelude.{IfSome}
use Rattle.dcv_syntax.specs.declared.names.Name.{Name}
use Rattle.dcv_syntax.specs.Views.{plain_prop_kind, plain_body}
use Rattle.dcv_scope.specs.CoreOf.{declared_slots}
use Rattle.dcv_scope.specs.Expansions.{parameter_slots, IsParameter}
use Rattle.dcv_scope.proofs.Relays.{relay_defined}
use Rattle.dcv_scope.proofs.expansion.relays.relay_of.Goals as goal

pub returns : goal.returns
returns c =
    let variables = c.args.variables.now in
    let left = plain_prop_kind c.behind-behind.result.now.kind in
    let names = c.in_ok-with_parameters.ensures
    ∙ ap (λ (parameters : List Name). parameter_slots parameters ++ declared_slots 0 variables) c.deref.ensures.value in
    let parameter = subst (λ (parameters : List Name). IfSome c.parameter_at-relay.result (IsParameter parameters left)) c.deref-2.ensures.value
    c.parameter_at-relay.ensures in
    relay_defined c.in_ok-with_parameters.field-0.items variables c.args.macros.now c.args.defined.now c.in-Prop.body left names
    (ap plain_body c.in-Prop.is) c.behind-behind.ensures.alike
    c.parameter_at-relay.result parameter
