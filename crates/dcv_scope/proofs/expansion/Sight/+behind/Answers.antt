use Rattle.std.proofs.Common.{◌<◌, length, sym, subst, arith}
use Rattle.dcv_syntax.specs.declared.propositions.PropKind.{PropKind}
use Rattle.dcv_syntax.specs.Views.{plain_prop_kind}
use Rattle.dcv_scope.specs.Expansions.{sight_of, StandAlike}
use Rattle.dcv_scope.proofs.Relays.{call_stands, alike_in_turn}
use Rattle.dcv_scope.proofs.expansion.Sight.+behind.Goals as goal

pub returns-clause-alike : goal.returns-clause-alike
returns-clause-alike t c =
    let sight = sight_of c.args.self.now in
    let argument = c.index.result.now in
    let within : c.in-Some.place < length c.in-Call.arguments.items = omega (arith, c.if-place-len.false, c.len.ensures) in
    let call = call_stands sight c.in-Call.name c.in-Call.arguments c.in-Some.place argument argument c.in-Some.ensures within c.index.ensures in
    alike_in_turn sight (plain_prop_kind c.behind.result.now.kind) (plain_prop_kind argument.kind) (plain_prop_kind c.args.prop.now.kind)
    c.behind.ensures.alike
    (subst (λ (kind : PropKind). StandAlike sight (plain_prop_kind argument.kind) (plain_prop_kind kind)) (sym c.in-Call.is) call)
