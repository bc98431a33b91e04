use Rattle.std.proofs.Common.{sym, ◌∙◌}
use Rattle.dcv_scope.proofs.Relays.{free_name, relay_stands}
use Rattle.dcv_scope.proofs.expansion.Sight.relay.Goals as goal

pub returns : goal.returns
returns c =
    let free = free_name c.meaning.result _ (sym c.is_some.ensures ∙ c.if-is_some.false) c.meaning.ensures in
    relay_stands c.args.self.now c.args.name.now c.in-Some.last.now c.in-Some.before.now free c.in-Some.ensures c.requires.relays c.relay_at.result
    c.relay_at.ensures
