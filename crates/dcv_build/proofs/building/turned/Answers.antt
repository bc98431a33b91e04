use Rattle.std.proofs.Common.{sym, subst}
use Rattle.dcv_dfa.specs.Raw.{RawValue}
use Rattle.dcv_shelf.specs.Shelf.{table_of_auto, IsComplement}
use Rattle.dcv_build.proofs.Negation.{is_complement}
use Rattle.dcv_build.proofs.Turning.{turned_goal}
use Rattle.dcv_build.proofs.building.turned.Goals as goal

pub returns : goal.returns
returns c limits was =
    let auto = c.args.auto in
    let own = c.states.ensures in
    let complement = subst (λ (raw : RawValue). IsComplement (table_of_auto auto) (table_of_auto raw)) (sym (c.complement.ensures.complement own.auto)) (is_complement auto own.raw own.auto) in
    turned_goal c.machines_accept_steps.ensures.step c.one_canonical_table.ensures c.args.core.now limits c.args.step c.requires.turn.0 c.states.result c.nodes.result auto c.complement.result
    c.args.counts.now.items c.note.new.counts.items was c.requires.turn.1 complement own.states c.nodes.ensures c.in_ok-note.ensures
