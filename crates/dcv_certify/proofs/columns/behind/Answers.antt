use Rattle.std.proofs.Common.{◌∙◌, length, map, ap, arith}
use Rattle.std.proofs.lemmas.List.{take_all}
use Rattle.dcv_certify.specs.Split.{bit_at}
use Rattle.dcv_certify.proofs.Bits.{with_last}
use Rattle.dcv_certify.proofs.columns.behind.Goals as goal

pub returns : goal.returns
returns c =
    let next = c.args.next.now in
    let all = take_all c.loop-state.state next (omega (arith, c.loop-state-test.false)) in
    with_last c.loop-state.column.items (map (bit_at c.args.from.now) next) (length next) c.loop-state.state c.index.result.now c.loop-state.invariant.0
    (c.loop-state.invariant.1 ∙ ap (map (bit_at c.args.from.now)) all) (omega (arith, c.loop-state-test.false, c.loop-state.auto.state-end)) c.requires.some c.index.ensures
