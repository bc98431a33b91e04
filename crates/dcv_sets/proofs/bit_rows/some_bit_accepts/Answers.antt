use Rattle.std.proofs.Common.{◌<◌, ◌∙◌, sym}
use Rattle.dcv_sets.proofs.SetBits.{state_has, some_state}
use Rattle.dcv_sets.proofs.bit_rows.some_bit_accepts.Goals as goal

pub accepting-requires : goal.accepting-requires
accepting-requires g c =
    state_has (λ state. state < g.T.Table.states c.args.table.now) c.args.words.now c.loop-state.state c.loop-state-test.true (sym c.has_bit.ensures ∙ c.if-has_bit.true) c.requires.states

pub returns-then-accepting : goal.returns-then-accepting
returns-then-accepting g c =
    sym (some_state (g.T.Table.automaton c.args.table.now).accepting c.args.words.now c.loop-state.state c.loop-state-test.true (sym c.has_bit.ensures ∙ c.if-has_bit.true)
    (sym c.accepting.ensures ∙ c.if-accepting.true))
