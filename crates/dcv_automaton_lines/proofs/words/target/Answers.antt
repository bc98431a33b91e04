use Rattle.std.proofs.Common.{inl, inr}
use Rattle.dcv_automaton_lines.proofs.Pieces.{stuck_after}
use Rattle.dcv_automaton_lines.proofs.WordSets.{target_away, some_target, leads_state, leads_target_node, first_stuck, begins_by, begins_otherwise, passes}
use Rattle.dcv_automaton_lines.proofs.words.target.Goals as goal

pub returns-in_err-state-clause-fault : goal.returns-in_err-state-clause-fault
returns-in_err-state-clause-fault c =
    passes _ _ _ c.in_err-state.field-0.0 c.from_residual.ensures.1
    (stuck_after (leads_state c.args.end) (begins_by 116 c.args.text.now (c.begins_with.ensures.0 c.if-begins_with.true)) c.in_err-state.ensures.fault)

pub returns-in_err-node-clause-fault : goal.returns-in_err-node-clause-fault
returns-in_err-node-clause-fault c =
    passes _ _ _ c.in_err-node.field-0.0 c.from_residual-in_err-node.ensures.1
    (stuck_after (leads_target_node c.args.end) (begins_by 110 c.args.text.now (c.begins_with-2.ensures.0 c.if-begins_with-2.true)) c.in_err-node.ensures.fault)

pub returns-clause-fault : goal.returns-clause-fault
returns-clause-fault c =
    first_stuck _ c.args.text.now _ (some_target c.args.end) (target_away c.args.end c.args.text.now (λ b more is first. elim first [
      | inl state ↦ begins_otherwise 116 c.args.text.now c.begins_with.ensures.1 c.if-begins_with.false b more is state
      | inr node ↦ begins_otherwise 110 c.args.text.now c.begins_with-2.ensures.1 c.if-begins_with-2.false b more is node
    ]))
