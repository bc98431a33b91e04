use Rattle.dcv_automaton_lines.specs.Pieces.{Nothing, Followed}
use Rattle.dcv_automaton_lines.specs.Parts.{NumberWord, NodeWord}
use Rattle.dcv_automaton_lines.proofs.Pieces.{stuck_after}
use Rattle.dcv_automaton_lines.proofs.WordSets.{node_away, some_node, leads_node, first_stuck, begins_by, begins_otherwise, carried, left_at}
use Rattle.dcv_automaton_lines.proofs.words.node_number.Goals as goal

pub returns-then-not-begins_with-clause-fault : goal.returns-then-not-begins_with-clause-fault
returns-then-not-begins_with-clause-fault c =
    first_stuck _ c.args.text.now _ (some_node c.args.end)
    (node_away c.args.end c.args.text.now (begins_otherwise 110 c.args.text.now c.begins_with.ensures.1 c.if-not-begins_with.true))

pub returns-clause-fault : goal.returns-clause-fault
returns-clause-fault c =
    carried (Followed NodeWord c.args.end Nothing) (Followed NumberWord c.args.end Nothing) c.args.text.now (left_at c.args.text.now 1) c.number.result
    (λ left. stuck_after (leads_node c.args.end) (begins_by 110 c.args.text.now (c.begins_with.ensures.0 c.if-not-begins_with.false))) c.number.ensures.fault
