use Rattle.dcv_certify.specs.Built.{AreRefsOf}
use Rattle.dcv_certify.proofs.built.refs_of.Given as goal

-- of the nodes before this place
abbrev pub invariant-loop-node : goal.invariant-loop-node
invariant-loop-node l = AreRefsOf l.slots l.nodes l.node-index l.arena l.refs.items
