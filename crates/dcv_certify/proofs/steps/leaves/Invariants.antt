use Rattle.std.proofs.Common.{◌≡◌, take, length}
use Rattle.dcv_automaton_read.specs.Walk.{leaves_of}
use Rattle.dcv_certify.proofs.steps.leaves.Given as goal

-- the states of the nodes before this place
abbrev pub invariant-loop-place : goal.invariant-loop-place
invariant-loop-place l = (length l.leaves.items ≡ length l.nodes) × (take l.place l.leaves.items ≡ leaves_of l.letter (take l.place l.nodes))
