use Rattle.dcv_cli.proofs.Common.{take, flat_map, Puts, move_line}
use Rattle.dcv_cli.proofs.synth.put_moves.Given as goal

-- the lines of the moves so far are put
abbrev pub invariant-loop-one : goal.invariant-loop-one
invariant-loop-one g l = Puts (g.T.Target.standing l.fn.target) (g.T.Target.standing l.target) (flat_map move_line (take l.one-index l.moves))
