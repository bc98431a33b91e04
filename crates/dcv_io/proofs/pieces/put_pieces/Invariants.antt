use Rattle.std.proofs.Common.{take}
use Rattle.std.specs.List.{flat_map}
use Rattle.dcv_io.specs.Putting.{Puts}
use Rattle.dcv_io.proofs.pieces.put_pieces.Given as goal

abbrev pub invariant-loop-piece : goal.invariant-loop-piece
invariant-loop-piece g l = Puts (g.T.Target.standing l.fn.target) (g.T.Target.standing l.target) (flat_map (λ piece. piece.now) (take l.piece-index l.pieces))
