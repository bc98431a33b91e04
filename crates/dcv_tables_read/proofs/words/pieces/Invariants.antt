use Rattle.std.proofs.Common.{drop}
use Rattle.std.specs.List.{flat_map}
use Rattle.dcv_tables_read.proofs.Chain.{ReadSoFar}
use Rattle.dcv_tables_read.proofs.words.pieces.Given as goal

abbrev pub invariant-loop-piece : goal.invariant-loop-piece
invariant-loop-piece l = ReadSoFar (flat_map (λ piece. piece.now) l.pieces) l.text (flat_map (λ piece. piece.now) (drop l.piece-index l.pieces)) l.rest
