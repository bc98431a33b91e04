use Rattle.std.proofs.Common.{◌≡◌, [], drop, fold}
use Rattle.dcv_dfa.specs.NodeLines.{visit}
use Rattle.dcv_dfa.proofs.node_lines.Numbering.of.Given as goal

abbrev pub invariant-loop-row : goal.invariant-loop-row
invariant-loop-row l = record {
  arena : l.numbering.arena.now ≡ l.arena;
  left : fold (visit l.arena) l.numbering.places.keys (drop l.row-index l.rows) ≡ fold (visit l.arena) [] l.rows;
}
