use Rattle.std.proofs.Common.{◌≡◌, map, take}
use Rattle.dcv_dfa.specs.NodeLines.{line_of}
use Rattle.dcv_dfa.proofs.node_lines.Numbering.lines.Given as goal

abbrev pub invariant-loop-place : goal.invariant-loop-place
invariant-loop-place l = l.lines.items ≡ map (line_of l.self.arena.now l.self.places.keys) (take l.place-index l.self.places.keys)
