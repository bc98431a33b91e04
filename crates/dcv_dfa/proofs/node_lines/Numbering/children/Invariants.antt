use Rattle.std.proofs.Common.{◌≡◌, map, take}
use Rattle.dcv_dfa.specs.NodeLines.{child_of}
use Rattle.dcv_dfa.proofs.node_lines.Numbering.children.Given as goal

abbrev pub invariant-loop-root : goal.invariant-loop-root
invariant-loop-root l = l.children.items ≡ map (child_of l.self.places.keys) (take l.root-index l.roots)
