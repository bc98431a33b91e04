use Rattle.std.proofs.Common.{◌≡◌, ◌++◌, take}
use Rattle.std.specs.List.{flat_map}
use Rattle.dcv_replay.specs.OfNode.{equation_selects}
use Rattle.dcv_replay.proofs.of_node.push_equations.Given as goal

-- the equations so far have their selections
abbrev pub invariant-loop-equation : goal.invariant-loop-equation
invariant-loop-equation l = l.selects.items ≡ l.fn.selects.items ++ flat_map (equation_selects l.count) (take l.equation-index l.equations)
