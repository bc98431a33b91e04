use Rattle.std.proofs.Common.{◌≡◌, ◌++◌, length}
use Rattle.std.specs.List.{All}
use Rattle.dcv_replay.specs.Selecting.{most_names}
use Rattle.dcv_replay.specs.OfNode.{arms_selects, IsPlacedArm}
use Rattle.dcv_replay.proofs.of_node.push_arms.Given as goal

-- the selections so far, and those of the arms that are left, are those of all
abbrev pub invariant-loop-last : goal.invariant-loop-last
invariant-loop-last l = record {
  placed : All (IsPlacedArm most_names) l.rest;
  selected : l.selects.items ++ arms_selects l.target l.rest ≡ l.fn.selects.items ++ arms_selects l.target l.arms;
}

abbrev pub decreases-loop-last : goal.decreases-loop-last
decreases-loop-last l = length l.rest
