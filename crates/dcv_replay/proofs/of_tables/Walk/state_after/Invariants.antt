use Rattle.dcv_c_tables.specs.Meaning.{state_by}
use Rattle.dcv_replay.specs.Seen.{seen_walk}
use Rattle.dcv_replay.proofs.TableSteps.{IsOnWay}
use Rattle.dcv_replay.proofs.of_tables.Walk.state_after.Given as goal

abbrev pub invariant-loop-place : goal.invariant-loop-place
invariant-loop-place l = IsOnWay (seen_walk l.self) l.letter (state_by (seen_walk l.self) l.letter l.state) l.place

-- each node leads to an earlier place
abbrev pub decreases-loop-place : goal.decreases-loop-place
decreases-loop-place l = l.place
