use Rattle.dcv_cli.proofs.Common.{List, PlainFile}
use Rattle.dcv_cli.specs.Joined.{AreRead}
use Rattle.dcv_cli.proofs.JoinedSets.{AreJoining}
use Rattle.dcv_cli.proofs.file_set.joint_of.Given as goal

-- the names of the files before this one are joined
abbrev pub invariant-loop-place : goal.invariant-loop-place
invariant-loop-place l = (files : List PlainFile) → AreRead files l.formulas → AreJoining files l.joint l.place
