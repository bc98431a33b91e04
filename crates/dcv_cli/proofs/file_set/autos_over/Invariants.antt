use Rattle.dcv_cli.proofs.Common.{List, PlainFile, take, ◌≡◌}
use Rattle.dcv_cli.specs.FileSet.{joint_of}
use Rattle.dcv_cli.specs.Joined.{AreAutosOver, AreRead}
use Rattle.dcv_cli.proofs.file_set.autos_over.Given as goal

-- the automata of the files before this one are made
abbrev pub invariant-loop-place : goal.invariant-loop-place
invariant-loop-place l = (files : List PlainFile) → AreRead files l.formulas → l.fn.joint ≡ joint_of files
    → AreAutosOver l.fn.limits l.fn.joint (take l.place files) l.autos.items
