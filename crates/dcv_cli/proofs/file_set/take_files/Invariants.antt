use Rattle.dcv_cli.proofs.Common.{take, map}
use Rattle.dcv_cli.specs.Joined.{TakesAll}
use Rattle.dcv_cli.specs.Outside.{of_files}
use Rattle.dcv_cli.proofs.file_set.take_files.Given as goal

-- the files before this one were taken
abbrev pub invariant-loop-name : goal.invariant-loop-name
invariant-loop-name g l =
    TakesAll (map (λ name. name.now) (take l.name-index l.names)) l.taken.items (of_files g.F.Files l.fn.files) (of_files g.F.Files l.files)
