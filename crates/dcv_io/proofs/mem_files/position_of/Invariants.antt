use Rattle.std.proofs.Common.{◌≡◌, drop}
use Rattle.dcv_io.specs.FilesState.{held_under}
use Rattle.dcv_io.specs.HeldFile.{pairs_of}
use Rattle.dcv_io.proofs.mem_files.position_of.Given as goal

-- none of the files so far has the name
abbrev pub invariant-loop-index : goal.invariant-loop-index
invariant-loop-index l = held_under (pairs_of (drop l.index l.files)) l.name ≡ held_under (pairs_of l.files) l.name
