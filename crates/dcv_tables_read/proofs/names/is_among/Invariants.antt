use Rattle.std.proofs.Common.{◌≡◌, drop}
use Rattle.dcv_observer.specs.Naming.{is_among}
use Rattle.dcv_tables_read.specs.Judged.{texts_of}
use Rattle.dcv_tables_read.proofs.names.is_among.Given as goal

-- what is left of the names decides
abbrev pub invariant-loop-other : goal.invariant-loop-other
invariant-loop-other l = is_among (texts_of l.names) l.name ≡ is_among (texts_of (drop l.other-index l.names)) l.name
