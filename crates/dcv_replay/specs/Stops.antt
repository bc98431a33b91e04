-- The faults of a trace among all faults of a replay.
use Rattle.dcv_replay.specs.declared.fault.ReplayFault.{ReplayFault}
use Rattle.dcv_replay.specs.declared.fault.ReplayFault.TheVariants as fault
use Rattle.dcv_replay.specs.declared.fault.Stop.{Stop}
use Rattle.dcv_replay.specs.declared.fault.Stop.TheVariants.{Read, Line, TooLong, Empty}

abbrev pub fault_of : Stop → ReplayFault
fault_of Read = fault.Read
fault_of (Line line) = fault.Line line
fault_of TooLong = fault.TooLong
fault_of Empty = fault.Empty
