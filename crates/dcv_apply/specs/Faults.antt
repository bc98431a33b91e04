-- What the faults of a merge and of an arena are to an operation.
use Rattle.dcv_arena.specs.declared.faults.ArenaFault.{ArenaFault}
use Rattle.dcv_arena.specs.declared.faults.ArenaFault.TheVariants as arena
use Rattle.dcv_apply.specs.declared.faults.MergeFault.{MergeFault}
use Rattle.dcv_apply.specs.declared.faults.MergeFault.TheVariants as merge
use Rattle.dcv_apply.specs.declared.faults.ApplyFault.{ApplyFault}
use Rattle.dcv_apply.specs.declared.faults.ApplyFault.TheVariants.{Full, States, Memory}

abbrev pub fault_of_merge : MergeFault → ApplyFault
fault_of_merge (merge.States limit) = States limit
fault_of_merge merge.Memory = Memory

abbrev pub fault_of_arena : ArenaFault → ApplyFault
fault_of_arena (arena.Full limit) = Full limit
fault_of_arena arena.Memory = Memory
