-- What the faults of an arena are to an atom.
use Rattle.dcv_arena.specs.declared.faults.ArenaFault.{ArenaFault}
use Rattle.dcv_arena.specs.declared.faults.ArenaFault.TheVariants as arena
use Rattle.dcv_atoms.specs.declared.faults.AtomFault.{AtomFault}
use Rattle.dcv_atoms.specs.declared.faults.AtomFault.TheVariants.{Nodes, Memory}

abbrev pub fault_of_arena : ArenaFault → AtomFault
fault_of_arena (arena.Full limit) = Nodes limit
fault_of_arena arena.Memory = Memory
