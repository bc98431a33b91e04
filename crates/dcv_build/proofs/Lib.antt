mod Answered
mod AtSteps
mod Ends
mod CountLaws
mod FaultFacts
mod Insertions
mod Moves
mod Negation
mod Operands
mod OverLaws
mod PostOrder
pub mod Progress
mod Recalled
pub mod SameRows
pub mod SameVerdicts
mod Settled
mod ShelfTables
mod StepMachines
mod Turning
mod Waiting
mod ProductBounds
mod ProductNodes
mod RowParts
mod SlotNodes
mod AllPairs
