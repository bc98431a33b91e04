mod Answering
mod ControlBounds
mod Controlled
mod Controls
mod Descents
mod Examples
mod Forced
mod Keeping
mod LeastLines
mod LeastMoves
mod LeastOutputs
pub mod Listed
mod Losing
mod Merges
mod NodeNames
mod OneAnswer
mod OneRound
mod OneUnit
mod RankEnds
pub mod Ranking
mod Rounds
mod RowRanks
mod SameJoins
mod SameSets
mod SameSteps
pub mod Tracks
mod Unbeaten
mod UnitForms
mod UnitLines
mod UnitMade
pub mod UnitOf
mod UnitRules
mod UnitRuns
mod UnitSteps
mod Winners
mod Won
