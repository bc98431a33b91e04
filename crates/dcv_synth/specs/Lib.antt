-- what public clauses cite: the game, who wins it from the states of an automaton, how both play, and what is answered
pub mod Game
pub mod Tracks
pub mod Winning
pub mod Play
pub mod Moves
pub mod Realisable
pub mod Control
pub mod Outcome
pub mod SameSteps
pub mod Units
pub mod Least
-- the statements that `src/laws.rt` proves
pub mod Laws
-- for proofs alone: what the search goes through
pub mod Forced
pub mod Ranked
pub mod Listing
pub mod Answered
pub mod Merged
pub mod Placing
