-- what they cite of other crates
pub mod Common
-- what is right: the definitions that the clauses of `run` and the laws cite, in reading order
pub mod Request
pub mod Status
pub mod Refusal
pub mod Outcome
pub mod Outside
pub mod Held
pub mod FormulaFile
pub mod Budget
pub mod Automaton
pub mod Report
pub mod AutomatonFile
pub mod Certificate
pub mod Conversion
pub mod Comparison
pub mod Stuck
pub mod ObserverFile
pub mod Replayed
pub mod Synthesis
pub mod Swept
pub mod FileSet
pub mod Right
pub mod Headline
pub mod Ending
pub mod Promise
pub mod Laws
-- what clauses within the crate cite
pub mod Performed
pub mod ReadFile
pub mod Synthesised
pub mod FaultWords
pub mod Replaying
pub mod Joined
pub mod SetAnswers
