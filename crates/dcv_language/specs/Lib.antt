-- What public clauses speak of: sets of words, the least of one, and the verdict.
pub mod Language
pub mod Least
pub mod Verdict
pub mod VerdictText
-- Automata as tables, and what is said of them: clauses of minimiser, words, printer and observers cite these.
pub mod Automaton
pub mod Table
pub mod Apart
pub mod Canonical
pub mod Complement
pub mod Certificate
-- How large an automaton may be.
pub mod Limits
-- Operations on sets, and the rows of the machines that accept them: clauses of the machines and of the budget cite these.
pub mod Atoms
pub mod Operations
pub mod StateSet
pub mod AtomMachines
pub mod OperationMachines
-- Scaffolding: what a search and a minimiser establish inside, and the statements that `src` proves.
pub mod Search
pub mod Folding
pub mod Laws
pub mod MachineLaws
