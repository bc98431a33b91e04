-- what public clauses cite: the tree, its meaning, the grammar, the rules of names, the text, and the observer of an automaton
pub mod Tree
pub mod Meaning
pub mod Classes
pub mod Language
pub mod Placed
pub mod Actions
pub mod Rules
pub mod Layout
pub mod Observer
pub mod Faults
pub mod Laws
pub mod Form
pub mod Words
pub mod Seen
