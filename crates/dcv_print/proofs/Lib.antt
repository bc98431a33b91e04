mod LeastWords
mod Observers
mod OneAutomaton
mod PrintedAutomata
mod PrintedFiles
mod PrintedForms
mod PrintedNodes
mod PrintedProofs
mod PrintedWords
mod Reports
mod SameBehaviours
mod Spellings
pub mod SuffixCounts
mod Texts
