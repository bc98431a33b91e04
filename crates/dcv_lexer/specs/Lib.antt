-- what public clauses cite: what a language is written with, and how a text is cut into tokens
pub mod Lexicon
pub mod Cuts
pub mod Decimal
pub mod Reading
pub mod Fronts
