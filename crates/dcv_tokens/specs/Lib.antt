-- what public clauses cite: how a text is cut into tokens, and what a token is
pub mod FixedTexts
pub mod Formulas
pub mod Tokens
pub mod Classes
pub mod Decimal
pub mod Limits
pub mod Reading
