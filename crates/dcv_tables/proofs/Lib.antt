pub mod BelowFacts
mod ParityFacts
mod RowFacts
mod SpelledFacts
mod TableFacts
mod PlainNames
