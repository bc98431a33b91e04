pub mod NamesRead
pub mod SpansRead
pub mod StepSpans
pub mod NamesInOrder
