pub mod SomeSpellings
pub mod MergedRows
pub mod SomeBudgets
pub mod SomeVectors
pub mod SomeRows
pub mod SomeControls
pub mod SomeWinners
pub mod SomeSyntheses
