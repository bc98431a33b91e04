pub mod ListExample
