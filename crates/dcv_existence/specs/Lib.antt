-- the statements that `src` proves
pub mod Laws
