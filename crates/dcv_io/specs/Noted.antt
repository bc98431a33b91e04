-- What is seen of files whose names are noted.
use Rattle.std.specs.Prelude.{ℕ, List, Option}

-- the files, and the names by which they were asked for, None once memory ran out for one
pub record Noted (F : Type 0) : Type 0 where
  pub files : F
  pub asked : Option (List (List ℕ))
