-- The names by which files were asked for, in order, where they are told.
use Rattle.std.specs.Prelude.{◌≡◌, ℕ, List, ◌++◌, take, Option, IfSome, IsSomeAnd}

-- Where the names are told afterwards, they were told before, and these came to their end. So an object may go silent,
-- and invents no names.
abbrev pub Asks : List (List ℕ) → Option (List (List ℕ)) → Option (List (List ℕ)) → Type 0
Asks names old new = IfSome new (λ after. IsSomeAnd old (λ before. after ≡ before ++ names))

-- the same for some of these names, from their front, and no others
abbrev pub AsksPrefix : List (List ℕ) → Option (List (List ℕ)) → Option (List (List ℕ)) → Type 0
AsksPrefix names old new = (n : ℕ) × Asks (take n names) old new
