-- What is told of names, a row for each, in their order.
--     AreRows Is place names rows      the rows of these names, of which the first has this place: each row is the one of its name
--     changed change place rows        the row at a place is changed
use Rattle.std.specs.Prelude.{ℕ, zero, suc, ◌+◌, List, [], ◌∷◌}
use Rattle.dcv_observer.specs.Conditions.{Names}

abbrev pub AreRows : {Row : Type 0} → (ℕ → List ℕ → Row → Type 0) → ℕ → Names → List Row → Type 0
AreRows Is place [] [] = Unit {0}
AreRows Is place [] (row ∷ rows) = ⊥
AreRows Is place (name ∷ names) [] = ⊥
AreRows Is place (name ∷ names) (row ∷ rows) = Is place name row × AreRows Is (place + 1) names rows

abbrev pub changed : {Row : Type 0} → (Row → Row) → ℕ → List Row → List Row
changed change place [] = []
changed change zero (row ∷ rows) = change row ∷ rows
changed change (suc place) (row ∷ rows) = row ∷ changed change place rows
