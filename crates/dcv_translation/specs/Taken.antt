-- Of which kind the next part of a body is, and what is left once it is taken.
--     Begins Is parts                    the next part is of this kind
--     EndsOrBegins Is parts              it is, if any part is left
--     Takes part result before after     the part that was taken, if any was left
use Rattle.std.specs.Prelude.{◌≡◌, List, [], ◌∷◌, Option, Some, None}

abbrev pub Begins : {Part : Type 0} → (Part → Type 0) → List Part → Type 0
Begins Is [] = ⊥
Begins Is (part ∷ parts) = Is part

abbrev pub EndsOrBegins : {Part : Type 0} → (Part → Type 0) → List Part → Type 0
EndsOrBegins Is [] = Unit {0}
EndsOrBegins Is (part ∷ parts) = Is part

abbrev pub Takes : {A Part : Type 0} → (A → Part) → Option A → List Part → List Part → Type 0
Takes part None before after = before ≡ []
Takes part (Some x) before after = before ≡ part x ∷ after
