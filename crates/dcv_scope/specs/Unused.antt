-- Functions that pass over an argument.
--     PassesOver  a function of lists does not depend on the member at a place
use Rattle.std.specs.Prelude.{◌≡◌, ℕ, List, ◌∷◌, ◌++◌, length}

abbrev pub PassesOver : {X Y : Type 0} → ℕ → (List X → Y) → Type 0
PassesOver {X} {Y} j f =
    (before : List X) → length before ≡ j → (one other : X) (after : List X) → f (before ++ one ∷ after) ≡ f (before ++ other ∷ after)
