-- Names among others, and those of an observer that is made of an automaton.
--     is_among names name        the name is one of these
--     AreDistinct names          each name stands once
--     state_name, next_name      what an observer calls the state before an instant, and the state after it
--     node_name number           the state to which a node leads
--     variable_name name         the variable with this name
use Rattle.std.specs.Prelude.{◌≡◌, ℕ, Bool, false, List, [], ◌∷◌, ◌++◌, bytes_eq, codes}
use Rattle.std.specs.Fmt.{decimal}
use Rattle.std.specs.List.{list_any}
use Rattle.std.specs.Str.{byte}

abbrev pub is_among : List (List ℕ) → List ℕ → Bool
is_among names name = list_any (bytes_eq name) names

abbrev pub AreDistinct : List (List ℕ) → Type 0
AreDistinct [] = Unit {0}
AreDistinct (name ∷ names) = (is_among names name ≡ false) × AreDistinct names

-- ---- of an observer

abbrev pub state_name : List ℕ
state_name = codes "st"

abbrev pub next_name : List ℕ
next_name = codes "nx"

abbrev pub node_name : ℕ → List ℕ
node_name number = byte "n" ∷ decimal number

abbrev pub variable_name : List ℕ → List ℕ
variable_name name = codes "v_" ++ name
