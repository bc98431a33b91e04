-- Rows: a number for each letter, in the letters' order.
--     IsRow slots bound numbers         so many numbers as there are letters of these slots, each below the bound
--     HasRow arena slot numbers root    whatever the slots before this one have, the ref has these numbers at the letters of the slots from it on
use Rattle.std.specs.Prelude.{◌≡◌, ℕ, ◌-◌, ◌^◌, ◌<◌, Bool, List, ◌++◌, length, map}
use Rattle.std.specs.List.{All}
use Rattle.dcv_word.specs.Letter.{letters_of_width}
use Rattle.dcv_arena.specs.Arena.{ArenaValue, value_of}
use Rattle.dcv_arena.specs.declared.nodes.Ref.{Ref}

abbrev pub IsRow : ℕ → ℕ → List ℕ → Type 0
IsRow slots bound numbers = (length numbers ≡ 2 ^ slots) × All (λ number. number < bound) numbers

abbrev pub HasRow : ArenaValue → ℕ → List ℕ → Ref → Type 0
HasRow arena slot numbers root = (front : List Bool) → length front ≡ slot
    → map (λ values. value_of arena root (front ++ values)) (letters_of_width (arena.slots - slot)) ≡ numbers
