-- Where words stand in a text.
--     is_separator b               a space or a line feed, of which one stands after each word
--     start_of_word text number    the offset at which the word with this number begins, counted from 0
use Rattle.std.specs.Prelude.{ℕ, ◌+◌, ◌-◌, Bool, ◌||◌, ◌==◌, if◌then◌else◌, List, [], ◌∷◌}

abbrev pub is_separator : ℕ → Bool
is_separator b = b == 32 || b == 10

abbrev pub start_of_word : List ℕ → ℕ → ℕ
start_of_word [] number = 0
start_of_word (b ∷ text) number = if number == 0 then 0 else 1 + start_of_word text (if is_separator b then number - 1 else number)
