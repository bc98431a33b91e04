-- What the functions that write an automaton's text add to it.
--     spaced words              the words, each after a space
--     spelled_lines words ..    the lines of what is listed, each with its place as its number
use Rattle.std.specs.Prelude.{ℕ, List, ◌∷◌}
use Rattle.std.specs.List.{enumerate_from, flat_map}
use Rattle.std.specs.Str.{byte}
use Rattle.dcv_automaton_text.specs.Spelled.{spelled_line}

abbrev pub spaced : List (List ℕ) → List ℕ
spaced words = flat_map (λ word. byte " " ∷ word) words

abbrev pub spelled_lines : {Line : Type 0} → (ℕ × Line → List (List ℕ)) → List Line → List ℕ
spelled_lines words lines = flat_map (λ numbered. spelled_line (words numbered)) (enumerate_from 0 lines)
