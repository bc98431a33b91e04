-- Four texts in one, each after a line that names it.
--     all_text verdict automaton node unit      the text
use Rattle.std.specs.Prelude.{ℕ, List, ◌++◌, codes}

abbrev pub all_text : List ℕ → List ℕ → List ℕ → List ℕ → List ℕ
all_text verdict automaton node unit =
    codes "--- verdict\n" ++ (verdict ++ (codes "--- automaton\n" ++ (automaton
    ++ (codes "--- lustre\n" ++ (node ++ (codes "--- c\n" ++ unit))))))
