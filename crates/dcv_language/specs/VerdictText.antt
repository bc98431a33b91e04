-- The verdict in bytes.
use Rattle.std.specs.Prelude.{ℕ, List, [], ◌∷◌, ◌++◌, length, Option, None, Some, is_none, is_some, codes, if◌then◌else◌}
use Rattle.std.specs.Fmt.{decimal}
use Rattle.dcv_word.specs.TraceLine.{line_feed, trace_text}
use Rattle.dcv_word.specs.Behaviour.{Word}
use Rattle.dcv_language.specs.Verdict.{Verdict}

-- the text with the byte that ends a line
abbrev pub line : List ℕ → List ℕ
line text = text ++ line_feed ∷ []

-- a heading with the number of letters, and a trace line for each letter; nothing where there is no word
abbrev pub shown : List ℕ → Option Word → List ℕ
shown heading None = []
shown heading (Some word) = line (heading ++ codes " " ++ decimal (length word)) ++ trace_text word

-- whether each behaviour is in the set
abbrev pub validity_line : Verdict → List ℕ
validity_line verdict = line (if is_none verdict.counterexample then codes "valid" else codes "not valid")

-- whether some behaviour is in the set
abbrev pub satisfiability_line : Verdict → List ℕ
satisfiability_line verdict = line (if is_some verdict.example then codes "satisfiable" else codes "not satisfiable")

abbrev pub verdict_text : Verdict → List ℕ
verdict_text verdict =
    validity_line verdict ++ satisfiability_line verdict
    ++ shown (codes "counterexample") verdict.counterexample ++ shown (codes "example") verdict.example
