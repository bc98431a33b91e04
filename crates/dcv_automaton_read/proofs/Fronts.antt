-- What stands before the step part of a text is no longer than the text.
use Rattle.std.proofs.Common.{◌≡◌, ℕ, ◌<◌, List, ◌++◌, length, map, sym, ap, ◌∙◌, arith}
use Rattle.std.specs.List.{flat_map}
use Rattle.std.proofs.lemmas.Grind.{flat_map-append}
use Rattle.std.proofs.lemmas.List.{append_assoc, length-append}
use Rattle.dcv_automaton_text.specs.File.{AutomatonFile}
use Rattle.dcv_automaton_text.specs.Form.{HasForm}
use Rattle.dcv_automaton_text.specs.Spelled.{head_lines, node_words, state_words, access_words, suffix_words, step_part, end_lines}
use Rattle.dcv_automaton_text.specs.Spelled.{front_lines, lines_of, spelled_line, spelled, spelled_front}

-- four lists and two others, joined from the front
joined : {A : Type 0} (a b c d e rest : List A) → (a ++ (b ++ (c ++ (d ++ e)))) ++ rest ≡ a ++ (b ++ (c ++ (d ++ (e ++ rest))))
joined a b c d e rest =
    append_assoc a (b ++ (c ++ (d ++ e))) rest
    ∙ ap (λ more. a ++ more) (append_assoc b (c ++ (d ++ e)) rest
    ∙ ap (λ more. b ++ more) (append_assoc c (d ++ e) rest
    ∙ ap (λ more. c ++ more) (append_assoc d e rest)))

all_lines : (file : AutomatonFile) → front_lines file ++ (step_part file.steps ++ end_lines) ≡ lines_of file
unfolding front_lines lines_of
all_lines file =
    joined (head_lines file) (map node_words file.node_lines) (map state_words file.state_lines) (map access_words file.access_lines)
    (map suffix_words file.suffix_lines) (step_part file.steps ++ end_lines)

front_then : (file : AutomatonFile) → spelled file ≡ spelled_front file ++ flat_map spelled_line (step_part file.steps ++ end_lines)
unfolding spelled spelled_front
front_then file =
    ap (flat_map spelled_line) (sym (all_lines file))
    ∙ flat_map-append spelled_line (front_lines file) (step_part file.steps ++ end_lines)

pub front_is_short : (text front : List ℕ) (file : AutomatonFile) (most : ℕ) → HasForm text file → front ≡ spelled_front file
    → length text < most → length front < most
front_is_short text front file most form is short =
    let rest = flat_map spelled_line (step_part file.steps ++ end_lines) in
    omega (arith, short, ap length is, ap length (form.spelled ∙ front_then file), length-append (spelled_front file) rest)
