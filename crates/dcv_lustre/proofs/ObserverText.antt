-- What is put of an automaton, line by line, is the text of its observer.
use Rattle.std.proofs.Common.{◌≡◌, ℕ, zero, suc, ◌+◌, List, [], ◌∷◌, ◌++◌, length, map, take, get_or, refl, sym, ◌∙◌, arith, codes}
use Rattle.std.specs.Fmt.{decimal}
use Rattle.std.specs.List.{enumerate_from, filter, flat_map, range_with_len}
use Rattle.std.proofs.lemmas.List.{append_assoc, append-nil}
use Rattle.std.proofs.lemmas.Grind.{flat_map-append}
use Rattle.dcv_language.specs.declared.child.Child.{Child}
use Rattle.dcv_language.specs.declared.child.Child.TheVariants.{State, Node}
use Rattle.dcv_dfa.specs.declared.node_lines.NodeLine.{NodeLine as CodeLine}
use Rattle.std.proofs.lemmas.List.Folds.{flat_map-map}
use Rattle.dcv_dfa.specs.Raw.{RawValue}
use Rattle.dcv_automaton_text.specs.File.{NodeLine, StateLine, AutomatonFile}
use Rattle.dcv_automaton_file.specs.File.{state_line, node_line}
use Rattle.dcv_automaton_file.specs.Lines.{child_text, listed_by, number_of, accepting_numbers}
use Rattle.dcv_automaton_file.proofs.PutLines.{numbers_seen, listed_names, listed_seen}
use Rattle.dcv_lustre.specs.Tree.{Chosen, Equation}
use Rattle.dcv_lustre.specs.Meaning.{tick}
use Rattle.dcv_lustre.specs.Layout.{text_in, item_text, or_layout, test_layout, right_layout, equation_line, between_inputs, input_layout, inputs_layout}
use Rattle.dcv_lustre.specs.Layout.{local_line, text_of}
use Rattle.dcv_observer.specs.Layouts.{Each}
use Rattle.dcv_lustre.specs.Observer.{input_name, input_names, item_of, node_equation, row_arms, last_row, state_test, accepting_tests, ok_right, node_local, next_equation, ok_equation, state_equation, observer_of, number_local, node_name}

child_is : (target : Child) → child_text target ≡ item_text (item_of target)
child_is (State state) = refl
child_is (Node number) = refl

pub inputs_text : (names : List (List ℕ))
    → listed_by (input_name []) (text_in (input_layout [])) (text_in between_inputs) (text_in (input_layout tick)) names ≡ text_in (inputs_layout (input_names names))
inputs_text [] = refl
inputs_text (name ∷ names) = listed_names (input_name []) (text_in (input_layout [])) (text_in between_inputs) (text_in (input_layout tick)) input_name (λ name. text_in (input_layout name)) (λ text. refl) name names

pub locals_text : (names : List (List ℕ)) (lines : List CodeLine)
    → flat_map (λ number. text_in (local_line (number_local (node_name number)))) (range_with_len 0 (length lines))
    ≡ text_in (Each local_line (map node_local (map (node_line names) (enumerate_from 0 lines))))
locals_text names lines =
    numbers_seen (λ number. text_in (local_line (number_local (node_name number)))) names 0 lines
    ∙ sym (flat_map-map (λ local. text_in (local_line local)) node_local (map (node_line names) (enumerate_from 0 lines)))

pub node_is : (line : NodeLine)
    → codes "  n" ++ (decimal line.number ++ (codes " = if v_" ++ (line.name ++ (codes " then " ++ (child_text line.hi ++ (codes " else " ++ (child_text line.lo ++ codes ";\n")))))))
    ≡ text_in (equation_line (node_equation line))
node_is line =
    (λ i. codes "  n" ++ (decimal line.number ++ (codes " = if v_" ++ (line.name ++ (codes " then " ++ (child_is line.hi i ++ (codes " else " ++ (child_is line.lo i ++ codes ";\n"))))))))
    ∙ simp append_assoc

-- the lines of states from this number on
abbrev lines_from : RawValue → ℕ → List Child → List StateLine
lines_from raw first rows = map (state_line raw) (enumerate_from first rows)

abbrev row_arm : StateLine → List ℕ
row_arm line = codes "if st = " ++ (decimal line.number ++ (codes " then " ++ (child_text line.row ++ codes " else ")))

pub choice_text : (raw : RawValue) (first : ℕ) (rows : List Child) (last : ℕ) → last + 1 ≡ length rows
    → flat_map row_arm (lines_from raw first (take last rows)) ++ child_text (get_or rows last (State 0))
    ≡ text_in (right_layout (Chosen (row_arms (lines_from raw first rows)) (item_of (last_row (lines_from raw first rows)))))
choice_text raw first [] last at = absurd (omega (arith, at))
choice_text raw first (row ∷ []) zero at = child_is row
choice_text raw first (row ∷ []) (suc last) at = absurd (omega (arith, at))
choice_text raw first (row ∷ next ∷ rows) zero at = absurd (omega (arith, at))
choice_text raw first (row ∷ next ∷ rows) (suc last) at =
    let one = λ (text : List ℕ). codes "if st = " ++ (decimal first ++ (codes " then " ++ (text ++ codes " else "))) in
    append_assoc (one (child_text row)) (flat_map row_arm (lines_from raw (first + 1) (take last (next ∷ rows)))) _
    ∙ (λ i. one (child_is row i) ++ choice_text raw (first + 1) (next ∷ rows) last (omega (arith, at)) i)
    ∙ simp append_assoc

pub tests_text : (lines : List StateLine)
    → listed_by (codes "(nx = ") (codes ")") (text_in or_layout) (codes "false") (accepting_numbers lines) ≡ text_in (right_layout (ok_right (accepting_tests lines)))
tests_text lines = by (filter (λ (line : StateLine). line.accepting) lines)
  where
    by : (lines : List StateLine) → listed_by (codes "(nx = ") (codes ")") (text_in or_layout) (codes "false") (map number_of lines) ≡ text_in (right_layout (ok_right (map state_test lines)))
    by [] = refl
    by (line ∷ lines) = listed_seen (codes "(nx = ") (codes ")") (text_in or_layout) (codes "false") number_of state_test (λ test. text_in (test_layout test)) (λ line. refl) line lines

-- ---- the whole

pub text_is : (file : AutomatonFile)
    → codes "node observer(" ++ (text_in (inputs_layout (input_names file.names)) ++ (codes ") returns (ok: bool);\nvar\n  st: int;\n  nx: int;\n"
    ++ (text_in (Each local_line (map node_local file.node_lines)) ++ (codes "let\n" ++ (text_in (equation_line state_equation)
    ++ (text_in (Each equation_line (map node_equation file.node_lines)) ++ (codes "  nx = " ++ (text_in (right_layout (next_equation file.state_lines).right)
    ++ (codes ";\n  ok = " ++ (text_in (right_layout (ok_equation file.state_lines).right) ++ codes ";\ntel\n"))))))))))
    ≡ text_of (observer_of file)
unfolding text_of observer_of
text_is file = simp (flat_map-append (λ (equation : Equation). text_in (equation_line equation)) (map node_equation file.node_lines), append_assoc, append-nil)
