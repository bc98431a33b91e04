-- What is put of an automaton, line by line, is the text of its observer.
use Rattle.std.proofs.Common.{◌≡◌, ℕ, List, [], ◌∷◌, ◌++◌, length, map, refl, sym, ap, ◌∙◌, codes}
use Rattle.std.specs.Fmt.{decimal, digits}
use Rattle.std.specs.List.{enumerate_from, filter, flat_map, range_with_len}
use Rattle.std.proofs.lemmas.Grind.{flat_map-append}
use Rattle.std.proofs.lemmas.List.{append_assoc, append-nil}
use Rattle.dcv_language.specs.declared.child.Child.{Child}
use Rattle.dcv_language.specs.declared.child.Child.TheVariants.{State, Node}
use Rattle.dcv_dfa.specs.declared.node_lines.NodeLine.{NodeLine as CodeLine}
use Rattle.dcv_dfa.specs.NodeLines.{node_lines_of}
use Rattle.dcv_dfa.specs.Raw.{RawValue}
use Rattle.dcv_automaton_text.specs.File.{NodeLine, StateLine, AccessLine, SuffixLine}
use Rattle.dcv_automaton_file.specs.File.{node_line, state_lines, file_of}
use Rattle.dcv_automaton_file.specs.Lines.{child_text, listed_by, number_of, accepting_numbers}
use Rattle.dcv_automaton_file.proofs.PutLines.{listed_names, listed_seen, lines_seen, numbers_seen}
use Rattle.dcv_observer.specs.Layouts.{Space, Newline, Word, ◌<>◌, ◌<+>◌, Each}
use Rattle.dcv_c.specs.Tree.{Named, Equals, Statement, When}
use Rattle.dcv_c.specs.Layout.{text_in, end, item_text, set_line, statement_line, between_tests, test_layout, returned_layout, declaration, static_line, local_line}
use Rattle.dcv_c.specs.Layout.{between_parameters, parameters_layout, head, closing, end_lines, layout_of, text_of}
use Rattle.dcv_c.specs.Observer.{state_name, next_name, node_name, parameter_name, reset_name, step_name, item_of, first_statement, node_statement}
use Rattle.dcv_c.specs.Observer.{state_statement, last_statement, state_test, accepting_tests, returned_for, node_local, observer_of}

-- ---- parts

child_is : (target : Child) → child_text target ≡ item_text (item_of target)
child_is (State state) = refl
child_is (Node number) = refl

abbrev parameters_put : List (List ℕ) → List ℕ
parameters_put names = listed_by (text_in (declaration (codes "v_"))) [] (text_in between_parameters) (text_in (parameters_layout [])) names

parameters_are : (names : List (List ℕ)) → parameters_put names ≡ text_in (parameters_layout (map parameter_name names))
parameters_are [] = refl
parameters_are (name ∷ names) =
    listed_names (text_in (declaration (codes "v_"))) [] (text_in between_parameters) (text_in (parameters_layout [])) parameter_name (λ name. text_in (declaration name))
    (λ text. ap (λ text. text_in (declaration (codes "v_" ++ text))) (append-nil text)) name names

-- one word after another
abbrev node_put : NodeLine → List ℕ
node_put line =
    text_in (Space <> Space <> Word (node_name line.number) <+> Word (codes "=") <+> Word (parameter_name line.name)
    <+> Word (codes "?") <+> Word (child_text line.hi) <+> Word (codes ":") <+> Word (child_text line.lo) <> end)

node_is : (line : NodeLine) → node_put line ≡ text_in (statement_line (node_statement line))
node_is line = simp (append_assoc, child_is)

abbrev state_put : StateLine → List ℕ
state_put line = text_in (statement_line (When (Equals state_name line.number) next_name (Named (child_text line.row))))

state_is : (line : StateLine) → state_put line ≡ text_in (statement_line (state_statement line))
state_is line = λ i. text_in (statement_line (When (Equals state_name line.number) next_name (Named (child_is line.row i))))

abbrev tests_put : List (List ℕ) → List ℕ
tests_put numbers = listed_by (codes "nx == ") [] (text_in between_tests) (codes "0") numbers

pub tests_are : (lines : List StateLine) → tests_put (accepting_numbers lines) ≡ text_in (returned_layout (returned_for (accepting_tests lines)))
unfolding digits
tests_are lines = by (filter (λ (line : StateLine). line.accepting) lines)
  where
    by : (lines : List StateLine) → tests_put (map number_of lines) ≡ text_in (returned_layout (returned_for (map state_test lines)))
    by [] = refl
    by (line ∷ lines) =
        listed_seen (codes "nx == ") [] (text_in between_tests) (codes "0") number_of state_test (λ test. text_in (test_layout test))
        (λ (line : StateLine). ap (λ text. codes "nx == " ++ text) (append-nil (decimal line.number))) line lines

statements_are : (nodes states : List Statement)
    → text_in (statement_line first_statement <> Each statement_line nodes <> Each statement_line states <> statement_line last_statement)
    ≡ text_in (Each statement_line (first_statement ∷ nodes ++ (states ++ last_statement ∷ [])))
statements_are nodes states =
    let text : Statement → List ℕ = λ statement. text_in (statement_line statement) in
    ap (λ more. text first_statement ++ more)
    (ap (λ more. flat_map text nodes ++ more) (sym (flat_map-append text states (last_statement ∷ [])))
    ∙ sym (flat_map-append text nodes (states ++ last_statement ∷ [])))

-- ---- the whole

-- with these texts of its parameters, of the locals of nodes, of the statements, and of what is returned
abbrev whole : (parameters locals statements returned : List ℕ) → List ℕ
whole parameters locals statements returned =
    text_in (static_line state_name <> (head (codes "void") reset_name (parameters_layout []) <> set_line state_name (Word (codes "0")) <> closing)
    <> head (codes "int") step_name (Word parameters) <> ((local_line next_name <> Word locals) <> Newline) <> Word statements <> end_lines (Word returned))

-- of what is put
abbrev put_of : RawValue → List (List ℕ) → List CodeLine → List Child → List ℕ
put_of raw names lines rows =
    let states = state_lines raw rows in
    whole (parameters_put names) (flat_map (λ number. text_in (local_line (node_name number))) (range_with_len 0 (length lines)))
    (text_in (set_line next_name (Word (codes "0")) <> Each (λ line. Word (node_put line)) (map (node_line names) (enumerate_from 0 lines))
    <> Each (λ line. Word (state_put line)) states <> statement_line last_statement))
    (text_in (returned_layout (returned_for (accepting_tests states))))

pub text_is : (raw : RawValue) (names : List (List ℕ)) (lines : List CodeLine) (rows : List Child) (access : List AccessLine) (suffixes : List SuffixLine)
    → lines ≡ (node_lines_of raw).lines → rows ≡ (node_lines_of raw).rows → put_of raw names lines rows ≡ text_of (observer_of (file_of raw names access suffixes))
unfolding layout_of text_of observer_of file_of digits
text_is raw names lines rows access suffixes same all =
    let nodes = (file_of raw names access suffixes).node_lines in
    let states = state_lines raw (node_lines_of raw).rows in
    let text : Statement → List ℕ = λ statement. text_in (statement_line statement) in
    let returned = text_in (returned_layout (returned_for (accepting_tests states))) in
    let locals =
    numbers_seen (λ number. text_in (local_line (node_name number))) names 0 (node_lines_of raw).lines
    ∙ lines_seen (λ (line : NodeLine). text_in (local_line (node_local line))) node_local (λ name. text_in (local_line name)) (λ line. refl) nodes in
    (λ i. put_of raw names (same i) (all i))
    ∙ (λ i. whole (parameters_are names i) (locals i)
    (text first_statement ++ (lines_seen node_put node_statement text node_is nodes i ++ (lines_seen state_put state_statement text state_is states i ++ text last_statement))) returned)
    ∙ (λ i. whole (text_in (parameters_layout (map parameter_name names))) (text_in (Each local_line (map node_local nodes)))
    (statements_are (map node_statement nodes) (map state_statement states) i) returned)
