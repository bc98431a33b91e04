-- The observer of a file has a text: its names are names of the subset, and its numbers are small enough.
use Rattle.std.proofs.Common.{◌≡◌, ℕ, ◌+◌, ◌<◌, ◌≤◌, Bool, true, false, cond, ◌||◌, nat_eq, List, [], ◌∷◌, ◌++◌, length, map, inl, inr, refl, sym, ap}
use Rattle.std.proofs.Common.{subst, ◌∙◌, arith, decimal}
use Rattle.std.specs.Prelude.{bytes_eq}
use Rattle.std.specs.List.{AllByRecursion, list_all, filter}
use Rattle.std.specs.Char.{is_ascii_alphabetic, is_ascii_digit}
use Rattle.std.proofs.lemmas.Bool.{and_parts, and_from, or_left, or_right, or_cases, le-leb, false≢true}
use Rattle.std.proofs.lemmas.List.Elements.{recursion_from_All}
use Rattle.std.proofs.lemmas.Fmt.{length-decimal-le}
use Rattle.dcv_dfa.specs.NodeLines.{IsBelow}
use Rattle.dcv_automaton_text.specs.File.{NodeLine, StateLine, AutomatonFile}
use Rattle.dcv_automaton_text.specs.Rules.{IsPlainName}
use Rattle.dcv_automaton_text.proofs.Words.{digits_are}
use Rattle.dcv_lexer.specs.Lexicon.{is_word, is_word_byte, word_class}
use Rattle.dcv_language.specs.Limits.{most_states, most_nodes}
use Rattle.dcv_language.specs.declared.child.Child.{Child}
use Rattle.dcv_language.specs.declared.child.Child.TheVariants.{State, Node}
use Rattle.dcv_observer.specs.Classes.{name as plain_name, is_short_word, class_of}
use Rattle.dcv_observer.proofs.Limits.{short_word}
use Rattle.dcv_observer.specs.Naming.{is_among}
use Rattle.dcv_observer.proofs.Naming.{one_name}
use Rattle.dcv_automaton_file.proofs.ObservedFiles.{GoodLines, GoodRows, IsObservable}
use Rattle.dcv_c.specs.Classes.{lexicon}
use Rattle.dcv_c.specs.Tree.{Test, Statement}
use Rattle.dcv_c.specs.Form.{IsName, IsItem, IsTest, IsReturned, IsStatement, IsSpellable}
use Rattle.dcv_c.specs.Observer.{state_name, next_name, node_name, parameter_name, reset_name, step_name, item_of, node_statement, state_statement}
use Rattle.dcv_c.specs.Observer.{last_statement, state_test, accepting_tests, returned_for, node_local, observer_of}

-- ---- names

-- a word that is short and not reserved
pub plain_word : (bytes : List ℕ) → is_word bytes ≡ true → length bytes ≤ 32 → word_class lexicon bytes ≡ plain_name → IsName bytes
plain_word bytes word short free =
    let is_short : is_short_word bytes ≡ true = and_from (is_word bytes) _ word (le-leb (length bytes) 32 short) in
    let class : class_of lexicon bytes ≡ plain_name = short_word lexicon bytes is_short ∙ free in
    and_from (is_short_word bytes) _ is_short (ap (λ k. nat_eq k plain_name) class)

pub state_is : IsName state_name
unfolding lexicon
state_is = refl

pub next_is : IsName next_name
unfolding lexicon
next_is = refl

reset_is : IsName reset_name
unfolding lexicon
reset_is = refl

step_is : IsName step_name
unfolding lexicon
step_is = refl

pub parameter_is : (name : List ℕ) → is_word name ≡ true → length name ≤ 24 → IsName (parameter_name name)
unfolding lexicon
parameter_is [] word short = refl
parameter_is (b ∷ bytes) word short =
    let parts = and_parts (is_ascii_alphabetic b) (list_all is_word_byte bytes) word in
    let all : list_all is_word_byte (b ∷ bytes) ≡ true = and_from (is_word_byte b) _ (or_left _ _ (or_left _ _ parts.0)) parts.1 in
    plain_word (parameter_name (b ∷ bytes)) all (omega arith) refl

pub digits_are_word_bytes : (digits : List ℕ) → list_all is_ascii_digit digits ≡ true → list_all is_word_byte digits ≡ true
digits_are_word_bytes [] h = refl
digits_are_word_bytes (d ∷ digits) h =
    let parts = and_parts (is_ascii_digit d) (list_all is_ascii_digit digits) h in
    and_from (is_word_byte d) _ (or_left (is_ascii_alphabetic d || is_ascii_digit d) _ (or_right (is_ascii_alphabetic d) _ parts.0)) (digits_are_word_bytes digits parts.1)

pub node_is : (n : ℕ) → n < most_nodes → IsName (node_name n)
unfolding lexicon
node_is n small =
    plain_word (node_name n) (digits_are_word_bytes (decimal n) (digits_are n (omega arith)))
    (omega (arith, length-decimal-le 7 n (omega arith) (omega arith) (omega arith)))
    refl

pub parameters_are : (names : List (List ℕ)) → AllByRecursion IsPlainName names → AllByRecursion IsName (map parameter_name names)
parameters_are [] are = tt
parameters_are (name ∷ names) are = (parameter_is name (and_parts (is_word name) _ are.0.form).0 are.0.short, parameters_are names are.1)

listed_is : (names : List (List ℕ)) (name : List ℕ) → AllByRecursion IsPlainName names → is_among names name ≡ true → IsName (parameter_name name)
listed_is [] name are among = absurd (false≢true among)
listed_is (n ∷ names) name are among =
    elim (or_cases (bytes_eq name n) (is_among names name) among) [
      | inl same ↦ subst (λ (n : List ℕ). IsName (parameter_name n)) (sym (one_name name n same)) (parameter_is n (and_parts (is_word n) _ are.0.form).0 are.0.short)
      | inr later ↦ listed_is names name are.1 later
    ]

-- ---- statements

module _ (most : ℕ) (few : most ≤ most_states) where
  item_is : (nodes : ℕ) (target : Child) → nodes ≤ most_nodes → IsBelow most nodes target → IsItem (item_of target)
  item_is nodes (State state) small below = omega (arith, below)
  item_is nodes (Node number) small below = node_is number (omega (arith, below))

  rows_are : (nodes : ℕ) → nodes ≤ most_nodes → (state : ℕ) (rows : List StateLine) → GoodRows most nodes state rows → state + length rows ≤ most_states
      → AllByRecursion IsStatement (map state_statement rows)
  rows_are nodes small state [] good within = tt
  rows_are nodes small state (row ∷ rows) good within = (
    ((state_is, omega (arith, within, good.0.number_is)), next_is, item_is nodes row.row small good.0.row),
    rows_are nodes small (state + 1) rows good.1 (omega (arith, within)),
  )

  tests_are : (nodes state : ℕ) (lines : List StateLine) → GoodRows most nodes state lines → state + length lines ≤ most_states
      → AllByRecursion IsTest (accepting_tests lines)
  tests_are nodes state [] good within = tt
  tests_are nodes state (line ∷ lines) good within =
      by line.accepting (record { name = next_is; number = omega (arith, within, good.0.number_is) }) (tests_are nodes (state + 1) lines good.1 (omega (arith, within)))
    where
      by : (b : Bool) → IsTest (state_test line) → AllByRecursion IsTest (accepting_tests lines)
          → AllByRecursion IsTest (map state_test (cond b (line ∷ filter (λ (line : StateLine). line.accepting) lines) (filter (λ (line : StateLine). line.accepting) lines)))
      by true first rest = (first, rest)
      by false first rest = rest

  returned_is : (tests : List Test) → AllByRecursion IsTest tests → IsReturned (returned_for tests)
  returned_is [] are = omega arith
  returned_is (test ∷ tests) are = (omega arith, are)

  module _ (names : List (List ℕ)) (are : AllByRecursion IsPlainName names) where
    lines_are : (number : ℕ) (lines : List NodeLine) → number + length lines ≤ most_nodes → GoodLines names most number lines
        → AllByRecursion IsStatement (map node_statement lines)
    lines_are number [] small good = tt
    lines_are number (line ∷ lines) small good =
        let below : number ≤ most_nodes = omega (arith, small) in (
          (
            node_is line.number (omega (arith, small, good.0.number_is)),
            (listed_is names line.name are good.0.listed, item_is number line.hi below good.0.hi, item_is number line.lo below good.0.lo),
          ),
          lines_are (number + 1) lines (omega (arith, small)) good.1,
        )

    locals_are : (number : ℕ) (lines : List NodeLine) → number + length lines ≤ most_nodes → GoodLines names most number lines
        → AllByRecursion IsName (map node_local lines)
    locals_are number [] small good = tt
    locals_are number (line ∷ lines) small good =
        (node_is line.number (omega (arith, small, good.0.number_is)), locals_are (number + 1) lines (omega (arith, small)) good.1)

pub behind : (xs ys : List Statement) → AllByRecursion IsStatement xs → AllByRecursion IsStatement ys → AllByRecursion IsStatement (xs ++ ys)
behind [] ys h k = k
behind (x ∷ xs) ys h k = (h.0, behind xs ys h.1 k)

pub observer_is_spellable : (file : AutomatonFile) → IsObservable file → IsSpellable (observer_of file)
unfolding observer_of
observer_is_spellable file good =
    let names = file.names in
    let most = length file.state_lines in
    let nodes = length file.node_lines in
    let are = recursion_from_All IsPlainName names good.names.each in
    record {
      some_static = omega arith;
      statics = (state_is, tt);
      reset = reset_is;
      assignments = (record { name = state_is; number = omega arith }, tt);
      step = step_is;
      parameters = parameters_are names are;
      locals = (next_is, locals_are most good.few_rows names are 0 file.node_lines (omega (arith, good.few_lines)) good.lines);
      statements = (
        (next_is, omega arith),
        behind (map node_statement file.node_lines) (map state_statement file.state_lines ++ last_statement ∷ [])
            (lines_are most good.few_rows names are 0 file.node_lines (omega (arith, good.few_lines)) good.lines)
            (behind (map state_statement file.state_lines) (last_statement ∷ [])
            (rows_are most good.few_rows nodes good.few_lines 0 file.state_lines good.rows (omega (arith, good.few_rows))) ((state_is, next_is), tt)),
      );
      returned =
          returned_is most good.few_rows (accepting_tests file.state_lines)
          (tests_are most good.few_rows nodes 0 file.state_lines good.rows (omega (arith, good.few_rows)));
    }
