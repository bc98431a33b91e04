-- The observer of a file has a text: its names are names of the subset, and its numbers are small enough.
use Rattle.std.proofs.Common.{◌≡◌, ℕ, ◌+◌, ◌<◌, ◌≤◌, Bool, true, false, cond, ◌||◌, nat_eq, List, [], ◌∷◌, ◌++◌, length, map, inl, inr, Some, None}
use Rattle.std.proofs.Common.{refl, sym, ap, subst, ◌∙◌, arith, codes, decimal}
use Rattle.std.specs.Prelude.{bytes_eq, unwrap_or}
use Rattle.std.specs.List.{AllByRecursion, list_all, filter}
use Rattle.std.specs.Char.{is_ascii_alphabetic, is_ascii_digit}
use Rattle.std.specs.Str.Parse.{AllDigits}
use Rattle.std.proofs.lemmas.Bool.{and_parts, and_from, or_left, or_right, or_cases, le-leb, false≢true}
use Rattle.std.proofs.lemmas.List.{length-map}
use Rattle.std.proofs.lemmas.List.Elements.{recursion_from_All}
use Rattle.std.proofs.lemmas.Fmt.{decimal_is_IsNumeral, length-decimal-le}
use Rattle.std.proofs.lemmas.Str.Parse.{digit_from_value}
use Rattle.dcv_dfa.specs.NodeLines.{IsBelow}
use Rattle.dcv_automaton_text.specs.File.{NodeLine, StateLine, AutomatonFile}
use Rattle.dcv_automaton_text.specs.Rules.{IsPlainName}
use Rattle.dcv_automaton_text.proofs.Words.{digits_are}
use Rattle.dcv_lexer.specs.Lexicon.{is_word, is_word_byte, word_class}
use Rattle.dcv_language.specs.Limits.{most_states, most_nodes}
use Rattle.dcv_language.specs.declared.child.Child.{Child}
use Rattle.dcv_language.specs.declared.child.Child.TheVariants.{State, Node}
use Rattle.dcv_observer.specs.Classes.{name as plain_name, is_short_word, class_of}
use Rattle.dcv_observer.proofs.Limits.{short_word}
use Rattle.dcv_observer.specs.Naming.{is_among}
use Rattle.dcv_observer.proofs.Naming.{differs, one_name}
use Rattle.dcv_automaton_file.proofs.ObservedFiles.{GoodLines, GoodRows, IsObservable}
use Rattle.dcv_lustre.specs.Classes.{lexicon, word_ok}
use Rattle.dcv_lustre.specs.Tree.{Test, Equation, Local}
use Rattle.dcv_lustre.specs.Meaning.{ok, tick}
use Rattle.dcv_lustre.specs.Form.{IsName, IsItem, IsArm, IsTest, IsRight, IsEquation, IsSpellable}
use Rattle.dcv_lustre.specs.Observer.{state_name, next_name, node_name, input_name, input_names, item_of, node_equation, row_arms, last_row}
use Rattle.dcv_lustre.specs.Observer.{next_equation, state_test, accepting_tests, ok_right, ok_equation, node_local, observer_of}

-- ---- names

-- a word that is short and not reserved
plain_word : (bytes : List ℕ) → is_word bytes ≡ true → length bytes ≤ 32 → word_class lexicon bytes ≡ plain_name → IsName bytes
plain_word bytes word short free =
    let is_short : is_short_word bytes ≡ true = and_from (is_word bytes) _ word (le-leb (length bytes) 32 short) in
    let class : class_of lexicon bytes ≡ plain_name = short_word lexicon bytes is_short ∙ free in
    and_from (is_short_word bytes) _ is_short (or_left (nat_eq (class_of lexicon bytes) plain_name) (nat_eq (class_of lexicon bytes) word_ok) (ap (λ k. nat_eq k plain_name) class))

ok_is : IsName ok
unfolding lexicon
ok_is = refl

tick_is : IsName tick
unfolding lexicon
tick_is = refl

state_is : IsName state_name
unfolding lexicon
state_is = refl

next_is : IsName next_name
unfolding lexicon
next_is = refl

observer_is : IsName (codes "observer")
unfolding lexicon
observer_is = refl

input_is : (name : List ℕ) → is_word name ≡ true → length name ≤ 24 → IsName (input_name name)
unfolding lexicon
input_is [] word short = refl
input_is (b ∷ bytes) word short =
    let parts = and_parts (is_ascii_alphabetic b) (list_all is_word_byte bytes) word in
    let all : list_all is_word_byte (b ∷ bytes) ≡ true = and_from (is_word_byte b) _ (or_left _ _ (or_left _ _ parts.0)) parts.1 in
    plain_word (input_name (b ∷ bytes)) all (omega arith) refl

digits_are_word_bytes : (digits : List ℕ) → list_all is_ascii_digit digits ≡ true → list_all is_word_byte digits ≡ true
digits_are_word_bytes [] h = refl
digits_are_word_bytes (d ∷ digits) h =
    let parts = and_parts (is_ascii_digit d) (list_all is_ascii_digit digits) h in
    and_from (is_word_byte d) _ (or_left (is_ascii_alphabetic d || is_ascii_digit d) _ (or_right (is_ascii_alphabetic d) _ parts.0)) (digits_are_word_bytes digits parts.1)

-- no decimal is what stands after the `n` of `node`
no_ode : (n : ℕ) → n < most_nodes → bytes_eq (decimal n) (codes "ode") ≡ false
no_ode n small =
    differs (decimal n) (codes "ode") (λ same.
    omega (arith, digit_from_value 111 (subst (AllDigits 10) same (decimal_is_IsNumeral n (omega arith)).0.1).0))

node_is : (n : ℕ) → n < most_nodes → IsName (node_name n)
unfolding lexicon
node_is n small =
    plain_word (node_name n) (digits_are_word_bytes (decimal n) (digits_are n (omega arith)))
    (omega (arith, length-decimal-le 7 n (omega arith) (omega arith) (omega arith)))
    (ap (λ b. unwrap_or (cond b (Some 9) None) 0) (no_ode n small))

inputs_are : (names : List (List ℕ)) → AllByRecursion IsPlainName names → AllByRecursion IsName (input_names names)
inputs_are [] are = (tick_is, tt)
inputs_are (name ∷ names) are = each (name ∷ names) are
  where
    each : (names : List (List ℕ)) → AllByRecursion IsPlainName names → AllByRecursion IsName (map input_name names)
    each [] are = tt
    each (name ∷ names) are = (input_is name (and_parts (is_word name) _ are.0.form).0 are.0.short, each names are.1)

-- ---- equations

module _ (most : ℕ) (few : most ≤ most_states) where
  item_is : (nodes : ℕ) (target : Child) → nodes ≤ most_nodes → IsBelow most nodes target → IsItem (item_of target)
  item_is nodes (State state) small below = omega (arith, below)
  item_is nodes (Node number) small below = node_is number (omega (arith, below))

  arms_are : (nodes : ℕ) → nodes ≤ most_nodes → (state : ℕ) (rows : List StateLine) → GoodRows most nodes state rows → state + length rows ≤ most_states
      → AllByRecursion IsArm (row_arms rows)
  arms_are nodes small state [] good within = tt
  arms_are nodes small state (row ∷ []) good within = tt
  arms_are nodes small state (row ∷ next ∷ rows) good within = (
    record { condition = (state_is, omega (arith, within, good.0.number_is)); item = item_is nodes row.row small good.0.row },
    arms_are nodes small (state + 1) (next ∷ rows) good.1 (omega (arith, within)),
  )

  last_is : (nodes : ℕ) → nodes ≤ most_nodes → (state : ℕ) (rows : List StateLine) → GoodRows most nodes state rows → IsItem (item_of (last_row rows))
  last_is nodes small state [] good = omega arith
  last_is nodes small state (row ∷ []) good = item_is nodes row.row small good.0.row
  last_is nodes small state (row ∷ next ∷ rows) good = last_is nodes small (state + 1) (next ∷ rows) good.1

  tests_are : (nodes state : ℕ) (lines : List StateLine) → GoodRows most nodes state lines → state + length lines ≤ most_states
      → AllByRecursion IsTest (accepting_tests lines)
  tests_are nodes state [] good within = tt
  tests_are nodes state (line ∷ lines) good within =
      by line.accepting (record { name = next_is; number = omega (arith, within, good.0.number_is) }) (tests_are nodes (state + 1) lines good.1 (omega (arith, within)))
    where
      by : (b : Bool) → IsTest (state_test line) → AllByRecursion IsTest (accepting_tests lines)
          → AllByRecursion IsTest (map state_test (cond b (line ∷ filter (λ (line : StateLine). line.accepting) lines) (filter (λ (line : StateLine). line.accepting) lines)))
      by true first rest = (first, rest)
      by false first rest = rest

  ok_right_is : (tests : List Test) → AllByRecursion IsTest tests → IsRight (ok_right tests)
  ok_right_is [] are = (tt, tt)
  ok_right_is (test ∷ tests) are = (omega arith, are)

  module _ (names : List (List ℕ)) (are : AllByRecursion IsPlainName names) where
    listed_is : (names : List (List ℕ)) (name : List ℕ) → AllByRecursion IsPlainName names → is_among names name ≡ true → IsName (input_name name)
    listed_is [] name are among = absurd (false≢true among)
    listed_is (n ∷ names) name are among =
        elim (or_cases (bytes_eq name n) (is_among names name) among) [
          | inl same ↦ subst (λ (n : List ℕ). IsName (input_name n)) (sym (one_name name n same)) (input_is n (and_parts (is_word n) _ are.0.form).0 are.0.short)
          | inr later ↦ listed_is names name are.1 later
        ]

    lines_are : (number : ℕ) (lines : List NodeLine) → number + length lines ≤ most_nodes → GoodLines names most number lines
        → AllByRecursion IsEquation (map node_equation lines)
    lines_are number [] small good = tt
    lines_are number (line ∷ lines) small good =
        let below : number ≤ most_nodes = omega (arith, small) in (
          record {
            left = node_is line.number (omega (arith, small, good.0.number_is));
            right = (
              (record { condition = listed_is names line.name are good.0.listed; item = item_is number line.hi below good.0.hi }, tt),
              item_is number line.lo below good.0.lo,
            );
          },
          lines_are (number + 1) lines (omega (arith, small)) good.1,
        )

    locals_are : (number : ℕ) (lines : List NodeLine) → number + length lines ≤ most_nodes → GoodLines names most number lines
        → AllByRecursion (λ (local : Local). IsName local.name) (map node_local lines)
    locals_are number [] small good = tt
    locals_are number (line ∷ lines) small good =
        (node_is line.number (omega (arith, small, good.0.number_is)), locals_are (number + 1) lines (omega (arith, small)) good.1)

behind : (xs ys : List Equation) → AllByRecursion IsEquation xs → AllByRecursion IsEquation ys → AllByRecursion IsEquation (xs ++ ys)
behind [] ys h k = k
behind (x ∷ xs) ys h k = (h.0, behind xs ys h.1 k)

some_input : (names : List (List ℕ)) → 0 < length (input_names names)
some_input [] = omega arith
some_input (name ∷ names) = omega (arith, length-map (name ∷ names) input_name)

pub observer_is_spellable : (file : AutomatonFile) → IsObservable file → IsSpellable (observer_of file)
unfolding observer_of
observer_is_spellable file good =
    let names = file.names in
    let most = length file.state_lines in
    let nodes = length file.node_lines in
    let are = recursion_from_All IsPlainName names good.names.each in
    record {
      name = observer_is;
      some_input = some_input names;
      inputs = inputs_are names are;
      locals = (state_is, (next_is, locals_are most good.few_rows names are 0 file.node_lines (omega (arith, good.few_lines)) good.lines));
      equations = (
        record { left = state_is; right = (omega arith, next_is) },
        behind (map node_equation file.node_lines) (next_equation file.state_lines ∷ ok_equation file.state_lines ∷ [])
            (lines_are most good.few_rows names are 0 file.node_lines (omega (arith, good.few_lines)) good.lines) (
              record {
                left = next_is;
                right = (
                  arms_are most good.few_rows nodes good.few_lines 0 file.state_lines good.rows (omega (arith, good.few_rows)),
                  last_is most good.few_rows nodes good.few_lines 0 file.state_lines good.rows,
                );
              },
              (
                record {
                  left = ok_is;
                  right = ok_right_is most good.few_rows (accepting_tests file.state_lines) (tests_are most good.few_rows nodes 0 file.state_lines good.rows (omega (arith, good.few_rows)));
                },
                tt,
              ),
            ),
      );
    }
