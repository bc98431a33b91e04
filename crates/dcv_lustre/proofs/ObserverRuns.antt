-- At each instant of a trace the observer of a file does what the file's table does.
use Rattle.std.proofs.Common.{◌≡◌, ℕ, zero, suc, ◌+◌, ◌<◌, Bool, true, false, cond, nat_eq, List, [], ◌∷◌, ◌++◌, length, map, fold, get_or}
use Rattle.std.proofs.Common.{Option, inl, inr, refl, sym, ap, subst, ◌∙◌, arith}
use Rattle.std.specs.List.{AllByRecursion, list_any}
use Rattle.std.proofs.lemmas.Bool.{cases_lt}
use Rattle.std.proofs.lemmas.List.{length_push, get_or_append_left, get_or_push}
use Rattle.dcv_language.specs.declared.child.Child.{Child}
use Rattle.dcv_language.specs.declared.child.Child.TheVariants.{State, Node}
use Rattle.dcv_dfa.specs.NodeLines.{IsBelow}
use Rattle.dcv_automaton_text.specs.File.{NodeLine, StateLine}
use Rattle.dcv_automaton_text.specs.Meaning.{state_at}
use Rattle.dcv_automaton_text.specs.Rules.{slot_of}
use Rattle.dcv_observer.specs.Naming.{is_among}
use Rattle.dcv_automaton_file.proofs.ObservedFiles.{GoodLines, GoodRows, no_row}
use Rattle.dcv_automaton_file.proofs.Leading.{same_number, other_number, passes_where_accepting}
use Rattle.dcv_lustre.specs.Tree.{Truth, Number, Test, Equation}
use Rattle.dcv_lustre.specs.Meaning.{Values, item_value, chosen_value, passes, right_value, is_true, is_number}
use Rattle.dcv_lustre.specs.Observer.{state_name, next_name, node_name, input_name, item_of, node_equation, row_arms, last_row, state_test}
use Rattle.dcv_lustre.specs.Observer.{accepting_tests, ok_right}

module _ (now : Values) (before : Option Values) where
  -- ---- nodes

  abbrev Solves : Equation → Type 0
  Solves equation = now equation.left ≡ right_value before now equation.right

  -- each node so far has its state
  abbrev pub AreStates : List ℕ → Type 0
  AreStates states = (k : ℕ) → k < length states → now (node_name k) ≡ Number (get_or states k 0)

  item_stands : (states : List ℕ) (most : ℕ) (target : Child) → AreStates states → IsBelow most (length states) target
      → item_value now (item_of target) ≡ Number (state_at states target)
  item_stands states most (State state) are below = refl
  item_stands states most (Node number) are below = are number below

  choice_stands : (states : List ℕ) (most : ℕ) (side : Bool) (hi lo : Child) → AreStates states → IsBelow most (length states) hi
      → IsBelow most (length states) lo
      → cond side (item_value now (item_of hi)) (item_value now (item_of lo)) ≡ Number (state_at states (cond side hi lo))
  choice_stands states most true hi lo are hi_below lo_below = item_stands states most hi are hi_below
  choice_stands states most false hi lo are hi_below lo_below = item_stands states most lo are lo_below

  push_states : (states : List ℕ) (state : ℕ) → AreStates states → now (node_name (length states)) ≡ Number state → AreStates (states ++ state ∷ [])
  push_states states state are new k within =
      elim (cases_lt k (length states)) [
        | inl old ↦ are k old ∙ ap Number (sym (get_or_append_left states (state ∷ []) 0 k old))
        | inr last ↦
            let at : k ≡ length states = omega (arith, within, length_push states state) in
            subst (λ j. now (node_name j) ≡ Number (get_or (states ++ state ∷ []) j 0)) (sym at)
            (new ∙ ap Number (sym (get_or_push states state 0 (length states) refl)))
      ]

  module _ (names : List (List ℕ)) (letter : List Bool) (most : ℕ)
      (inputs : (name : List ℕ) → is_among names name ≡ true → now (input_name name) ≡ Truth (get_or letter (slot_of names name) false)) where
    abbrev step : List ℕ → NodeLine → List ℕ
    step states line = states ++ state_at states (cond (get_or letter (slot_of names line.name) false) line.hi line.lo) ∷ []

    pub nodes_stand : (lines : List NodeLine) (states : List ℕ) (number : ℕ) → number ≡ length states → AreStates states → GoodLines names most number lines
        → AllByRecursion Solves (map node_equation lines) → AreStates (fold step states lines)
    nodes_stand [] states number at are good solved = are
    nodes_stand (line ∷ lines) states number at are good solved =
        let side = get_or letter (slot_of names line.name) false in
        let next = state_at states (cond side line.hi line.lo) in
        let input = ap is_true (inputs line.name good.0.listed) in
        let hi = subst (λ n. IsBelow most n line.hi) at good.0.hi in
        let lo = subst (λ n. IsBelow most n line.lo) at good.0.lo in
        let new : now (node_name line.number) ≡ Number next =
        solved.0
        ∙ ap (λ b. cond b (item_value now (item_of line.hi)) (item_value now (item_of line.lo))) input
        ∙ choice_stands states most side line.hi line.lo are hi lo in
        let there = subst (λ n. now (node_name n) ≡ Number next) (good.0.number_is ∙ at) new in
        nodes_stand lines (states ++ next ∷ []) (number + 1) (omega (arith, at, length_push states next)) (push_states states next are there) good.1 solved.1

  -- ---- rows

  pub rows_stand : (states : List ℕ) (most : ℕ) (rows : List StateLine) (first place : ℕ) → AreStates states → GoodRows most (length states) first rows
      → place < length rows → now state_name ≡ Number (first + place)
      → chosen_value now (row_arms rows) (item_of (last_row rows)) ≡ Number (state_at states (get_or rows place no_row).row)
  rows_stand states most [] first place are good within at = absurd (omega arith)
  rows_stand states most (row ∷ []) first zero are good within at = item_stands states most row.row are good.0.row
  rows_stand states most (row ∷ []) first (suc place) are good within at = absurd (omega arith)
  rows_stand states most (row ∷ next ∷ rows) first zero are good within at =
      let same : first + 0 ≡ row.number = omega (arith, good.0.number_is) in
      let here : is_number (now state_name) row.number ≡ true = ap (λ value. is_number value row.number) at ∙ ap (λ n. nat_eq n row.number) same ∙ same_number row.number in
      ap (λ b. cond b (item_value now (item_of row.row)) (chosen_value now (row_arms (next ∷ rows)) (item_of (last_row (next ∷ rows))))) here
      ∙ item_stands states most row.row are good.0.row
  rows_stand states most (row ∷ next ∷ rows) first (suc place) are good within at =
      let number = good.0.number_is in
      let other : is_number (now state_name) row.number ≡ false =
      ap (λ value. is_number value row.number) at ∙ other_number (first + suc place) row.number (λ same. omega (arith, same, number)) in
      let moved : first + suc place ≡ first + 1 + place = omega arith in
      ap (λ b. cond b (item_value now (item_of row.row)) (chosen_value now (row_arms (next ∷ rows)) (item_of (last_row (next ∷ rows))))) other
      ∙ rows_stand states most (next ∷ rows) (first + 1) place are good.1 (omega arith) (at ∙ ap Number moved)

  -- ---- the output

  module _ (next : ℕ) (at : now next_name ≡ Number next) where
    ok_stands : (tests : List Test) → right_value before now (ok_right tests) ≡ Truth (list_any (passes now) tests)
    ok_stands [] = refl
    ok_stands (test ∷ tests) = refl

    pub output_stands : (most nodes : ℕ) (lines : List StateLine) → GoodRows most nodes 0 lines
        → right_value before now (ok_right (accepting_tests lines)) ≡ Truth (get_or lines next no_row).accepting
    output_stands most nodes lines good =
        ok_stands (accepting_tests lines)
        ∙ ap Truth (passes_where_accepting next (passes now) state_test (λ line. ap (λ value. is_number value line.number) at) most nodes lines good)
