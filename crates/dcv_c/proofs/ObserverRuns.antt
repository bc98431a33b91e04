-- A step of a file's observer, executed statement by statement.
--     Stands now states      the numbers of the state before the step, of the parameters, and of the nodes so far
use Rattle.std.proofs.Common.{◌≡◌, ℕ, zero, suc, ◌+◌, ◌<◌, ◌≤◌, Bool, true, false, not, cond, nat_eq, List, [], ◌∷◌, ◌++◌, length, map, fold, get_or}
use Rattle.std.proofs.Common.{inl, inr, refl, sym, ap, subst, ◌∙◌, arith}
use Rattle.std.specs.Prelude.{bytes_eq}
use Rattle.std.specs.List.{list_any}
use Rattle.std.proofs.lemmas.Bool.{cases_lt}
use Rattle.std.proofs.lemmas.List.{length_push, get_or_append_left, get_or_push}
use Rattle.dcv_language.specs.Limits.{most_nodes}
use Rattle.dcv_language.specs.declared.child.Child.{Child}
use Rattle.dcv_language.specs.declared.child.Child.TheVariants.{State, Node}
use Rattle.dcv_dfa.specs.NodeLines.{IsBelow}
use Rattle.dcv_automaton_text.specs.File.{NodeLine, StateLine}
use Rattle.dcv_automaton_text.specs.Meaning.{state_at}
use Rattle.dcv_automaton_text.specs.Rules.{slot_of}
use Rattle.dcv_observer.specs.Naming.{is_among}
use Rattle.dcv_observer.proofs.Naming.{Name, is_itself}
use Rattle.dcv_observer.proofs.ObserverNames.{node_is_not_next, node_is_no_other}
use Rattle.dcv_automaton_file.proofs.ObservedFiles.{GoodLines, GoodRows, no_row}
use Rattle.dcv_automaton_file.proofs.Leading.{same_number, other_number, passes_where_accepting}
use Rattle.dcv_c.specs.Tree.{Test}
use Rattle.dcv_c.specs.Meaning.{Numbers, item_number, assigned, executed, passes, returned_number, truth_number}
use Rattle.dcv_c.specs.Observer.{state_name, next_name, node_name, parameter_name, item_of, node_statement, state_statement, state_test}
use Rattle.dcv_c.specs.Observer.{accepting_tests, returned_for}

-- ---- assignments

pub assigned_there : (now : Numbers) (left : Name) (number : ℕ) → assigned now left number left ≡ number
assigned_there now left number = ap (λ b. cond b number (now left)) (is_itself left)

pub assigned_elsewhere : (now : Numbers) (left : Name) (number : ℕ) (name : Name) → bytes_eq name left ≡ false → assigned now left number name ≡ now name
assigned_elsewhere now left number name other = ap (λ b. cond b number (now name)) other

module _ (names : List Name) (letter : List Bool) (state : ℕ) where
  pub record Stands (now : Numbers) (states : List ℕ) : Type 0 where
    pub state_is : now state_name ≡ state
    pub parameters : (name : Name) → is_among names name ≡ true → now (parameter_name name) ≡ truth_number (get_or letter (slot_of names name) false)
    pub nodes : (k : ℕ) → k < length states → now (node_name k) ≡ get_or states k 0

  pub stands_with_next : (now : Numbers) (states : List ℕ) (number : ℕ) → length states ≤ most_nodes → Stands now states → Stands (assigned now next_name number) states
  stands_with_next now states number few stands =
      record {
        state_is = stands.state_is;
        parameters = stands.parameters;
        nodes = λ k within. assigned_elsewhere now next_name number (node_name k) (node_is_not_next k (omega (arith, within, few))) ∙ stands.nodes k within;
      }

  stands_with_node : (now : Numbers) (states : List ℕ) (number : ℕ) → length states ≤ most_nodes → Stands now states
      → Stands (assigned now (node_name (length states)) number) (states ++ number ∷ [])
  stands_with_node now states number few stands =
      record {
        state_is = stands.state_is;
        parameters = stands.parameters;
        nodes = λ k within.
            elim (cases_lt k (length states)) [
              | inl old ↦
                  assigned_elsewhere now (node_name (length states)) number (node_name k)
                  (node_is_no_other k (length states) (omega (arith, old, few)) (omega (arith, few)) (λ same. omega (arith, same, old)))
                  ∙ stands.nodes k old ∙ sym (get_or_append_left states (number ∷ []) 0 k old)
              | inr last ↦
                  let at : k ≡ length states = omega (arith, within, length_push states number) in
                  subst (λ j. assigned now (node_name (length states)) number (node_name j) ≡ get_or (states ++ number ∷ []) j 0) (sym at)
                  (assigned_there now (node_name (length states)) number ∙ sym (get_or_push states number 0 (length states) refl))
            ];
      }

  item_stands : (now : Numbers) (states : List ℕ) (most : ℕ) (target : Child) → Stands now states → IsBelow most (length states) target
      → item_number now (item_of target) ≡ state_at states target
  item_stands now states most (State number) stands below = refl
  item_stands now states most (Node number) stands below = stands.nodes number below

  -- ---- nodes

  abbrev step : List ℕ → NodeLine → List ℕ
  step states line = states ++ state_at states (cond (get_or letter (slot_of names line.name) false) line.hi line.lo) ∷ []

  pub truth_stands : (truth : Bool) → not (nat_eq (truth_number truth) 0) ≡ truth
  truth_stands true = refl
  truth_stands false = refl

  choice_stands : (now : Numbers) (states : List ℕ) (most : ℕ) (side : Bool) (hi lo : Child) → Stands now states → IsBelow most (length states) hi
      → IsBelow most (length states) lo
      → cond side (item_number now (item_of hi)) (item_number now (item_of lo)) ≡ state_at states (cond side hi lo)
  choice_stands now states most true hi lo stands hi_below lo_below = item_stands now states most hi stands hi_below
  choice_stands now states most false hi lo stands hi_below lo_below = item_stands now states most lo stands lo_below

  pub nodes_stand : (most : ℕ) (lines : List NodeLine) (states : List ℕ) (number : ℕ) (now : Numbers) → number ≡ length states
      → number + length lines ≤ most_nodes → GoodLines names most number lines → Stands now states
      → Stands (fold executed now (map node_statement lines)) (fold step states lines)
  nodes_stand most [] states number now at few good stands = stands
  nodes_stand most (line ∷ lines) states number now at few good stands =
      let side = get_or letter (slot_of names line.name) false in
      let next = state_at states (cond side line.hi line.lo) in
      let holds : not (nat_eq (now (parameter_name line.name)) 0) ≡ side =
      ap (λ n. not (nat_eq n 0)) (stands.parameters line.name good.0.listed) ∙ truth_stands side in
      let hi = subst (λ n. IsBelow most n line.hi) at good.0.hi in
      let lo = subst (λ n. IsBelow most n line.lo) at good.0.lo in
      let chosen = cond (not (nat_eq (now (parameter_name line.name)) 0)) (item_number now (item_of line.hi)) (item_number now (item_of line.lo)) in
      let value : chosen ≡ next =
      ap (λ b. cond b (item_number now (item_of line.hi)) (item_number now (item_of line.lo))) holds ∙ choice_stands now states most side line.hi line.lo stands hi lo in
      let left : length states ≡ line.number = sym (good.0.number_is ∙ at) in
      let more : Stands (executed now (node_statement line)) (states ++ next ∷ []) =
      subst (λ n. Stands (assigned now (node_name n) chosen) (states ++ next ∷ [])) left
      (subst (λ v. Stands (assigned now (node_name (length states)) v) (states ++ next ∷ [])) (sym value)
      (stands_with_node now states next (omega (arith, at, few)) stands)) in
      nodes_stand most lines (states ++ next ∷ []) (number + 1) (executed now (node_statement line))
      (omega (arith, at, length_push states next)) (omega (arith, few)) good.1 more

  -- ---- rows

  pub record LeadsTo (now : Numbers) (states : List ℕ) (next : ℕ) : Type 0 where
    pub stands : Stands now states
    pub next_is : now next_name ≡ next

  row_passed : (now : Numbers) (row : StateLine) → now state_name ≡ state → (state ≡ row.number → ⊥) → executed now (state_statement row) ≡ now
  row_passed now row is differ =
      ap (λ b. cond b (assigned now next_name (item_number now (item_of row.row))) now)
      (ap (λ n. nat_eq n row.number) is ∙ other_number state row.number differ)

  rows_passed : (most nodes : ℕ) (rows : List StateLine) (first : ℕ) → GoodRows most nodes first rows → state < first → (now : Numbers) → now state_name ≡ state
      → fold executed now (map state_statement rows) ≡ now
  rows_passed most nodes [] first good before now is = refl
  rows_passed most nodes (row ∷ rows) first good before now is =
      let number = good.0.number_is in
      let one = row_passed now row is (λ same. omega (arith, same, number, before)) in
      ap (λ after. fold executed after (map state_statement rows)) one ∙ rows_passed most nodes rows (first + 1) good.1 (omega (arith, before)) now is

  pub rows_lead : (states : List ℕ) (most : ℕ) (rows : List StateLine) (first place : ℕ) → length states ≤ most_nodes → GoodRows most (length states) first rows
      → place < length rows → state ≡ first + place → (now : Numbers) → Stands now states
      → LeadsTo (fold executed now (map state_statement rows)) states (state_at states (get_or rows place no_row).row)
  rows_lead states most [] first place few good within at now stands = absurd (omega (arith, within))
  rows_lead states most (row ∷ rows) first zero few good within at now stands =
      let number = good.0.number_is in
      let item = item_number now (item_of row.row) in
      let here : nat_eq (now state_name) row.number ≡ true =
      ap (λ n. nat_eq n row.number) (stands.state_is ∙ (let e : state ≡ row.number = omega (arith, at, number) in e)) ∙ same_number row.number in
      let one : executed now (state_statement row) ≡ assigned now next_name item = ap (λ b. cond b (assigned now next_name item) now) here in
      let after = stands_with_next now states item few stands in
      let same = ap (λ now. fold executed now (map state_statement rows)) one
      ∙ rows_passed most (length states) rows (first + 1) good.1 (omega (arith, at)) (assigned now next_name item) after.state_is in
      subst (λ end. LeadsTo end states (state_at states row.row)) (sym same)
      (record { stands = after; next_is = assigned_there now next_name item ∙ item_stands now states most row.row stands good.0.row })
  rows_lead states most (row ∷ rows) first (suc place) few good within at now stands =
      let number = good.0.number_is in
      let one = row_passed now row stands.state_is (λ same. omega (arith, same, number, at)) in
      subst (λ after. LeadsTo (fold executed after (map state_statement rows)) states (state_at states (get_or rows place no_row).row)) (sym one)
      (rows_lead states most rows (first + 1) place few good.1 (omega (arith, within)) (omega (arith, at)) now stands)

-- ---- what is returned

module _ (now : Numbers) (next : ℕ) (at : now next_name ≡ next) where
  returned_stands : (tests : List Test) → not (nat_eq (returned_number now (returned_for tests)) 0) ≡ list_any (passes now) tests
  returned_stands [] = refl
  returned_stands (test ∷ tests) = one_for (list_any (passes now) (test ∷ tests))
    where
      one_for : (b : Bool) → not (nat_eq (cond b 1 0) 0) ≡ b
      one_for true = refl
      one_for false = refl

  pub answer_stands : (most nodes : ℕ) (lines : List StateLine) → GoodRows most nodes 0 lines
      → not (nat_eq (returned_number now (returned_for (accepting_tests lines))) 0) ≡ (get_or lines next no_row).accepting
  answer_stands most nodes lines good =
      returned_stands (accepting_tests lines)
      ∙ passes_where_accepting next (passes now) state_test (λ line. ap (λ n. nat_eq n line.number) at) most nodes lines good
