-- A step of a controller's unit, executed statement by statement.
--     Leads start now states      the nodes so far have these numbers, and no other name has another than at the start
--     StandsAt now next output    the numbers of all names, where these are those of what the step ends with
use Rattle.std.proofs.Common.{◌≡◌, ℕ, suc, ◌+◌, ◌<◌, ◌≤◌, Bool, true, false, not, cond, nat_eq, List, [], ◌∷◌, ◌++◌, length, map, fold, get_or}
use Rattle.std.proofs.Common.{inl, inr, refl, sym, ap, subst, ◌∙◌, arith}
use Rattle.std.specs.Prelude.{bytes_eq}
use Rattle.std.specs.List.{enumerate_from, position_or_len}
use Rattle.std.proofs.lemmas.Bool.{cases_lt, cases_Bool, false≢true}
use Rattle.std.proofs.lemmas.List.{length_push, get_or_append_left, get_or_push}
use Rattle.dcv_language.specs.Limits.{most_nodes, number_bound}
use Rattle.dcv_language.specs.declared.child.Child.{Child}
use Rattle.dcv_language.specs.declared.child.Child.TheVariants.{State, Node}
use Rattle.dcv_dfa.specs.declared.node_lines.NodeLine.{NodeLine}
use Rattle.dcv_dfa.specs.NodeLines.{IsBelow, state_at}
use Rattle.dcv_observer.proofs.Naming.{Name}
use Rattle.dcv_observer.proofs.ObserverNames.{node_is_not_next}
use Rattle.dcv_automaton_file.proofs.Leading.{same_number, other_number}
use Rattle.dcv_c.specs.Tree.{Statement, When, Equals}
use Rattle.dcv_c.specs.Meaning.{Numbers, item_number, assigned, executed, truth_number}
use Rattle.dcv_c.specs.Observer.{state_name, next_name, node_name, parameter_name}
use Rattle.dcv_c.proofs.ObserverRuns.{assigned_there, assigned_elsewhere, truth_stands}
use Rattle.dcv_synth.specs.Units.{output_name, output_node_name, input_name, target, choice, state_choices, all_state_choices}
use Rattle.dcv_synth.proofs.UnitLines.{AreGoodLines}

-- ---- nodes

-- the inputs stand for the letter
abbrev pub InputsStand : List Name → List Bool → Numbers → Type 0
InputsStand names letter now = (slot : ℕ) → slot < length names → now (input_name names slot) ≡ truth_number (get_or letter slot false)

abbrev pub step : List Bool → List ℕ → NodeLine → List ℕ
step letter states line = states ++ state_at states (cond (get_or letter line.slot false) line.hi line.lo) ∷ []

pub steps_count : (letter : List Bool) (lines : List NodeLine) (states : List ℕ) → length (fold (step letter) states lines) ≡ length states + length lines
steps_count letter [] states = omega arith
steps_count letter (line ∷ lines) states =
    let next = state_at states (cond (get_or letter line.slot false) line.hi line.lo) in
    steps_count letter lines (states ++ next ∷ []) ∙ omega (arith, length_push states next)

module _ (names : List Name) (letter : List Bool) (name : ℕ → Name)
    (apart : (k j : ℕ) → k < most_nodes → j < most_nodes → (k ≡ j → ⊥) → bytes_eq (name k) (name j) ≡ false)
    (no_input : (k : ℕ) (other : Name) → bytes_eq (parameter_name other) (name k) ≡ false) (start : Numbers) where
  pub record Leads (now : Numbers) (states : List ℕ) : Type 0 where
    pub nodes : (k : ℕ) → k < length states → now (name k) ≡ get_or states k 0
    pub others : (other : Name) → ((k : ℕ) → k < most_nodes → bytes_eq other (name k) ≡ false) → now other ≡ start other

  leads_first : Leads start []
  leads_first = record { nodes = λ k below. absurd (omega (arith, below)); others = λ other differs. refl }

  leads_more : (now : Numbers) (states : List ℕ) (number : ℕ) → length states < most_nodes → Leads now states
      → Leads (assigned now (name (length states)) number) (states ++ number ∷ [])
  leads_more now states number few leads =
      record {
        nodes = λ k within.
            elim (cases_lt k (length states)) [
              | inl old ↦
                  assigned_elsewhere now (name (length states)) number (name k)
                  (apart k (length states) (omega (arith, old, few)) few (λ same. omega (arith, same, old)))
                  ∙ leads.nodes k old ∙ sym (get_or_append_left states (number ∷ []) 0 k old)
              | inr last ↦
                  let at : k ≡ length states = omega (arith, within, last, length_push states number) in
                  subst (λ j. assigned now (name (length states)) number (name j) ≡ get_or (states ++ number ∷ []) j 0) (sym at)
                  (assigned_there now (name (length states)) number ∙ sym (get_or_push states number 0 (length states) refl))
            ];
        others = λ other differs. assigned_elsewhere now (name (length states)) number other (differs (length states) few) ∙ leads.others other differs;
      }

  target_stands : (now : Numbers) (states : List ℕ) (child : Child) → Leads now states → IsBelow number_bound (length states) child
      → item_number now (target name child) ≡ state_at states child
  target_stands now states (State number) leads below = refl
  target_stands now states (Node number) leads below = leads.nodes number below

  side_stands : (now : Numbers) (states : List ℕ) (side : Bool) (hi lo : Child) → Leads now states → IsBelow number_bound (length states) hi
      → IsBelow number_bound (length states) lo
      → cond side (item_number now (target name hi)) (item_number now (target name lo)) ≡ state_at states (cond side hi lo)
  side_stands now states true hi lo leads hi_below lo_below = target_stands now states hi leads hi_below
  side_stands now states false hi lo leads hi_below lo_below = target_stands now states lo leads lo_below

  choices_lead : InputsStand names letter start → (lines : List NodeLine) (states : List ℕ) (number : ℕ) (now : Numbers) → number ≡ length states
      → number + length lines ≤ most_nodes → AreGoodLines (length names) number lines → Leads now states
      → Leads (fold executed now (map (choice name names) (enumerate_from number lines))) (fold (step letter) states lines)
  choices_lead inputs [] states number now at few good leads = leads
  choices_lead inputs (line ∷ lines) states number now at few good leads =
      let side = get_or letter line.slot false in
      let next = state_at states (cond side line.hi line.lo) in
      let input = input_name names line.slot in
      let stands = leads.others input (λ k below. no_input k (get_or names line.slot [])) ∙ inputs line.slot good.0.slot in
      let holds : not (nat_eq (now input) 0) ≡ side = ap (λ n. not (nat_eq n 0)) stands ∙ truth_stands names letter 0 side in
      let hi = subst (λ n. IsBelow number_bound n line.hi) at good.0.hi in
      let lo = subst (λ n. IsBelow number_bound n line.lo) at good.0.lo in
      let chosen = cond (not (nat_eq (now input) 0)) (item_number now (target name line.hi)) (item_number now (target name line.lo)) in
      let value : chosen ≡ next =
      ap (λ b. cond b (item_number now (target name line.hi)) (item_number now (target name line.lo))) holds ∙ side_stands now states side line.hi line.lo leads hi lo in
      let more : Leads (assigned now (name number) chosen) (states ++ next ∷ []) =
      subst (λ n. Leads (assigned now (name n) chosen) (states ++ next ∷ [])) (sym at)
      (subst (λ v. Leads (assigned now (name (length states)) v) (states ++ next ∷ [])) (sym value)
      (leads_more now states next (omega (arith, at, few)) leads)) in
      choices_lead inputs lines (states ++ next ∷ []) (number + 1) (assigned now (name number) chosen)
      (omega (arith, at, length_push states next)) (omega (arith, few)) good.1 more

  pub all_choices_lead : InputsStand names letter start → (lines : List NodeLine) → length lines ≤ most_nodes → AreGoodLines (length names) 0 lines
      → Leads (fold executed start (map (choice name names) (enumerate_from 0 lines))) (fold (step letter) [] lines)
  all_choices_lead inputs lines few good = choices_lead inputs lines [] 0 start refl (omega (arith, few)) good leads_first

-- ---- states

module _ (state : ℕ) (firsts seconds : List ℕ) (few : length firsts ≤ most_nodes) where
  pub record StandsAt (now : Numbers) (next output : ℕ) : Type 0 where
    pub state_is : now state_name ≡ state
    pub next_is : now next_name ≡ next
    pub output_is : now output_name ≡ output
    pub nexts : (k : ℕ) → k < length firsts → now (node_name k) ≡ get_or firsts k 0
    pub outputs : (k : ℕ) → k < length seconds → now (output_node_name k) ≡ get_or seconds k 0

  with_next : (now : Numbers) (next output number : ℕ) → StandsAt now next output → StandsAt (assigned now next_name number) number output
  with_next now next output number stands =
      record {
        state_is = stands.state_is;
        next_is = assigned_there now next_name number;
        output_is = stands.output_is;
        nexts = λ k within. assigned_elsewhere now next_name number (node_name k) (node_is_not_next k (omega (arith, within, few))) ∙ stands.nexts k within;
        outputs = stands.outputs;
      }

  with_output : (now : Numbers) (next output number : ℕ) → StandsAt now next output → StandsAt (assigned now output_name number) next number
  with_output now next output number stands =
      record {
        state_is = stands.state_is;
        next_is = stands.next_is;
        output_is = assigned_there now output_name number;
        nexts = stands.nexts;
        outputs = stands.outputs;
      }

  next_target : (now : Numbers) (next output : ℕ) (child : Child) → StandsAt now next output → IsBelow number_bound (length firsts) child
      → item_number now (target node_name child) ≡ state_at firsts child
  next_target now next output (State number) stands below = refl
  next_target now next output (Node number) stands below = stands.nexts number below

  output_target : (now : Numbers) (next output : ℕ) (child : Child) → StandsAt now next output → IsBelow number_bound (length seconds) child
      → item_number now (target output_node_name child) ≡ state_at seconds child
  output_target now next output (State number) stands below = refl
  output_target now next output (Node number) stands below = stands.outputs number below

  -- ---- one state

  abbrev next_statement : ℕ → Child → Statement
  next_statement one n = When (Equals state_name one) next_name (target node_name n)

  abbrev output_statement : ℕ → Child → Statement
  output_statement one o = When (Equals state_name one) output_name (target output_node_name o)

  row_passed : (now : Numbers) (one : ℕ) (n o : Child) → now state_name ≡ state → (state ≡ one → ⊥) → fold executed now (state_choices (one, (n, o))) ≡ now
  row_passed now one n o is differ =
      let never : nat_eq (now state_name) one ≡ false = ap (λ s. nat_eq s one) is ∙ other_number state one differ in
      let first : executed now (next_statement one n) ≡ now = ap (λ b. cond b (assigned now next_name (item_number now (target node_name n))) now) never in
      let second : executed now (output_statement one o) ≡ now =
      ap (λ b. cond b (assigned now output_name (item_number now (target output_node_name o))) now) never in
      ap (λ now. executed now (output_statement one o)) first ∙ second

  rows_passed : (states : List ℕ) (nexts outputs : List Child) → ((k : ℕ) → k < length states → state ≡ get_or states k 0 → ⊥)
      → (now : Numbers) → now state_name ≡ state → fold executed now (all_state_choices states nexts outputs) ≡ now
  rows_passed [] nexts outputs differ now is = refl
  rows_passed (one ∷ states) [] outputs differ now is = refl
  rows_passed (one ∷ states) (n ∷ nexts) [] differ now is = refl
  rows_passed (one ∷ states) (n ∷ nexts) (o ∷ outputs) differ now is =
      ap (λ after. fold executed after (all_state_choices states nexts outputs)) (row_passed now one n o is (differ 0 (omega arith)))
      ∙ rows_passed states nexts outputs (λ k within. differ (suc k) (omega (arith, within))) now is

  row_taken : (now : Numbers) (next output one : ℕ) (n o : Child) → StandsAt now next output → state ≡ one → IsBelow number_bound (length firsts) n
      → IsBelow number_bound (length seconds) o → StandsAt (fold executed now (state_choices (one, (n, o)))) (state_at firsts n) (state_at seconds o)
  row_taken now next output one n o stands same n_below o_below =
      let here : nat_eq (now state_name) one ≡ true = ap (λ s. nat_eq s one) (stands.state_is ∙ same) ∙ same_number one in
      let number = item_number now (target node_name n) in
      let mid = assigned now next_name number in
      let first = with_next now next output number stands in
      let last = with_output mid number output (item_number mid (target output_node_name o)) first in
      let value : number ≡ state_at firsts n = next_target now next output n stands n_below in
      let other : item_number mid (target output_node_name o) ≡ state_at seconds o = output_target mid number output o first o_below in
      let done : StandsAt (assigned mid output_name (item_number mid (target output_node_name o))) (state_at firsts n) (state_at seconds o) =
      subst (λ (ends : ℕ × ℕ). StandsAt (assigned mid output_name (item_number mid (target output_node_name o))) ends.0 ends.1) (λ i. (value i, other i)) last in
      let taken : executed now (next_statement one n) ≡ mid = ap (λ b. cond b mid now) here in
      let given : executed mid (output_statement one o) ≡ assigned mid output_name (item_number mid (target output_node_name o)) =
      ap (λ b. cond b (assigned mid output_name (item_number mid (target output_node_name o))) mid) here in
      subst (λ after. StandsAt after (state_at firsts n) (state_at seconds o)) (sym (ap (λ now. executed now (output_statement one o)) taken ∙ given)) done

  -- ---- all states

  pub rows_lead : (states : List ℕ) (nexts outputs : List Child) → length nexts ≡ length states → length outputs ≡ length states
      → ((i j : ℕ) → i < j → j < length states → get_or states i 0 < get_or states j 0)
      → ((k : ℕ) → k < length nexts → IsBelow number_bound (length firsts) (get_or nexts k (State 0)))
      → ((k : ℕ) → k < length outputs → IsBelow number_bound (length seconds) (get_or outputs k (State 0)))
      → (now : Numbers) → StandsAt now 0 0
      → let place = position_or_len (nat_eq state) states in
      StandsAt (fold executed now (all_state_choices states nexts outputs)) (state_at firsts (get_or nexts place (State 0))) (state_at seconds (get_or outputs place (State 0)))
  rows_lead [] [] [] next_count output_count order next output now stands = stands
  rows_lead [] (n ∷ nexts) outputs next_count output_count order next output now stands = absurd (omega (arith, next_count))
  rows_lead [] [] (o ∷ outputs) next_count output_count order next output now stands = absurd (omega (arith, output_count))
  rows_lead (one ∷ states) [] outputs next_count output_count order next output now stands = absurd (omega (arith, next_count))
  rows_lead (one ∷ states) (n ∷ nexts) [] next_count output_count order next output now stands = absurd (omega (arith, output_count))
  rows_lead (one ∷ states) (n ∷ nexts) (o ∷ outputs) next_count output_count order next output now stands =
      elim (cases_Bool (nat_eq state one)) [
        | inl here ↦
            let same : state ≡ one = grind (arith, here) in
            let after = row_taken now 0 0 one n o stands same (next 0 (omega arith)) (output 0 (omega arith)) in
            let passed = rows_passed states nexts outputs
            (λ k within there. omega (arith, same, there, order 0 (suc k) (omega arith) (omega (arith, within))))
            (fold executed now (state_choices (one, (n, o)))) after.state_is in
            subst (λ b. StandsAt (fold executed now (all_state_choices (one ∷ states) (n ∷ nexts) (o ∷ outputs)))
            (state_at firsts (get_or (n ∷ nexts) (cond (not b) (1 + position_or_len (nat_eq state) states) 0) (State 0)))
            (state_at seconds (get_or (o ∷ outputs) (cond (not b) (1 + position_or_len (nat_eq state) states) 0) (State 0)))) (sym here)
            (subst (λ end. StandsAt end (state_at firsts n) (state_at seconds o)) (sym passed) after)
        | inr there ↦
            let differ : state ≡ one → ⊥ = λ same. false≢true (sym there ∙ ap (λ s. nat_eq s one) same ∙ same_number one) in
            let passed = row_passed now one n o stands.state_is differ in
            let rest = rows_lead states nexts outputs (omega (arith, next_count)) (omega (arith, output_count))
            (λ i j before within. order (suc i) (suc j) (omega (arith, before)) (omega (arith, within)))
            (λ k within. next (suc k) (omega (arith, within))) (λ k within. output (suc k) (omega (arith, within))) now stands in
            let place = position_or_len (nat_eq state) states in
            let later : position_or_len (nat_eq state) (one ∷ states) ≡ suc place =
            ap (λ b. cond (not b) (1 + place) 0) there ∙ (let e : 1 + place ≡ suc place = omega arith in e) in
            subst (λ k. StandsAt (fold executed now (all_state_choices (one ∷ states) (n ∷ nexts) (o ∷ outputs)))
            (state_at firsts (get_or (n ∷ nexts) k (State 0))) (state_at seconds (get_or (o ∷ outputs) k (State 0)))) (sym later)
            (subst (λ begin. StandsAt (fold executed begin (all_state_choices states nexts outputs))
            (state_at firsts (get_or nexts place (State 0))) (state_at seconds (get_or outputs place (State 0)))) (sym passed) rest)
      ]
