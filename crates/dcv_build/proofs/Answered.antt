-- What is known stays right while the shelf grows, and what is found answers.
use Rattle.std.proofs.Common.{◌≡◌, ℕ, ◌-◌, ◌<◌, true, List, [], length, get_or, Option, None, Some, IfSome, slice_get, Result, Ok, Err, IfOk, OnOk, OnErr, inl, inr, sym, ap, subst, ◌∙◌, arith}
use Rattle.std.specs.Cmp.{unsigned_Decides}
use Rattle.std.specs.Map.{lookup}
use Rattle.std.proofs.lemmas.Bool.{false≢true}
use Rattle.std.proofs.lemmas.Bool.Decides.{Decides-and}
use Rattle.std.proofs.lemmas.List.{get_or-map}
use Rattle.std.proofs.lemmas.Option.{same_Some, slice_get_within}
use Rattle.std.proofs.lemmas.Result.{IfErr-at_err}
use Rattle.indexmap.specs.IndexMap.{insert_entry}
use Rattle.lru.proofs.CallerLemmas.{Contains-lookup}
use Rattle.dcv_build.proofs.Insertions.{insert_cases}
use Rattle.dcv_build.proofs.Settled.{made_is_built}
use Rattle.dcv_syntax.specs.declared.propositions.Connective.TheVariants.{And, Or, Iff}
use Rattle.dcv_language.specs.Automaton.{WorkingMachine}
use Rattle.dcv_language.specs.OperationMachines.{pair_machine, chop_machine, star_machine, exists_machine}
use Rattle.dcv_language.specs.Table.{Table, automaton_of}
use Rattle.dcv_logic.specs.Connectives.{joins}
use Rattle.dcv_explore.specs.declared.explorer.Limits.{Limits}
use Rattle.dcv_explore.specs.Budget.{Row}
use Rattle.dcv_shelf.specs.Shelf.{ShelfTable, table_of_auto, nodes_of_table, KeepsNumbers, HasComplement}
use Rattle.dcv_build.specs.Asked.{no_table, at_number, plain_tables, asked_row, AreTwo, IsWide, AreOperands, IsAnswer, AreAnswers, IsPut, IsTurned}
use Rattle.dcv_build.specs.Rows.{pair_row, chop_row, star_row, set_row}
use Rattle.dcv_build.specs.Settled.{IsBuilt, HasExplored, IsLeastMade, IsPassed, Settles, IsFor, Answers}
use Rattle.dcv_build.specs.declared.asked.Answer.{Answer}
use Rattle.dcv_build.specs.declared.asked.Asked.{Asked}
use Rattle.dcv_build.specs.declared.asked.Asked.TheVariants.{Joined, Chop, Star, Exists}
use Rattle.dcv_build.specs.declared.faults.BuildFault.{BuildFault}
use Rattle.dcv_build.specs.declared.settling.Explored.{Explored}
use Rattle.dcv_build.specs.declared.settling.Made.{Made}
use Rattle.dcv_build.specs.contracts.asked.AskedPartialEq.TheImpl.{eq-value as asked_eq}
use Rattle.dcv_build.proofs.ShelfTables.{at_of, at_kept, within_kept}

-- ---- what a call answers

module _ {S : Type 0} (machine : WorkingMachine S) (parts : ℕ) (limits : Limits) (step : ℕ) (shelf : List ShelfTable) where
  fault_answers : (result : Result Explored BuildFault) → Settles machine parts limits step result → (fault : BuildFault) → result ≡ Err fault → Answers machine parts limits step shelf (Err fault)
  fault_answers result settles fault is = record { built = tt; over = IfErr-at_err (IsPassed machine parts limits step) is settles.over }

  -- the fault of the exploration, handed on
  pub answers_fault : (result : Result Explored BuildFault) → Settles machine parts limits step result → (given own : BuildFault) → result ≡ Err own
      → (answered : Result Answer BuildFault) → answered ≡ Err given → given ≡ own → Answers machine parts limits step shelf answered
  answers_fault result settles given own is answered handed same =
      subst (Answers machine parts limits step shelf) (sym (handed ∙ ap Err same)) (fault_answers result settles own is)

  pub answer_within : (result : Result Answer BuildFault) → Answers machine parts limits step shelf result → IfOk result (λ answer. answer.number < length shelf)
  answer_within (Ok answer) answers = slice_get_within shelf answer.number answers.built.one answers.built.there
  answer_within (Err fault) answers = tt

  pub for_put : (explored : Explored) (made : Made) (answer : Answer) → HasExplored machine parts limits explored → IsLeastMade explored made → IsPut made shelf answer
      → IsFor machine parts limits shelf answer
  for_put explored made answer has least put = let built = made_is_built machine parts limits explored made.auto made.states made.nodes has least.least least.states_are least.nodes_are in record {
    one = table_of_auto made.auto;
    there = put.there;
    built = subst (λ n. IsBuilt machine parts limits (table_of_auto made.auto) n answer.nodes) (sym put.states)
        (subst (λ n. IsBuilt machine parts limits (table_of_auto made.auto) made.states n) (sym put.nodes) built);
  }

  pub put_answers : (explored : Explored) (made : Made) (answer : Answer) → HasExplored machine parts limits explored → IsLeastMade explored made → IsPut made shelf answer
      → Answers machine parts limits step shelf (Ok answer)
  put_answers explored made answer has least put = record { built = for_put explored made answer has least put; over = tt }

-- ---- a shelf that has grown

pub plain_at : (shelf : List ShelfTable) (number : ℕ) → number < length shelf → get_or (plain_tables shelf) number [] ≡ (at_number shelf number).table
plain_at shelf number within = get_or-map (λ (one : ShelfTable). one.table) shelf number no_table [] within

module _ (old new : List ShelfTable) (kept : KeepsNumbers old new) where
  slots_same : (number : ℕ) → number < length old → (at_number old number).slots ≡ (at_number new number).slots
  slots_same number within = ap (λ (one : ShelfTable). one.slots) (sym (at_kept old new kept number within))

  plain_same : (number : ℕ) → number < length old → get_or (plain_tables old) number [] ≡ get_or (plain_tables new) number []
  plain_same number within =
      plain_at old number within
      ∙ ap (λ (one : ShelfTable). one.table) (sym (at_kept old new kept number within))
      ∙ sym (plain_at new number (within_kept old new kept number within))

  two_kept : (c d : ℕ) → AreTwo old c d → AreTwo new c d
  two_kept c d are = record {
    first = within_kept old new kept c are.first;
    second = within_kept old new kept d are.second;
    slots = sym (slots_same c are.first) ∙ are.slots ∙ slots_same d are.second;
  }

  pub operands_kept : (asked : Asked) → AreOperands old asked → AreOperands new asked
  operands_kept (Joined connective c d) are = two_kept c d are
  operands_kept (Chop c d) are = two_kept c d are
  operands_kept (Star d) there = within_kept old new kept d there
  operands_kept (Exists d) is = record { there = within_kept old new kept d is.there; some = omega (arith, is.some, slots_same d is.there) }

  module _ (P : Row → Type 0) where
    by_two : (row : ℕ → Table → Table → Row) (c d : ℕ) → AreTwo old c d
        → P (row (at_number old c).slots (get_or (plain_tables old) c []) (get_or (plain_tables old) d []))
        → P (row (at_number new c).slots (get_or (plain_tables new) c []) (get_or (plain_tables new) d []))
    by_two row c d are here =
        subst (λ (t : ℕ × (Table × Table)). P (row t.0 t.1.0 t.1.1)) (λ i. (slots_same c are.first i, (plain_same c are.first i, plain_same d are.second i))) here

    by_one : (row : ℕ → Table → Row) (d : ℕ) → d < length old → P (row (at_number old d).slots (get_or (plain_tables old) d []))
        → P (row (at_number new d).slots (get_or (plain_tables new) d []))
    by_one row d within here = subst (λ (t : ℕ × Table). P (row t.0 t.1)) (λ i. (slots_same d within i, plain_same d within i)) here

    pub row_kept : (asked : Asked) → AreOperands old asked → P (asked_row old asked) → P (asked_row new asked)
    row_kept (Joined connective c d) are here = by_two (λ slots t u. pair_row (pair_machine slots (joins connective) (automaton_of t) (automaton_of u))) c d are here
    row_kept (Chop c d) are here = by_two (λ slots t u. chop_row (chop_machine slots (automaton_of t) (automaton_of u))) c d are here
    row_kept (Star d) there here = by_one (λ slots t. star_row (star_machine slots (automaton_of t))) d there here
    row_kept (Exists d) is here = by_one (λ slots t. set_row (exists_machine (slots - 1) (automaton_of t))) d is.there here

  for_kept : {S : Type 0} (machine : WorkingMachine S) (parts : ℕ) (limits : Limits) (answer : Answer) → IsFor machine parts limits old answer → IsFor machine parts limits new answer
  for_kept machine parts limits answer is = record { one = is.one; there = kept answer.number is.one is.there; built = is.built }

  -- what answered over the old shelf is known of the new one
  pub answer_of : (limits : Limits) (asked : Asked) (answer : Answer) → AreOperands old asked
      → IsFor (asked_row old asked).machine (asked_row old asked).parts limits new answer → IsAnswer new limits asked answer
  answer_of limits asked answer operands is = record {
    operands = operands_kept asked operands;
    is_for = row_kept (λ (row : Row). IsFor row.machine row.parts limits new answer) asked operands is;
  }

  pub answers_kept : (limits : Limits) (entries : List (Asked × Answer)) → AreAnswers old limits entries → AreAnswers new limits entries
  answers_kept limits entries are asked answer there =
      let is = are asked answer there in
      answer_of limits asked answer is.operands (for_kept (asked_row old asked).machine (asked_row old asked).parts limits answer is.is_for)

-- ---- the map

same_asked : (one other : Asked) → asked_eq.it one other ≡ true → one ≡ other
same_asked (Joined And c d) (Joined And e f) t = let p = (Decides-and _ _ (unsigned_Decides c e) (unsigned_Decides d f)).0 t in λ i. Joined And (p.0 i) (p.1 i)
same_asked (Joined Or c d) (Joined Or e f) t = let p = (Decides-and _ _ (unsigned_Decides c e) (unsigned_Decides d f)).0 t in λ i. Joined Or (p.0 i) (p.1 i)
same_asked (Joined Iff c d) (Joined Iff e f) t = let p = (Decides-and _ _ (unsigned_Decides c e) (unsigned_Decides d f)).0 t in λ i. Joined Iff (p.0 i) (p.1 i)
same_asked (Chop c d) (Chop e f) t = let p = (Decides-and _ _ (unsigned_Decides c e) (unsigned_Decides d f)).0 t in λ i. Chop (p.0 i) (p.1 i)
same_asked (Star d) (Star e) t = ap Star ((unsigned_Decides d e).0 t)
same_asked (Exists d) (Exists e) t = ap Exists ((unsigned_Decides d e).0 t)
same_asked _ _ t = absurd (false≢true t)

module _ (shelf : List ShelfTable) (limits : Limits) (entries : List (Asked × Answer)) (are : AreAnswers shelf limits entries) where
  answer_there : (asked : Asked) (answer : Answer) → lookup (asked_eq.it asked) entries ≡ Some answer → IsAnswer shelf limits asked answer
  answer_there asked answer e =
      let there = Contains-lookup (asked_eq.it asked) entries answer e in
      subst (λ (key : Asked). IsAnswer shelf limits key answer) (sym (same_asked asked there.0 there.2)) (are there.0 answer there.1)

  pub found_answers : (asked : Asked) (found : Option Answer) → found ≡ lookup (asked_eq.it asked) entries → IfSome found (IsAnswer shelf limits asked)
  found_answers asked None e = tt
  found_answers asked (Some answer) e = answer_there asked answer (sym e)

  one_more : (asked : Asked) (answer : Answer) → IsAnswer shelf limits asked answer → AreAnswers shelf limits (insert_entry asked_eq.it entries asked answer)
  one_more asked answer is key value there = elim (insert_cases asked_eq.it asked answer entries (key, value) there) [
    | inl was ↦ are key value was
    | inr own ↦ subst (IsAnswer shelf limits key) (sym own.0) (elim own.1 [
      | inl same ↦ subst (λ (key : Asked). IsAnswer shelf limits key answer) (sym same) is
      | inr t ↦ subst (λ (key : Asked). IsAnswer shelf limits key answer) (same_asked asked key t) is
    ])
  ]

  pub remembered : {X E : Type 0} (result : Result X E) (after : List (Asked × Answer)) (asked : Asked) (answer : Answer) → IsAnswer shelf limits asked answer
      → OnOk result (after ≡ insert_entry asked_eq.it entries asked answer) → OnErr result (after ≡ entries) → AreAnswers shelf limits after
  remembered (Ok x) after asked answer is put unchanged = subst (AreAnswers shelf limits) (sym put) (one_more asked answer is)
  remembered (Err e) after asked answer is put unchanged = subst (AreAnswers shelf limits) (sym unchanged) are

-- ---- the complement

pub turned_answer : (old new : List ShelfTable) (operand : ℕ) (seen one : ShelfTable) → slice_get old operand ≡ Some seen → slice_get old operand ≡ Some one
    → (answer : Answer) → HasComplement old one new answer.number → answer.states ≡ length seen.table → answer.nodes ≡ nodes_of_table seen → IsTurned one new answer
turned_answer old new operand seen one seen_there there answer has states nodes =
    let same = same_Some seen one (sym seen_there ∙ there) in
    record {
      turned = has.turned;
      complement = has.complement;
      there = has.numbered.there;
      states = states ∙ ap (λ (t : ShelfTable). length t.table) same;
      nodes = nodes ∙ ap nodes_of_table same;
    }

-- ---- tables that are seen at numbers

module _ (shelf : List ShelfTable) where
  plain_of : (number : ℕ) (one : ShelfTable) → slice_get shelf number ≡ Some one → one.table ≡ get_or (plain_tables shelf) number []
  plain_of number one there =
      let within = slice_get_within shelf number one there in
      ap (λ (t : ShelfTable). t.table) (sym (at_of shelf number one there)) ∙ sym (plain_at shelf number within)

  slots_of_one : (number : ℕ) (one : ShelfTable) → slice_get shelf number ≡ Some one → one.slots ≡ (at_number shelf number).slots
  slots_of_one number one there = ap (λ (t : ShelfTable). t.slots) (sym (at_of shelf number one there))

  pub from_two : (P : ℕ → Table → Table → Type 0) (c d : ℕ) (one other : ShelfTable) → slice_get shelf c ≡ Some one → slice_get shelf d ≡ Some other
      → P one.slots one.table other.table → P (at_number shelf c).slots (get_or (plain_tables shelf) c []) (get_or (plain_tables shelf) d [])
  from_two P c d one other here there is =
      subst (λ (t : ℕ × (Table × Table)). P t.0 t.1.0 t.1.1) (λ i. (slots_of_one c one here i, (plain_of c one here i, plain_of d other there i))) is

  pub from_one : (P : ℕ → Table → Type 0) (d : ℕ) (one : ShelfTable) → slice_get shelf d ≡ Some one
      → P one.slots one.table → P (at_number shelf d).slots (get_or (plain_tables shelf) d [])
  from_one P d one there is = subst (λ (t : ℕ × Table). P t.0 t.1) (λ i. (slots_of_one d one there i, plain_of d one there i)) is

  -- two operands are over the same slots
  pub widths_are : (c d : ℕ) → AreTwo shelf c d → (one other : ShelfTable) → slice_get shelf c ≡ Some one → slice_get shelf d ≡ Some other → one.slots ≡ other.slots
  widths_are c d are one other here there = slots_of_one c one here ∙ are.slots ∙ sym (slots_of_one d other there)

  pub width_is : (d : ℕ) → IsWide shelf d → (one : ShelfTable) → slice_get shelf d ≡ Some one → 0 < one.slots
  width_is d is one there = omega (arith, is.some, slots_of_one d one there)
