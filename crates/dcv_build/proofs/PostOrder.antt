-- The steps of a core stand in post-order: those of an operand end just before it, and those of two operands follow one another. So a
-- step's number, and how many steps its operands have, tell where its own steps begin.
use Rattle.std.proofs.Common.{◌≡◌, ℕ, suc, ◌+◌, ◌<◌, ◌≤◌, List, [], ◌∷◌, ◌++◌, Some, length, refl, sym, ap, subst, ◌∙◌, arith}
use Rattle.std.specs.List.{slice_get}
use Rattle.std.proofs.lemmas.Option.{slice_get_within}
use Rattle.dcv_core.specs.Core.{CoreTree, CoreAtom, CoreNot, CoreJoined, CoreChop, CoreStar, CoreExists}
use Rattle.dcv_core.specs.Steps.{PlainOp, OpAtom, OpNot, OpJoined, OpChop, OpStar, OpExists, PlainStep, steps_before, own_step, steps_from, steps_of}
use Rattle.dcv_core.proofs.StepList.{steps_from-length, some_same, last_step, Has, has_left, has_one, last_of_one, last_of_two, first_of_two, second_of_two, by_place_of_one, by_place_of_two, has_itself}

-- how many steps stand between where a step's operands begin and the step, by its operator
pub record IsAfterOne (steps : List PlainStep) (operand before : ℕ) : Type 0 where
  pub step : PlainStep
  pub is_there : slice_get steps operand ≡ Some step
  pub size : before ≡ suc (steps_before step.core)

pub record IsAfterTwo (steps : List PlainStep) (first second before : ℕ) : Type 0 where
  pub first_step : PlainStep
  pub second_step : PlainStep
  pub first_is_there : slice_get steps first ≡ Some first_step
  pub second_is_there : slice_get steps second ≡ Some second_step
  pub size : before ≡ suc (suc (steps_before first_step.core + steps_before second_step.core))

abbrev pub IsAfterOperands : List PlainStep → PlainOp → ℕ → Type 0
IsAfterOperands steps (OpAtom basic) before = before ≡ 0
IsAfterOperands steps (OpNot d) before = IsAfterOne steps d before
IsAfterOperands steps (OpJoined connective c d) before = IsAfterTwo steps c d before
IsAfterOperands steps (OpChop c d) before = IsAfterTwo steps c d before
IsAfterOperands steps (OpStar d) before = IsAfterOne steps d before
IsAfterOperands steps (OpExists d) before = IsAfterOne steps d before

-- what is said of the step at a place
abbrev Says : List PlainStep → ℕ → Type 0
Says all n = (step : PlainStep) → slice_get all n ≡ Some step → IsAfterOperands all step.op (steps_before step.core)

says_own : (all : List PlainStep) (n : ℕ) (own : PlainStep) → slice_get all n ≡ Some own → IsAfterOperands all own.op (steps_before own.core) → Says all n
says_own all n own there is step e = subst (λ (s : PlainStep). IsAfterOperands all s.op (steps_before s.core)) (some_same own step (sym there ∙ e)) is

-- an operator of one operand, over j slots
each_of_one : (all : List PlainStep) (d : CoreTree) (n j : ℕ) (own : PlainStep) → Has all n (steps_from n j d ++ own ∷ [])
    → (IsAfterOne all (n + steps_before d) (suc (steps_before d)) → IsAfterOperands all own.op (steps_before own.core))
    → ((i : ℕ) → i ≤ steps_before d → Says all (n + i)) → (i : ℕ) → i ≤ suc (steps_before d) → Says all (n + i)
each_of_one all d n j own has sized inner =
    let last = last_step all d n j (has_left all n (steps_from n j d) (own ∷ []) has) in
    by_place_of_one (Says all) n (steps_before d) inner
    (says_own all (n + suc (steps_before d)) own (last_of_one all n j (steps_from n j d) (steps_before d) own (steps_from-length d n j) has)
    (sized (record { step = last.step; is_there = last.is_there; size = ap (λ (x : CoreTree). suc (steps_before x)) (sym last.core_is) })))

each_of_two : (all : List PlainStep) (c d : CoreTree) (n k : ℕ) (own : PlainStep)
    → Has all n ((steps_from n k c ++ steps_from (suc (n + steps_before c)) k d) ++ own ∷ [])
    → (IsAfterTwo all (n + steps_before c) (suc (n + steps_before c) + steps_before d) (suc (suc (steps_before c + steps_before d))) → IsAfterOperands all own.op (steps_before own.core))
    → (Has all n (steps_from n k c) → (i : ℕ) → i ≤ steps_before c → Says all (n + i))
    → (Has all (suc (n + steps_before c)) (steps_from (suc (n + steps_before c)) k d) → (i : ℕ) → i ≤ steps_before d → Says all (suc (n + steps_before c) + i))
    → (i : ℕ) → i ≤ suc (suc (steps_before c + steps_before d)) → Says all (n + i)
each_of_two all c d n k own has sized of_first of_second =
    let xs = steps_from n k c in
    let ys = steps_from (suc (n + steps_before c)) k d in
    let first = first_of_two all n k xs ys own has in
    let second = second_of_two all n k xs ys own (steps_before c) (steps_from-length c n k) has in
    let one = last_step all c n k first in
    let two = last_step all d (suc (n + steps_before c)) k second in
    by_place_of_two (Says all) n (steps_before c) (steps_before d) (of_first first) (of_second second)
    (says_own all (n + suc (suc (steps_before c + steps_before d))) own
    (last_of_two all n k xs ys (steps_before c) (steps_before d) own (steps_from-length c n k) (steps_from-length d (suc (n + steps_before c)) k) has)
    (sized (record {
      first_step = one.step;
      second_step = two.step;
      first_is_there = one.is_there;
      second_is_there = two.is_there;
      size = λ i. suc (suc (steps_before (sym one.core_is i) + steps_before (sym two.core_is i)));
    })))

each : (all : List PlainStep) (core : CoreTree) (n k : ℕ) → Has all n (steps_from n k core) → (i : ℕ) → i ≤ steps_before core → Says all (n + i)
each all (CoreAtom basic span) n k h = λ i le.
    says_own all (n + i) (own_step (OpAtom basic) span k (CoreAtom basic span)) (ap (slice_get all) (omega (arith, le)) ∙ has_one all n _ h) refl
each all (CoreNot d span) n k h = each_of_one all d n k _ h (λ is. is) (each all d n k (has_left all n (steps_from n k d) _ h))
each all (CoreJoined connective c d span) n k h = each_of_two all c d n k _ h (λ is. is) (each all c n k) (each all d (suc (n + steps_before c)) k)
each all (CoreChop c d span) n k h = each_of_two all c d n k _ h (λ is. is) (each all c n k) (each all d (suc (n + steps_before c)) k)
each all (CoreStar d span) n k h = each_of_one all d n k _ h (λ is. is) (each all d n k (has_left all n (steps_from n k d) _ h))
each all (CoreExists d span) n k h = each_of_one all d n (k + 1) _ h (λ is. is) (each all d n (k + 1) (has_left all n (steps_from n (k + 1) d) _ h))

pub after_operands : (k : ℕ) (core : CoreTree) (n : ℕ) (step : PlainStep) → slice_get (steps_of k core) n ≡ Some step
    → IsAfterOperands (steps_of k core) step.op (steps_before step.core)
after_operands k core n step e =
    let within : n < length (steps_of k core) = slice_get_within (steps_of k core) n step e in
    let here : 0 + n ≡ n = omega arith in
    subst (Says (steps_of k core)) here
    (each (steps_of k core) core 0 k (has_itself (steps_of k core)) n (omega (arith, within, steps_from-length core 0 k))) step e
