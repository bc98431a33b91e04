-- The steps of a core, found in any list that has them from some place on.
use Rattle.std.proofs.Common.{◌≡◌, ℕ, zero, suc, ◌+◌, ◌-◌, ◌<◌, ◌≤◌, ◌⊎◌, inl, inr, List, [], ◌∷◌, ◌++◌, Option, Some, None, length, refl, sym, ap, subst, ◌∙◌, arith, length-append}
use Rattle.std.specs.List.{slice_get}
use Rattle.std.proofs.Math.Nat.{eq-or-lt_of_le}
use Rattle.std.proofs.lemmas.Option.{slice_get_within}
use Rattle.dcv_language.specs.Language.{Language, HaveSameBehaviours}
use Rattle.dcv_language.specs.Operations.{chop}
use Rattle.dcv_core.specs.Core.{CoreTree, CoreAtom, CoreNot, CoreJoined, CoreChop, CoreStar, CoreExists}
use Rattle.dcv_core.specs.Holds.{words_of}
use Rattle.dcv_core.specs.Steps.{OpAtom, PlainStep, steps_before, own_step, steps_from, steps_of}
use Rattle.dcv_core.specs.StepWords.{joined_words, TakesOne, TakesTwo, IsOperation}
use Rattle.dcv_core.specs.Laws.{SameNonempty, StepsAreOperations, LastStepIsCore}
use Rattle.dcv_core.proofs.Words.{words_of_atom, words_of_not, words_of_joined, words_of_chop, words_of_star, words_of_exists}

slice_get-left : (xs ys : List PlainStep) (i : ℕ) → i < length xs → slice_get (xs ++ ys) i ≡ slice_get xs i
slice_get-left [] ys i lt = absurd (omega (arith, lt))
slice_get-left (x ∷ xs) ys zero lt = refl
slice_get-left (x ∷ xs) ys (suc i) lt = slice_get-left xs ys i (omega (arith, lt))

slice_get-right : (xs ys : List PlainStep) (i : ℕ) → slice_get (xs ++ ys) (length xs + i) ≡ slice_get ys i
slice_get-right [] ys i = ap (slice_get ys) (omega arith)
slice_get-right (x ∷ xs) ys i =
    let next : suc (length xs) + i ≡ suc (length xs + i) = omega arith in
    ap (slice_get (x ∷ (xs ++ ys))) next ∙ slice_get-right xs ys i

le_or_more : (i b : ℕ) → (i ≤ b) ⊎ (b + 1 ≤ i)
le_or_more zero b = inl (omega arith)
le_or_more (suc i) zero = inr (omega arith)
le_or_more (suc i) (suc b) = further (le_or_more i b)
  where
    further : (i ≤ b) ⊎ (b + 1 ≤ i) → (suc i ≤ suc b) ⊎ (suc b + 1 ≤ suc i)
    further (inl le) = inl (omega (arith, le))
    further (inr more) = inr (omega (arith, more))

pub some_same : (x y : PlainStep) → Some x ≡ Some y → x ≡ y
some_same x y e = ap (λ o. of o) e
  where
    of : Option PlainStep → PlainStep
    of None = x
    of (Some z) = z

-- ---- how many steps there are

one_more : (xs : List PlainStep) (step : PlainStep) (n : ℕ) → length xs ≡ suc n → length (xs ++ step ∷ []) ≡ suc (suc n)
one_more xs step n e = omega (arith, e, length-append xs (step ∷ []))

both_more : (xs ys : List PlainStep) (step : PlainStep) (m n : ℕ) → length xs ≡ suc m → length ys ≡ suc n → length ((xs ++ ys) ++ step ∷ []) ≡ suc (suc (suc (m + n)))
both_more xs ys step m n e f = omega (arith, e, f, length-append xs ys, length-append (xs ++ ys) (step ∷ []))

pub steps_from-length : (core : CoreTree) (n k : ℕ) → length (steps_from n k core) ≡ suc (steps_before core)
steps_from-length (CoreAtom basic span) n k = refl
steps_from-length (CoreNot d span) n k = one_more (steps_from n k d) _ (steps_before d) (steps_from-length d n k)
steps_from-length (CoreJoined connective c d span) n k = both_more (steps_from n k c) (steps_from (suc (n + steps_before c)) k d) _ (steps_before c) (steps_before d) (steps_from-length c n k) (steps_from-length d _ k)
steps_from-length (CoreChop c d span) n k = both_more (steps_from n k c) (steps_from (suc (n + steps_before c)) k d) _ (steps_before c) (steps_before d) (steps_from-length c n k) (steps_from-length d _ k)
steps_from-length (CoreStar d span) n k = one_more (steps_from n k d) _ (steps_before d) (steps_from-length d n k)
steps_from-length (CoreExists d span) n k = one_more (steps_from n (k + 1) d) _ (steps_before d) (steps_from-length d n (k + 1))

-- ---- lists that have steps from some place on

abbrev pub Has : List PlainStep → ℕ → List PlainStep → Type 0
Has all n steps = (i : ℕ) → i < length steps → slice_get all (n + i) ≡ slice_get steps i

pub has_left : (all : List PlainStep) (n : ℕ) (xs ys : List PlainStep) → Has all n (xs ++ ys) → Has all n xs
has_left all n xs ys h i lt = h i (omega (arith, lt, length-append xs ys)) ∙ slice_get-left xs ys i lt

has_right : (all : List PlainStep) (n : ℕ) (xs ys : List PlainStep) (m : ℕ) → m ≡ n + length xs → Has all n (xs ++ ys) → Has all m ys
has_right all n xs ys m e h i lt =
    ap (slice_get all) (omega (arith, e)) ∙ h (length xs + i) (omega (arith, lt, length-append xs ys)) ∙ slice_get-right xs ys i

pub has_one : (all : List PlainStep) (n : ℕ) (step : PlainStep) → Has all n (step ∷ []) → slice_get all n ≡ Some step
has_one all n step h = ap (slice_get all) (omega arith) ∙ h 0 (omega arith)

-- the step at which a core ends
pub record IsLast (all : List PlainStep) (n k : ℕ) (core : CoreTree) : Type 0 where
  pub step : PlainStep
  pub is_there : slice_get all n ≡ Some step
  pub core_is : step.core ≡ core
  pub slots_are : step.slots ≡ k

module _ (all : List PlainStep) (n k : ℕ) where
  -- an operator of one operand: what its operand has, and its own step
  pub last_of_one : (xs : List PlainStep) (before : ℕ) (step : PlainStep) → length xs ≡ suc before → Has all n (xs ++ step ∷ []) → slice_get all (n + suc before) ≡ Some step
  last_of_one xs before step e h = has_one all (n + suc before) step (has_right all n xs (step ∷ []) (n + suc before) (omega (arith, e)) h)

  pub last_of_two : (xs ys : List PlainStep) (b c : ℕ) (step : PlainStep) → length xs ≡ suc b → length ys ≡ suc c → Has all n ((xs ++ ys) ++ step ∷ []) → slice_get all (n + suc (suc (b + c))) ≡ Some step
  last_of_two xs ys b c step e f h = has_one all (n + suc (suc (b + c))) step (has_right all n (xs ++ ys) (step ∷ []) (n + suc (suc (b + c))) (omega (arith, e, f, length-append xs ys)) h)

  pub first_of_two : (xs ys : List PlainStep) (step : PlainStep) → Has all n ((xs ++ ys) ++ step ∷ []) → Has all n xs
  first_of_two xs ys step h = has_left all n xs ys (has_left all n (xs ++ ys) (step ∷ []) h)

  pub second_of_two : (xs ys : List PlainStep) (step : PlainStep) (b : ℕ) → length xs ≡ suc b → Has all n ((xs ++ ys) ++ step ∷ []) → Has all (suc (n + b)) ys
  second_of_two xs ys step b e h = has_right all n xs ys (suc (n + b)) (omega (arith, e)) (has_left all n (xs ++ ys) (step ∷ []) h)

pub last_step : (all : List PlainStep) (core : CoreTree) (n k : ℕ) → Has all n (steps_from n k core) → IsLast all (n + steps_before core) k core
last_step all (CoreAtom basic span) n k h =
    record { step = own_step (OpAtom basic) span k (CoreAtom basic span); is_there = ap (slice_get all) (omega arith) ∙ has_one all n _ h; core_is = refl; slots_are = refl }
last_step all (CoreNot d span) n k h =
    record { step = _; is_there = last_of_one all n k (steps_from n k d) (steps_before d) _ (steps_from-length d n k) h; core_is = refl; slots_are = refl }
last_step all (CoreJoined connective c d span) n k h =
    record { step = _; is_there = last_of_two all n k (steps_from n k c) (steps_from (suc (n + steps_before c)) k d) (steps_before c) (steps_before d) _ (steps_from-length c n k) (steps_from-length d _ k) h; core_is = refl; slots_are = refl }
last_step all (CoreChop c d span) n k h =
    record { step = _; is_there = last_of_two all n k (steps_from n k c) (steps_from (suc (n + steps_before c)) k d) (steps_before c) (steps_before d) _ (steps_from-length c n k) (steps_from-length d _ k) h; core_is = refl; slots_are = refl }
last_step all (CoreStar d span) n k h =
    record { step = _; is_there = last_of_one all n k (steps_from n k d) (steps_before d) _ (steps_from-length d n k) h; core_is = refl; slots_are = refl }
last_step all (CoreExists d span) n k h =
    record { step = _; is_there = last_of_one all n k (steps_from n (k + 1) d) (steps_before d) _ (steps_from-length d n (k + 1)) h; core_is = refl; slots_are = refl }

-- ---- each step is its operation

same_behaviours : (k : ℕ) (L M : Language) → SameNonempty L M → HaveSameBehaviours k L M
same_behaviours k L M same word behaves = same word behaves.nonempty

-- a step with one operand
module _ (all : List PlainStep) (d : CoreTree) (operation : Language → Language) where
  takes_one : (n operand k j : ℕ) (step : PlainStep) → IsLast all operand j d → suc operand ≡ n → SameNonempty (words_of step.core) (operation (words_of d)) → TakesOne all n step operand j operation
  takes_one n operand k j step last before same = record {
    step_before = last.step;
    is_there = last.is_there;
    is_before = before;
    width = last.slots_are;
    words = subst (λ (x : CoreTree). HaveSameBehaviours step.slots (words_of step.core) (operation (words_of x))) (sym last.core_is) (same_behaviours step.slots (words_of step.core) (operation (words_of d)) same);
  }

module _ (all : List PlainStep) (c d : CoreTree) (operation : Language → Language → Language) where
  takes_two : (n first second : ℕ) (step : PlainStep) → IsLast all first step.slots c → IsLast all second step.slots d → suc first + steps_before d ≡ second → suc second ≡ n
      → SameNonempty (words_of step.core) (operation (words_of c) (words_of d)) → TakesTwo all n step first second operation
  takes_two n first second step one two before last same = record {
    first_step = one.step;
    second_step = two.step;
    first_is_there = one.is_there;
    second_is_there = two.is_there;
    first_is_before = ap (λ (x : CoreTree). suc first + steps_before x) two.core_is ∙ before;
    second_is_before = last;
    first_width = one.slots_are;
    second_width = two.slots_are;
    words = λ word behaves. same word behaves.nonempty ∙ sym (λ i. operation (words_of (one.core_is i)) (words_of (two.core_is i)) word);
  }

-- what is said of the step at a place
abbrev Says : List PlainStep → ℕ → Type 0
Says all n = (step : PlainStep) → slice_get all n ≡ Some step → IsOperation all n step step.op

says_own : (all : List PlainStep) (n : ℕ) (own : PlainStep) → slice_get all n ≡ Some own → IsOperation all n own own.op → Says all n
says_own all n own there is step e = subst (λ (s : PlainStep). IsOperation all n s s.op) (some_same own step (sym there ∙ e)) is

-- a place among the steps of an operator is among its operand's, or its own
module _ (Said : ℕ → Type 0) (n : ℕ) where
  pub by_place_of_one : (b : ℕ) → ((i : ℕ) → i ≤ b → Said (n + i)) → Said (n + suc b) → (i : ℕ) → i ≤ suc b → Said (n + i)
  by_place_of_one b inner own i le = pick (eq-or-lt_of_le le)
    where
      pick : (i ≡ suc b) ⊎ (i < suc b) → Said (n + i)
      pick (inl e) = subst (λ j. Said (n + j)) (sym e) own
      pick (inr lt) = inner i (omega (arith, lt))

  pub by_place_of_two : (b c : ℕ) → ((i : ℕ) → i ≤ b → Said (n + i)) → ((i : ℕ) → i ≤ c → Said (suc (n + b) + i)) → Said (n + suc (suc (b + c)))
      → (i : ℕ) → i ≤ suc (suc (b + c)) → Said (n + i)
  by_place_of_two b c first second own i le = pick (eq-or-lt_of_le le)
    where
      among : (b + 1 ≡ i) ⊎ (b + 1 < i) → i < suc (suc (b + c)) → Said (n + i)
      among (inl e) lt = subst Said (omega (arith, e)) (second 0 (omega arith))
      among (inr more) lt = subst Said (omega (arith, more)) (second (i - (b + 1)) (omega (arith, lt, more)))

      below : (i ≤ b) ⊎ (b + 1 ≤ i) → i < suc (suc (b + c)) → Said (n + i)
      below (inl le) lt = first i le
      below (inr more) lt = among (eq-or-lt_of_le more) lt

      pick : (i ≡ suc (suc (b + c))) ⊎ (i < suc (suc (b + c))) → Said (n + i)
      pick (inl e) = subst (λ j. Said (n + j)) (sym e) own
      pick (inr lt) = below (le_or_more i b) lt

two_operands : (all : List PlainStep) (c d : CoreTree) (n k : ℕ) (own : PlainStep) (operation : Language → Language → Language)
    → Has all n ((steps_from n k c ++ steps_from (suc (n + steps_before c)) k d) ++ own ∷ []) → own.slots ≡ k
    → SameNonempty (words_of own.core) (operation (words_of c) (words_of d))
    → TakesTwo all (n + suc (suc (steps_before c + steps_before d))) own (n + steps_before c) (suc (n + steps_before c) + steps_before d) operation
two_operands all c d n k own operation h slots same =
    let xs = steps_from n k c in
    let ys = steps_from (suc (n + steps_before c)) k d in
    let one = last_step all c n k (first_of_two all n k xs ys own h) in
    let two = last_step all d (suc (n + steps_before c)) k (second_of_two all n k xs ys own (steps_before c) (steps_from-length c n k) h) in
    takes_two all c d operation (n + suc (suc (steps_before c + steps_before d))) (n + steps_before c) (suc (n + steps_before c) + steps_before d) own
    (subst (λ j. IsLast all (n + steps_before c) j c) (sym slots) one)
    (subst (λ j. IsLast all (suc (n + steps_before c) + steps_before d) j d) (sym slots) two)
    refl (omega arith) same

each_step : (all : List PlainStep) (core : CoreTree) (n k : ℕ) → Has all n (steps_from n k core) → (i : ℕ) → i ≤ steps_before core → Says all (n + i)
each_step all (CoreAtom basic span) n k h = λ i le.
    says_own all (n + i) (own_step (OpAtom basic) span k (CoreAtom basic span)) (ap (slice_get all) (omega (arith, le)) ∙ has_one all n _ h)
    (λ word behaves. words_of_atom basic span word behaves.nonempty)
each_step all (CoreNot d span) n k h =
    let inner = has_left all n (steps_from n k d) _ h in
    by_place_of_one (Says all) n (steps_before d) (each_step all d n k inner)
    (says_own all _ _ (last_of_one all n k (steps_from n k d) (steps_before d) _ (steps_from-length d n k) h)
    (takes_one all d _ (n + suc (steps_before d)) (n + steps_before d) k k _ (last_step all d n k inner) (omega arith) (words_of_not d span)))
each_step all (CoreJoined connective c d span) n k h =
    by_place_of_two (Says all) n (steps_before c) (steps_before d)
    (each_step all c n k (first_of_two all n k (steps_from n k c) (steps_from (suc (n + steps_before c)) k d) _ h))
    (each_step all d (suc (n + steps_before c)) k (second_of_two all n k (steps_from n k c) (steps_from (suc (n + steps_before c)) k d) _ (steps_before c) (steps_from-length c n k) h))
    (says_own all _ _ (last_of_two all n k (steps_from n k c) (steps_from (suc (n + steps_before c)) k d) (steps_before c) (steps_before d) _ (steps_from-length c n k) (steps_from-length d _ k) h)
    (two_operands all c d n k _ (joined_words connective) h refl (words_of_joined connective c d span)))
each_step all (CoreChop c d span) n k h =
    by_place_of_two (Says all) n (steps_before c) (steps_before d)
    (each_step all c n k (first_of_two all n k (steps_from n k c) (steps_from (suc (n + steps_before c)) k d) _ h))
    (each_step all d (suc (n + steps_before c)) k (second_of_two all n k (steps_from n k c) (steps_from (suc (n + steps_before c)) k d) _ (steps_before c) (steps_from-length c n k) h))
    (says_own all _ _ (last_of_two all n k (steps_from n k c) (steps_from (suc (n + steps_before c)) k d) (steps_before c) (steps_before d) _ (steps_from-length c n k) (steps_from-length d _ k) h)
    (two_operands all c d n k _ chop h refl (words_of_chop c d span)))
each_step all (CoreStar d span) n k h =
    let inner = has_left all n (steps_from n k d) _ h in
    by_place_of_one (Says all) n (steps_before d) (each_step all d n k inner)
    (says_own all _ _ (last_of_one all n k (steps_from n k d) (steps_before d) _ (steps_from-length d n k) h)
    (takes_one all d _ (n + suc (steps_before d)) (n + steps_before d) k k _ (last_step all d n k inner) (omega arith) (words_of_star d span)))
each_step all (CoreExists d span) n k h =
    let inner = has_left all n (steps_from n (k + 1) d) _ h in
    let last = last_step all d n (k + 1) inner in
    by_place_of_one (Says all) n (steps_before d) (each_step all d n (k + 1) inner)
    (says_own all _ _ (last_of_one all n k (steps_from n (k + 1) d) (steps_before d) _ (steps_from-length d n (k + 1)) h)
    (takes_one all d _ (n + suc (steps_before d)) (n + steps_before d) k (suc k) _ (subst (λ j. IsLast all (n + steps_before d) j d) (omega arith) last) (omega arith) (words_of_exists d span)))

pub has_itself : (steps : List PlainStep) → Has steps 0 steps
has_itself steps i lt = ap (slice_get steps) (omega arith)

pub steps_are_operations : StepsAreOperations
steps_are_operations k core n step e =
    let within : n < length (steps_of k core) = slice_get_within (steps_of k core) n step e in
    let here : 0 + n ≡ n = omega arith in
    subst (Says (steps_of k core)) here (each_step (steps_of k core) core 0 k (has_itself (steps_of k core)) n (omega (arith, within, steps_from-length core 0 k))) step e

pub last_step_is_core : LastStepIsCore
last_step_is_core k core =
    let last = last_step (steps_of k core) core 0 k (has_itself (steps_of k core)) in
    (last.step, ap (slice_get (steps_of k core)) (omega arith) ∙ last.is_there, steps_from-length core 0 k, last.core_is, last.slots_are)
