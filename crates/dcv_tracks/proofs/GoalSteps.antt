-- What is gathered step by step of a goal is that of its tree.
use Rattle.std.proofs.Common.{◌≡◌, ◌≢◌, ℕ, zero, suc, ◌+◌, ◌<◌, ◌≤◌, Bool, true, false, List, [], ◌∷◌, ◌++◌, Option, Some, None, length, map, drop, refl, sym, ap, subst, ◌∙◌, arith, length-append, true≢false, Result, Ok, Err, IfErr, get_or, Bor}
use Rattle.std.specs.Prelude.{◌&&◌, not, ◌||◌, cond, if◌then◌else◌}
use Rattle.std.specs.List.{slice_get, list_any, position_or_len}
use Rattle.std.proofs.lemmas.List.{length-map, at_drop_more}
use Rattle.std.specs.Option.{option_map, option_or}
use Rattle.std.specs.Option.{unwrap_or}
use Rattle.std.specs.Result.{IsErrAnd}
use lib.Dec.{ltb}
use Rattle.std.proofs.lemmas.Bool.{ltb-false}
use Rattle.dcv_core.specs.Core.{PlainTruth, TruthConstant, TruthSlot, TruthNot, TruthJoined, TruthShift, PlainTruths, no_truths, truth_operand}
use Rattle.dcv_core.specs.Core.{truth_in, CoreTree, CoreAtom, CoreNot, CoreJoined, CoreChop, CoreStar, CoreExists}
use Rattle.dcv_core.specs.Steps.{PlainOp, PlainStep, CoreStep, without_core, steps_before, steps_from}
use Rattle.dcv_core.specs.declared.truths.Truth.{Truth}
use Rattle.dcv_core.specs.TruthViews.{plain_truth, truths_of}
use Rattle.dcv_tracks.specs.Shifting.{Shift, same_truth, same_truths, same_shift, with_shift, collected, all_collected, collected_by, collected_of, bound_by, bound_shift}
use Rattle.dcv_tracks.specs.ShiftSteps.{step_truth}

-- ---- the same but for places

same_length : (xs ys : List PlainTruth) → same_truths (truths_of xs) (truths_of ys) ≡ true → length xs ≡ length ys
same_length [] [] is = refl
same_length [] (y ∷ ys) is = absurd (true≢false (sym is))
same_length (x ∷ xs) [] is = absurd (true≢false (sym is))
same_length (x ∷ xs) (y ∷ ys) is = ap suc (same_length xs ys (second (same_truth x y) (same_truths (truths_of xs) (truths_of ys)) is))
  where
    second : (a b : Bool) → (a && b) ≡ true → b ≡ true
    second true b is = is
    second false b is = absurd (true≢false (sym is))

pub lengths_differ : (xs ys : List Truth) → length xs ≢ length ys → false ≡ same_truths (truths_of (map plain_truth xs)) (truths_of (map plain_truth ys))
lengths_differ xs ys differ =
    not_true (same_truths (truths_of (map plain_truth xs)) (truths_of (map plain_truth ys)))
    (λ is. differ (sym (length-map xs plain_truth) ∙ same_length (map plain_truth xs) (map plain_truth ys) is ∙ length-map ys plain_truth))
  where
    not_true : (b : Bool) → (b ≡ true → ⊥) → false ≡ b
    not_true true is_not = absurd (is_not refl)
    not_true false is_not = refl

-- ---- shifts are added, and none is lost

either_grows : (here : Bool) (seen : List Shift) (shift : Shift) → length seen ≤ length (if here then seen else seen ++ shift ∷ [])
either_grows true seen shift = omega arith
either_grows false seen shift = omega (arith, length-append seen (shift ∷ []))

pub with_shift-grows : (seen : List Shift) (shift : Shift) → length seen ≤ length (with_shift seen shift)
with_shift-grows seen shift = either_grows (list_any (same_shift shift) seen) seen shift

mutual
  pub collected-grows : (p : PlainTruth) (seen : List Shift) → length seen ≤ length (collected seen p)
  collected-grows (TruthConstant truth) seen = omega arith
  collected-grows (TruthSlot slot) seen = omega arith
  collected-grows (TruthNot p) seen = collected-grows p seen
  collected-grows (TruthJoined connective operands) seen = all_collected-grows operands seen
  collected-grows (TruthShift direction p span) seen =
      omega (arith, collected-grows p seen, with_shift-grows (collected seen p) (record { direction = direction; operand = p; span = span }))

  pub all_collected-grows : (ps : PlainTruths) (seen : List Shift) → length seen ≤ length (all_collected seen ps)
  all_collected-grows no_truths seen = omega arith
  all_collected-grows (truth_operand p ps) seen = omega (arith, collected-grows p seen, all_collected-grows ps (collected seen p))

-- ---- the step at a place

pub record StepAt (steps : List CoreStep) (i : ℕ) (op : PlainOp) : Type 0 where
  pub step : CoreStep
  pub op_is : step.op ≡ op
  pub left : drop i steps ≡ step ∷ drop (suc i) steps

pub step_at : (steps : List CoreStep) (i : ℕ) (op : PlainOp) → option_map (λ (s : CoreStep). s.op) (slice_get steps i) ≡ Some op → StepAt steps i op
step_at [] i op is = absurd (none_is_not_some is)
  where
    none_is_not_some : None ≡ Some op → ⊥
    none_is_not_some e = cc
step_at (step ∷ steps) zero op is = record { step = step; op_is = cc; left = refl }
step_at (step ∷ steps) (suc i) op is =
    let further = step_at steps i op is in
    record { step = further.step; op_is = further.op_is; left = further.left }

-- ---- what is collected step by step

abbrev pub collected_in : List Shift → List CoreStep → List Shift
collected_in seen [] = seen
collected_in seen (step ∷ steps) = collected_in (collected_by seen (step_truth step.op)) steps

pub collected_next : (seen : List Shift) (steps : List CoreStep) (i : ℕ) (op : PlainOp) (truth : Option PlainTruth)
    → option_map (λ (s : CoreStep). s.op) (slice_get steps i) ≡ Some op → truth ≡ step_truth op
    → collected_in seen (drop i steps) ≡ collected_in (collected_by seen truth) (drop (i + 1) steps)
collected_next seen steps i op truth is of =
    let at = step_at steps i op is in
    let next : suc i ≡ i + 1 = omega arith in
    let truth_is : step_truth at.step.op ≡ truth = ap step_truth at.op_is ∙ sym of in
    ap (collected_in seen) at.left ∙ (λ j. collected_in (collected_by seen (truth_is j)) (drop (next j) steps))

pub collected_in-grows : (steps : List CoreStep) (seen : List Shift) → length seen ≤ length (collected_in seen steps)
collected_in-grows [] seen = omega arith
collected_in-grows (step ∷ steps) seen =
    omega (arith, by_one (step_truth step.op), collected_in-grows steps (collected_by seen (step_truth step.op)))
  where
    by_one : (truth : Option PlainTruth) → length seen ≤ length (collected_by seen truth)
    by_one None = omega arith
    by_one (Some p) = collected-grows p seen

in_turn : (xs ys : List PlainStep) (seen : List Shift)
    → collected_in seen (map without_core (xs ++ ys)) ≡ collected_in (collected_in seen (map without_core xs)) (map without_core ys)
in_turn [] ys seen = refl
in_turn (x ∷ xs) ys seen = in_turn xs ys (collected_by seen (step_truth x.op))

module _ (seen : List Shift) (c d : CoreTree) (xs ys : List PlainStep) (own : PlainStep) (none : step_truth own.op ≡ None) where
  by_one : collected_in seen (map without_core xs) ≡ collected_of seen c → collected_in seen (map without_core (xs ++ own ∷ [])) ≡ collected_of seen c
  by_one one = in_turn xs (own ∷ []) seen ∙ ap (collected_by (collected_in seen (map without_core xs))) none ∙ one

  by_two : collected_in seen (map without_core xs) ≡ collected_of seen c
      → collected_in (collected_of seen c) (map without_core ys) ≡ collected_of (collected_of seen c) d
      → collected_in seen (map without_core ((xs ++ ys) ++ own ∷ [])) ≡ collected_of (collected_of seen c) d
  by_two one other =
      in_turn (xs ++ ys) (own ∷ []) seen
      ∙ ap (collected_by (collected_in seen (map without_core (xs ++ ys)))) none
      ∙ in_turn xs ys seen
      ∙ ap (λ there. collected_in there (map without_core ys)) one
      ∙ other

pub collected_steps : (tree : CoreTree) (n k : ℕ) (seen : List Shift) → collected_in seen (map without_core (steps_from n k tree)) ≡ collected_of seen tree
collected_steps (CoreAtom basic span) n k seen = refl
collected_steps (CoreNot d span) n k seen = by_one seen d d (steps_from n k d) [] _ refl (collected_steps d n k seen)
collected_steps (CoreJoined connective c d span) n k seen =
    by_two seen c d (steps_from n k c) (steps_from (suc (n + steps_before c)) k d) _ refl (collected_steps c n k seen) (collected_steps d _ k (collected_of seen c))
collected_steps (CoreChop c d span) n k seen =
    by_two seen c d (steps_from n k c) (steps_from (suc (n + steps_before c)) k d) _ refl (collected_steps c n k seen) (collected_steps d _ k (collected_of seen c))
collected_steps (CoreStar d span) n k seen = by_one seen d d (steps_from n k d) [] _ refl (collected_steps d n k seen)
collected_steps (CoreExists d span) n k seen = by_one seen d d (steps_from n (k + 1) d) [] _ refl (collected_steps d n (k + 1) seen)

-- ---- the first shift that looks at a quantified variable, step by step

abbrev pub bound_among : ℕ → List CoreStep → Option ℕ
bound_among k [] = None
bound_among k (step ∷ steps) = option_or (bound_by k (step_truth step.op)) (bound_among k steps)

pub bound_next : (k : ℕ) (steps : List CoreStep) (i : ℕ) (op : PlainOp) (truth : Option PlainTruth)
    → option_map (λ (s : CoreStep). s.op) (slice_get steps i) ≡ Some op → truth ≡ step_truth op
    → bound_among k (drop i steps) ≡ option_or (bound_by k truth) (bound_among k (drop (i + 1) steps))
bound_next k steps i op truth is of =
    let at = step_at steps i op is in
    let next : suc i ≡ i + 1 = omega arith in
    let truth_is : step_truth at.step.op ≡ truth = ap step_truth at.op_is ∙ sym of in
    ap (bound_among k) at.left ∙ (λ j. option_or (bound_by k (truth_is j)) (bound_among k (drop (next j) steps)))

or_none : (x : Option ℕ) → option_or x None ≡ x
or_none None = refl
or_none (Some n) = refl

or_assoc : (x y z : Option ℕ) → option_or x (option_or y z) ≡ option_or (option_or x y) z
or_assoc None y z = refl
or_assoc (Some n) y z = refl

first_in_turn : (k : ℕ) (xs ys : List PlainStep)
    → bound_among k (map without_core (xs ++ ys)) ≡ option_or (bound_among k (map without_core xs)) (bound_among k (map without_core ys))
first_in_turn k [] ys = refl
first_in_turn k (x ∷ xs) ys =
    ap (option_or (bound_by k (step_truth x.op))) (first_in_turn k xs ys)
    ∙ or_assoc (bound_by k (step_truth x.op)) (bound_among k (map without_core xs)) (bound_among k (map without_core ys))

module _ (k : ℕ) (c d : CoreTree) (xs ys : List PlainStep) (own : PlainStep) (none : step_truth own.op ≡ None) where
  own_none : bound_among k (map without_core (own ∷ [])) ≡ None
  own_none = ap (λ t. option_or (bound_by k t) None) none

  first_of_one : bound_among k (map without_core xs) ≡ bound_shift k c → bound_among k (map without_core (xs ++ own ∷ [])) ≡ bound_shift k c
  first_of_one one =
      first_in_turn k xs (own ∷ [])
      ∙ ap (option_or (bound_among k (map without_core xs))) own_none
      ∙ or_none (bound_among k (map without_core xs))
      ∙ one

  first_of_two : bound_among k (map without_core xs) ≡ bound_shift k c → bound_among k (map without_core ys) ≡ bound_shift k d
      → bound_among k (map without_core ((xs ++ ys) ++ own ∷ [])) ≡ option_or (bound_shift k c) (bound_shift k d)
  first_of_two one other =
      first_in_turn k (xs ++ ys) (own ∷ [])
      ∙ ap (option_or (bound_among k (map without_core (xs ++ ys)))) own_none
      ∙ or_none (bound_among k (map without_core (xs ++ ys)))
      ∙ first_in_turn k xs ys
      ∙ (λ j. option_or (one j) (other j))

pub bound_steps : (k : ℕ) (tree : CoreTree) (n slots : ℕ) → bound_among k (map without_core (steps_from n slots tree)) ≡ bound_shift k tree
bound_steps k (CoreAtom basic span) n slots = or_none (bound_by k (truth_in basic))
bound_steps k (CoreNot d span) n slots = first_of_one k d d (steps_from n slots d) [] _ refl (bound_steps k d n slots)
bound_steps k (CoreJoined connective c d span) n slots =
    first_of_two k c d (steps_from n slots c) (steps_from (suc (n + steps_before c)) slots d) _ refl (bound_steps k c n slots) (bound_steps k d _ slots)
bound_steps k (CoreChop c d span) n slots =
    first_of_two k c d (steps_from n slots c) (steps_from (suc (n + steps_before c)) slots d) _ refl (bound_steps k c n slots) (bound_steps k d _ slots)
bound_steps k (CoreStar d span) n slots = first_of_one k d d (steps_from n slots d) [] _ refl (bound_steps k d n slots)
bound_steps k (CoreExists d span) n slots = first_of_one k d d (steps_from n (slots + 1) d) [] _ refl (bound_steps k d n (slots + 1))

-- ---- what a `?` gives up with

pub as_before : {T E : Type 0} (P : E → Type 0) (result : Result T E) (fault : E) → IsErrAnd result (λ e. e ≡ fault) → P fault → IfErr result P
as_before P (Ok value) fault same p = tt
as_before P (Err e) fault same p = subst P (sym same) p

-- ---- the operands of a slice

-- those that are left begin with the next one
pub next_is : (truths : List Truth) (place : ℕ) (truth : Truth) → place < length truths → truth ≡ get_or truths place truth
    → map plain_truth (drop place truths) ≡ plain_truth truth ∷ map plain_truth (drop (place + 1) truths)
next_is truths place truth within is = at_drop_more (map plain_truth) truths place truth within ∙ ap (λ t. plain_truth t ∷ map plain_truth (drop (place + 1) truths)) (sym is)

-- what the code finds in a step
abbrev pub found_truth : Option (Bor Truth) → Option PlainTruth
found_truth found = option_map (λ (truth : Bor Truth). plain_truth truth.now) found

-- ---- tests of the elements of a list that is made of another

module _ {X Y : Type 0} (f : X → Y) (test : Y → Bool) where
  pub any_of_all : (xs : List X) → list_any (λ x. test (f x)) xs ≡ list_any test (map f xs)
  any_of_all [] = refl
  any_of_all (x ∷ xs) = ap (λ more. test (f x) || more) (any_of_all xs)

  pub place_of_all : (xs : List X) → position_or_len (λ x. test (f x)) xs ≡ position_or_len test (map f xs)
  place_of_all [] = refl
  place_of_all (x ∷ xs) = ap (λ more. cond (not (test (f x))) (1 + more) 0) (place_of_all xs)

pub place_within : {X : Type 0} (test : X → Bool) (xs : List X) → position_or_len test xs ≤ length xs
place_within test [] = omega arith
place_within test (x ∷ xs) = by_test (not (test x)) (position_or_len test xs) (length xs) (place_within test xs)
  where
    by_test : (next : Bool) (place n : ℕ) → place ≤ n → cond next (1 + place) 0 ≤ suc n
    by_test true place n le = omega (arith, le)
    by_test false place n le = omega arith

-- the place where it stands, or else how many there are
module _ (place n : ℕ) (le : place ≤ n) where
  place_by : (within : Bool) → ltb place n ≡ within → unwrap_or (cond within (Some place) None) n ≡ place
  place_by true is = refl
  place_by false is = omega (arith, le, ltb-false place n is)

  pub place_or_length : unwrap_or (cond (ltb place n) (Some place) None) n ≡ place
  place_or_length = place_by (ltb place n) refl
