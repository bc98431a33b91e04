-- Equations that are executed in order, each with what names have by then. Where they stand in order this makes each of them hold, and
-- nothing else does.
--     Reads P right          each name that a right side reads at the instant itself passes P
--     IsInOrder equations    each left side has one equation, and what an equation reads is on the left of none after it, nor its own
--     run before now equations   what names have after the equations
use Rattle.std.proofs.Common.{◌≡◌, false, cond, ◌||◌, List, [], ◌∷◌, Option, inl, inr, refl, sym, ap, subst, ◌∙◌}
use Rattle.std.specs.Prelude.{bytes_eq}
use Rattle.std.specs.List.{AllByRecursion, list_any}
use Rattle.std.proofs.lemmas.Bool.{cases_Bool, or_parts, or_from}
use Rattle.dcv_observer.specs.Naming.{is_among}
use Rattle.dcv_observer.proofs.Naming.{Name, is_itself, one_name}
use Rattle.dcv_lustre.specs.Tree.{Value, Truth, Item, Constant, Named, Condition, Holds, Equals, Arm, Test, Right, Delayed, Chosen, Tested, Equation}
use Rattle.dcv_lustre.specs.Meaning.{Values, item_value, holds, chosen_value, passes, right_value, is_true, is_number}
use Rattle.dcv_lustre.specs.Rules.{lefts_of}

-- ---- what is read

abbrev pub ReadsItem : (Name → Type 0) → Item → Type 0
ReadsItem P (Constant value) = Unit {0}
ReadsItem P (Named name) = P name

abbrev pub ReadsCondition : (Name → Type 0) → Condition → Type 0
ReadsCondition P (Holds name) = P name
ReadsCondition P (Equals name number) = P name

pub record ReadsArm (P : Name → Type 0) (arm : Arm) : Type 0 where
  pub condition : ReadsCondition P arm.condition
  pub item : ReadsItem P arm.item

abbrev pub ReadsArms : (Name → Type 0) → List Arm → Type 0
ReadsArms P arms = AllByRecursion (ReadsArm P) arms

abbrev pub ReadsTests : (Name → Type 0) → List Test → Type 0
ReadsTests P tests = AllByRecursion (λ (test : Test). P test.name) tests

abbrev pub Reads : (Name → Type 0) → Right → Type 0
Reads P (Delayed first source) = Unit {0}
Reads P (Chosen arms otherwise) = ReadsArms P arms × ReadsItem P otherwise
Reads P (Tested tests) = ReadsTests P tests

module _ (P Q : Name → Type 0) (only : (name : Name) → P name → Q name) where
  reads_item : (item : Item) → ReadsItem P item → ReadsItem Q item
  reads_item (Constant value) h = tt
  reads_item (Named name) h = only name h

  reads_condition : (condition : Condition) → ReadsCondition P condition → ReadsCondition Q condition
  reads_condition (Holds name) h = only name h
  reads_condition (Equals name number) h = only name h

  reads_arms : (arms : List Arm) → ReadsArms P arms → ReadsArms Q arms
  reads_arms [] h = tt
  reads_arms (arm ∷ arms) h = (record { condition = reads_condition arm.condition h.0.condition; item = reads_item arm.item h.0.item }, reads_arms arms h.1)

  reads_tests : (tests : List Test) → ReadsTests P tests → ReadsTests Q tests
  reads_tests [] h = tt
  reads_tests (test ∷ tests) h = (only test.name h.0, reads_tests tests h.1)

  pub reads_also : (right : Right) → Reads P right → Reads Q right
  reads_also (Delayed first source) h = tt
  reads_also (Chosen arms otherwise) h = (reads_arms arms h.0, reads_item otherwise h.1)
  reads_also (Tested tests) h = reads_tests tests h

-- where what is read has the same values, so has the right side
module _ (now then : Values) where
  abbrev Same : Name → Type 0
  Same name = now name ≡ then name

  same_item : (item : Item) → ReadsItem Same item → item_value now item ≡ item_value then item
  same_item (Constant value) h = refl
  same_item (Named name) h = h

  same_condition : (condition : Condition) → ReadsCondition Same condition → holds now condition ≡ holds then condition
  same_condition (Holds name) h = ap is_true h
  same_condition (Equals name number) h = ap (λ value. is_number value number) h

  same_chosen : (arms : List Arm) (otherwise : Item) → ReadsArms Same arms → ReadsItem Same otherwise
      → chosen_value now arms otherwise ≡ chosen_value then arms otherwise
  same_chosen [] otherwise h last = same_item otherwise last
  same_chosen (arm ∷ arms) otherwise h last =
      let condition = same_condition arm.condition h.0.condition in
      let item = same_item arm.item h.0.item in
      let rest = same_chosen arms otherwise h.1 last in
      λ i. cond (condition i) (item i) (rest i)

  same_tests : (tests : List Test) → ReadsTests Same tests → list_any (passes now) tests ≡ list_any (passes then) tests
  same_tests [] h = refl
  same_tests (test ∷ tests) h =
      let first = ap (λ value. is_number value test.number) h.0 in
      let rest = same_tests tests h.1 in
      λ i. first i || rest i

  pub same_right : (before : Option Values) (right : Right) → Reads Same right → right_value before now right ≡ right_value before then right
  same_right before (Delayed first source) h = refl
  same_right before (Chosen arms otherwise) h = same_chosen arms otherwise h.0 h.1
  same_right before (Tested tests) h = ap Truth (same_tests tests h)

-- ---- running

abbrev pub update : Values → Name → Value → Values
update now left value = λ name. cond (bytes_eq name left) value (now name)

abbrev pub run : Option Values → Values → List Equation → Values
run before now [] = now
run before now (equation ∷ equations) = run before (update now equation.left (right_value before now equation.right)) equations

abbrev pub IsOnNoLeft : List Equation → Name → Type 0
IsOnNoLeft equations name = is_among (lefts_of equations) name ≡ false

pub record StandsBefore (equation : Equation) (equations : List Equation) : Type 0 where
  pub left : IsOnNoLeft equations equation.left
  pub reads : Reads (IsOnNoLeft (equation ∷ equations)) equation.right

abbrev pub IsInOrder : List Equation → Type 0
IsInOrder [] = Unit {0}
IsInOrder (equation ∷ equations) = StandsBefore equation equations × IsInOrder equations

module _ (before : Option Values) where
  -- what is on no left side stays
  pub run_keeps : (equations : List Equation) (now : Values) (name : Name) → IsOnNoLeft equations name → run before now equations name ≡ now name
  run_keeps [] now name h = refl
  run_keeps (equation ∷ equations) now name h =
      let both = or_parts (bytes_eq name equation.left) (is_among (lefts_of equations) name) h in
      let value = right_value before now equation.right in
      run_keeps equations (update now equation.left value) name both.1
      ∙ ap (λ b. cond b value (now name)) both.0

  -- each equation holds in the end
  pub run_holds : (equations : List Equation) (now : Values) → IsInOrder equations
      → AllByRecursion (λ (equation : Equation). run before now equations equation.left ≡ right_value before (run before now equations) equation.right) equations
  run_holds equations now order = go equations now order (run before now equations) (λ name. refl)
    where
      go : (equations : List Equation) (now : Values) → IsInOrder equations → (end : Values) → ((name : Name) → end name ≡ run before now equations name)
          → AllByRecursion (λ (equation : Equation). end equation.left ≡ right_value before end equation.right) equations
      go [] now order end is = tt
      go (equation ∷ equations) now order end is =
          let value = right_value before now equation.right in
          let next = update now equation.left value in
          let kept = run_keeps equations next equation.left order.0.left in
          let set : next equation.left ≡ value = ap (λ b. cond b value (now equation.left)) (is_itself equation.left) in
          let same : right_value before now equation.right ≡ right_value before end equation.right =
          same_right now end before equation.right
          (reads_also (IsOnNoLeft (equation ∷ equations)) (λ name. now name ≡ end name)
          (λ name h. sym (is name ∙ run_keeps (equation ∷ equations) now name h)) equation.right order.0.reads) in
          (is equation.left ∙ kept ∙ set ∙ same, go equations next order.1 end is)

  -- values with which each equation holds are those after the run
  pub run_is_one : (equations : List Equation) (now end : Values) → IsInOrder equations
      → ((name : Name) → IsOnNoLeft equations name → end name ≡ now name)
      → AllByRecursion (λ (equation : Equation). end equation.left ≡ right_value before end equation.right) equations
      → (name : Name) → end name ≡ run before now equations name
  run_is_one [] now end order given hold name = given name refl
  run_is_one (equation ∷ equations) now end order given hold name =
      let value = right_value before now equation.right in
      let same : right_value before now equation.right ≡ right_value before end equation.right =
      same_right now end before equation.right
      (reads_also (IsOnNoLeft (equation ∷ equations)) (λ name. now name ≡ end name) (λ name h. sym (given name h)) equation.right order.0.reads) in
      run_is_one equations (update now equation.left value) end order.1 (λ name free.
      elim (cases_Bool (bytes_eq name equation.left)) [
        | inl here ↦
            let left = one_name name equation.left here in
            subst (λ n. end name ≡ n) (sym (ap (λ b. cond b value (now name)) here)) (ap end left ∙ hold.0 ∙ sym same)
        | inr other ↦
            given name (or_from (bytes_eq name equation.left) (is_among (lefts_of equations) name) other free)
            ∙ sym (ap (λ b. cond b value (now name)) other)
      ]) hold.1 name
