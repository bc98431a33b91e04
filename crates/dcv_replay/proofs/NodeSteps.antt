-- The selections of an instant give each name the number of its value.
use Rattle.std.proofs.Common.{◌≡◌, ◌≢◌, ℕ, ◌+◌, ◌<◌, ◌==◌, ◌||◌, Bool, true, false, cond, nat_eq, List, [], ◌∷◌}
use Rattle.std.proofs.Common.{◌++◌, length, map, fold, reverse, get_or, set, Option, inl, inr, refl, sym, ap, subst, ◌∙◌, arith}
use Rattle.std.specs.Prelude.{bytes_eq}
use Rattle.std.specs.List.{list_any, AllByRecursion}
use Rattle.std.proofs.lemmas.List.{get_or-set_other, get_or-set_same, length-set, set-set, reverse-append, map-append}
use Rattle.std.proofs.lemmas.List.Sums.{fold-append}
use Rattle.std.proofs.lemmas.List.Elements.{recursion_from_All}
use Rattle.std.proofs.lemmas.Bool.{cases_Bool, false≢true, both_ways, eq-eqb, eqb-true, eqb-false, false_from_ne_true}
use Rattle.std.proofs.lemmas.Slice.Eq.{bytes_eq-Decides}
use Rattle.dcv_observer.specs.declared.conditions.Condition.{Condition}
use Rattle.dcv_observer.specs.declared.conditions.Condition.TheVariants.{Holds, Equals}
use Rattle.dcv_observer.specs.declared.conditions.Test.{Test}
use Rattle.dcv_observer.proofs.Naming.{Name}
use Rattle.dcv_lustre.specs.declared.node.Item.{Item}
use Rattle.dcv_lustre.specs.declared.node.Item.TheVariants.{Constant, Named}
use Rattle.dcv_lustre.specs.declared.node.Arm.{Arm}
use Rattle.dcv_lustre.specs.declared.node.Right.{Right}
use Rattle.dcv_lustre.specs.declared.node.Right.TheVariants.{Delayed, Chosen, Tested}
use Rattle.dcv_lustre.specs.Tree.{Value, Truth, Number}
use Rattle.dcv_lustre.specs.Meaning.{Values, is_true, is_number, item_value, holds, chosen_value, passes, delayed_value, right_value}
use Rattle.dcv_lustre.specs.Seen.{seen_value, seen_item, seen_condition, seen_arm, seen_test, seen_right}
use Rattle.dcv_lustre.proofs.Runs.{ReadsItem, ReadsCondition, ReadsArms, ReadsTests, Reads}
use Rattle.dcv_replay.specs.declared.replay.Select.{Select}
use Rattle.dcv_replay.specs.Program.{after_select}
use Rattle.dcv_replay.specs.Observer.{value_number}
use Rattle.dcv_replay.specs.Selecting.{slot_of, copy}
use Rattle.dcv_replay.specs.OfNode.{item_slot, choosing, arm_select, arms_selects, tests_selects, right_selects}
use Rattle.dcv_replay.specs.OfNode.{IsPlacedItem, IsPlacedCondition, IsPlacedArm, IsPlacedRight}
use Rattle.dcv_replay.proofs.Mirrors.{both_are, selected, copied, any_test, any_map, IsApart, Mirrors}

-- ---- numbers of values

plus_two : (n m : ℕ) → (n + 2 == m + 2) ≡ nat_eq n m
plus_two n m = elim (cases_Bool (nat_eq n m)) [
  | inl is ↦ eq-eqb (n + 2) (m + 2) (ap (λ (k : ℕ). k + 2) (eqb-true n m is)) ∙ sym is
  | inr is ↦ false_from_ne_true (n + 2 == m + 2) (λ same. eqb-false n m is (omega (arith, eqb-true (n + 2) (m + 2) same))) ∙ sym is
]

pub truth_is : (value : Value) → (value_number value == 1) ≡ is_true value
truth_is (Truth true) = refl
truth_is (Truth false) = refl
truth_is (Number number) = false_from_ne_true (number + 2 == 1) (λ same. omega (arith, eqb-true (number + 2) 1 same))

number_is : (value : Value) (number : ℕ) → (value_number value == number + 2) ≡ is_number value number
number_is (Truth true) number = false_from_ne_true (1 == number + 2) (λ same. omega (arith, eqb-true 1 (number + 2) same))
number_is (Truth false) number = false_from_ne_true (0 == number + 2) (λ same. omega (arith, eqb-true 0 (number + 2) same))
number_is (Number other) number = plus_two other number

chosen_number : (test : Bool) (a b : Value) → cond test (value_number a) (value_number b) ≡ value_number (cond test a b)
chosen_number true a b = refl
chosen_number false a b = refl

-- ---- lengths

pub length-after : (selects : List Select) (store : List ℕ) → length (fold after_select store selects) ≡ length store
length-after [] store = refl
length-after (one ∷ selects) store = length-after selects (after_select store one) ∙ length-set store one.target _

-- ---- cells

-- a cell has what the right side takes from the instant before
abbrev pub CellIs : List Name → Option Values → List ℕ → ℕ → Right → Type 0
CellIs names before store cell (Delayed first source) = get_or store cell 0 ≡ value_number (delayed_value before (seen_value first) (get_or names source []))
CellIs names before store cell (Chosen arms otherwise) = Unit {0}
CellIs names before store cell (Tested tests) = Unit {0}

-- ---- names that are not known

module _ (names : List Name) (apart : IsApart names) (values : Values) where
  -- the number of what a name has
  abbrev number_at : Name → ℕ
  number_at name = value_number (values name)

  unknown_written : {known : Name → Bool} {store : List ℕ} → Mirrors names known (λ name. value_number (values name)) store → (place number : ℕ)
      → known (get_or names place []) ≡ false → Mirrors names known (λ name. value_number (values name)) (set store (slot_of place) number)
  unknown_written {known} {store} mirrors place number fresh = record {
    long = omega (arith, length-set store (slot_of place) number, mirrors.long);
    literals = λ literal small. get_or-set_other store (slot_of place) literal number 0 (λ same. omega (arith, same, small)) ∙ mirrors.literals literal small;
    numbers = λ other within there.
        get_or-set_other store (slot_of place) (slot_of other) number 0 (λ same. no_place other place fresh there (omega (arith, same)))
        ∙ mirrors.numbers other within there;
  } where
    no_place : (p q : ℕ) → known (get_or names q []) ≡ false → known (get_or names p []) ≡ true → p ≡ q → ⊥
    no_place p q fresh there same = both_ways (known (get_or names q [])) fresh (subst (λ (n : ℕ). known (get_or names n []) ≡ true) same there)

  -- a name gets the number of its value
  pub value_written : {known : Name → Bool} {store : List ℕ} → Mirrors names known (λ name. value_number (values name)) store → (place number : ℕ) → place < length names
      → value_number (values (get_or names place [])) ≡ number
      → Mirrors names (λ name. bytes_eq name (get_or names place []) || known name) (λ name. value_number (values name)) (set store (slot_of place) number)
  value_written {known} {store} mirrors place number below is = record {
    long = omega (arith, length-set store (slot_of place) number, mirrors.long);
    literals = λ literal small. get_or-set_other store (slot_of place) literal number 0 (λ same. omega (arith, same, small)) ∙ mirrors.literals literal small;
    numbers = λ other within there. elim (cases_Bool (bytes_eq (get_or names other []) (get_or names place []))) [
      | inl same ↦
          ap (λ (at : ℕ). get_or (set store (slot_of place) number) (slot_of at) 0) (apart other place within below same)
          ∙ get_or-set_same store (slot_of place) number 0 (omega (arith, mirrors.long, below))
          ∙ sym is ∙ ap (λ (at : ℕ). value_number (values (get_or names at []))) (sym (apart other place within below same))
      | inr differ ↦
          get_or-set_other store (slot_of place) (slot_of other) number 0 (λ same. differ_at other place differ (omega (arith, same)))
          ∙ mirrors.numbers other within (was_known (bytes_eq (get_or names other []) (get_or names place [])) (known (get_or names other [])) differ there)
    ];
  } where
    was_known : (a b : Bool) → a ≡ false → (a || b) ≡ true → b ≡ true
    was_known true b fails there = absurd (false≢true (sym fails))
    was_known false b fails there = there

    differ_at : (p q : ℕ) → bytes_eq (get_or names p []) (get_or names q []) ≡ false → p ≡ q → ⊥
    differ_at p q differ same = both_ways (bytes_eq (get_or names p []) (get_or names q [])) differ
        (subst (λ n. bytes_eq (get_or names p []) (get_or names n []) ≡ true) same ((bytes_eq-Decides (get_or names p []) (get_or names p [])).1 refl))

  -- ---- right sides

  module _ (known : Name → Bool) where
    abbrev IsKnown : Name → Type 0
    IsKnown name = known name ≡ true

    item_is : {store : List ℕ} → Mirrors names known (λ name. value_number (values name)) store → (item : Item) → IsPlacedItem (length names) item
        → ReadsItem (λ name. known name ≡ true) (seen_item names item) → get_or store (item_slot item) 0 ≡ value_number (item_value values (seen_item names item))
    item_is mirrors (Constant value) small read = mirrors.literals (value_number (seen_value value)) small
    item_is mirrors (Named place) below read = mirrors.numbers place below read

    choice_is : {store : List ℕ} → Mirrors names known (λ name. value_number (values name)) store → (condition : Condition) → IsPlacedCondition (length names) condition
        → ReadsCondition (λ name. known name ≡ true) (seen_condition names condition) → (target held otherwise : ℕ)
        → after_select store (choosing target condition held otherwise) ≡ set store target (cond (holds values (seen_condition names condition)) (get_or store held 0) (get_or store otherwise 0))
    choice_is {store} mirrors (Holds place) below read target held otherwise =
        selected store target (slot_of place) 1 held otherwise
        ∙ ap (λ (b : Bool). set store target (cond b (get_or store held 0) (get_or store otherwise 0)))
        (ap (λ (n : ℕ). n == 1) (mirrors.numbers place below read) ∙ truth_is (values (get_or names place [])))
    choice_is {store} mirrors (Equals place number) below read target held otherwise =
        selected store target (slot_of place) (number + 2) held otherwise
        ∙ ap (λ (b : Bool). set store target (cond b (get_or store held 0) (get_or store otherwise 0)))
        (ap (λ (n : ℕ). n == number + 2) (mirrors.numbers place below read) ∙ number_is (values (get_or names place [])) number)

    module _ {store : List ℕ} (mirrors : Mirrors names known (λ name. value_number (values name)) store) (left : ℕ) (below : left < length names)
        (fresh : known (get_or names left []) ≡ false) where
      arms_are : (arms : List Arm) → AllByRecursion (IsPlacedArm (length names)) arms → ReadsArms (λ name. known name ≡ true) (map (seen_arm names) arms)
          → (otherwise : Item) → IsPlacedItem (length names) otherwise → ReadsItem (λ name. known name ≡ true) (seen_item names otherwise)
          → fold after_select store (copy (slot_of left) (item_slot otherwise) ∷ arms_selects (slot_of left) arms)
          ≡ set store (slot_of left) (value_number (chosen_value values (map (seen_arm names) arms) (seen_item names otherwise)))
      arms_are [] placed reads otherwise last_placed last_read =
          copied store (slot_of left) (item_slot otherwise) ∙ ap (λ (n : ℕ). set store (slot_of left) n) (item_is mirrors otherwise last_placed last_read)
      arms_are (arm ∷ arms) placed reads otherwise last_placed last_read =
          let rest : ℕ = value_number (chosen_value values (map (seen_arm names) arms) (seen_item names otherwise)) in
          let before : fold after_select store (copy (slot_of left) (item_slot otherwise) ∷ arms_selects (slot_of left) arms)
          ≡ set store (slot_of left) (value_number (chosen_value values (map (seen_arm names) arms) (seen_item names otherwise))) =
          arms_are arms placed.1 reads.1 otherwise last_placed last_read in
          let still = unknown_written mirrors left (value_number (chosen_value values (map (seen_arm names) arms) (seen_item names otherwise))) fresh in
          let selects_are : arms_selects (slot_of left) (arm ∷ arms) ≡ arms_selects (slot_of left) arms ++ arm_select (slot_of left) arm ∷ [] =
          ap (map (arm_select (slot_of left))) (reverse-append (arm ∷ []) arms) ∙ map-append (arm_select (slot_of left)) (reverse arms) (arm ∷ []) in
          ap (λ selects. fold after_select store (copy (slot_of left) (item_slot otherwise) ∷ selects)) selects_are
          ∙ fold-append after_select store (copy (slot_of left) (item_slot otherwise) ∷ arms_selects (slot_of left) arms) (arm_select (slot_of left) arm ∷ [])
          ∙ ap (λ (s : List ℕ). after_select s (arm_select (slot_of left) arm)) before
          ∙ choice_is still arm.condition placed.0.condition reads.0.condition (slot_of left) (item_slot arm.item) (slot_of left)
          ∙ ap (λ (n : ℕ). set (set store (slot_of left) (value_number (chosen_value values (map (seen_arm names) arms) (seen_item names otherwise)))) (slot_of left) n)
          (both_are (holds values (seen_condition names arm.condition)) (item_is still arm.item placed.0.item reads.0.item)
          (get_or-set_same store (slot_of left) (value_number (chosen_value values (map (seen_arm names) arms) (seen_item names otherwise))) 0 (omega (arith, mirrors.long, below)))
          ∙ chosen_number (holds values (seen_condition names arm.condition)) (item_value values (seen_item names arm.item))
          (chosen_value values (map (seen_arm names) arms) (seen_item names otherwise)))
          ∙ set-set store (slot_of left) (value_number (chosen_value values (map (seen_arm names) arms) (seen_item names otherwise)))
          (value_number (chosen_value values (map (seen_arm names) (arm ∷ arms)) (seen_item names otherwise)))

      asked : (tests : List Test) → AllByRecursion (λ (test : Test). test.name < length names) tests → ReadsTests (λ name. known name ≡ true) (map (seen_test names) tests)
          → AllByRecursion (λ (test : Test). ((get_or store (slot_of test.name) 0 == test.number + 2) ≡ passes values (seen_test names test)) × (slot_of test.name ≢ slot_of left)) tests
      asked [] placed reads = tt
      asked (test ∷ tests) placed reads = (
        (
          ap (λ (n : ℕ). n == test.number + 2) (mirrors.numbers test.name placed.0 reads.0) ∙ number_is (values (get_or names test.name [])) test.number,
          (λ same. no_place test.name left fresh reads.0 (omega (arith, same))),
        ),
        asked tests placed.1 reads.1,
      ) where
        no_place : (p q : ℕ) → known (get_or names q []) ≡ false → known (get_or names p []) ≡ true → p ≡ q → ⊥
        no_place p q fresh there same = both_ways (known (get_or names q [])) fresh (subst (λ (n : ℕ). known (get_or names n []) ≡ true) same there)

      tests_are : (tests : List Test) → AllByRecursion (λ (test : Test). test.name < length names) tests → ReadsTests (λ name. known name ≡ true) (map (seen_test names) tests)
          → fold after_select store (tests_selects (slot_of left) tests) ≡ set store (slot_of left) (value_number (Truth (list_any (passes values) (map (seen_test names) tests))))
      tests_are tests placed reads =
          any_test (λ (test : Test). test.number + 2) (λ (test : Test). passes values (seen_test names test)) store (slot_of left)
          (record { high = omega arith; inside = omega (arith, mirrors.long, below); zero_is = mirrors.literals 0 (omega arith); one_is = mirrors.literals 1 (omega arith) })
          tests (asked tests placed reads)
          ∙ ap (λ (b : Bool). set store (slot_of left) (cond b 1 0)) (any_map (passes values) (seen_test names) tests)

      pub right_is : (before : Option Values) (cell : ℕ) (right : Right) → IsPlacedRight (length names) right → Reads (λ name. known name ≡ true) (seen_right names right)
          → CellIs names before store cell right
          → fold after_select store (right_selects cell (slot_of left) right) ≡ set store (slot_of left) (value_number (right_value before values (seen_right names right)))
      right_is before cell (Delayed first source) placed reads kept = copied store (slot_of left) cell ∙ ap (λ (n : ℕ). set store (slot_of left) n) kept
      right_is before cell (Chosen arms otherwise) placed reads kept =
          arms_are arms.items (recursion_from_All (IsPlacedArm (length names)) arms.items placed.0) reads.0 otherwise placed.1 reads.1
      right_is before cell (Tested tests) placed reads kept =
          tests_are tests.items (recursion_from_All (λ (test : Test). test.name < length names) tests.items placed) reads
