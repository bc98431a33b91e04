-- What is laid out of a node has a derivation that stands for it.
use Rattle.std.proofs.Common.{◌≡◌, ℕ, ◌+◌, true, false, cond, ◌||◌, ◌⊎◌, nat_eq, List, [], ◌∷◌, ◌++◌, Option, Some, None, length, map}
use Rattle.std.proofs.Common.{inl, inr, refl, sym, ap, subst, ◌∙◌, arith, append_assoc, codes, decimal}
use Rattle.std.specs.Prelude.{bytes_eq}
use Rattle.std.specs.List.{AllByRecursion}
use Rattle.std.proofs.lemmas.Bool.{and_parts, or_left, or_from, false≢true, or_cases, false_from_ne_true, eqb-true}
use Rattle.std.proofs.lemmas.Slice.Eq.{bytes_eq-Decides}
use Rattle.dcv_grammar.specs.declared.grammar.Symbol.{Symbol}
use Rattle.dcv_grammar.specs.declared.grammar.Symbol.TheVariants.{Class, Rule}
use Rattle.dcv_lexer.specs.Lexicon.{is_number}
use Rattle.dcv_lexer.specs.Cuts.{Token}
use Rattle.dcv_lexer.specs.Decimal.{value_of}
use Rattle.dcv_observer.specs.Classes.{name as plain_name, number, is_short_word, class_of}
use Rattle.dcv_observer.specs.Pieces.{tokens_at}
use Rattle.dcv_observer.specs.Layouts.{Layout, ◌<>◌, Each, Word}
use Rattle.dcv_observer.proofs.Spelt.{Spelt as SpeltBy, SpeltAs, at, tokens_in, after, none, by_token, by_rule, then, before, in_turn}
use Rattle.dcv_observer.proofs.PieceLists.{tokens_append}
use Rattle.dcv_observer.proofs.Words.{word_is_no_number, decimal_is, value_of_decimal, number_class as class_of_decimal}
use Rattle.dcv_lustre.specs.Classes.{lexicon, word_ok, word_if, word_then, word_else}
use Rattle.dcv_lustre.specs.Tree.{Value, Truth, Number, Item, Constant, Named, Condition, Holds, Equals, Arm, Test, Right, Delayed, Chosen, Tested}
use Rattle.dcv_lustre.specs.Placed.{is_true_word, value_at, is_constant, item_at, condition_of, arm_of, test_of, right_of, PlacedDelayed}
use Rattle.dcv_lustre.specs.Placed.{PlacedChosen, PlacedTested, PlacedArm}
use Rattle.dcv_lustre.specs.Language as rules
use Rattle.dcv_lustre.specs.Language.{language}
use Rattle.dcv_lustre.specs.Actions.{Part, scheme, AToken, ARight, Compared, Choice, ATest, Tests}
use Rattle.dcv_lustre.specs.Form.{IsName, IsNumber, IsValue, IsItem, IsCondition, IsArm, IsTest, IsRight}
use Rattle.dcv_lustre.specs.Layout.{pieces_in, value_text, item_text, condition_layout, arm_layout, or_layout, test_layout, right_layout}

-- by the scheme of the subset
abbrev pub Spelt : List Symbol → List Token → List Part → Type 0
Spelt symbols tokens parts = SpeltBy scheme symbols tokens parts

-- ---- words and numbers

name_class : (name : List ℕ) → IsName name → (class_of lexicon name ≡ plain_name) ⊎ (class_of lexicon name ≡ word_ok)
name_class name is =
    let parts = and_parts (is_short_word name) _ is in
    elim (or_cases (nat_eq (class_of lexicon name) plain_name) (nat_eq (class_of lexicon name) word_ok) parts.1) [
      | inl plain ↦ inl (eqb-true (class_of lexicon name) plain_name plain)
      | inr ok ↦ inr (eqb-true (class_of lexicon name) word_ok ok)
    ]

pub name_spelt : (start : ℕ) (name : List ℕ) → IsName name → Spelt (Rule rules.name ∷ []) (at start name ∷ []) (AToken (at start name) ∷ [])
unfolding language
name_spelt start name is =
    elim (name_class name is) [
      | inl plain ↦ by_rule rules.name (0, omega arith, refl) (by_token (at start name) plain none)
      | inr ok ↦ by_rule rules.name (1, omega arith, refl) (by_token (at start name) ok none)
    ]

number_class : (n : ℕ) → IsNumber n → class_of lexicon (decimal n) ≡ number
unfolding lexicon
number_class n small = class_of_decimal lexicon n small

-- ---- constants and items

pub record ValueSpelt (start : ℕ) (value : Value) : Type 0 where
  pub spelt : Spelt (Rule rules.literal ∷ []) (at start (value_text value) ∷ []) (AToken (at start (value_text value)) ∷ [])
  pub value_is : value_at (at start (value_text value)) ≡ value
  pub constant : is_constant (value_text value) ≡ true

value_spelt : (start : ℕ) (value : Value) → IsValue value → ValueSpelt start value
unfolding language lexicon
value_spelt start (Truth true) is =
    record { spelt = by_rule rules.literal (2, omega arith, refl) (by_token (at start (codes "true")) refl none); value_is = refl; constant = refl }
value_spelt start (Truth false) is =
    record { spelt = by_rule rules.literal (0, omega arith, refl) (by_token (at start (codes "false")) refl none); value_is = refl; constant = refl }
value_spelt start (Number n) is =
    let kind = decimal_is n is in
    record {
      spelt = by_rule rules.literal (1, omega arith, refl) (by_token (at start (decimal n)) (number_class n is) none);
      value_is =
          ap (λ d. cond d (Number (value_of (decimal n))) (Truth (is_true_word (decimal n)))) kind.1
          ∙ ap Number (value_of_decimal n (omega arith));
      constant = or_left (is_number (decimal n) || is_true_word (decimal n)) _ (or_left (is_number (decimal n)) _ kind.1);
    }

-- a name is no constant
pub name_is_no_constant : (name : List ℕ) → IsName name → is_constant name ≡ false
unfolding lexicon
name_is_no_constant name is =
    or_from (is_number name || is_true_word name) (bytes_eq name (codes "false"))
    (or_from (is_number name) (is_true_word name) (word_is_no_number name (and_parts _ _ (and_parts (is_short_word name) _ is).0).0)
    (false_from_ne_true (is_true_word name) (λ same. false≢true (subst IsName ((bytes_eq-Decides name (codes "true")).0 same) is))))
    (false_from_ne_true (bytes_eq name (codes "false")) (λ same. false≢true (subst IsName ((bytes_eq-Decides name (codes "false")).0 same) is)))

pub record ItemSpelt (start : ℕ) (item : Item) : Type 0 where
  pub spelt : Spelt (Rule rules.item ∷ []) (at start (item_text item) ∷ []) (AToken (at start (item_text item)) ∷ [])
  pub item_is : item_at (at start (item_text item)) ≡ item

item_spelt : (start : ℕ) (item : Item) → IsItem item → ItemSpelt start item
unfolding language
item_spelt start (Constant value) is =
    let v = value_spelt start value is in
    record {
      spelt = by_rule rules.item (1, omega arith, refl) v.spelt;
      item_is = ap (λ c. cond c (Constant (value_at (at start (value_text value)))) (Named (value_text value))) v.constant ∙ ap Constant v.value_is;
    }
item_spelt start (Named name) is =
    record {
      spelt = by_rule rules.item (0, omega arith, refl) (name_spelt start name is);
      item_is = ap (λ c. cond c (Constant (value_at (at start name))) (Named name)) (name_is_no_constant name is);
    }

-- ---- conditions and arms

condition_spelt : (start : ℕ) (condition : Condition) → IsCondition condition
    → SpeltAs scheme rules.condition (λ (c : Token × Option Token). Compared c.0 c.1) (λ c. condition_of c.0.bytes c.1) start (condition_layout condition) condition
unfolding language lexicon
condition_spelt start (Holds name) is =
    record {
      placed = (at start name, None);
      is = refl;
      spelt = by_rule rules.condition (0, omega arith, refl) (then (name_spelt start name is) (by_rule rules.compared (0, omega arith, refl) none));
    }
condition_spelt start (Equals name n) is =
    record {
      placed = (at start name, Some (at _ (decimal n)));
      is = ap (Equals name) (value_of_decimal n (omega (arith, is.1)));
      spelt = by_rule rules.condition (0, omega arith, refl) (then (name_spelt start name is.0)
          (by_rule rules.compared (1, omega arith, refl) (by_token _ refl (by_token _ (number_class n is.1) none))));
    }

pub record ArmSpelt (start : ℕ) (arm : Arm) : Type 0 where
  pub placed : PlacedArm
  pub arm_is : arm_of placed ≡ arm
  pub spelt : Spelt (Class word_if ∷ Rule rules.condition ∷ Class word_then ∷ Rule rules.item ∷ Class word_else ∷ []) (tokens_in start (arm_layout arm))
      (Compared placed.name placed.number ∷ AToken placed.item ∷ [])

arm_spelt : (start : ℕ) (arm : Arm) → IsArm arm → ArmSpelt start arm
unfolding lexicon
arm_spelt start arm is =
    let c = condition_spelt (start + 2 + 1) arm.condition is.condition in
    let from = after (start + 2 + 1) (condition_layout arm.condition) + 1 + 4 + 1 in
    let i = item_spelt from arm.item is.item in
    record {
      placed = record { name = c.placed.0; number = c.placed.1; item = at from (item_text arm.item) };
      arm_is = λ j. record { condition = c.is j; item = i.item_is j };
      spelt =
          by_token _ refl (before (condition_layout arm.condition) _ (start + 2 + 1) c.spelt (by_token _ refl (then i.spelt (by_token _ refl none))));
    }

-- ---- choices

-- the tokens of an arm and what is after it
arm_first : (start : ℕ) (arm : Arm) (arms : List Arm) (otherwise : Item)
    → tokens_in start (right_layout (Chosen (arm ∷ arms) otherwise))
    ≡ tokens_in start (arm_layout arm) ++ tokens_in (after start (arm_layout arm)) (right_layout (Chosen arms otherwise))
arm_first start arm arms otherwise =
    ap (tokens_at start) (append_assoc (pieces_in (arm_layout arm)) (pieces_in (Each arm_layout arms)) (pieces_in (Word (item_text otherwise))))
    ∙ tokens_append (pieces_in (arm_layout arm)) (pieces_in (right_layout (Chosen arms otherwise))) start

choice_spelt : (arms : List Arm) (start : ℕ) (otherwise : Item) → AllByRecursion IsArm arms → IsItem otherwise
    → SpeltAs {X = List Arm × Item} scheme rules.choice (λ (c : List PlacedArm × Token). Choice c.0 c.1) (λ c. (map arm_of c.0, item_at c.1)) start (right_layout (Chosen arms otherwise)) (arms, otherwise)
unfolding language
choice_spelt [] start otherwise are is =
    let i = item_spelt start otherwise is in
    record { placed = ([], at start (item_text otherwise)); is = λ j. ([], i.item_is j); spelt = by_rule rules.choice (0, omega arith, refl) i.spelt }
choice_spelt (arm ∷ arms) start otherwise are is =
    let a = arm_spelt start arm are.0 in
    let more = choice_spelt arms (after start (arm_layout arm)) otherwise are.1 is in
    record {
      placed = (a.placed ∷ more.placed.0, more.placed.1);
      is = λ i. (a.arm_is i ∷ (more.is i).0, (more.is i).1);
      spelt =
          subst (λ tokens. Spelt (Rule rules.choice ∷ []) tokens (Choice (a.placed ∷ more.placed.0) more.placed.1 ∷ []))
          (sym (arm_first start arm arms otherwise))
          (by_rule rules.choice (1, omega arith, refl) (then a.spelt more.spelt));
    }

-- ---- tests

test_spelt : (start : ℕ) (test : Test) → IsTest test → SpeltAs scheme rules.test ATest test_of start (test_layout test) test
unfolding language lexicon
test_spelt start test is =
    let name = at (start + 1) test.name in
    let number = at (start + 1 + length test.name + 1 + 1 + 1) (decimal test.number) in
    record {
      placed = record { name = name; number = number };
      is = ap (λ n. record { name = test.name; number = n }) (value_of_decimal test.number (omega (arith, is.number)));
      spelt = by_rule rules.test (0, omega arith, refl) (by_token _ refl (then (name_spelt (start + 1) test.name is.name) (by_token _ refl
          (by_token number (number_class test.number is.number) (by_token _ refl none)))));
    }

abbrev or_test : Test → Layout
or_test test = or_layout <> test_layout test

more_tests_spelt : (tests : List Test) (start : ℕ) → AllByRecursion IsTest tests
    → SpeltAs scheme rules.more_tests Tests (map test_of) start (Each or_test tests) tests
unfolding language lexicon
more_tests_spelt [] start are = record { placed = []; is = refl; spelt = by_rule rules.more_tests (0, omega arith, refl) none }
more_tests_spelt (test ∷ tests) start are =
    let first = start + 1 + 2 + 1 in
    let t = test_spelt first test are.0 in
    let more = more_tests_spelt tests (after first (test_layout test)) are.1 in
    record {
      placed = t.placed ∷ more.placed;
      is = λ i. t.is i ∷ more.is i;
      spelt =
          by_rule rules.more_tests (1, omega arith, refl) (by_token _ refl (in_turn (test_layout test) (Each or_test tests) first t.spelt more.spelt));
    }

-- ---- right sides

pub right_spelt : (start : ℕ) (right : Right) → IsRight right → SpeltAs scheme rules.right ARight right_of start (right_layout right) right
unfolding language lexicon
right_spelt start (Delayed first source) is =
    let v = value_spelt start first is.0 in
    let behind = start + length (value_text first) + 1 + 2 + 1 + 3 + 1 in
    record {
      placed = PlacedDelayed (at start (value_text first)) (at behind source);
      is = ap (λ value. Delayed value source) v.value_is;
      spelt = by_rule rules.right (1, omega arith, refl) (then v.spelt (by_rule rules.delay (1, omega arith, refl) (by_token _ refl (by_token _ refl (name_spelt behind source is.1)))));
    }
right_spelt start (Chosen [] (Constant value)) is =
    let v = value_spelt start value is.1 in
    let i = item_spelt start (Constant value) is.1 in
    record {
      placed = PlacedChosen [] (at start (value_text value));
      is = ap (Chosen []) i.item_is;
      spelt = by_rule rules.right (1, omega arith, refl) (then v.spelt (by_rule rules.delay (0, omega arith, refl) none));
    }
right_spelt start (Chosen [] (Named name)) is =
    let i = item_spelt start (Named name) is.1 in
    record {
      placed = PlacedChosen [] (at start name);
      is = ap (Chosen []) i.item_is;
      spelt = by_rule rules.right (0, omega arith, refl) (name_spelt start name is.1);
    }
right_spelt start (Chosen (arm ∷ arms) otherwise) is =
    let a = arm_spelt start arm is.0.0 in
    let more = choice_spelt arms (after start (arm_layout arm)) otherwise is.0.1 is.1 in
    record {
      placed = PlacedChosen (a.placed ∷ more.placed.0) more.placed.1;
      is = λ i. Chosen (a.arm_is i ∷ (more.is i).0) ((more.is i).1);
      spelt =
          subst (λ tokens. Spelt (Rule rules.right ∷ []) tokens (ARight (PlacedChosen (a.placed ∷ more.placed.0) more.placed.1) ∷ []))
          (sym (arm_first start arm arms otherwise))
          (by_rule rules.right (2, omega arith, refl) (then a.spelt more.spelt));
    }
right_spelt start (Tested []) is = absurd (omega (arith, is.0))
right_spelt start (Tested (test ∷ tests)) is =
    let t = test_spelt start test is.1.0 in
    let more = more_tests_spelt tests (after start (test_layout test)) is.1.1 in
    record {
      placed = PlacedTested (t.placed ∷ more.placed);
      is = λ i. Tested (t.is i ∷ more.is i);
      spelt = by_rule rules.right (3, omega arith, refl) (in_turn (test_layout test) (Each or_test tests) start t.spelt more.spelt);
    }
