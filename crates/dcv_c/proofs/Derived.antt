-- The statements of a unit that are laid out have derivations that stand for them.
use Rattle.std.proofs.Common.{◌≡◌, ℕ, ◌+◌, cond, List, [], ◌∷◌, Option, Some, None, length, map, refl, ap}
use Rattle.std.proofs.Common.{◌∙◌, arith, codes, decimal}
use Rattle.std.specs.List.{AllByRecursion}
use Rattle.std.proofs.lemmas.Bool.{and_parts, eqb-true}
use Rattle.dcv_grammar.specs.declared.grammar.Symbol.{Symbol}
use Rattle.dcv_grammar.specs.declared.grammar.Symbol.TheVariants.{Rule}
use Rattle.dcv_lexer.specs.Cuts.{Token}
use Rattle.dcv_lexer.specs.Decimal.{value_of}
use Rattle.dcv_observer.specs.Classes.{name as plain_name, number, is_short_word, class_of}
use Rattle.dcv_observer.specs.Layouts.{◌<>◌, Each}
use Rattle.dcv_observer.proofs.Spelt.{Spelt as SpeltBy, SpeltAs, at, after, none, by_token, by_rule, then, before, in_turn}
use Rattle.dcv_observer.proofs.Words.{word_is_no_number, decimal_is, value_of_decimal, number_class as class_of_decimal}
use Rattle.dcv_c.specs.Classes.{lexicon}
use Rattle.dcv_c.specs.Tree.{Item, Constant, Named, Condition, Holds, Equals, Test, Right, Plain, Chosen, Statement, Assign, When, Returned, Fixed, Read, Tested}
use Rattle.dcv_c.specs.Placed.{item_at, condition_of, test_of, right_of, statement_of, returned_of, PlacedPlain, PlacedChosen}
use Rattle.dcv_c.specs.Placed.{PlacedAssign, PlacedWhen, PlacedFixed, PlacedRead, PlacedTested}
use Rattle.dcv_c.specs.Language as rules
use Rattle.dcv_c.specs.Language.{language}
use Rattle.dcv_c.specs.Actions.{Part, scheme, AToken, ARight, Compared, AStatement, Statements, AReturned, Tests}
use Rattle.dcv_c.specs.Form.{IsName, IsNumber, IsItem, IsCondition, IsRight, IsStatement, IsTest, IsReturned}
use Rattle.dcv_c.specs.Layout.{item_text, condition_layout, right_layout, statement_line, between_tests, test_layout, returned_layout}

-- by the scheme of the subset
abbrev pub Spelt : List Symbol → List Token → List Part → Type 0
Spelt symbols tokens parts = SpeltBy scheme symbols tokens parts

-- ---- words and numbers

pub name_class : (name : List ℕ) → IsName name → class_of lexicon name ≡ plain_name
name_class name is = eqb-true (class_of lexicon name) plain_name (and_parts (is_short_word name) _ is).1

pub number_class : (n : ℕ) → IsNumber n → class_of lexicon (decimal n) ≡ number
unfolding lexicon
number_class n small = class_of_decimal lexicon n small

-- ---- items

pub record ItemSpelt (start : ℕ) (item : Item) : Type 0 where
  pub spelt : Spelt (Rule rules.item ∷ []) (at start (item_text item) ∷ []) (AToken (at start (item_text item)) ∷ [])
  pub item_is : item_at (at start (item_text item)) ≡ item

item_spelt : (start : ℕ) (item : Item) → IsItem item → ItemSpelt start item
unfolding language
item_spelt start (Constant n) is =
    record {
      spelt = by_rule rules.item (1, omega arith, refl) (by_token (at start (decimal n)) (number_class n is) none);
      item_is =
          ap (λ d. cond d (Constant (value_of (decimal n))) (Named (decimal n))) (decimal_is n is).1
          ∙ ap Constant (value_of_decimal n (omega arith));
    }
item_spelt start (Named name) is =
    record {
      spelt = by_rule rules.item (0, omega arith, refl) (by_token (at start name) (name_class name is) none);
      item_is =
          ap (λ d. cond d (Constant (value_of name)) (Named name))
          (word_is_no_number name (and_parts _ _ (and_parts (is_short_word name) _ is).0).0);
    }

-- ---- conditions

condition_spelt : (start : ℕ) (condition : Condition) → IsCondition condition
    → SpeltAs scheme rules.condition (λ (c : Token × Option Token). Compared c.0 c.1) (λ c. condition_of c.0.bytes c.1) start (condition_layout condition) condition
unfolding language lexicon
condition_spelt start (Holds name) is =
    record {
      placed = (at start name, None);
      is = refl;
      spelt = by_rule rules.condition (0, omega arith, refl) (by_token (at start name) (name_class name is) (by_rule rules.compared (0, omega arith, refl) none));
    }
condition_spelt start (Equals name n) is =
    record {
      placed = (at start name, Some (at _ (decimal n)));
      is = ap (Equals name) (value_of_decimal n (omega (arith, is.1)));
      spelt = by_rule rules.condition (0, omega arith, refl) (by_token (at start name) (name_class name is.0)
          (by_rule rules.compared (1, omega arith, refl) (by_token _ refl (by_token _ (number_class n is.1) none))));
    }

-- ---- right sides

right_spelt : (start : ℕ) (right : Right) → IsRight right → SpeltAs scheme rules.right ARight right_of start (right_layout right) right
unfolding language lexicon
right_spelt start (Plain (Constant n)) is =
    record {
      placed = PlacedPlain (at start (decimal n));
      is = ap Plain (item_spelt start (Constant n) is).item_is;
      spelt = by_rule rules.right (1, omega arith, refl) (by_token (at start (decimal n)) (number_class n is) none);
    }
right_spelt start (Plain (Named name)) is =
    record {
      placed = PlacedPlain (at start name);
      is = ap Plain (item_spelt start (Named name) is).item_is;
      spelt = by_rule rules.right (0, omega arith, refl) (by_token (at start name) (name_class name is) (by_rule rules.choice (0, omega arith, refl) none));
    }
right_spelt start (Chosen (Holds name) item otherwise) is =
    let first = start + length name + 1 + 1 + 1 in
    let second = first + length (item_text item) + 1 + 1 + 1 in
    let i = item_spelt first item is.1 in
    let j = item_spelt second otherwise is.2 in
    record {
      placed = PlacedChosen (at start name) (record { number = None; item = at first (item_text item); otherwise = at second (item_text otherwise) });
      is = λ k. Chosen (Holds name) (i.item_is k) (j.item_is k);
      spelt = by_rule rules.right (0, omega arith, refl) (by_token (at start name) (name_class name is.0)
          (by_rule rules.choice (1, omega arith, refl) (by_token _ refl (then i.spelt (by_token _ refl j.spelt)))));
    }
right_spelt start (Chosen (Equals name n) item otherwise) is =
    let number = start + length name + 1 + 2 + 1 in
    let first = number + length (decimal n) + 1 + 1 + 1 in
    let second = first + length (item_text item) + 1 + 1 + 1 in
    let i = item_spelt first item is.1 in
    let j = item_spelt second otherwise is.2 in
    let same = value_of_decimal n (omega (arith, is.0.1)) in
    record {
      placed = PlacedChosen (at start name)
          (record { number = Some (at number (decimal n)); item = at first (item_text item); otherwise = at second (item_text otherwise) });
      is = λ k. Chosen (Equals name (same k)) (i.item_is k) (j.item_is k);
      spelt = by_rule rules.right (0, omega arith, refl) (by_token (at start name) (name_class name is.0.0)
          (by_rule rules.choice (2, omega arith, refl) (by_token _ refl (by_token (at number (decimal n)) (number_class n is.0.1)
          (by_token _ refl (then i.spelt (by_token _ refl j.spelt)))))));
    }

-- ---- statements

statement_spelt : (start : ℕ) (statement : Statement) → IsStatement statement → SpeltAs scheme rules.statement AStatement statement_of start (statement_line statement) statement
unfolding language lexicon
statement_spelt start (Assign left right) is =
    let name = at (start + 1 + 1) left in
    let equals = at (start + 1 + 1 + length left + 1) (codes "=") in
    let from = start + 1 + 1 + length left + 1 + 1 + 1 in
    let r = right_spelt from right is.1 in
    record {
      placed = PlacedAssign name r.placed;
      is = ap (Assign left) r.is;
      spelt =
          by_rule rules.statement (0, omega arith, refl) (by_token name (name_class left is.0) (by_token equals refl
          (before (right_layout right) _ from r.spelt (by_token _ refl none))));
    }
statement_spelt start (When condition left item) is =
    let if_word = at (start + 1 + 1) (codes "if") in
    let opening = at (start + 1 + 1 + 2 + 1) (codes "(") in
    let from = start + 1 + 1 + 2 + 1 + 1 in
    let c = condition_spelt from condition is.0 in
    let behind = after from (condition_layout condition) in
    let name = at (behind + 1 + 1) left in
    let last = behind + 1 + 1 + length left + 1 + 1 + 1 in
    let i = item_spelt last item is.2 in
    record {
      placed = PlacedWhen c.placed.0 c.placed.1 name (at last (item_text item));
      is = λ k. When (c.is k) left (i.item_is k);
      spelt =
          by_rule rules.statement (1, omega arith, refl) (by_token if_word refl (by_token opening refl (before (condition_layout condition) _ from c.spelt (by_token _ refl
          (by_token name (name_class left is.1) (by_token _ refl (then i.spelt (by_token _ refl none))))))));
    }

pub statements_spelt : (statements : List Statement) (start : ℕ) → AllByRecursion IsStatement statements
    → SpeltAs scheme rules.statements Statements (map statement_of) start (Each statement_line statements) statements
unfolding language
statements_spelt [] start is = record { placed = []; is = refl; spelt = by_rule rules.statements (0, omega arith, refl) none }
statements_spelt (statement ∷ statements) start is =
    let s = statement_spelt start statement is.0 in
    let more = statements_spelt statements (after start (statement_line statement)) is.1 in
    record {
      placed = s.placed ∷ more.placed;
      is = λ i. s.is i ∷ more.is i;
      spelt =
          by_rule rules.statements (1, omega arith, refl) (in_turn (statement_line statement) (Each statement_line statements) start s.spelt more.spelt);
    }

-- ---- what is returned

more_tests_spelt : (tests : List Test) (start : ℕ) → AllByRecursion IsTest tests
    → SpeltAs scheme rules.more_tests Tests (map test_of) start (Each (λ test. between_tests <> test_layout test) tests) tests
unfolding language lexicon
more_tests_spelt [] start are = record { placed = []; is = refl; spelt = by_rule rules.more_tests (0, omega arith, refl) none }
more_tests_spelt (test ∷ tests) start are =
    let first = start + 1 + 2 + 1 in
    let last = first + length test.name + 1 + 2 + 1 in
    let name = at first test.name in
    let number = at last (decimal test.number) in
    let more = more_tests_spelt tests (last + length (decimal test.number)) are.1 in
    let same = value_of_decimal test.number (omega (arith, are.0.number)) in
    record {
      placed = record { name = name; number = number } ∷ more.placed;
      is = λ i. record { name = test.name; number = same i } ∷ more.is i;
      spelt = by_rule rules.more_tests (1, omega arith, refl) (by_token (at (start + 1) (codes "||")) refl
          (then (by_rule rules.test (0, omega arith, refl) (by_token name (name_class test.name are.0.name) (by_token (at (first + length test.name + 1) (codes "==")) refl
          (by_token number (number_class test.number are.0.number) none)))) more.spelt));
    }

pub returned_spelt : (start : ℕ) (returned : Returned) → IsReturned returned → SpeltAs scheme rules.returned AReturned returned_of start (returned_layout returned) returned
unfolding language lexicon
returned_spelt start (Fixed n) is =
    record {
      placed = PlacedFixed (at start (decimal n));
      is = ap Fixed (value_of_decimal n (omega arith));
      spelt = by_rule rules.returned (1, omega arith, refl) (by_token (at start (decimal n)) (number_class n is) none);
    }
returned_spelt start (Read name) is =
    record {
      placed = PlacedRead (at start name);
      is = refl;
      spelt = by_rule rules.returned (0, omega arith, refl) (by_token (at start name) (name_class name is) (by_rule rules.tests (0, omega arith, refl) none));
    }
returned_spelt start (Tested []) is = absurd (omega (arith, is.0))
returned_spelt start (Tested (test ∷ tests)) is =
    let last = start + length test.name + 1 + 2 + 1 in
    let name = at start test.name in
    let number = at last (decimal test.number) in
    let more = more_tests_spelt tests (last + length (decimal test.number)) is.1.1 in
    let same = value_of_decimal test.number (omega (arith, is.1.0.number)) in
    record {
      placed = PlacedTested (record { name = name; number = number } ∷ more.placed);
      is = λ i. Tested (record { name = test.name; number = same i } ∷ more.is i);
      spelt = by_rule rules.returned (0, omega arith, refl) (by_token name (name_class test.name is.1.0.name)
          (by_rule rules.tests (1, omega arith, refl) (by_token (at (start + length test.name + 1) (codes "==")) refl
          (by_token number (number_class test.number is.1.0.number) more.spelt))));
    }
