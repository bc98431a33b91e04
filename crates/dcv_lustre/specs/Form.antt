-- The nodes that have a text: by their words and numbers alone.
--     IsSpellable node      names are names of the subset, numbers are small enough, and there is an input, and a test where there are tests
use Rattle.std.specs.Prelude.{ℕ, ◌<◌, ◌≤◌, Bool, ◌&&◌, ◌||◌, nat_eq, IsTrue, List, length}
use Rattle.std.specs.List.{AllByRecursion}
use Rattle.dcv_observer.specs.Classes.{name as plain_name, largest_number, is_short_word, class_of}
use Rattle.dcv_lustre.specs.Classes.{lexicon, word_ok}
use Rattle.dcv_lustre.specs.Tree.{Value, Truth, Number, Item, Constant, Named, Condition, Holds, Equals, Arm, Test, Right, Delayed, Chosen, Tested}
use Rattle.dcv_lustre.specs.Tree.{Equation, Local, Node}

-- a word that is not reserved
abbrev pub is_name : List ℕ → Bool
is_name bytes = is_short_word bytes && (nat_eq (class_of lexicon bytes) plain_name || nat_eq (class_of lexicon bytes) word_ok)

abbrev pub IsName : List ℕ → Type 0
IsName bytes = IsTrue (is_name bytes)

abbrev pub IsNumber : ℕ → Type 0
IsNumber number = number ≤ largest_number

abbrev pub IsValue : Value → Type 0
IsValue (Truth truth) = Unit {0}
IsValue (Number number) = IsNumber number

abbrev pub IsItem : Item → Type 0
IsItem (Constant value) = IsValue value
IsItem (Named name) = IsName name

abbrev pub IsCondition : Condition → Type 0
IsCondition (Holds name) = IsName name
IsCondition (Equals name number) = IsName name × IsNumber number

pub record IsArm (arm : Arm) : Type 0 where
  pub condition : IsCondition arm.condition
  pub item : IsItem arm.item

pub record IsTest (test : Test) : Type 0 where
  pub name : IsName test.name
  pub number : IsNumber test.number

abbrev pub IsRight : Right → Type 0
IsRight (Delayed first source) = IsValue first × IsName source
IsRight (Chosen arms otherwise) = AllByRecursion IsArm arms × IsItem otherwise
IsRight (Tested tests) = (0 < length tests) × AllByRecursion IsTest tests

pub record IsEquation (equation : Equation) : Type 0 where
  pub left : IsName equation.left
  pub right : IsRight equation.right

pub record IsSpellable (node : Node) : Type 0 where
  pub name : IsName node.name
  pub some_input : 0 < length node.inputs
  pub inputs : AllByRecursion IsName node.inputs
  pub locals : AllByRecursion (λ (local : Local). IsName local.name) node.locals
  pub equations : AllByRecursion IsEquation node.equations
