-- The units that have a text: by their words and numbers alone.
--     IsSpellable unit      names are names of the subset, numbers are small enough, and there is a static, and a test where there are tests
use Rattle.std.specs.Prelude.{ℕ, ◌<◌, ◌≤◌, Bool, ◌&&◌, nat_eq, IsTrue, List, length}
use Rattle.std.specs.List.{AllByRecursion}
use Rattle.dcv_observer.specs.Classes.{name as plain_name, largest_number, is_short_word, class_of}
use Rattle.dcv_c.specs.Classes.{lexicon}
use Rattle.dcv_c.specs.Tree.{Item, Constant, Named, Condition, Holds, Equals, Test, Right, Plain, Chosen, Statement, Assign, When}
use Rattle.dcv_c.specs.Tree.{Returned, Fixed, Read, Tested, Assignment, CUnit}

-- a word that is not reserved
abbrev pub is_name : List ℕ → Bool
is_name bytes = is_short_word bytes && nat_eq (class_of lexicon bytes) plain_name

abbrev pub IsName : List ℕ → Type 0
IsName bytes = IsTrue (is_name bytes)

abbrev pub IsNumber : ℕ → Type 0
IsNumber number = number ≤ largest_number

abbrev pub IsItem : Item → Type 0
IsItem (Constant number) = IsNumber number
IsItem (Named name) = IsName name

abbrev pub IsCondition : Condition → Type 0
IsCondition (Holds name) = IsName name
IsCondition (Equals name number) = IsName name × IsNumber number

abbrev pub IsRight : Right → Type 0
IsRight (Plain item) = IsItem item
IsRight (Chosen condition item otherwise) = IsCondition condition × IsItem item × IsItem otherwise

abbrev pub IsStatement : Statement → Type 0
IsStatement (Assign left right) = IsName left × IsRight right
IsStatement (When condition left item) = IsCondition condition × IsName left × IsItem item

pub record IsTest (test : Test) : Type 0 where
  pub name : IsName test.name
  pub number : IsNumber test.number

abbrev pub IsReturned : Returned → Type 0
IsReturned (Fixed number) = IsNumber number
IsReturned (Read name) = IsName name
IsReturned (Tested tests) = (0 < length tests) × AllByRecursion IsTest tests

pub record IsAssignment (assignment : Assignment) : Type 0 where
  pub name : IsName assignment.name
  pub number : IsNumber assignment.number

pub record IsSpellable (unit : CUnit) : Type 0 where
  pub some_static : 0 < length unit.statics
  pub statics : AllByRecursion IsName unit.statics
  pub reset : IsName unit.reset
  pub assignments : AllByRecursion IsAssignment unit.assignments
  pub step : IsName unit.step
  pub parameters : AllByRecursion IsName unit.parameters
  pub locals : AllByRecursion IsName unit.locals
  pub statements : AllByRecursion IsStatement unit.statements
  pub returned : IsReturned unit.returned
