-- What a unit does. Its store gives a number to each static: reset sets it, and each step goes on from what the step before left there.
--     Numbers                                  a number for each name
--     executed now statement                   the numbers after a statement
--     Store                                    the numbers of the statics, in their order
--     reset_store unit                         the store after reset
--     store_by unit left_over store letter     the store after a step
--     returned_by unit left_over store letter  what the step returns
--     returned_after unit word                 what the last step of a word returns
--     unit_accepts unit                        the words whose last step returns another number than 0
-- A local has no number of its own as a step begins, and the rules of names see to it that none is read before it is assigned: whatever was
-- left there does not matter, which is a law. Here it is 0.
use Rattle.std.specs.Prelude.{ℕ, Bool, not, nat_eq, bytes_eq, if◌then◌else◌, List, ◌++◌, length, map, fold, slice_index_or}
use Rattle.std.specs.List.{list_any, position_or_len}
use Rattle.dcv_word.specs.Behaviour.{Word}
use Rattle.dcv_language.specs.Language.{Language}
use Rattle.dcv_language.specs.Automaton.{Automaton, state_after}
use Rattle.dcv_observer.specs.Naming.{is_among}
use Rattle.dcv_c.specs.Tree.{Item, Constant, Named, Condition, Holds, Equals, Test, Right, Plain, Chosen, Statement, Assign, When}
use Rattle.dcv_c.specs.Tree.{Returned, Fixed, Read, Tested, Assignment, CUnit}

-- ---- statements

abbrev pub Numbers : Type 0
Numbers = List ℕ → ℕ

abbrev pub item_number : Numbers → Item → ℕ
item_number now (Constant number) = number
item_number now (Named name) = now name

abbrev pub holds : Numbers → Condition → Bool
holds now (Holds name) = not (nat_eq (now name) 0)
holds now (Equals name number) = nat_eq (now name) number

abbrev pub right_number : Numbers → Right → ℕ
right_number now (Plain item) = item_number now item
right_number now (Chosen condition item otherwise) = if holds now condition then item_number now item else item_number now otherwise

-- the numbers after `left = number`
abbrev pub assigned : Numbers → List ℕ → ℕ → Numbers
assigned now left number = λ name. if bytes_eq name left then number else now name

abbrev pub executed : Numbers → Statement → Numbers
executed now (Assign left right) = assigned now left (right_number now right)
executed now (When condition left item) = if holds now condition then assigned now left (item_number now item) else now

abbrev pub passes : Numbers → Test → Bool
passes now test = nat_eq (now test.name) test.number

abbrev pub returned_number : Numbers → Returned → ℕ
returned_number now (Fixed number) = number
returned_number now (Read name) = now name
returned_number now (Tested tests) = if list_any (passes now) tests then 1 else 0

-- ---- reset

abbrev pub Store : Type 0
Store = List ℕ

abbrev pub zeros : Numbers
zeros name = 0

abbrev pub reset_store : CUnit → Store
reset_store unit = map (fold (λ now (given : Assignment). assigned now given.name given.number) zeros unit.assignments) unit.statics

-- ---- steps

abbrev pub width_of : CUnit → ℕ
width_of unit = length unit.parameters

-- the truth of a variable, as a number
abbrev pub truth_number : Bool → ℕ
truth_number truth = if truth then 1 else 0

-- as a step begins: a static has what the store gives it, a parameter the letter's value, and a local what was left there
abbrev pub numbers_before : CUnit → Numbers → Store → List Bool → Numbers
numbers_before unit left_over store letter =
    λ name.
    if is_among unit.locals name then left_over name
    else slice_index_or (store ++ map truth_number letter) (position_or_len (bytes_eq name) (unit.statics ++ unit.parameters)) 0

abbrev pub numbers_after : CUnit → Numbers → Store → List Bool → Numbers
numbers_after unit left_over store letter = fold executed (numbers_before unit left_over store letter) unit.statements

abbrev pub store_by : CUnit → Numbers → Store → List Bool → Store
store_by unit left_over store letter = map (numbers_after unit left_over store letter) unit.statics

abbrev pub returned_by : CUnit → Numbers → Store → List Bool → ℕ
returned_by unit left_over store letter = returned_number (numbers_after unit left_over store letter) unit.returned

pub record UnitState : Type 0 where
  pub store : Store
  -- by the last step, and 0 before the first
  pub returned : ℕ

abbrev pub stepped : CUnit → Numbers → Store → List Bool → UnitState
stepped unit left_over store letter = record { store = store_by unit left_over store letter; returned = returned_by unit left_over store letter }

-- ---- words

abbrev pub automaton_of_unit : CUnit → Automaton UnitState
automaton_of_unit unit =
    record {
      start = record { store = reset_store unit; returned = 0 };
      next = λ state letter. stepped unit zeros state.store letter;
      accepting = λ state. not (nat_eq state.returned 0);
    }

-- what the last step of a word returns, and 0 where there is no step
abbrev pub returned_after : CUnit → Word → ℕ
returned_after unit word = (state_after (automaton_of_unit unit) word).returned

abbrev pub unit_accepts : CUnit → Language
unit_accepts unit word = not (nat_eq (returned_after unit word) 0)
