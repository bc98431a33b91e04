-- What both subsets ask of a name: a condition, or a test of a result.
--     Condition, Test                  as plain data, with the name itself
--     name_at names place              the name at a place, and none after the last
--     seen_condition, seen_test        how clauses see what the code has, in which a name stands by its place
use Rattle.std.specs.Prelude.{ℕ, List, [], slice_index_or}
use Rattle.dcv_observer.specs.declared.conditions.Condition.{Condition as CodeCondition}
use Rattle.dcv_observer.specs.declared.conditions.Condition.TheVariants.{Holds as CodeHolds, Equals as CodeEquals}
use Rattle.dcv_observer.specs.declared.conditions.Test.{Test as CodeTest}

-- a name by itself, or that a name is a number
pub data Condition : Type 0 where
  Holds : (name : List ℕ) → Condition
  Equals : (name : List ℕ) → (number : ℕ) → Condition

pub record Test : Type 0 where
  pub name : List ℕ
  pub number : ℕ

-- ---- by places

abbrev pub Names : Type 0
Names = List (List ℕ)

abbrev pub name_at : Names → ℕ → List ℕ
name_at names place = slice_index_or names place []

abbrev pub seen_condition : Names → CodeCondition → Condition
seen_condition names (CodeHolds place) = Holds (name_at names place)
seen_condition names (CodeEquals place number) = Equals (name_at names place) number

abbrev pub seen_test : Names → CodeTest → Test
seen_test names test = record { name = name_at names test.name; number = test.number }
