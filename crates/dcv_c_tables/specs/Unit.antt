-- A unit of constant tables, as plain data. A place below the number of states is a state, and any other is a node, counted from there.
--     TableNode     a node: the number of its variable, and the places that come next where that is true and where it is false
--     TableState    a state: the place that a letter is looked up from, and whether the state accepts
--     Tables        a unit
--     no_node, no_state    what is beyond the arrays, which no step of a unit that keeps the rules reads
use Rattle.std.specs.Prelude.{ℕ, Bool, false, List}

pub record TableNode : Type 0 where
  pub variable : ℕ
  pub high : ℕ
  pub low : ℕ

pub record TableState : Type 0 where
  pub row : ℕ
  pub accepts : Bool

pub record Tables : Type 0 where
  -- of the parameters of a step, in order
  pub parameters : List (List ℕ)
  pub nodes : List TableNode
  pub states : List TableState

abbrev pub no_node : TableNode
no_node = record { variable = 0; high = 0; low = 0 }

abbrev pub no_state : TableState
no_state = record { row = 0; accepts = false }
