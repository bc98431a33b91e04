-- A controller as diagrams: for each of its states two functions of the inputs, the state that comes next and the outputs as a number.
--     RowsValue, ControlValue             what contracts see of `Rows`, and of a `Control`
--     IsRows rows, IsControl control      what is true of every one
--     AreRowsBelow bound states rows      a row for each state, with numbers below the bound
--     value_in rows place input           the number that the row at this place has at an input
--     AreRowsOf n states f rows           a row over n inputs for each state, with the numbers of this function
--     step_of m control                   from a state, by an input, to the state and to the output whose numbers the state's rows have
--     controller_by m control             the controller that begins in state 0 and goes on by these steps
--     lines_of names control              its lines of nodes
--     unit_of names control               and its unit
--     IsControlOf n m automaton control   the start can be held, and at it and at each state of Win the rows have the least outputs that lead
--                                         into Win, and the states to which these lead
use Rattle.std.specs.Prelude.{◌≡◌, ◌↔◌, ℕ, ◌<◌, nat_eq, Bool, List, length, slice_get, slice_index_or, Some, Contains}
use Rattle.std.specs.List.{All, AllPairs, position_or_len}
use Rattle.dcv_word.specs.Letter.{letter_of, bits_of}
use Rattle.dcv_language.specs.Automaton.{Automaton}
use Rattle.dcv_language.specs.Limits.{number_bound}
use Rattle.dcv_arena.specs.Arena.{ArenaValue, IsArena, IsRef, value_of}
use Rattle.dcv_arena.specs.declared.nodes.Ref.{Ref}
use Rattle.dcv_arena.specs.declared.nodes.Ref.TheVariants.{Leaf}
use Rattle.dcv_dfa.specs.NodeLines.{lines_of_rows}
use Rattle.dcv_dfa.specs.Raw.{LeadsBelow}
use Rattle.dcv_c.specs.Tree.{CUnit}
use Rattle.dcv_synth.specs.Game.{Controller}
use Rattle.dcv_synth.specs.Play.{Step, controller_of, answer_of, IsStartOr}
use Rattle.dcv_synth.specs.Realisable.{IsRealisable}
use Rattle.dcv_synth.specs.Units.{ControlLines, unit_of_lines}

pub record RowsValue : Type 0 where
  pub arena : ArenaValue
  pub rows : List Ref

pub record ControlValue : Type 0 where
  pub states : List ℕ
  pub next : RowsValue
  pub output : RowsValue

pub record IsRows (rows : RowsValue) : Type 0 where
  pub arena : IsArena rows.arena
  pub refs : All (IsRef rows.arena) rows.rows

-- a row for each state, with numbers below the bound
pub record AreRowsBelow (bound : ℕ) (states : List ℕ) (rows : RowsValue) : Type 0 where
  pub are : IsRows rows
  pub count : length rows.rows ≡ length states
  pub below : All (LeadsBelow rows.arena bound) rows.rows

pub record IsControl (control : ControlValue) : Type 0 where
  pub in_order : AllPairs (λ (one other : ℕ). one < other) control.states
  pub below : All (λ state. state < number_bound) control.states
  pub next : AreRowsBelow number_bound control.states control.next
  pub output : AreRowsBelow 256 control.states control.output
  pub inputs : control.output.arena.slots ≡ control.next.arena.slots

abbrev pub value_in : RowsValue → ℕ → List Bool → ℕ
value_in rows place input = value_of rows.arena (slice_index_or rows.rows place (Leaf 0)) input

pub record AreRowsOf (n : ℕ) (states : List ℕ) (f : ℕ → List Bool → ℕ) (rows : RowsValue) : Type 0 where
  pub slots : rows.arena.slots ≡ n
  pub count : length rows.rows ≡ length states
  pub values : (place state : ℕ) (input : List Bool) → slice_get states place ≡ Some state → length input ≡ n → value_in rows place input ≡ f state input

-- ---- the controller that they describe

abbrev pub step_of : ℕ → ControlValue → Step
step_of m control state input =
    let place = position_or_len (nat_eq state) control.states in
    (value_in control.next place input, letter_of m (value_in control.output place input))

abbrev pub controller_by : ℕ → ControlValue → Controller
controller_by m control = controller_of 0 (step_of m control)

-- ---- its unit

abbrev pub lines_of : List (List ℕ) → ControlValue → ControlLines
lines_of names control =
    record {
      names = names;
      states = control.states;
      next = lines_of_rows control.next.arena control.next.rows;
      output = lines_of_rows control.output.arena control.output.rows;
    }

abbrev pub unit_of : List (List ℕ) → ControlValue → CUnit
unit_of names control = unit_of_lines (lines_of names control)

-- ---- the one of least outputs

pub record IsControlOf (n m : ℕ) (automaton : Automaton ℕ) (control : ControlValue) : Type 0 where
  pub realisable : IsRealisable n m automaton
  pub states : (state : ℕ) → Contains control.states state ↔ IsStartOr automaton realisable.win state
  pub in_order : AllPairs (λ (one other : ℕ). one < other) control.states
  pub next : AreRowsOf n control.states (λ state input. (answer_of m automaton realisable.win state input).0) control.next
  pub output : AreRowsOf n control.states (λ state input. bits_of (answer_of m automaton realisable.win state input).1) control.output
