-- The unit of a controller keeps the rules of the subset, and answers as the controller does.
use Rattle.std.proofs.Common.{◌≡◌, ℕ, ◌≤◌, List, length, refl, sym, subst, ◌∙◌, arith}
use Rattle.std.specs.List.{All}
use Rattle.dcv_language.specs.Limits.{most_nodes, number_bound}
use Rattle.dcv_automaton_text.specs.Rules.{AreNames}
use Rattle.dcv_dfa.specs.Raw.{LeadsBelow}
use Rattle.dcv_dfa.specs.NodeLines.{AreReducedRows, numbered, lines_of_rows}
use Rattle.dcv_dfa.specs.Laws.{LinesHaveTheNumbersOfTheRows}
use Rattle.dcv_dfa.proofs.Reduced.{has_lines}
use Rattle.dcv_synth.specs.Control.{RowsValue, ControlValue, AreRowsBelow, IsControl, controller_by, lines_of, unit_of}
use Rattle.dcv_synth.specs.Units.{controller_in}
use Rattle.dcv_synth.specs.Laws.{HasUnit, UnitsKeepTheRules, UnitsAnswer, UnitsWin}
use Rattle.dcv_synth.specs.Placing.{AreFitting}
use Rattle.dcv_synth.proofs.UnitLines.{AreGoodUnitLines, good_rows}
use Rattle.dcv_synth.proofs.UnitMade.{lines_fit}
use Rattle.dcv_synth.proofs.UnitForms.{unit_is_spellable}
use Rattle.dcv_synth.proofs.UnitRules.{unit_is_well_named}
use Rattle.dcv_synth.proofs.UnitSteps.{unit_answers}
use Rattle.dcv_synth.proofs.SameJoins.{wins_so}

-- ---- the lines of rows

module _ (bound : ℕ) (states : List ℕ) (rows : RowsValue) (least : bound ≤ number_bound) (are : AreRowsBelow bound states rows) where
  rows_reduced : AreReducedRows rows.arena.slots number_bound (length states) (lines_of_rows rows.arena rows.rows)
  rows_reduced =
      let small : All (LeadsBelow rows.arena number_bound) rows.rows = λ k d within letter wide. omega (arith, are.below k d within letter wide, least) in
      subst (λ size. AreReducedRows rows.arena.slots number_bound size (lines_of_rows rows.arena rows.rows)) are.count
      ((has_lines rows.arena rows.rows are.are.arena are.are.refs (numbered rows.arena rows.rows) refl).reduced number_bound small)

  -- there are no more of them than nodes
  few_lines : length (lines_of_rows rows.arena rows.rows).lines ≤ length rows.arena.nodes
  few_lines = (has_lines rows.arena rows.rows are.are.arena are.are.refs (numbered rows.arena rows.rows) refl).fits

-- the names of the inputs, and few nodes, are enough for a unit
pub has_unit : (names : List (List ℕ)) (control : ControlValue) → IsControl control → AreNames names → length names ≡ control.next.arena.slots
    → length control.next.arena.nodes ≤ most_nodes → length control.output.arena.nodes ≤ most_nodes → HasUnit names control
has_unit names control is are inputs next output =
    record {
      is_control = is;
      are_names = are;
      inputs = inputs;
      next_lines = omega (arith, few_lines number_bound control.states control.next (omega arith) is.next, next);
      output_lines = omega (arith, few_lines 256 control.states control.output (omega arith) is.output, output);
    }

-- ---- those of a controller

module _ (names : List (List ℕ)) (control : ControlValue) (has : HasUnit names control) where
  abbrev is : IsControl control
  is = has.is_control

  next_reduced : AreReducedRows (length names) number_bound (length control.states) (lines_of names control).next
  next_reduced =
      subst (λ slots. AreReducedRows slots number_bound (length control.states) (lines_of names control).next) (sym has.inputs)
      (rows_reduced number_bound control.states control.next (omega arith) is.next)

  output_reduced : AreReducedRows (length names) number_bound (length control.states) (lines_of names control).output
  output_reduced =
      subst (λ slots. AreReducedRows slots number_bound (length control.states) (lines_of names control).output) (is.inputs ∙ sym has.inputs)
      (rows_reduced 256 control.states control.output (omega arith) is.output)

  pub next_fits : AreFitting (length names) (lines_of names control).next
  next_fits = lines_fit (length names) (length control.states) (lines_of names control).next has.next_lines next_reduced

  pub output_fits : AreFitting (length names) (lines_of names control).output
  output_fits = lines_fit (length names) (length control.states) (lines_of names control).output has.output_lines output_reduced

  good : AreGoodUnitLines (lines_of names control)
  good =
      record {
        names = has.are_names;
        states = is.below;
        in_order = is.in_order;
        next = good_rows (length names) (length control.states) (lines_of names control).next has.next_lines next_reduced;
        output = good_rows (length names) (length control.states) (lines_of names control).output has.output_lines output_reduced;
      }

-- ---- the laws

pub units_keep_the_rules : UnitsKeepTheRules
units_keep_the_rules names control has = (unit_is_well_named (lines_of names control) (good names control has), unit_is_spellable (lines_of names control) (good names control has))

pub units_answer : LinesHaveTheNumbersOfTheRows → UnitsAnswer
units_answer law names control has = unit_answers law names control has.is_control (good names control has)

pub units_win : LinesHaveTheNumbersOfTheRows → UnitsWin
units_win law names control has m L wins =
    wins_so control.next.arena.slots m (controller_in m (unit_of names control)) (controller_by m control) (units_answer law names control has m) L wins
