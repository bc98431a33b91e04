use Rattle.std.proofs.Common.{◌≡◌, ℕ, ◌∷◌, [], ◌++◌, List, length, sym, ap, subst, ◌∙◌}
use Rattle.std.proofs.lemmas.List.{length-map}
use Rattle.dcv_word.specs.Behaviour.{Word}
use Rattle.dcv_language.specs.Language.{Language}
use Rattle.dcv_syntax.specs.declared.names.Name.{Name}
use Rattle.dcv_automaton_file.specs.File.{texts_of}
use Rattle.dcv_dfa.specs.NodeLines.{lines_of_rows}
use Rattle.dcv_c.specs.Tree.{CUnit}
use Rattle.dcv_c.specs.Rules.{IsWellNamed}
use Rattle.dcv_c.specs.Form.{IsSpellable}
use Rattle.dcv_c.specs.Seen.{seen_unit}
use Rattle.dcv_synth.specs.Game.{Wins}
use Rattle.dcv_synth.specs.Control.{RowsValue, ControlValue, controller_by, lines_of, unit_of}
use Rattle.dcv_synth.specs.Units.{ControlLines, unit_of_lines, controller_in}
use Rattle.dcv_synth.specs.Placing.{AreFitting}
use Rattle.dcv_synth.specs.Laws.{HasUnit}
use Rattle.dcv_synth.proofs.UnitMade.{IsMade, made_is_unit}
use Rattle.dcv_synth.proofs.UnitOf.{has_unit, next_fits, output_fits}
use Rattle.dcv_synth.proofs.control.Control.unit.Goals as goal
use Rattle.dcv_synth.proofs.control.Control.unit.Goals.{In_ok-output, In_ok-reset}

-- the lines, once they are there
module _ (c : In_ok-output) where
  abbrev control : ControlValue
  control = c.args.self.now

  abbrev texts : List (List ℕ)
  texts = texts_of c.args.names.now

  texts_count : length texts ≡ length c.args.names.now
  texts_count = length-map c.args.names.now (λ (name : Name). name.text)

  has : HasUnit texts control
  has = has_unit texts control c.next.ensures.control c.requires.names (texts_count ∙ c.requires.inputs) c.requires.next_nodes c.requires.output_nodes

  next_is : c.in_ok-next.next ≡ (lines_of texts control).next
  next_is =
      c.in_ok-next.ensures.exact
      ∙ (λ i. lines_of_rows ((c.arena.ensures.arena ∙ ap (λ (rows : RowsValue). rows.arena) c.next.ensures.next) i)
      ((c.rows.ensures.rows ∙ ap (λ (rows : RowsValue). rows.rows) c.next-2.ensures.next) i))

  output_is : c.in_ok-output.output ≡ (lines_of texts control).output
  output_is =
      c.in_ok-output.ensures.exact
      ∙ (λ i. lines_of_rows ((c.arena-2.ensures.arena ∙ ap (λ (rows : RowsValue). rows.arena) c.output.ensures.output) i)
      ((c.rows-2.ensures.rows ∙ ap (λ (rows : RowsValue). rows.rows) c.output-2.ensures.output) i))

pub step_of-requires-clause-next_fits : goal.step_of-requires-clause-next_fits
step_of-requires-clause-next_fits c =
    let before = (goal.at.step_of-requires-clause-next_fits c).In_ok-output in
    subst (λ n. AreFitting n c.in_ok-next.next) (texts_count before)
    (subst (AreFitting (length (texts before))) (sym (next_is before)) (next_fits (texts before) (control before) (has before)))

pub step_of-requires-clause-output_fits : goal.step_of-requires-clause-output_fits
step_of-requires-clause-output_fits c =
    let before = (goal.at.step_of-requires-clause-output_fits c).In_ok-output in
    subst (λ n. AreFitting n c.in_ok-output.output) (texts_count before)
    (subst (AreFitting (length (texts before))) (sym (output_is before)) (output_fits (texts before) (control before) (has before)))

-- the unit, once all of it is made
module _ (c : In_ok-reset) where
  abbrev found : ControlLines
  found = record { names = texts_of c.args.names.now; states = c.states.result.now; next = c.in_ok-next.next; output = c.in_ok-output.output }

  is_made : IsMade found c.push.new.self.items c.in_ok-reset.reset c.in_ok-step.step
  is_made =
      record {
        statics_are = c.in_ok-push.ensures.items ∙ (λ i. c.new-statics.ensures.items i ++ c.in_ok-copy_of.ensures i ∷ []);
        reset_is = c.in_ok-reset.ensures.name;
        assignments_are = c.in_ok-reset.ensures.assignments;
        step_is = c.in_ok-step.ensures.name;
        parameters_are = c.in_ok-step.ensures.parameters;
        locals_are = c.in_ok-step.ensures.locals;
        statements_are = c.in_ok-step.ensures.statements;
        returned_is = c.in_ok-step.ensures.returned;
      }

  is_unit : c.in_ok-next.next ≡ (lines_of (texts_of c.args.names.now) c.args.self.now).next
      → c.in_ok-output.output ≡ (lines_of (texts_of c.args.names.now) c.args.self.now).output
      → seen_unit c.push.new.self.items c.in_ok-reset.reset c.in_ok-step.step ≡ unit_of (texts_of c.args.names.now) c.args.self.now
  is_unit next output =
      let same : found ≡ lines_of (texts_of c.args.names.now) c.args.self.now =
      λ i. record { names = texts_of c.args.names.now; states = c.states.ensures.states i; next = next i; output = output i } in
      made_is_unit found c.push.new.self.items c.in_ok-reset.reset c.in_ok-step.step is_made ∙ ap unit_of_lines same

pub new-requires : goal.new-requires
new-requires c =
    let before = (goal.at.new-requires c).In_ok-output in
    let same = sym (is_unit (goal.at.new-requires c).In_ok-reset (next_is before) (output_is before)) in
    let kept = c.units_answer.ensures.rules (texts before) (control before) (has before) in
    record { well_named = subst IsWellNamed same kept.0; spellable = subst IsSpellable same kept.1 }

pub returns-clause-unit : goal.returns-clause-unit
returns-clause-unit c =
    let before = (goal.at.returns-clause-unit c).In_ok-output in
    c.new.ensures ∙ is_unit (goal.at.returns-clause-unit c).In_ok-reset (next_is before) (output_is before)

pub returns-clause-answers : goal.returns-clause-answers
returns-clause-answers c = λ (m : ℕ) (inputs : Word) behaviour.
    let before = (goal.at.returns-clause-answers c).In_ok-output in
    let same = c.new.ensures ∙ is_unit (goal.at.returns-clause-answers c).In_ok-reset (next_is before) (output_is before) in
    subst (λ (unit : CUnit). controller_in m unit inputs ≡ controller_by m (control before) inputs) (sym same)
    (c.units_answer.ensures.answers (texts before) (control before) (has before) m inputs behaviour)

pub returns-clause-wins : goal.returns-clause-wins
returns-clause-wins c = λ (m : ℕ) (L : Language) wins.
    let before = (goal.at.returns-clause-wins c).In_ok-output in
    let same = c.new.ensures ∙ is_unit (goal.at.returns-clause-wins c).In_ok-reset (next_is before) (output_is before) in
    subst (λ (unit : CUnit). Wins (control before).next.arena.slots m L (controller_in m unit)) (sym same)
    (c.units_answer.ensures.wins (texts before) (control before) (has before) m L wins)
