use Rattle.std.proofs.Common.{◌≡◌, ℕ, ◌==◌, true, false, List, length, ◌-◌, refl, sym, ap, ◌∙◌, subst}
use Rattle.std.specs.Borrow.{Bor}
use Rattle.dcv_automaton_lines.specs.Pieces.{IsFaultAt}
use Rattle.dcv_automaton_lines.specs.Stops.{IsStuckBy}
use Rattle.dcv_automaton_lines.specs.declared.stop.Stop.{Stop}
use Rattle.dcv_automaton_lines.proofs.Pieces.{stuck_is_fault}
use Rattle.dcv_tables_read.specs.Form.{Form}
use Rattle.dcv_tables_read.proofs.WholeTexts.{more_is_fault, syntax_fault}
use Rattle.dcv_tables_read.proofs.form.read_form.Goals as goal
use Rattle.dcv_tables_read.proofs.form.read_form.Goals.{in-Ok+else-is_empty, in-Err-Syntax}

pub returns-clause-fault : goal.returns-clause-fault
returns-clause-fault c =
    let text = c.args.text.now in
    let left = c.match-front.left in
    let at = length text - length left.now in
    let fault : IsFaultAt Form text left.now = elim c.match-front.branch [
      | in-Ok+else-is_empty w ↦
          subst (λ (left : Bor (List ℕ)). IsFaultAt Form text left.now) (sym w.left-is)
          (more_is_fault _ text _ w.in-Ok.ensures.plain w.in-Ok.ensures.spelled
          (λ none.
          let told : w.is_empty.result ≡ (length w.in-Ok.rest.now == 0) = w.is_empty.ensures in
          let empty : w.is_empty.result ≡ true = told ∙ ap (λ (rest : List ℕ). length rest == 0) none in
          let wrong : true ≡ false = sym empty ∙ w.if-is_empty.false in cc))
      | in-Err-Syntax w ↦ subst (λ (left : Bor (List ℕ)). IsFaultAt Form text left.now) (sym w.left-is)
          (stuck_is_fault (subst (λ (stop : Stop). IsStuckBy Form text stop) w.in-Err-Syntax.field-0-is w.in-Err-Syntax.ensures.fault))
    ] in
    λ _. (at, refl, syntax_fault text left.now at fault refl)
