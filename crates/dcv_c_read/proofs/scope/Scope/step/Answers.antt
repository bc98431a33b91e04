use Rattle.std.proofs.Common.{◌≡◌, ℕ, true, false, List, Option, map, ap, refl, ◌∙◌}
use Rattle.dcv_observer.specs.Conditions.{Names}
use Rattle.dcv_observer.specs.Left.{seen}
use Rattle.dcv_observer.specs.declared.items.Item.{Item}
use Rattle.dcv_c.specs.Placed.{bytes_of, statement_of}
use Rattle.dcv_c.specs.Seen.{seen_statement as statement_seen}
use Rattle.dcv_c_read.specs.declared.placed.PlacedStatement.{PlacedStatement}
use Rattle.dcv_c_read.specs.Contents.{words_of_step, keeps_step}
use Rattle.dcv_c_read.specs.Seen.{seen_statement, seen_unit}
use Rattle.dcv_c_read.specs.Scope.{with_function, with_names, with_known, behind_reset, behind_locals, Knows}
use Rattle.dcv_observer.specs.Judged.{IsLeft}
use Rattle.dcv_observer.proofs.Judging.{leads_on}
use Rattle.dcv_c_read.proofs.Named.{statements_at, returned_at}
use Rattle.dcv_c_read.proofs.Whole.{unit_at, at_parameters, at_locals, at_statements, knows_with, StatementsLeft}
use Rattle.dcv_c_read.proofs.scope.Scope.step.Goals as goal
use Rattle.dcv_c_read.proofs.scope.Scope.step.Goals.{After-deref-3}

pub returns-in_err-function : goal.returns-in_err-function
returns-in_err-function c = λ knows (whole : Option ℕ) left.
    leads_on whole _ c.from_residual.result c.in_err-function.field-0.0 c.from_residual.ensures.1
    (c.in_err-function.ensures (behind_reset (unit_at c.args.placed.now)) knows whole _ _ left)

pub returns-in_err-parameters : goal.returns-in_err-parameters
returns-in_err-parameters c = λ knows (whole : Option ℕ) left.
    let placed = c.args.placed.now in
    let unit = unit_at placed in
    let first = c.in_ok-function.ensures (behind_reset unit) knows whole _ _ left in
    let behind_name = with_function unit.step (behind_reset unit) in
    let parameters = at_parameters placed whole c.deref.ensures.value first.1 in
    leads_on whole _ c.from_residual-in_err-parameters.result c.in_err-parameters.field-0.0 c.from_residual-in_err-parameters.ensures.1
    (c.in_err-parameters.ensures behind_name first.0 whole _ _ parameters)

pub returns-in_err-locals : goal.returns-in_err-locals
returns-in_err-locals c = λ knows (whole : Option ℕ) left.
    let placed = c.args.placed.now in
    let unit = unit_at placed in
    let first = c.in_ok-function.ensures (behind_reset unit) knows whole _ _ left in
    let behind_name = with_function unit.step (behind_reset unit) in
    let parameters = at_parameters placed whole c.deref.ensures.value first.1 in
    let second = c.in_ok-parameters.ensures behind_name first.0 whole _ _ parameters in
    let behind_parameters = with_names false unit.parameters behind_name in
    let knows_parameters = knows_with placed (λ (names : Names). with_names false names behind_name) c.declare_all.new.self c.deref.ensures.value second.1 in
    let locals = at_locals placed whole c.deref-2.ensures.value second.2 in
    leads_on whole _ c.from_residual-in_err-locals.result c.in_err-locals.field-0.0 c.from_residual-in_err-locals.ensures.1
    (c.in_err-locals.ensures behind_parameters knows_parameters whole _ _ locals)

-- once all names are declared
module _ (c : After-deref-3) (knows : Knows (behind_reset (unit_at c.args.placed.now)) c.args.self.now) (whole : Option ℕ)
    (left : IsLeft whole (words_of_step (seen_unit c.args.placed.now)) (keeps_step (unit_at c.args.placed.now))) where
  declared : (c.in_ok-parameters.parameters.items ≡ (unit_at c.args.placed.now).parameters) × (c.in_ok-locals.locals.items ≡ (unit_at c.args.placed.now).locals)
      × Knows (behind_locals (unit_at c.args.placed.now)) c.declare_all-2.new.self × StatementsLeft c.args.placed.now whole c.deref-3.result.now
  declared =
      let placed = c.args.placed.now in
      let unit = unit_at placed in
      let first = c.in_ok-function.ensures (behind_reset unit) knows whole _ _ left in
      let behind_name = with_function unit.step (behind_reset unit) in
      let second = c.in_ok-parameters.ensures behind_name first.0 whole _ _ (at_parameters placed whole c.deref.ensures.value first.1) in
      let behind_parameters = with_names false unit.parameters behind_name in
      let knows_parameters = knows_with placed (λ (names : Names). with_names false names behind_name) c.declare_all.new.self c.deref.ensures.value second.1 in
      let third = c.in_ok-locals.ensures behind_parameters knows_parameters whole _ _ (at_locals placed whole c.deref-2.ensures.value second.2) in (
        second.0 ∙ ap (λ (items : List Item). bytes_of (map seen items)) c.deref.ensures.value,
        third.0 ∙ ap (λ (items : List Item). bytes_of (map seen items)) c.deref-2.ensures.value,
        knows_with placed (λ (names : Names). with_names true names behind_parameters) c.declare_all-2.new.self c.deref-2.ensures.value third.1,
        at_statements placed whole c.deref-3.ensures.value third.2,
      )

pub returns-in_err-statements : goal.returns-in_err-statements
returns-in_err-statements c = λ knows (whole : Option ℕ) left.
    let unit = unit_at c.args.placed.now in
    let (parameters, locals, knows_locals, statements) = declared (goal.at.returns-in_err-statements c).After-deref-3 knows whole left in
    leads_on whole _ c.from_residual-in_err-statements.result c.in_err-statements.field-0.0 c.from_residual-in_err-statements.ensures.1
    (c.in_err-statements.ensures (behind_locals unit) knows_locals unit refl whole _ statements)

pub returns-in_err-returned : goal.returns-in_err-returned
returns-in_err-returned c = λ knows (whole : Option ℕ) left.
    let unit = unit_at c.args.placed.now in
    let (parameters, locals, knows_locals, statements) = declared (goal.at.returns-in_err-returned c).After-deref-3 knows whole left in
    let fourth = c.in_ok-statements.ensures (behind_locals unit) knows_locals unit refl whole _ statements in
    leads_on whole _ c.from_residual-in_err-returned.result c.in_err-returned.field-0.0 c.from_residual-in_err-returned.ensures.1
    (c.in_err-returned.ensures (with_known fourth.1.known (behind_locals unit)) fourth.1.knows whole fourth.1.left)

pub returns : goal.returns
returns c = λ knows (whole : Option ℕ) left.
    let unit = unit_at c.args.placed.now in
    let (parameters, locals, knows_locals, statements) = declared (goal.at.returns c).After-deref-3 knows whole left in
    let fourth = c.in_ok-statements.ensures (behind_locals unit) knows_locals unit refl whole _ statements in
    let fifth = c.in_ok-returned.ensures (with_known fourth.1.known (behind_locals unit)) fourth.1.knows whole fourth.1.left in (
      record {
        name = c.in_ok-name.ensures;
        parameters = parameters;
        locals = locals;
        statements = statements_at statement_seen c.in_ok-statements.statements.items unit.statements unit.statics unit.parameters unit.locals
            (fourth.0 ∙ ap (λ (items : List PlacedStatement). map statement_of (map seen_statement items)) c.deref-3.ensures.value);
        returned = returned_at c.in_ok-returned.returned unit.statics unit.parameters unit.locals fifth.0;
      },
      fifth.1,
    )
