use Rattle.std.proofs.Common.{ℕ, List, Bool, Option, map, ◌∷◌, ap, sym, refl, ◌∙◌}
use Rattle.std.specs.List.{list_all}
use Rattle.dcv_lexer.specs.Cuts.{Token}
use Rattle.dcv_observer.specs.Conditions.{Names}
use Rattle.dcv_observer.specs.Left.{seen}
use Rattle.dcv_observer.specs.Naming.{is_among}
use Rattle.dcv_c.specs.Placed.{assignment_of}
use Rattle.dcv_c_read.specs.declared.placed.PlacedAssignment.{PlacedAssignment}
use Rattle.dcv_c_read.specs.Seen.{seen_assignment}
use Rattle.dcv_c_read.specs.Scope.{Frame, with_function, of_statics}
use Rattle.dcv_observer.proofs.Judging.{kept, broken, leads_on, fault_is}
use Rattle.dcv_c_read.proofs.Whole.{assigned, reset_left, reset_end, reset_knows}
use Rattle.dcv_c_read.proofs.scope.Scope.reset.Goals as goal

pub returns-in_err-function : goal.returns-in_err-function
returns-in_err-function c = λ (statics : Names) knows (whole : Option ℕ) (words : List Token) (keeps : List Bool) left.
    leads_on whole _ c.from_residual.result c.in_err-function.field-0.0 c.from_residual.ensures.1 (c.in_err-function.ensures (of_statics statics) knows whole _ _ left)

pub returns-in_err-assignments : goal.returns-in_err-assignments
returns-in_err-assignments c = λ (statics : Names) knows (whole : Option ℕ) (words : List Token) (keeps : List Bool) left.
    let reset = c.args.reset.now in
    let frame = with_function reset.name.bytes.now (of_statics statics) in
    let first = c.in_ok-function.ensures (of_statics statics) knows whole _ _ left in
    leads_on whole _ c.from_residual-in_err-assignments.result c.in_err-assignments.field-0.0 c.from_residual-in_err-assignments.ensures.1
    (c.in_err-assignments.ensures frame first.0 whole (seen reset.end ∷ words) (list_all (is_among (assigned reset statics whole words keeps)) statics ∷ keeps)
    (reset_left reset statics whole words keeps c.deref.ensures.value first.1))

pub returns-then-not-all_known : goal.returns-then-not-all_known
returns-then-not-all_known c = λ (statics : Names) knows (whole : Option ℕ) (words : List Token) (keeps : List Bool) left.
    let reset = c.args.reset.now in
    let frame = with_function reset.name.bytes.now (of_statics statics) in
    let first = c.in_ok-function.ensures (of_statics statics) knows whole _ _ left in
    let set = c.in_ok-assignments.ensures frame first.0 whole (seen reset.end ∷ words) (list_all (is_among (assigned reset statics whole words keeps)) statics ∷ keeps)
    (reset_left reset statics whole words keeps c.deref.ensures.value first.1) in
    let all = reset_end reset statics whole words keeps frame c.assignments.new.self c.all_known.result c.deref.ensures.value refl set.1 c.all_known.ensures in
    fault_is c.broken.ensures (broken (all ∙ c.if-not-all_known.true) set.2)

pub returns : goal.returns
returns c = λ (statics : Names) knows (whole : Option ℕ) (words : List Token) (keeps : List Bool) left.
    let reset = c.args.reset.now in
    let frame = with_function reset.name.bytes.now (of_statics statics) in
    let first = c.in_ok-function.ensures (of_statics statics) knows whole _ _ left in
    let set = c.in_ok-assignments.ensures frame first.0 whole (seen reset.end ∷ words) (list_all (is_among (assigned reset statics whole words keeps)) statics ∷ keeps)
    (reset_left reset statics whole words keeps c.deref.ensures.value first.1) in
    let all = reset_end reset statics whole words keeps frame c.assignments.new.self c.all_known.result c.deref.ensures.value refl set.1 c.all_known.ensures in (
      c.in_ok-name.ensures,
      λ (more : Names). set.0 more ∙ ap (λ (xs : List PlacedAssignment). map assignment_of (map seen_assignment xs)) c.deref.ensures.value,
      reset_knows reset statics whole words keeps frame c.assignments.new.self refl set.1 (λ (f : Frame) k. sym c.if-not-all_known.false ∙ c.all_known.ensures f k),
      kept (all ∙ c.if-not-all_known.false) set.2,
    )
