-- The slice is what the text says between its version and the step part, or its last line.
use Rattle.dcv_cli.proofs.Common.{◌∙◌}
use Rattle.dcv_cli.proofs.Conversions.{begins_behind, begins_within, to_first, to_second}
use Rattle.dcv_cli.proofs.convert.in_version.Goals as goal

pub slice_bounds-said-count : goal.slice_bounds-said-count
slice_bounds-said-count c = begins_behind c.args.file.now c.steps_at.result c.steps_at.ensures

pub slice_bounds-said-start : goal.slice_bounds-said-start
slice_bounds-said-start c = begins_behind c.args.file.now c.steps_at.result c.steps_at.ensures

pub slice_bounds-said-end : goal.slice_bounds-said-end
slice_bounds-said-end c = begins_within c.args.text.now c.args.file.now c.steps_at.result c.requires c.steps_at.ensures

pub returns-then-has_steps : goal.returns-then-has_steps
returns-then-has_steps c =
    rw c.in-One.is (to_first c.versions_stand_for_the_same.ensures.texts c.args.text.now c.args.file.now c.requires c.steps_at.result c.steps_at.ensures)

pub returns-else-has_steps-2 : goal.returns-else-has_steps-2
returns-else-has_steps-2 c =
    rw c.in-Two.is (to_second c.versions_stand_for_the_same.ensures.texts c.args.text.now c.args.file.now c.requires c.steps_at.result c.steps_at.ensures
    (λ second. c.if-has_steps-2.false (c.version-has_steps.ensures ∙ second)))
