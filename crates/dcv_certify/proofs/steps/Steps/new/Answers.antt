use Rattle.std.proofs.Common.{ap, ◌∙◌, get_or, None, List, Option, arith}
use Rattle.dcv_certify.specs.declared.steps.Step.{Step}
use Rattle.dcv_certify.proofs.Stepping.{none_more, none_kept}
use Rattle.dcv_certify.proofs.steps.Steps.new.Goals as goal

pub loop-kept-init : goal.loop-kept-init
loop-kept-init c place = ap (λ (kept : List (Option Step)). get_or kept place None) c.new-kept.ensures.items

pub loop-kept-preserved : goal.loop-kept-preserved
loop-kept-preserved c place = ap (λ (kept : List (Option Step)). get_or kept place None) c.in_ok-push.ensures.items ∙ none_more c.loop-kept.kept.items c.loop-kept.invariant place

pub returns : goal.returns
returns c table = none_kept c.loop-kept.kept.items table (omega (arith, c.loop-kept-test.false)) c.loop-kept.invariant
