use Rattle.std.proofs.Common.{◌+◌, ◌∙◌}
use Rattle.dcv_build.proofs.bounds.parts_of.Goals as goal

pub returns : goal.returns
returns c = record {
  states = c.states.ensures.states;
  count = λ i. (c.from.ensures ∙ c.states.ensures.count) i + (c.from-2.ensures ∙ c.nodes.ensures) i;
}
