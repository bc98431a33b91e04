use Rattle.std.proofs.Common.{ℕ, ◌+◌, List, ap, ◌∙◌}
use Rattle.dcv_c.specs.Tree.{When, Equals}
use Rattle.dcv_c.specs.Seen.{name_at}
use Rattle.dcv_synth.specs.Units.{output_node_name}
use Rattle.dcv_synth.specs.Placing.{StandAt}
use Rattle.dcv_synth.proofs.statements.output_choice.Goals as goal

pub returns : goal.returns
returns c = λ (all names : List (List ℕ)) (count : ℕ) has below.
    let stand : StandAt all c.output_nodes.result count output_node_name = λ k inside. ap (λ first. name_at all (first + k)) c.output_nodes.ensures ∙ has.output_nodes k inside in
    let item = c.child_item-item.ensures all output_node_name count stand below in
    let left = ap (name_at all) c.output.ensures ∙ has.output in
    λ i. When (Equals (has.state i) c.args.state) (left i) (item i)
