use Rattle.std.proofs.Common.{ℕ, ◌+◌, List, ap, ◌∙◌}
use Rattle.dcv_c.specs.Tree.{When, Equals}
use Rattle.dcv_c.specs.Seen.{name_at}
use Rattle.dcv_c.specs.Observer.{node_name}
use Rattle.dcv_synth.specs.Placing.{StandAt}
use Rattle.dcv_synth.proofs.statements.next_choice.Goals as goal

pub returns : goal.returns
returns c = λ (all names : List (List ℕ)) (count : ℕ) has below.
    let stand : StandAt all c.next_nodes.result c.args.places.nexts node_name = λ k inside. ap (λ first. name_at all (first + k)) c.next_nodes.ensures ∙ has.next_nodes k inside in
    let item = c.child_item-item.ensures all node_name c.args.places.nexts stand below in
    let left = ap (name_at all) c.next.ensures ∙ has.next in
    λ i. When (Equals (has.state i) c.args.state) (left i) (item i)
