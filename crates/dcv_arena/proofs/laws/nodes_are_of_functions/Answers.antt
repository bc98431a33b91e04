use Rattle.std.proofs.Common.{refl, Contains, subst}
use Rattle.dcv_arena.specs.Arena.{table_of, level_of}
use Rattle.dcv_arena.specs.Diagram.{nodes_of}
use Rattle.dcv_arena.specs.declared.nodes.Ref.TheVariants.{Place}
use Rattle.dcv_arena.proofs.Counts.{diagram_nodes-is, listed_in_diagram, own_in_diagram, apart, length-diagram_nodes}
use Rattle.dcv_arena.proofs.Listed.{node_block}
use Rattle.dcv_arena.proofs.Refs.{level_of-le}
use Rattle.dcv_arena.proofs.laws.nodes_are_of_functions.Goals as goal

pub returns : goal.returns
returns c = record {
  nodes = λ arena node is. (
    λ there.
        let at = diagram_nodes-is arena node there in
        (Place at.0, at.1, subst (Contains (nodes_of arena.slots (table_of arena (Place at.0)))) at.2 (own_in_diagram arena is.reduced at.0 at.1)),
    λ of. listed_in_diagram arena is.reduced of.0 of.1 node of.2,
  );
  apart = λ arena is. apart arena is.reduced;
  count = length-diagram_nodes;
  blocks = λ arena place front is one size.
      node_block arena is.reduced place (level_of arena (Place place)) one refl (level_of-le arena is.reduced (Place place) one) front size;
}
