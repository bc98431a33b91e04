use Rattle.std.proofs.Common.{◌≡◌, take, map}
use Rattle.dcv_c_tables.specs.Unit.{TableNode}
use Rattle.dcv_tables_read.specs.Seen.{seen_node}
use Rattle.dcv_tables_read.proofs.arrays.nodes_of.Given as goal

abbrev pub invariant-loop-place : goal.invariant-loop-place
invariant-loop-place l =
    record {
      variables : map (λ (node : TableNode). node.variable) (map seen_node l.nodes.items) ≡ take l.place l.variables;
      highs : map (λ (node : TableNode). node.high) (map seen_node l.nodes.items) ≡ take l.place l.highs;
      lows : map (λ (node : TableNode). node.low) (map seen_node l.nodes.items) ≡ take l.place l.lows;
    }
