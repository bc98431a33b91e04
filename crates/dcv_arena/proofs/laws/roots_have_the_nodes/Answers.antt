use Rattle.dcv_arena.proofs.Roots.{no_nodes, one_more, parts_in_turn, parts_kept}
use Rattle.dcv_arena.proofs.laws.roots_have_the_nodes.Goals as goal

pub returns : goal.returns
returns c = record { none = no_nodes; more = one_more; turn = parts_in_turn; kept = parts_kept }
