use Rattle.dcv_arena.proofs.Growth.{keeps_all}
use Rattle.dcv_arena.proofs.Roots.{kept_in_turn}
use Rattle.dcv_arena.proofs.laws.refs_are_kept.Goals as goal

pub returns : goal.returns
returns c = record { itself = keeps_all; turn = kept_in_turn }
