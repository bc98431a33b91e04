-- The lines of the moves stand between two lines and the last.
use Rattle.dcv_cli.proofs.Common.{◌≡◌, ◌++◌, codes, ◌∙◌, ap, decimal, flat_map, puts_both, puts_same, move_line, line}
use Rattle.dcv_cli.proofs.synth.put_strategy.Goals as goal

pub returns : goal.returns
returns g c =
    let bound : c.as_bytes.result.now ≡ decimal c.args.strategy.now.bound = c.as_bytes.ensures.value ∙ c.format.ensures.text in
    let same : codes "unrealisable\nbound " ++ (c.as_bytes.result.now ++ codes "\n") ≡ line (codes "unrealisable") ++ line (codes "bound " ++ decimal c.args.strategy.now.bound) =
    λ i. codes "unrealisable\nbound " ++ (bound i ++ codes "\n") in
    let moves = puts_same _ _ _ _ c.put_moves.ensures (ap (flat_map move_line) c.deref.ensures.value) in
    puts_both _ _ _ _ _ (puts_both _ _ _ _ _ (puts_same _ _ _ _ c.put_pieces.ensures same) moves) c.put.ensures
