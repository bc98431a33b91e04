-- The pieces are those of the line, in order.
use Rattle.dcv_cli.proofs.Common.{◌≡◌, ◌++◌, append_assoc, codes, ◌∙◌, decimal, puts_both, puts_same}
use Rattle.dcv_cli.proofs.synth.put_move.Goals as goal

pub returns : goal.returns
returns g c =
    let state : c.as_bytes.result.now ≡ decimal c.args.one.state = c.as_bytes.ensures.value ∙ c.format.ensures.text in
    let rank : c.as_bytes-2.result.now ≡ decimal c.args.one.rank = c.as_bytes-2.ensures.value ∙ c.format-2.ensures.text in
    let same : codes "state " ++ (c.as_bytes.result.now ++ (codes " rank " ++ (c.as_bytes-2.result.now ++ codes " input ")))
    ≡ codes "state " ++ decimal c.args.one.state ++ codes " rank " ++ decimal c.args.one.rank ++ codes " input " =
    (λ i. codes "state " ++ (state i ++ (codes " rank " ++ (rank i ++ codes " input "))))
    ∙ simp append_assoc in
    puts_both _ _ _ _ _ (puts_both _ _ _ _ _ (puts_same _ _ _ _ c.put_pieces.ensures same) c.put_letter.ensures) c.put.ensures
