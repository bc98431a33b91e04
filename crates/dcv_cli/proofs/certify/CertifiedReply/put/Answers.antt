-- The pieces are those of the line, in order.
use Rattle.dcv_cli.proofs.Common.{◌≡◌, ◌∙◌, append_assoc, decimal, puts_same}
use Rattle.dcv_cli.proofs.certify.CertifiedReply.put.Goals as goal

pub returns-in-Access : goal.returns-in-Access
returns-in-Access g c =
    let digits : c.as_bytes-in-Access.result.now ≡ decimal c.in-Access.state = c.as_bytes-in-Access.ensures.value ∙ c.format-in-Access.ensures.text in
    rw c.in-Access.is (puts_same _ _ _ _ c.put_pieces-in-Access.ensures (simp (append_assoc, digits)))

pub returns-in-Pair : goal.returns-in-Pair
returns-in-Pair g c =
    let first : c.as_bytes-in-Pair.result.now ≡ decimal c.in-Pair.first = c.as_bytes-in-Pair.ensures.value ∙ c.format-in-Pair.ensures.text in
    let second : c.as_bytes-in-Pair-2.result.now ≡ decimal c.in-Pair.second = c.as_bytes-in-Pair-2.ensures.value ∙ c.format-in-Pair-2.ensures.text in
    rw c.in-Pair.is (puts_same _ _ _ _ c.put_pieces-in-Pair.ensures (simp (append_assoc, first, second)))
