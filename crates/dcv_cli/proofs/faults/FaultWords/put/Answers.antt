use Rattle.dcv_cli.proofs.Common.{◌≡◌, ◌∙◌, append_assoc, append-nil, decimal, puts_same}
use Rattle.dcv_cli.proofs.faults.FaultWords.put.Goals as goal

pub returns-in-None : goal.returns-in-None
returns-in-None g c = rw c.in-None.is c.put_fault.ensures

pub returns-in-Some : goal.returns-in-Some
returns-in-Some g c =
    let digits : c.as_bytes.result.now ≡ decimal c.in-Some.number = c.as_bytes.ensures.value ∙ c.format.ensures.text in
    rw c.in-Some.is (puts_same _ _ _ _ c.put_pieces.ensures (simp (append_assoc, append-nil, digits)))
