use Rattle.std.proofs.Common.{◌≡◌, find, option_map, refl}
use Rattle.dcv_tokens.specs.Reading.{seen}
use Rattle.dcv_tokens.specs.Limits.{is_large}
use Rattle.dcv_sentence.proofs.FaultKinds.{first_there, none_there}
use Rattle.dcv_sentence.proofs.scan.Scan.number_fault.Goals as goal
use Rattle.dcv_sentence.proofs.scan.Scan.number_fault.Goals.{After-large_number}

found : (c : After-large_number) → c.large_number.result ≡ option_map (λ token. token.start) (find (λ token. is_large (seen token)) c.args.self.now.tokens.items)
found c = rw c.deref.ensures.value at c.large_number.ensures

pub returns-in_err-at : goal.returns-in_err-at
returns-in_err-at c =
    let is = found (goal.at.returns-in_err-at c).After-large_number in
    rw c.from_residual.ensures (λ at. none_there is_large c.args.self.now.tokens.items c.large_number.result at is c.in_err-at.was)

pub returns : goal.returns
returns c =
    let is = found (goal.at.returns c).After-large_number in
    (c.in_ok-at.at, refl, first_there is_large c.args.self.now.tokens.items c.large_number.result c.in_ok-at.at is c.in_ok-at.was)
