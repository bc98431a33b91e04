use Rattle.std.proofs.Common.{◌≡◌, find, option_map, refl}
use Rattle.dcv_tokens.specs.Reading.{seen}
use Rattle.dcv_tokens.specs.Limits.{is_long}
use Rattle.dcv_sentence.proofs.FaultKinds.{first_there, none_there}
use Rattle.dcv_sentence.proofs.scan.Scan.name_fault.Goals as goal
use Rattle.dcv_sentence.proofs.scan.Scan.name_fault.Goals.{After-long_word}

found : (c : After-long_word) → c.long_word.result ≡ option_map (λ token. token.start) (find (λ token. is_long (seen token)) c.args.self.now.tokens.items)
found c = rw c.deref.ensures.value at c.long_word.ensures

pub returns-in_err-at : goal.returns-in_err-at
returns-in_err-at c =
    let is = found (goal.at.returns-in_err-at c).After-long_word in
    rw c.from_residual.ensures (λ at. none_there is_long c.args.self.now.tokens.items c.long_word.result at is c.in_err-at.was)

pub returns : goal.returns
returns c =
    let is = found (goal.at.returns c).After-long_word in
    (c.in_ok-at.at, refl, first_there is_long c.args.self.now.tokens.items c.long_word.result c.in_ok-at.at is c.in_ok-at.was)
