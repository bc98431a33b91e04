use Rattle.std.proofs.Common.{[], map}
use Rattle.dcv_tokens.specs.Reading.{seen}
use Rattle.dcv_tokens.proofs.Sources.{tokenized}
use Rattle.dcv_sentence.proofs.scan.Scan.of.Goals as goal

pub returns-clause-scanned : goal.returns-clause-scanned
returns-clause-scanned c =
    let source = c.new-source.result in
    let left = c.loop-token.invariant [] _ c.in_default.ensures.steps in
    rw c.rest.ensures (tokenized source c.args.text.now (map seen c.loop-token.tokens.items) _ c.new-source.ensures.from c.new-source.ensures.all left)
