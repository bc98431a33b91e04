use Rattle.std.proofs.Common.{arith}
use Rattle.dcv_certify.proofs.Linking.{few_places}
use Rattle.dcv_certify.proofs.SuffixWords.{length_read_suffixes}
use Rattle.dcv_certify.proofs.links.suffix_count.Goals as goal

pub returns-clause-count : goal.returns-clause-count
returns-clause-count c = length_read_suffixes c.args.file.now c.keeps_the_rules.ensures c.suffixes-suffixes.result.now c.suffixes-suffixes.ensures

pub returns-clause-few : goal.returns-clause-few
returns-clause-few c =
    omega (
      arith,
      length_read_suffixes c.args.file.now c.keeps_the_rules.ensures c.suffixes-suffixes.result.now c.suffixes-suffixes.ensures,
      few_places c.args.file.now,
      c.steps_at.ensures,
      c.steps_at.type_inv,
    )
