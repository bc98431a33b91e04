use Rattle.std.proofs.Common.{◌∙◌, ap, arith}
use Rattle.dcv_automaton_text.proofs.GoodFiles.{good_file}
use Rattle.dcv_automaton_read.specs.File.{access_from}
use Rattle.dcv_certify.specs.Alike.{is_empty_access}
use Rattle.dcv_certify.proofs.Landings.{read_at, length_read}
use Rattle.dcv_certify.proofs.alike.starts_with_no_letters.Goals as goal

pub bounds-access-0 : goal.bounds-access-0
bounds-access-0 c =
    omega (arith, length_read c.args.file.now c.keeps_the_rules.ensures c.access-access.result.now c.access-access.ensures, (good_file c.args.file.now c.keeps_the_rules.ensures).some)

pub returns : goal.returns
returns c =
    let some = (good_file c.args.file.now c.keeps_the_rules.ensures).some in
    let count = length_read c.args.file.now c.keeps_the_rules.ensures c.access-access.result.now c.access-access.ensures in
    c.is_empty.ensures ∙ ap (λ one. is_empty_access (access_from one)) c.index-access-0.is
    ∙ ap is_empty_access (read_at c.args.file.now c.keeps_the_rules.ensures c.access-access.result.now c.index-access-0.result c.access-access.ensures 0 (omega (arith, count, some)))
