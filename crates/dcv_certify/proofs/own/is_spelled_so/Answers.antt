use Rattle.std.proofs.Common.{◌∙◌, map, sym, ap}
use Rattle.dcv_automaton_read.specs.File.{access_from, suffix_from}
use Rattle.dcv_certify.proofs.OwnWords.{same_accesses, same_suffixes, not_differ}
use Rattle.dcv_certify.proofs.own.is_spelled_so.Goals as goal

pub returns-clause-access : goal.returns-clause-access
returns-clause-access c same =
    let told = not_differ _ (sym c.if-ne.false ∙ c.ne.ensures) in
    ap (map access_from) (sym c.access.ensures ∙ same_accesses c.access.result.now c.access-2.result.now told) ∙ c.access-2.ensures

pub returns-clause-suffixes : goal.returns-clause-suffixes
returns-clause-suffixes c same =
    ap (map suffix_from) (sym c.suffixes.ensures ∙ same_suffixes c.suffixes.result.now c.suffixes-2.result.now (sym c.eq.ensures ∙ same)) ∙ c.suffixes-2.ensures
