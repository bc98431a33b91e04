use Rattle.dcv_language.proofs.Bounds.{words_apart_are_no_more_than_states, certified_is_minimal}
use Rattle.dcv_language.proofs.Canonicals.{canonical_is_minimal}
use Rattle.dcv_language.proofs.laws.no_table_has_fewer_states.Goals as goal

pub returns-clause-words : goal.returns-clause-words
returns-clause-words c = words_apart_are_no_more_than_states

pub returns-clause-canonical : goal.returns-clause-canonical
returns-clause-canonical c = canonical_is_minimal

pub returns-clause-certificate : goal.returns-clause-certificate
returns-clause-certificate c = certified_is_minimal
