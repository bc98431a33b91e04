use Rattle.dcv_dfa.proofs.Complements.{one_list_of_access_words}
use Rattle.dcv_dfa.proofs.laws.access_words_are_one.Goals as goal

pub returns : goal.returns
returns c = one_list_of_access_words c.one_canonical_table.ensures
