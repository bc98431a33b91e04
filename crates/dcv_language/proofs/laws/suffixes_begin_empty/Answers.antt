use Rattle.dcv_language.proofs.Suffixes.{one_word_needs_no_suffix, first_suffix_is_empty}
use Rattle.dcv_language.proofs.laws.suffixes_begin_empty.Goals as goal

pub returns-clause-one : goal.returns-clause-one
returns-clause-one c = one_word_needs_no_suffix

pub returns-clause-more : goal.returns-clause-more
returns-clause-more c = first_suffix_is_empty
