use Rattle.dcv_tokens.proofs.ClassLaws.{fixed_texts_differ, name_class, class_of_name, number_class, class_of_number}
use Rattle.dcv_tokens.proofs.laws.one_class.Goals as goal

pub returns-clause-names : goal.returns-clause-names
returns-clause-names c = λ bytes token. (name_class bytes, class_of_name bytes)

pub returns-clause-numbers : goal.returns-clause-numbers
returns-clause-numbers c = λ bytes token. (number_class bytes token, class_of_number bytes token)

pub returns-clause-fixed : goal.returns-clause-fixed
returns-clause-fixed c = fixed_texts_differ
