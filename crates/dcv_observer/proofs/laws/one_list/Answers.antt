use Rattle.dcv_observer.specs.Left.{items_from}
use Rattle.dcv_observer.proofs.Cutting.{has_items, one_list}
use Rattle.dcv_observer.proofs.laws.one_list.Goals as goal

pub returns-clause-exists : goal.returns-clause-exists
returns-clause-exists c = λ lexicon text. (items_from lexicon 0 text, has_items lexicon text)

pub returns-clause-unique : goal.returns-clause-unique
returns-clause-unique c = one_list
