use Rattle.dcv_observer.proofs.Readings.{spells_one}
use Rattle.dcv_c.proofs.EachTree.{words_spelled}
use Rattle.dcv_c.proofs.DerivedUnits.{text_spells}
use Rattle.dcv_c.proofs.Readings.{is_subset, text_is_read_back}
use Rattle.dcv_c.proofs.laws.texts_spell_units.Goals as goal

pub returns-clause-text : goal.returns-clause-text
returns-clause-text c = text_spells

pub returns-clause-one : goal.returns-clause-one
returns-clause-one c = spells_one is_subset

pub returns-clause-back : goal.returns-clause-back
returns-clause-back c = text_is_read_back

pub returns-clause-words : goal.returns-clause-words
returns-clause-words c = words_spelled
