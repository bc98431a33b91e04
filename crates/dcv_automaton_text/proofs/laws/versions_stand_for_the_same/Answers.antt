use Rattle.dcv_automaton_text.proofs.Versions.{stand_for_the_same, texts_of_versions, second_and_back}
use Rattle.dcv_automaton_text.proofs.laws.versions_stand_for_the_same.Goals as goal

pub returns : goal.returns
returns c = record { same = stand_for_the_same; texts = texts_of_versions; back = second_and_back }
