-- What says the automaton of a set says that of each set with the same behaviours, and no table automaton for the set has fewer states.
use Rattle.std.proofs.Common.{ℕ, List, ◌++◌, get_or, sym, ◌∙◌}
use Rattle.dcv_word.specs.Behaviour.{Word}
use Rattle.dcv_language.specs.Apart.{TellsApart}
use Rattle.dcv_language.specs.Certificate.{TellsNewPair, AreToldBy, IsCertificate}
use Rattle.dcv_language.specs.Language.{Language, HaveSameBehaviours}
use Rattle.dcv_language.specs.Laws.{CanonicalForSameBehaviours}
use Rattle.dcv_automaton_text.specs.Laws.{WordsShowFewestStates}
use Rattle.dcv_automaton_text.specs.Meaning.{table_of, access_words_of, suffix_words_of}
use Rattle.dcv_print.specs.Laws.{AutomatonOfSameBehaviours, AutomatonHasFewestStates}

-- both words go on to behaviours, of which the sets say the same
tells_in_other : (k : ℕ) (L M : Language) → HaveSameBehaviours k L M → (first second suffix : Word) → TellsApart k L first second suffix → TellsApart k M first second suffix
tells_in_other k L M same first second suffix tells = record {
  first_goes_on = tells.first_goes_on;
  second_goes_on = tells.second_goes_on;
  differ = λ equal. tells.differ (same (first ++ suffix) tells.first_goes_on ∙ equal ∙ sym (same (second ++ suffix) tells.second_goes_on));
}

turned : (k : ℕ) (L M : Language) → HaveSameBehaviours k L M → HaveSameBehaviours k M L
turned k L M same word behaves = sym (same word behaves)

new_pair : (k : ℕ) (L M : Language) → HaveSameBehaviours k L M → (access earlier : List Word) (suffix : Word) → TellsNewPair k L access earlier suffix → TellsNewPair k M access earlier suffix
new_pair k L M same access earlier suffix pair = record {
  first = pair.first;
  second = pair.second;
  first_is_access = pair.first_is_access;
  second_is_access = pair.second_is_access;
  tells = tells_in_other k L M same pair.first pair.second suffix pair.tells;
  is_new = λ i d within tells. pair.is_new i d within (tells_in_other k M L (turned k L M same) pair.first pair.second (get_or earlier i d) tells);
}

told_by : (k : ℕ) (L M : Language) → HaveSameBehaviours k L M → (suffixes : List Word) (first second : Word) → AreToldBy k L suffixes first second → AreToldBy k M suffixes first second
told_by k L M same suffixes first second told =
    record { suffix = told.suffix; listed = told.listed; tells = tells_in_other k L M same first second told.suffix told.tells }

certificate_for_same : (k : ℕ) (L M : Language) → HaveSameBehaviours k L M → (access suffixes : List Word) → IsCertificate k L access suffixes → IsCertificate k M access suffixes
certificate_for_same k L M same access suffixes is = record {
  each = λ earlier later suffix split.
      let next = is.each earlier later suffix split in
      record { grows = next.grows; tells = new_pair k L M same access earlier suffix next.tells };
  told = λ i j d before within. told_by k L M same suffixes (get_or access i d) (get_or access j d) (is.told i j d before within);
}

pub automaton_of_same_behaviours : CanonicalForSameBehaviours → AutomatonOfSameBehaviours
automaton_of_same_behaviours canonical k L M names file same is = record {
  form = is.form;
  rules = is.rules;
  variables = is.variables;
  canonical = canonical k L M (table_of file) (access_words_of file) same is.canonical;
  certificate = certificate_for_same k L M same (access_words_of file) (suffix_words_of file) is.certificate;
  numbered = is.numbered;
}

pub automaton_has_fewest_states : WordsShowFewestStates → AutomatonHasFewestStates
automaton_has_fewest_states show k L names file table is a_table exact = show k L file table is.rules is.certificate a_table exact
