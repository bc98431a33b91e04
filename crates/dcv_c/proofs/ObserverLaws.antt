-- The laws of observers.
use Rattle.std.proofs.Common.{◌≡◌, length, sym, subst, ◌∙◌, ap}
use Rattle.std.proofs.lemmas.List.{length-map}
use Rattle.dcv_word.specs.Behaviour.{IsBehaviour}
use Rattle.dcv_word.specs.Laws.{LetterStandsAtItsBits}
use Rattle.dcv_language.specs.Table.{Table, IsTable, table_accepts}
use Rattle.dcv_automaton_text.specs.File.{AutomatonFile}
use Rattle.dcv_automaton_text.specs.Laws.{GoodFilesAreTables}
use Rattle.dcv_automaton_text.specs.Meaning.{table_of}
use Rattle.dcv_automaton_file.specs.File.{file_of}
use Rattle.dcv_automaton_file.specs.Laws.{FileHasTheTable}
use Rattle.dcv_dfa.specs.Laws.{StatesMakeATable, TableAcceptsAsTheStates}
use Rattle.dcv_automaton_file.proofs.ObservedFiles.{IsObservable, good_is_observable, automaton_is_observable}
use Rattle.dcv_c.specs.Meaning.{width_of}
use Rattle.dcv_c.specs.Observer.{parameter_name, observer_of}
use Rattle.dcv_c.specs.Laws.{Observes, ObserverOfFile, ObserverOfAutomaton}
use Rattle.dcv_c.proofs.ObserverAccepts.{observer_accepts}
use Rattle.dcv_c.proofs.ObserverRules.{observer_is_well_named}
use Rattle.dcv_c.proofs.ObserverForms.{observer_is_spellable}

has_the_width : (file : AutomatonFile) → width_of (observer_of file) ≡ length file.names
unfolding observer_of
has_the_width file = length-map file.names parameter_name

module _ (stands : LetterStandsAtItsBits) where
  observes : (file : AutomatonFile) → IsObservable file → IsTable (length file.names) (table_of file)
      → Observes (length file.names) (observer_of file) (table_accepts (table_of file))
  observes file good table =
      record {
        well_named = observer_is_well_named file good;
        spellable = observer_is_spellable file good;
        width = has_the_width file;
        accepts = observer_accepts file good stands table;
      }

  pub observer_of_file : GoodFilesAreTables → ObserverOfFile
  observer_of_file tables file good = observes file (good_is_observable file good) (tables file good)

  pub observer_of_automaton : FileHasTheTable → StatesMakeATable → TableAcceptsAsTheStates → ObserverOfAutomaton
  unfolding file_of
  observer_of_automaton has_table make accept raw names access suffixes is =
      let file = file_of raw names access suffixes in
      let same : table_of file ≡ _ = has_table raw names access suffixes is in
      let table : IsTable (length names) (table_of file) =
      subst (λ n. IsTable n (table_of file)) (sym is.slots) (subst (IsTable raw.arena.slots) (sym same) (make raw is.is_raw)) in
      let good = observes file (automaton_is_observable raw names access suffixes is) table in
      record {
        well_named = good.well_named;
        spellable = good.spellable;
        width = good.width ∙ is.slots;
        accepts = λ word behaviour.
            good.accepts word (subst (λ n. IsBehaviour n word) (sym is.slots) behaviour)
            ∙ ap (λ (table : Table). table_accepts table word) same ∙ accept raw is.is_raw is.auto.start word behaviour;
      }
