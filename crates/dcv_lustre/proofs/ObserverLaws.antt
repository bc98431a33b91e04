-- The laws of observers.
use Rattle.std.proofs.Common.{◌≡◌, ℕ, cond, List, [], ◌∷◌, length, refl, sym, ap, subst, ◌∙◌, arith}
use Rattle.std.specs.List.{All}
use Rattle.std.proofs.lemmas.List.{length-map}
use Rattle.dcv_word.specs.Behaviour.{IsBehaviour}
use Rattle.dcv_word.specs.Laws.{LetterStandsAtItsBits}
use Rattle.dcv_language.specs.Table.{Table, IsTable, table_accepts}
use Rattle.dcv_automaton_text.specs.File.{AutomatonFile}
use Rattle.dcv_automaton_text.specs.Laws.{GoodFilesAreTables}
use Rattle.dcv_automaton_text.specs.Meaning.{table_of}
use Rattle.dcv_automaton_file.specs.File.{file_of}
use Rattle.dcv_automaton_file.specs.Laws.{FileHasTheTable}
use Rattle.dcv_dfa.specs.Laws.{StatesMakeATable, TableAcceptsAsTheStates}
use Rattle.dcv_dfa.specs.Raw.{raw_accepts}
use Rattle.dcv_automaton_file.proofs.ObservedFiles.{IsObservable, good_is_observable, automaton_is_observable}
use Rattle.dcv_lustre.specs.Meaning.{has_only_tick, width_of}
use Rattle.dcv_lustre.specs.Observer.{input_name, input_names, observer_of}
use Rattle.dcv_lustre.specs.Laws.{TraceExists, Observes, ObserverOfFile, ObserverOfAutomaton}
use Rattle.dcv_lustre.proofs.ObserverAccepts.{not_tick, observer_accepts}
use Rattle.dcv_lustre.proofs.ObserverRules.{observer_is_well_named}
use Rattle.dcv_lustre.proofs.ObserverForms.{observer_is_spellable}

width_by_names : (names : List (List ℕ)) → cond (has_only_tick (input_names names)) 0 (length (input_names names)) ≡ length names
width_by_names [] = refl
width_by_names (name ∷ names) =
    ap (λ b. cond b 0 (length (input_names (name ∷ names)))) (not_tick (name ∷ names) (omega arith)) ∙ length-map (name ∷ names) input_name

has_the_width : (file : AutomatonFile) → width_of (observer_of file) ≡ length file.names
unfolding observer_of
has_the_width file = width_by_names file.names

module _ (stands : LetterStandsAtItsBits) (some : TraceExists) where
  observes : (file : AutomatonFile) → IsObservable file → IsTable (length file.names) (table_of file)
      → Observes (length file.names) (observer_of file) (table_accepts (table_of file))
  observes file good table =
      let named = observer_is_well_named file good in
      let width = has_the_width file in
      record {
        well_named = named;
        spellable = observer_is_spellable file good;
        width = width;
        accepts = λ word behaviour.
            observer_accepts file good stands table word behaviour
            (some (observer_of file) named word (subst (λ n. All (λ letter. length letter ≡ n) word) (sym width) behaviour.widths));
      }

  pub observer_of_file : GoodFilesAreTables → ObserverOfFile
  observer_of_file tables file good = observes file (good_is_observable file good) (tables file good)

  pub observer_of_automaton : FileHasTheTable → StatesMakeATable → TableAcceptsAsTheStates → ObserverOfAutomaton
  unfolding file_of
  observer_of_automaton has_table make accept raw names access suffixes is =
      let file = file_of raw names access suffixes in
      let same : table_of file ≡ _ = has_table raw names access suffixes is in
      let table : IsTable (length names) (table_of file) =
      subst (λ n. IsTable n (table_of file)) (sym is.slots) (subst (IsTable raw.arena.slots) (sym same) (make raw is.is_raw)) in
      let good = observes file (automaton_is_observable raw names access suffixes is) table in
      record {
        well_named = good.well_named;
        spellable = good.spellable;
        width = good.width ∙ is.slots;
        accepts = λ word behaviour.
            let there = good.accepts word (subst (λ n. IsBehaviour n word) (sym is.slots) behaviour) in
            let e : table_accepts (table_of file) word ≡ raw_accepts raw word =
            ap (λ (table : Table). table_accepts table word) same ∙ accept raw is.is_raw is.auto.start word behaviour in
            (λ accepts. sym e ∙ there.0 accepts, λ accepted. there.1 (e ∙ accepted));
      }
