-- The observers of files that say the canonical automaton of a set.
use Rattle.std.proofs.Common.{◌≡◌, ℕ, List, length, refl, sym, ap, ◌∙◌, subst, map}
use Rattle.std.specs.Prelude.{IsTrue}
use Rattle.std.specs.List.{enumerate_from}
use Rattle.dcv_word.specs.Behaviour.{IsBehaviour}
use Rattle.dcv_language.specs.Language.{Language}
use Rattle.dcv_automaton_text.specs.File.{AutomatonFile}
use Rattle.dcv_c.specs.Faults.{IsReadAs as IsReadAsUnit}
use Rattle.dcv_c.specs.Layout as c
use Rattle.dcv_c.specs.Laws.{ObserverOfAutomaton as UnitOfAutomaton, Observes as ObservesByUnit, TextIsReadBack as UnitIsReadBack}
use Rattle.dcv_c.specs.Observer.{observer_of as unit_of}
use Rattle.dcv_c_tables.specs.Laws.{Observes as ObservesByTables, TablesOfFile}
use Rattle.dcv_c_tables.specs.Layout as tables
use Rattle.dcv_c_tables.specs.Observer.{tables_of}
use Rattle.dcv_dfa.specs.Raw.{raw_accepts}
use Rattle.dcv_lustre.specs.Faults.{IsReadAs as IsReadAsNode}
use Rattle.dcv_lustre.specs.Layout as lustre
use Rattle.dcv_lustre.specs.Laws.{ObserverOfAutomaton as NodeOfAutomaton, Observes as ObservesByNode, TextIsReadBack as NodeIsReadBack}
use Rattle.dcv_lustre.specs.Observer.{observer_of as node_of}
use Rattle.dcv_print.specs.Automaton.{IsAutomatonOf, AreSameUpToAccess}
use Rattle.dcv_print.specs.Laws.{PrintedIsAutomaton, OneAutomaton, AutomatonOfSameBehaviours, OneNode, OneUnit, NodeOfSameBehaviours, UnitOfSameBehaviours}
use Rattle.dcv_print.specs.Laws.{PrintedSaysNode, PrintedSaysUnit, PrintedSaysTables, NodeOfVersions, UnitOfVersions, TablesOfVersions}
use Rattle.dcv_print.specs.Laws.{OneTables, TablesOfSameBehaviours}
use Rattle.dcv_print.specs.Printed.{access_line, suffix_line, printed_file}

pub node_of_versions : NodeOfVersions
unfolding node_of
node_of_versions file = refl

pub unit_of_versions : UnitOfVersions
unfolding unit_of
unit_of_versions file = refl

pub tables_of_versions : TablesOfVersions
unfolding tables_of
tables_of_versions file = refl

-- ---- one observer

-- a file's names and its lines of nodes and states alone matter
node_alike : (one other : AutomatonFile) → AreSameUpToAccess one other → node_of one ≡ node_of other
unfolding node_of
node_alike one other same = λ i. node_of (record one { names = same.names i; node_lines = same.node_lines i; state_lines = same.state_lines i })

unit_alike : (one other : AutomatonFile) → AreSameUpToAccess one other → unit_of one ≡ unit_of other
unfolding unit_of
unit_alike one other same = λ i. unit_of (record one { names = same.names i; node_lines = same.node_lines i; state_lines = same.state_lines i })

tables_alike : (one other : AutomatonFile) → AreSameUpToAccess one other → tables_of one ≡ tables_of other
unfolding tables_of
tables_alike one other same = λ i. tables_of (record one { names = same.names i; node_lines = same.node_lines i; state_lines = same.state_lines i })

pub one_node : OneAutomaton → OneNode
one_node one_automaton k L names one other says its =
    says.says ∙ ap lustre.text_of (node_alike says.file its.file (one_automaton k L names says.file its.file says.of its.of)) ∙ sym its.says

pub one_unit : OneAutomaton → OneUnit
one_unit one_automaton k L names one other says its =
    says.says ∙ ap c.text_of (unit_alike says.file its.file (one_automaton k L names says.file its.file says.of its.of)) ∙ sym its.says

pub one_tables : OneAutomaton → OneTables
one_tables one_automaton k L names one other says its =
    says.says ∙ ap tables.text_of (tables_alike says.file its.file (one_automaton k L names says.file its.file says.of its.of)) ∙ sym its.says

-- ---- sets with the same behaviours

pub node_of_same_behaviours : AutomatonOfSameBehaviours → NodeOfSameBehaviours
node_of_same_behaviours move k L M names text same says =
    let own = says.observes in
    record {
      file = says.file;
      of = move k L M names says.file same says.of;
      says = says.says;
      read = says.read;
      observes = record {
        well_named = own.well_named;
        spellable = own.spellable;
        width = own.width;
        accepts = λ word behaves.
            let there = own.accepts word behaves in
            (λ accepts. subst IsTrue (same word behaves) (there.0 accepts), λ accepted. there.1 (subst IsTrue (sym (same word behaves)) accepted));
      };
    }

pub unit_of_same_behaviours : AutomatonOfSameBehaviours → UnitOfSameBehaviours
unit_of_same_behaviours move k L M names text same says =
    let own = says.observes in
    record {
      file = says.file;
      of = move k L M names says.file same says.of;
      says = says.says;
      read = says.read;
      observes = record {
        well_named = own.well_named;
        spellable = own.spellable;
        width = own.width;
        accepts = λ word behaves. own.accepts word behaves ∙ same word behaves;
      };
    }

pub tables_of_same_behaviours : AutomatonOfSameBehaviours → TablesOfSameBehaviours
tables_of_same_behaviours move k L M names text same says =
    let own = says.observes in
    record {
      file = says.file;
      of = move k L M names says.file same says.of;
      says = says.says;
      observes = record {
        rules = own.rules;
        width = own.width;
        steps = own.steps;
        accepts = λ word behaves. own.accepts word behaves ∙ same word behaves;
      };
    }

-- ---- what is printed

pub printed_says_node : NodeOfAutomaton → NodeIsReadBack → PrintedIsAutomaton → PrintedSaysNode
unfolding node_of
printed_says_node observe back printed raw names access suffixes counts text printable proof few is =
    let file = printed_file raw names access suffixes counts in
    let listed = map access_line (enumerate_from 0 access) in
    let told = map suffix_line (enumerate_from 0 suffixes) in
    let own : ObservesByNode raw.arena.slots (node_of file) (raw_accepts raw) = observe raw names listed told printable in
    let says : text ≡ lustre.text_of (node_of file) = is listed told in
    record {
      file = file;
      of = printed raw names access suffixes counts printable proof few;
      says = says;
      read = subst (λ text. IsReadAsNode text (node_of file)) (sym says) (back (node_of file) own.spellable own.well_named);
      observes = own;
    }

pub printed_says_unit : UnitOfAutomaton → UnitIsReadBack → PrintedIsAutomaton → PrintedSaysUnit
unfolding unit_of
printed_says_unit observe back printed raw names access suffixes counts text printable proof few is =
    let file = printed_file raw names access suffixes counts in
    let listed = map access_line (enumerate_from 0 access) in
    let told = map suffix_line (enumerate_from 0 suffixes) in
    let own : ObservesByUnit raw.arena.slots (unit_of file) (raw_accepts raw) = observe raw names listed told printable in
    let says : text ≡ c.text_of (unit_of file) = is listed told in
    record {
      file = file;
      of = printed raw names access suffixes counts printable proof few;
      says = says;
      read = subst (λ text. IsReadAsUnit text (unit_of file)) (sym says) (back (unit_of file) own.spellable own.well_named);
      observes = own;
    }

-- the tables of a file that says the automaton of a set
tables_observe : TablesOfFile → (k : ℕ) (L : Language) (names : List (List ℕ)) (file : AutomatonFile) → length names ≡ k → IsAutomatonOf k L names file
    → ObservesByTables k (tables_of file) L
tables_observe observe k L names file slots of =
    let own = observe file of.rules in
    let width : length file.names ≡ k = ap length of.variables ∙ slots in
    record {
      rules = own.rules;
      width = own.width ∙ width;
      steps = own.steps;
      accepts = λ word behaves. own.accepts word (subst (λ n. IsBehaviour n word) (sym width) behaves) ∙ of.canonical.exact word behaves;
    }

pub printed_says_tables : TablesOfFile → PrintedIsAutomaton → PrintedSaysTables
unfolding tables_of
printed_says_tables observe printed raw names access suffixes counts text printable proof few is =
    let file = printed_file raw names access suffixes counts in
    let of = printed raw names access suffixes counts printable proof few in
    record {
      file = file;
      of = of;
      says = is (map access_line (enumerate_from 0 access)) (map suffix_line (enumerate_from 0 suffixes));
      observes = tables_observe observe raw.arena.slots (raw_accepts raw) names file printable.slots of;
    }
