-- What is said of an automaton whose lines are listed is said of it.
use Rattle.std.proofs.Common.{◌≡◌, ℕ, List, [], ◌++◌, refl, ap, ◌∙◌, append_assoc, codes}
use Rattle.dcv_syntax.specs.declared.names.Name.{Name}
use Rattle.dcv_automaton_text.specs.File.{AccessLine, SuffixLine}
use Rattle.dcv_automaton_text.specs.Spelled.{spelled}
use Rattle.dcv_automaton_file.specs.File.{file_of}
use Rattle.dcv_c.specs.Layout as c
use Rattle.dcv_c.specs.Observer.{observer_of as unit_of}
use Rattle.dcv_c_tables.specs.Layout as tables
use Rattle.dcv_c_tables.specs.Observer.{tables_of}
use Rattle.dcv_lustre.specs.Layout as lustre
use Rattle.dcv_lustre.specs.Observer.{observer_of as node_of}
use Rattle.dcv_certificate.specs.Proof.{IsProof}
use Rattle.dcv_language.specs.declared.count.Count.{Count}
use Rattle.dcv_dfa.specs.Raw.{RawValue}
use Rattle.dcv_print.specs.Listed.{listed_file, lustre_text, c_text, tables_text}
use Rattle.dcv_print.specs.Printed.{texts_of, printed_file}
use Rattle.dcv_print.specs.Sections.{all_text}
use Rattle.dcv_print.specs.Report.{SpellsAutomaton, IsLustreObserver, IsCObserver, IsTablesObserver}
use Rattle.dcv_print.specs.declared.automaton_lines.Lined.{Lined}
use Rattle.dcv_print.specs.declared.automaton_lines.Listed.{Listed}

pub spells : (listed : Listed) (raw : RawValue) (names : List Name) (counts : List Count) → listed.lined.auto.now ≡ raw → listed.lined.names.now ≡ names → listed.counts.now ≡ counts
    → IsProof raw listed.proof.access listed.proof.suffixes → SpellsAutomaton raw (texts_of names) counts (spelled (listed_file listed))
spells listed raw names counts same_raw same_names same_counts proof = record {
  access = listed.proof.access;
  suffixes = listed.proof.suffixes;
  proof = proof;
  says = λ i. spelled (printed_file (same_raw i) (texts_of (same_names i)) listed.proof.access listed.proof.suffixes (same_counts i));
}

-- ---- all of it

pub in_turn : (verdict automaton node unit : List ℕ)
    → (codes "--- verdict\n" ++ (verdict ++ codes "--- automaton\n")) ++ (automaton ++ (codes "--- lustre\n" ++ (node ++ (codes "--- c\n" ++ unit))))
    ≡ all_text verdict automaton node unit
in_turn verdict automaton node unit =
    let behind = automaton ++ (codes "--- lustre\n" ++ (node ++ (codes "--- c\n" ++ unit))) in
    ap (λ text. codes "--- verdict\n" ++ text) (append_assoc verdict (codes "--- automaton\n") behind)

-- ---- observers

-- the file's words do not matter to them
same_node : (raw : RawValue) (names : List (List ℕ)) (access : List AccessLine) (suffixes : List SuffixLine)
    → node_of (file_of raw names [] []) ≡ node_of (file_of raw names access suffixes)
unfolding node_of file_of
same_node raw names access suffixes = refl

same_unit : (raw : RawValue) (names : List (List ℕ)) (access : List AccessLine) (suffixes : List SuffixLine)
    → unit_of (file_of raw names [] []) ≡ unit_of (file_of raw names access suffixes)
unfolding unit_of file_of
same_unit raw names access suffixes = refl

pub says_node : (lined : Lined) (raw : RawValue) (names : List Name) → lined.auto.now ≡ raw → lined.names.now ≡ names
    → IsLustreObserver raw (texts_of names) (lustre_text lined)
says_node lined raw names same_raw same_names = λ access suffixes.
    (λ i. lustre.text_of (node_of (file_of (same_raw i) (texts_of (same_names i)) [] []))) ∙ ap lustre.text_of (same_node raw (texts_of names) access suffixes)

pub says_unit : (lined : Lined) (raw : RawValue) (names : List Name) → lined.auto.now ≡ raw → lined.names.now ≡ names
    → IsCObserver raw (texts_of names) (c_text lined)
says_unit lined raw names same_raw same_names = λ access suffixes.
    (λ i. c.text_of (unit_of (file_of (same_raw i) (texts_of (same_names i)) [] []))) ∙ ap c.text_of (same_unit raw (texts_of names) access suffixes)

same_tables : (raw : RawValue) (names : List (List ℕ)) (access : List AccessLine) (suffixes : List SuffixLine)
    → tables_of (file_of raw names [] []) ≡ tables_of (file_of raw names access suffixes)
unfolding tables_of file_of
same_tables raw names access suffixes = refl

pub says_tables : (lined : Lined) (raw : RawValue) (names : List Name) → lined.auto.now ≡ raw → lined.names.now ≡ names
    → IsTablesObserver raw (texts_of names) (tables_text lined)
says_tables lined raw names same_raw same_names = λ access suffixes.
    (λ i. tables.text_of (tables_of (file_of (same_raw i) (texts_of (same_names i)) [] []))) ∙ ap tables.text_of (same_tables raw (texts_of names) access suffixes)
