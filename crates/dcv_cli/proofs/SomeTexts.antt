-- What is printed of an automaton that has a file is right for each set that it accepts, and it has a text of each kind: of the canonical automaton
-- itself, of its observers, and of all.
--     some_text      the text of a kind, for such a set
use Rattle.dcv_cli.proofs.Common.{◌≡◌, ℕ, List, [], refl, sym, subst, Count, Language, HaveSameBehaviours, Verdict, verdict_text, WordLaws}
use Rattle.dcv_cli.proofs.Common.{HasFile, AutomatonFile, table_of_states, RawValue, raw_accepts, ArePrintableCounts}
use Rattle.dcv_cli.proofs.Common.{PrintedIsAutomaton, PrintedSaysNode, PrintedSaysUnit, PrintedSaysTables, AutomatonOfSameBehaviours}
use Rattle.dcv_cli.proofs.Common.{NodeOfSameBehaviours, UnitOfSameBehaviours, TablesOfSameBehaviours, SaysNode, SaysUnit, SaysTables}
use Rattle.dcv_cli.proofs.Common.{printed_file, all_text, Kind, Check, Automaton, Lustre, C, Tables, All, SaysAutomaton, SaysAll, Says}
use Rattle.dcv_language.specs.Certificate.{IsCertificate}
use Rattle.dcv_language.specs.declared.certificate.Access.{Access}
use Rattle.dcv_language.specs.declared.certificate.Suffix.{Suffix}
use Rattle.dcv_automaton_file.specs.File.{file_of}
use Rattle.dcv_automaton_text.specs.Spelled.{spelled}
use Rattle.dcv_c.specs.Layout as c
use Rattle.dcv_c.specs.Observer.{observer_of as unit_of}
use Rattle.dcv_c_tables.specs.Layout as tables
use Rattle.dcv_c_tables.specs.Observer.{tables_of}
use Rattle.dcv_certificate.specs.Proof.{IsProof}
use Rattle.dcv_lustre.specs.Layout as lustre
use Rattle.dcv_lustre.specs.Observer.{observer_of as node_of}
use Rattle.dcv_print.specs.Automaton.{IsAutomatonOf}
use Rattle.dcv_print.specs.Report.{IsLustreObserver, IsCObserver, IsTablesObserver}
use Rattle.dcv_quotient.proofs.SomeCertificates.{some_certificate_of}
use Rattle.dcv_quotient.proofs.WordOrder.{word_laws}
use Rattle.dcv_existence.proofs.SomeSpellings.{some_spellings, some_suffixes}

-- words of access and suffixes that show that the automaton has the fewest states
record HasProof (raw : RawValue) : Type 0 where
  access : List Access
  suffixes : List Suffix
  proof : IsProof raw access suffixes

module _ (laws : WordLaws) (raw : RawValue) (names : List (List ℕ)) (has_file : HasFile raw names) where
  some_proof : HasProof raw
  some_proof =
      let k = raw.arena.slots in
      let L = raw_accepts raw in
      let words = has_file.auto.access in
      let canonical = has_file.auto.canonical in
      let (access, spelled) = some_spellings laws k L (table_of_states raw) words canonical in
      let (listed, certificate) = some_certificate_of k L (table_of_states raw) words canonical in
      let suffixes = some_suffixes k L words listed certificate in
      record {
        access = access;
        suffixes = suffixes.suffixes;
        proof = record {
          words = words;
          canonical = canonical;
          spelled = spelled;
          earlier = suffixes.earlier;
          certificate = subst (IsCertificate k L words) (sym suffixes.words) certificate;
        };
      }

-- the laws of what is printed of an automaton
pub record PrintLaws : Type 0 where
  pub printed : PrintedIsAutomaton
  pub node : PrintedSaysNode
  pub unit : PrintedSaysUnit
  pub tables : PrintedSaysTables
  pub move : AutomatonOfSameBehaviours
  pub move_node : NodeOfSameBehaviours
  pub move_unit : UnitOfSameBehaviours
  pub move_tables : TablesOfSameBehaviours

-- so its observers are observers of a set that it accepts
module _ (print : PrintLaws) (raw : RawValue) (names : List (List ℕ)) (has_file : HasFile raw names) (counts : List Count) (few : ArePrintableCounts counts)
    (k : ℕ) (L : Language) (slots : raw.arena.slots ≡ k) (accepts : HaveSameBehaviours k (raw_accepts raw) L) where
  has_proof : HasProof raw
  has_proof = some_proof word_laws raw names has_file

  pub says_node : (text : List ℕ) → IsLustreObserver raw names text → SaysNode k L names text
  says_node text is =
      print.move_node k (raw_accepts raw) L names text accepts
      (subst (λ k. SaysNode k (raw_accepts raw) names text) slots (print.node raw names has_proof.access has_proof.suffixes counts text has_file has_proof.proof few is))

  pub says_unit : (text : List ℕ) → IsCObserver raw names text → SaysUnit k L names text
  says_unit text is =
      print.move_unit k (raw_accepts raw) L names text accepts
      (subst (λ k. SaysUnit k (raw_accepts raw) names text) slots (print.unit raw names has_proof.access has_proof.suffixes counts text has_file has_proof.proof few is))

  pub says_tables : (text : List ℕ) → IsTablesObserver raw names text → SaysTables k L names text
  says_tables text is =
      print.move_tables k (raw_accepts raw) L names text accepts
      (subst (λ k. SaysTables k (raw_accepts raw) names text) slots (print.tables raw names has_proof.access has_proof.suffixes counts text has_file has_proof.proof few is))

  pub says_automaton : (access : List Access) (suffixes : List Suffix) → IsProof raw access suffixes
      → SaysAutomaton k L names counts (spelled (printed_file raw names access suffixes counts))
  says_automaton access suffixes proof =
      let file = printed_file raw names access suffixes counts in
      let own : IsAutomatonOf k (raw_accepts raw) names file =
      subst (λ k. IsAutomatonOf k (raw_accepts raw) names file) slots (print.printed raw names access suffixes counts has_file proof few) in
      record { automaton = file; is = print.move k (raw_accepts raw) L names file accepts own; steps = refl; says = refl }

  -- ---- some text

  some_automaton_text : (text : List ℕ) × SaysAutomaton k L names counts text
  some_automaton_text = (spelled (printed_file raw names has_proof.access has_proof.suffixes counts), says_automaton has_proof.access has_proof.suffixes has_proof.proof)

  abbrev own_file : AutomatonFile
  own_file = file_of raw names [] []

  is_node : IsLustreObserver raw names (lustre.text_of (node_of own_file))
  unfolding node_of file_of
  is_node access suffixes = refl

  is_unit : IsCObserver raw names (c.text_of (unit_of own_file))
  unfolding unit_of file_of
  is_unit access suffixes = refl

  is_tables : IsTablesObserver raw names (tables.text_of (tables_of own_file))
  unfolding tables_of file_of
  is_tables access suffixes = refl

  some_node : (text : List ℕ) × SaysNode k L names text
  some_node = (lustre.text_of (node_of own_file), says_node (lustre.text_of (node_of own_file)) is_node)

  some_unit : (text : List ℕ) × SaysUnit k L names text
  some_unit = (c.text_of (unit_of own_file), says_unit (c.text_of (unit_of own_file)) is_unit)

  pub some_all : (verdict : Verdict) → (text : List ℕ) × SaysAll k L names counts verdict text
  some_all verdict =
      let (automaton, says_automaton) = some_automaton_text in
      let (node, says_node) = some_node in
      let (unit, says_unit) = some_unit in (
        all_text (verdict_text verdict) automaton node unit,
        record { automaton = automaton; node = node; unit = unit; says_automaton = says_automaton; says_node = says_node; says_unit = says_unit; says = refl },
      )

  pub some_text : (kind : Kind) (verdict : Verdict) → (text : List ℕ) × Says kind k L names counts verdict text
  some_text Check verdict = (verdict_text verdict, refl)
  some_text Automaton verdict = some_automaton_text
  some_text Lustre verdict = some_node
  some_text C verdict = some_unit
  some_text Tables verdict = (tables.text_of (tables_of own_file), says_tables (tables.text_of (tables_of own_file)) is_tables)
  some_text All verdict = some_all verdict
