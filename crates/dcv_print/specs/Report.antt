-- What a report says of an automaton.
--     ReportValue                    a verdict, and the text that is written
--     Says kind raw names counts r   the text of the report is what the kind asks for, of this automaton over variables with these names,
--                                    which was built in steps that took so much
--     SpellsAllBy raw names ..       so is this text of all that is asked for, with these words of the automaton
use Rattle.std.specs.Prelude.{◌≡◌, ℕ, List}
use Rattle.dcv_language.specs.Verdict.{Verdict, IsVerdict}
use Rattle.dcv_language.specs.VerdictText.{verdict_text}
use Rattle.dcv_language.specs.declared.certificate.Access.{Access}
use Rattle.dcv_language.specs.declared.certificate.Suffix.{Suffix}
use Rattle.dcv_automaton_text.specs.File.{AccessLine, SuffixLine}
use Rattle.dcv_automaton_text.specs.Spelled.{spelled}
use Rattle.dcv_automaton_file.specs.File.{file_of}
use Rattle.dcv_certificate.specs.Proof.{IsProof}
use Rattle.dcv_language.specs.declared.count.Count.{Count}
use Rattle.dcv_dfa.specs.Raw.{RawValue, raw_accepts}
use Rattle.dcv_c.specs.Layout as c
use Rattle.dcv_c.specs.Observer.{observer_of as unit_of}
use Rattle.dcv_c_tables.specs.Layout as tables
use Rattle.dcv_c_tables.specs.Observer.{tables_of}
use Rattle.dcv_lustre.specs.Layout as lustre
use Rattle.dcv_lustre.specs.Observer.{observer_of as node_of}
use Rattle.dcv_print.specs.Listed.{listed_file, lustre_text, c_text, tables_text, IsLined}
use Rattle.dcv_print.specs.Printed.{printed_file}
use Rattle.dcv_print.specs.Sections.{all_text}
use Rattle.dcv_print.specs.Verdict.{seen_verdict}
use Rattle.dcv_print.specs.declared.automaton_lines.Listed.{Listed}
use Rattle.dcv_language.specs.declared.kind.Kind.{Kind}
use Rattle.dcv_language.specs.declared.kind.Kind.TheVariants.{Check, Automaton, Lustre, C, Tables, All}
use Rattle.dcv_print.specs.declared.report.Content.{Content}
use Rattle.dcv_print.specs.declared.report.Content.TheVariants.{Verdict as TheVerdict, Automaton as TheAutomaton, Lustre as TheNode, C as TheUnit, Tables as TheTables, All as TheSections}
use Rattle.dcv_print.specs.declared.verdict_lines.Verdict.{Verdict as CodeVerdict}

pub record ReportValue : Type 0 where
  pub verdict : Verdict
  pub text : List ℕ

-- the text of the automaton, with words that show that none with fewer states accepts the same, and with what the steps took
pub record SpellsAutomaton (raw : RawValue) (names : List (List ℕ)) (counts : List Count) (text : List ℕ) : Type 0 where
  pub access : List Access
  pub suffixes : List Suffix
  pub proof : IsProof raw access suffixes
  pub says : text ≡ spelled (printed_file raw names access suffixes counts)

-- the text of the observer, in which the words of the automaton's lines and the steps do not matter
abbrev pub IsLustreObserver : RawValue → List (List ℕ) → List ℕ → Type 0
IsLustreObserver raw names text =
    (access : List AccessLine) (suffixes : List SuffixLine) → text ≡ lustre.text_of (node_of (file_of raw names access suffixes))

abbrev pub IsCObserver : RawValue → List (List ℕ) → List ℕ → Type 0
IsCObserver raw names text =
    (access : List AccessLine) (suffixes : List SuffixLine) → text ≡ c.text_of (unit_of (file_of raw names access suffixes))

abbrev pub IsTablesObserver : RawValue → List (List ℕ) → List ℕ → Type 0
IsTablesObserver raw names text =
    (access : List AccessLine) (suffixes : List SuffixLine) → text ≡ tables.text_of (tables_of (file_of raw names access suffixes))

-- the verdict, the automaton and both flat observers, each after its line
pub record SpellsAll (raw : RawValue) (names : List (List ℕ)) (counts : List Count) (verdict text : List ℕ) : Type 0 where
  pub automaton : List ℕ
  pub node : List ℕ
  pub unit : List ℕ
  pub spells_automaton : SpellsAutomaton raw names counts automaton
  pub is_node : IsLustreObserver raw names node
  pub is_unit : IsCObserver raw names unit
  pub says : text ≡ all_text verdict automaton node unit

-- the same, with words that were found before
pub record SpellsAllBy (raw : RawValue) (names : List (List ℕ)) (access : List Access) (suffixes : List Suffix) (counts : List Count) (text : List ℕ) : Type 0 where
  pub verdict : Verdict
  pub node : List ℕ
  pub unit : List ℕ
  pub is_verdict : IsVerdict raw.arena.slots (raw_accepts raw) verdict
  pub is_node : IsLustreObserver raw names node
  pub is_unit : IsCObserver raw names unit
  pub says : text ≡ all_text (verdict_text verdict) (spelled (printed_file raw names access suffixes counts)) node unit

abbrev pub Says : Kind → RawValue → List (List ℕ) → List Count → ReportValue → Type 0
Says Check raw names counts report = report.text ≡ verdict_text report.verdict
Says Automaton raw names counts report = SpellsAutomaton raw names counts report.text
Says Lustre raw names counts report = IsLustreObserver raw names report.text
Says C raw names counts report = IsCObserver raw names report.text
Says Tables raw names counts report = IsTablesObserver raw names report.text
Says All raw names counts report = SpellsAll raw names counts (verdict_text report.verdict) report.text

-- ---- how a report of the code is seen

abbrev pub text_of_sections : List ℕ → Listed → List ℕ
text_of_sections verdict listed = all_text verdict (spelled (listed_file listed)) (lustre_text listed.lined) (c_text listed.lined)

abbrev pub text_of : CodeVerdict → Content → List ℕ
text_of verdict TheVerdict = verdict_text (seen_verdict verdict)
text_of verdict (TheAutomaton listed) = spelled (listed_file listed)
text_of verdict (TheNode lined) = lustre_text lined
text_of verdict (TheUnit lined) = c_text lined
text_of verdict (TheTables lined) = tables_text lined
text_of verdict (TheSections listed) = text_of_sections (verdict_text (seen_verdict verdict)) listed

abbrev pub seen_report : CodeVerdict → Content → ReportValue
seen_report verdict content = record { verdict = seen_verdict verdict; text = text_of verdict content }

abbrev pub IsContent : Content → Type 0
IsContent TheVerdict = Unit {0}
IsContent (TheAutomaton listed) = IsLined listed.lined
IsContent (TheNode lined) = IsLined lined
IsContent (TheUnit lined) = IsLined lined
IsContent (TheTables lined) = IsLined lined
IsContent (TheSections listed) = IsLined listed.lined
