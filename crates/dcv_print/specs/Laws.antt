-- The laws that `src/laws.rt` proves: the file that is printed of an automaton is spelled by the text, keeps the table rules, and stands for
-- the automaton's table, its access words, the suffixes and what the steps took. It is the file of the set that the automaton accepts, and up to
-- the last access line there is no other.
--     IsPrintable raw names        this automaton may be printed with these names
use Rattle.std.specs.Prelude.{◌≡◌, ℕ, ◌≤◌, List, length, map}
use Rattle.std.specs.List.{enumerate_from}
use Rattle.dcv_word.specs.Behaviour.{Word}
use Rattle.dcv_language.specs.Language.{Language, HaveSameBehaviours}
use Rattle.dcv_language.specs.Table.{Table, IsTable, AcceptsExactly}
use Rattle.dcv_automaton_text.specs.File.{AutomatonFile}
use Rattle.dcv_automaton_read.specs.Laws.{IsReadAs}
use Rattle.dcv_automaton_text.specs.Form.{IsSpellable}
use Rattle.dcv_automaton_text.specs.Spelled.{spelled}
use Rattle.dcv_automaton_text.specs.Meaning.{table_of, access_words_of, suffix_words_of}
use Rattle.dcv_automaton_text.specs.Rules.{IsGood}
use Rattle.dcv_automaton_text.specs.Versions.{version_of, first_version, steps_of}
use Rattle.dcv_automaton_read.specs.File.{step_line}
use Rattle.dcv_language.specs.declared.count.Count.{Count}
use Rattle.dcv_dfa.specs.Auto.{table_of_states}
use Rattle.dcv_dfa.specs.Raw.{RawValue, raw_accepts}
use Rattle.dcv_language.specs.declared.certificate.Access.{Access}
use Rattle.dcv_language.specs.declared.certificate.Suffix.{Suffix}
use Rattle.dcv_certificate.specs.Proof.{AreSpelled, suffix_words, IsProof}
use Rattle.dcv_automaton_file.specs.Laws.{HasFile}
use Rattle.dcv_c.specs.Observer.{observer_of as unit_of}
use Rattle.dcv_c_tables.specs.Observer.{tables_of}
use Rattle.dcv_lustre.specs.Observer.{observer_of as node_of}
use Rattle.dcv_print.specs.Counts.{ArePrintableCounts}
use Rattle.dcv_print.specs.Automaton.{IsAutomatonOf, AreSameUpToAccess}
use Rattle.dcv_print.specs.Observers.{SaysNode, SaysUnit, SaysTables}
use Rattle.dcv_print.specs.Printed.{printed_file}
use Rattle.dcv_print.specs.Report.{IsLustreObserver, IsCObserver, IsTablesObserver}

abbrev pub IsPrintable : RawValue → List (List ℕ) → Type 0
IsPrintable raw names = HasFile raw names

-- the words of the file are words of the form
abbrev pub PrintedIsSpellable : Type 0
PrintedIsSpellable = (raw : RawValue) (names : List (List ℕ)) (access : List Access) (suffixes : List Suffix) (counts : List Count)
    → IsPrintable raw names → IsProof raw access suffixes → ArePrintableCounts counts → IsSpellable (printed_file raw names access suffixes counts)

abbrev pub PrintedIsGood : Type 0
PrintedIsGood = (raw : RawValue) (names : List (List ℕ)) (access : List Access) (suffixes : List Suffix) (counts : List Count)
    → IsPrintable raw names → IsProof raw access suffixes → ArePrintableCounts counts → IsGood (printed_file raw names access suffixes counts)

-- the text has no fault, and no other file
abbrev pub PrintedIsReadBack : Type 0
PrintedIsReadBack = (raw : RawValue) (names : List (List ℕ)) (access : List Access) (suffixes : List Suffix) (counts : List Count)
    → IsPrintable raw names → IsProof raw access suffixes → ArePrintableCounts counts
    → let file = printed_file raw names access suffixes counts in IsReadAs (spelled file) file

abbrev pub PrintedTable : Type 0
PrintedTable = (raw : RawValue) (names : List (List ℕ)) (access : List Access) (suffixes : List Suffix) (counts : List Count)
    → IsPrintable raw names → table_of (printed_file raw names access suffixes counts) ≡ table_of_states raw

-- the access words are those that the list spells
abbrev pub PrintedAccess : Type 0
PrintedAccess = (raw : RawValue) (names : List (List ℕ)) (access : List Access) (suffixes : List Suffix) (counts : List Count) (words : List Word)
    → AreSpelled access words → access_words_of (printed_file raw names access suffixes counts) ≡ words

abbrev pub PrintedSuffixes : Type 0
PrintedSuffixes = (raw : RawValue) (names : List (List ℕ)) (access : List Access) (suffixes : List Suffix) (counts : List Count)
    → suffix_words_of (printed_file raw names access suffixes counts) ≡ suffix_words suffixes

-- its version says what the steps took, and they are as they were given
abbrev pub PrintedSteps : Type 0
PrintedSteps = (raw : RawValue) (names : List (List ℕ)) (access : List Access) (suffixes : List Suffix) (counts : List Count)
    → let file = printed_file raw names access suffixes counts in (version_of file ≡ 2) × (steps_of file ≡ map step_line (enumerate_from 0 counts))

-- ---- what the text is

-- the file that is printed says the canonical automaton of the words that are accepted
abbrev pub PrintedIsAutomaton : Type 0
PrintedIsAutomaton = (raw : RawValue) (names : List (List ℕ)) (access : List Access) (suffixes : List Suffix) (counts : List Count)
    → IsPrintable raw names → IsProof raw access suffixes → ArePrintableCounts counts
    → IsAutomatonOf raw.arena.slots (raw_accepts raw) names (printed_file raw names access suffixes counts)

-- all of a file that says the canonical automaton of a set is determined up to its access lines
abbrev pub OneAutomaton : Type 0
OneAutomaton = (k : ℕ) (L : Language) (names : List (List ℕ)) (one other : AutomatonFile)
    → IsAutomatonOf k L names one → IsAutomatonOf k L names other → AreSameUpToAccess one other

-- sets with the same behaviours have the same files
abbrev pub AutomatonOfSameBehaviours : Type 0
AutomatonOfSameBehaviours = (k : ℕ) (L M : Language) (names : List (List ℕ)) (file : AutomatonFile)
    → HaveSameBehaviours k L M → IsAutomatonOf k L names file → IsAutomatonOf k M names file

-- no table automaton for the set has fewer states than the file says
abbrev pub AutomatonHasFewestStates : Type 0
AutomatonHasFewestStates = (k : ℕ) (L : Language) (names : List (List ℕ)) (file : AutomatonFile) (table : Table)
    → IsAutomatonOf k L names file → IsTable k table → AcceptsExactly k table L → file.states ≤ length table

-- ---- what observers are

-- one text at most says an observer of a set
abbrev pub OneNode : Type 0
OneNode = (k : ℕ) (L : Language) (names : List (List ℕ)) (one other : List ℕ) → SaysNode k L names one → SaysNode k L names other → one ≡ other

abbrev pub OneUnit : Type 0
OneUnit = (k : ℕ) (L : Language) (names : List (List ℕ)) (one other : List ℕ) → SaysUnit k L names one → SaysUnit k L names other → one ≡ other

abbrev pub OneTables : Type 0
OneTables = (k : ℕ) (L : Language) (names : List (List ℕ)) (one other : List ℕ) → SaysTables k L names one → SaysTables k L names other → one ≡ other

-- and says one of each set with the same behaviours
abbrev pub NodeOfSameBehaviours : Type 0
NodeOfSameBehaviours = (k : ℕ) (L M : Language) (names : List (List ℕ)) (text : List ℕ) → HaveSameBehaviours k L M → SaysNode k L names text → SaysNode k M names text

abbrev pub UnitOfSameBehaviours : Type 0
UnitOfSameBehaviours = (k : ℕ) (L M : Language) (names : List (List ℕ)) (text : List ℕ) → HaveSameBehaviours k L M → SaysUnit k L names text → SaysUnit k M names text

abbrev pub TablesOfSameBehaviours : Type 0
TablesOfSameBehaviours =
    (k : ℕ) (L M : Language) (names : List (List ℕ)) (text : List ℕ) → HaveSameBehaviours k L M → SaysTables k L names text → SaysTables k M names text

-- both versions of a file have the same observers
abbrev pub NodeOfVersions : Type 0
NodeOfVersions = (file : AutomatonFile) → node_of (first_version file) ≡ node_of file

abbrev pub UnitOfVersions : Type 0
UnitOfVersions = (file : AutomatonFile) → unit_of (first_version file) ≡ unit_of file

abbrev pub TablesOfVersions : Type 0
TablesOfVersions = (file : AutomatonFile) → tables_of (first_version file) ≡ tables_of file

-- the text of an automaton's observer says one of the behaviours that are accepted
abbrev pub PrintedSaysNode : Type 0
PrintedSaysNode = (raw : RawValue) (names : List (List ℕ)) (access : List Access) (suffixes : List Suffix) (counts : List Count) (text : List ℕ)
    → IsPrintable raw names → IsProof raw access suffixes → ArePrintableCounts counts → IsLustreObserver raw names text
    → SaysNode raw.arena.slots (raw_accepts raw) names text

abbrev pub PrintedSaysUnit : Type 0
PrintedSaysUnit = (raw : RawValue) (names : List (List ℕ)) (access : List Access) (suffixes : List Suffix) (counts : List Count) (text : List ℕ)
    → IsPrintable raw names → IsProof raw access suffixes → ArePrintableCounts counts → IsCObserver raw names text
    → SaysUnit raw.arena.slots (raw_accepts raw) names text

abbrev pub PrintedSaysTables : Type 0
PrintedSaysTables = (raw : RawValue) (names : List (List ℕ)) (access : List Access) (suffixes : List Suffix) (counts : List Count) (text : List ℕ)
    → IsPrintable raw names → IsProof raw access suffixes → ArePrintableCounts counts → IsTablesObserver raw names text
    → SaysTables raw.arena.slots (raw_accepts raw) names text
