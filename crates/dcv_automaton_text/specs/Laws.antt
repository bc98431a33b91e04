-- The laws that `src/laws.rt` proves, of the text of an automaton.
use Rattle.std.specs.Prelude.{◌≡◌, ◌≢◌, ◌↔◌, ℕ, ◌≤◌, List, ◌++◌, None, length, take, drop, codes}
use Rattle.dcv_language.specs.Certificate.{IsCertificate}
use Rattle.dcv_language.specs.Language.{Language}
use Rattle.dcv_language.specs.Table.{Table, IsTable, AcceptsExactly}
use Rattle.dcv_automaton_text.specs.File.{AutomatonFile}
use Rattle.dcv_automaton_text.specs.Form.{HasForm, IsSpellable}
use Rattle.dcv_automaton_text.specs.GoodFile.{IsGoodFile}
use Rattle.dcv_automaton_text.specs.Meaning.{table_of, access_words_of, suffix_words_of}
use Rattle.dcv_automaton_text.specs.Rules.{IsGood}
use Rattle.dcv_automaton_text.specs.Spelled.{spelled, spelled_front}
use Rattle.dcv_automaton_text.specs.Versions.{first_version, second_version}

-- a text has one file at most
abbrev pub OneFile : Type 0
OneFile = (text : List ℕ) (file other : AutomatonFile) → HasForm text file → HasForm text other → file ≡ other

-- the table rules, which judge a text word by word, ask of a file just what its automaton needs
abbrev pub GoodFilesInWords : Type 0
GoodFilesInWords = (file : AutomatonFile) → IsGood file ↔ IsGoodFile file

-- a file that keeps the table rules stands for a table automaton over its variables
abbrev pub GoodFilesAreTables : Type 0
GoodFilesAreTables = (file : AutomatonFile) → IsGood file → IsTable (length file.names) (table_of file)

-- with as many states as it says
abbrev pub TableHasTheFilesStates : Type 0
TableHasTheFilesStates = (file : AutomatonFile) → IsGood file → length (table_of file) ≡ file.states

-- where the suffixes of a file tell its access words apart by a set of words, no table automaton for the set has fewer states
abbrev pub WordsShowFewestStates : Type 0
WordsShowFewestStates = (k : ℕ) (L : Language) (file : AutomatonFile) (table : Table)
    → IsGood file → IsCertificate k L (access_words_of file) (suffix_words_of file)
    → IsTable k table → AcceptsExactly k table L → file.states ≤ length table

-- ---- both versions

-- each version of a file that keeps the rules has the form and keeps them too, and stands for the same table, access words and suffixes
pub record IsOfOtherVersion (file other : AutomatonFile) : Type 0 where
  pub form : IsSpellable other
  pub good : IsGood other
  pub table : table_of other ≡ table_of file
  pub access : access_words_of other ≡ access_words_of file
  pub suffixes : suffix_words_of other ≡ suffix_words_of file

pub record VersionsStandForTheSame : Type 0 where
  pub first : (file : AutomatonFile) → IsSpellable file → IsGood file → IsOfOtherVersion file (first_version file)
  pub second : (file : AutomatonFile) → IsSpellable file → IsGood file → IsOfOtherVersion file (second_version file)

-- what a text says after the version, up to the step part or to the last line
abbrev pub said_in : List ℕ → AutomatonFile → List ℕ
said_in text file = drop 11 (take (length (spelled_front file)) text)

-- the texts of both versions, from a text of either
pub record IsOfVersions (text : List ℕ) (file : AutomatonFile) : Type 0 where
  pub first : spelled (first_version file) ≡ codes "automaton 1" ++ (said_in text file ++ codes "end\n")
  pub second : file.steps ≡ None → spelled (second_version file) ≡ codes "automaton 2" ++ (said_in text file ++ codes "steps 0\nend\n")
  -- a text of the version is as it is
  pub one : file.steps ≡ None → spelled (first_version file) ≡ text
  pub two : file.steps ≢ None → spelled (second_version file) ≡ text

abbrev pub TextsOfVersions : Type 0
TextsOfVersions = (text : List ℕ) (file : AutomatonFile) → HasForm text file → IsOfVersions text file

-- to version 2 and back is the text itself, where it is of version 1
abbrev pub SecondAndBackIsTheText : Type 0
SecondAndBackIsTheText = (text : List ℕ) (file : AutomatonFile) → HasForm text file → file.steps ≡ None → spelled (first_version (second_version file)) ≡ text
