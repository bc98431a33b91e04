-- What the printed text of an automaton is: the file that it spells is the canonical automaton of a set, with a certificate that no
-- automaton for the set has fewer states.
--     IsAutomatonOf k L names file       the file says the canonical automaton of the set over k variables, which have these names
--     AreSameUpToAccess one other        two files have the same lines up to the last access line
--     AgreeUpToAccess one other          two texts are spelled by such files, with the same around them, so they differ after that line alone
--     AreSameButForSuffixes one other    two files have the same lines, but for those of suffixes
--     DifferInSuffixes one other         two texts are spelled by such files, with the same around them, so they differ in lines of suffixes alone
use Rattle.std.specs.Prelude.{◌≡◌, ℕ, List, ◌++◌}
use Rattle.dcv_language.specs.Language.{Language}
use Rattle.dcv_language.specs.Canonical.{IsCanonical}
use Rattle.dcv_language.specs.Certificate.{IsCertificate}
use Rattle.dcv_automaton_text.specs.File.{AutomatonFile}
use Rattle.dcv_automaton_text.specs.Form.{IsSpellable}
use Rattle.dcv_automaton_text.specs.Meaning.{table_of, access_words_of, suffix_words_of}
use Rattle.dcv_automaton_text.specs.Numbering.{IsNumbered}
use Rattle.dcv_automaton_text.specs.Rules.{IsGood}
use Rattle.dcv_automaton_text.specs.Spelled.{spelled}

pub record IsAutomatonOf (k : ℕ) (L : Language) (names : List (List ℕ)) (file : AutomatonFile) : Type 0 where
  pub form : IsSpellable file
  pub rules : IsGood file
  pub variables : file.names ≡ names
  -- the table accepts exactly the behaviours of the set, and the access words are the least that lead to its states
  pub canonical : IsCanonical k L (table_of file) (access_words_of file)
  -- the suffixes tell the access words apart, so that no automaton for the set has fewer states
  pub certificate : IsCertificate k L (access_words_of file) (suffix_words_of file)
  pub numbered : IsNumbered file

-- what is so of formulas with one meaning, whose steps differ
pub record AreSameUpToAccess (one other : AutomatonFile) : Type 0 where
  pub names : one.names ≡ other.names
  pub states : one.states ≡ other.states
  pub node_lines : one.node_lines ≡ other.node_lines
  pub state_lines : one.state_lines ≡ other.state_lines
  pub access_lines : one.access_lines ≡ other.access_lines

pub record AreSameButForSuffixes (one other : AutomatonFile) : Type 0 where
  pub up_to_access : AreSameUpToAccess one other
  pub steps : one.steps ≡ other.steps

-- two texts are spelled by files that are the same in this way, with the same around them
pub record AreSpelledBy (AreSame : AutomatonFile → AutomatonFile → Type 0) (one other : List ℕ) : Type 0 where
  pub before : List ℕ
  pub behind : List ℕ
  pub one_file : AutomatonFile
  pub other_file : AutomatonFile
  pub one_is : one ≡ before ++ (spelled one_file ++ behind)
  pub other_is : other ≡ before ++ (spelled other_file ++ behind)
  pub same : AreSame one_file other_file

abbrev pub AgreeUpToAccess : List ℕ → List ℕ → Type 0
AgreeUpToAccess one other = AreSpelledBy AreSameUpToAccess one other

abbrev pub DifferInSuffixes : List ℕ → List ℕ → Type 0
DifferInSuffixes one other = AreSpelledBy AreSameButForSuffixes one other
