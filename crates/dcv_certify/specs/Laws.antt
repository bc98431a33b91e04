-- The laws that `src/laws.rt` proves.
use Rattle.std.specs.Prelude.{◌≡◌, length}
use Rattle.dcv_language.specs.Language.{Language}
use Rattle.dcv_language.specs.Canonical.{IsCanonical}
use Rattle.dcv_language.specs.Certificate.{IsCertificate}
use Rattle.dcv_automaton_text.specs.File.{AutomatonFile}
use Rattle.dcv_automaton_text.specs.Meaning.{table_of, access_words_of, suffix_words_of}
use Rattle.dcv_automaton_text.specs.Rules.{IsGood}
use Rattle.dcv_certify.specs.declared.answer.Answer.{Answer}
use Rattle.dcv_certify.specs.declared.answer.Answer.TheVariants.{Minimal}
use Rattle.dcv_certify.specs.Certified.{HasGoodWords, HasFewestStates, IsCertified}

-- a file has one answer at most
abbrev pub OneAnswer : Type 0
OneAnswer = (file : AutomatonFile) (one other : Answer) → IsCertified file one → IsCertified file other → one ≡ other

-- where the words show it, no table automaton that accepts the same behaviours has fewer states
abbrev pub MinimalShowsFewestStates : Type 0
MinimalShowsFewestStates = (file : AutomatonFile) → IsGood file → IsCertified file Minimal → HasFewestStates file

-- and each state is reached, by its access word
abbrev pub MinimalReachesEachState : Type 0
MinimalReachesEachState = (file : AutomatonFile) → IsCertified file Minimal → HasGoodWords file

-- the words of a file show it whose table is canonical for some set, with its access words, and whose suffixes are a certificate for them;
-- and so is each text of an automaton that is printed
abbrev pub PrintedIsCertified : Type 0
PrintedIsCertified = (L : Language) (file : AutomatonFile) → IsGood file
    → IsCanonical (length file.names) L (table_of file) (access_words_of file)
    → IsCertificate (length file.names) L (access_words_of file) (suffix_words_of file) → IsCertified file Minimal
