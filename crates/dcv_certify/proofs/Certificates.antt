-- What is said of a file is determined, and what it shows.
use Rattle.std.proofs.Common.{◌≡◌, inl, inr, ℕ, ◌<◌, ◌≤◌, [], ◌++◌, length, refl, ap, sym, ◌∙◌, subst, subst₂, arith}
use Rattle.std.proofs.lemmas.Bool.{cases_order}
use Rattle.std.proofs.lemmas.List.{get_or_default}
use Rattle.dcv_word.specs.Behaviour.{Word}
use Rattle.dcv_language.specs.Language.{Language, HaveSameBehaviours}
use Rattle.dcv_language.specs.Laws.{WordsApartAreNoMoreThanStates, AccessWordsLead}
use Rattle.dcv_language.specs.Apart.{TellsApart, AreApart}
use Rattle.dcv_language.specs.Certificate.{IsCertificate}
use Rattle.dcv_automaton_text.specs.File.{AutomatonFile}
use Rattle.dcv_automaton_text.specs.Meaning.{table_of, access_words_of, suffix_words_of}
use Rattle.dcv_automaton_text.specs.Rules.{IsGood}
use Rattle.dcv_automaton_text.proofs.GoodFiles.{good_file}
use Rattle.dcv_certify.proofs.GoodLines.{count_of_words}
use Rattle.dcv_certify.specs.declared.answer.Answer.TheVariants.{Minimal, Access, Pair}
use Rattle.dcv_certify.specs.Certified.{set_of, word_at, HasGoodWords, IsFirstAstray, AreTold, IsPair, IsNoLaterPair, HasAllTold}
use Rattle.dcv_certify.specs.Laws.{OneAnswer, MinimalShowsFewestStates, MinimalReachesEachState, PrintedIsCertified}

-- ---- one answer

one_astray : (file : AutomatonFile) (one other : ℕ) → IsFirstAstray file one → IsFirstAstray file other → one ≡ other
one_astray file one other is its =
    elim (cases_order one other) [
      | inl same ↦ same
      | inr (inl before) ↦ absurd (is.astray (its.before one before))
      | inr (inr after) ↦ absurd (its.astray (is.before other after))
    ]

one_first : (first second other another : ℕ) → IsNoLaterPair first second other another → IsNoLaterPair other another first second → (first ≡ other) × (second ≡ another)
one_first first second other another (inl less) (inl more) = absurd (omega arith)
one_first first second other another (inl less) (inr (same, rest)) = absurd (omega (arith, same))
one_first first second other another (inr (same, rest)) (inl more) = absurd (omega (arith, same))
one_first first second other another (inr (same, rest)) (inr (back, more)) = (same, omega (arith, rest, more))

not_astray : (file : AutomatonFile) (state : ℕ) → HasGoodWords file → ¬ IsFirstAstray file state
not_astray file state good astray = astray.astray (good state astray.is_state)

not_both : (file : AutomatonFile) (first second : ℕ) → ((i j : ℕ) → i < j → j < file.states → AreTold file i j) → ¬ IsPair file first second
not_both file first second told pair = pair.not_told (told first second pair.in_order pair.is_state)

pub one_answer : OneAnswer
one_answer file Minimal Minimal is its = refl
one_answer file Minimal (Access state) is its = absurd (not_astray file state is.0 its)
one_answer file Minimal (Pair first second) is its = absurd (not_both file first second is.1 its.1.pair)
one_answer file (Access state) Minimal is its = absurd (not_astray file state its.0 is)
one_answer file (Access state) (Access other) is its = ap Access (one_astray file state other is its)
one_answer file (Access state) (Pair first second) is its = absurd (not_astray file state its.0 is)
one_answer file (Pair first second) Minimal is its = absurd (not_both file first second its.1 is.1.pair)
one_answer file (Pair first second) (Access state) is its = absurd (not_astray file state is.0 its)
one_answer file (Pair first second) (Pair other another) is its =
    let same = one_first first second other another (is.1.least other another its.1.pair) (its.1.least first second is.1.pair) in
    λ i. Pair (same.0 i) (same.1 i)

-- ---- what it shows

pub minimal_shows_fewest_states : WordsApartAreNoMoreThanStates → MinimalShowsFewestStates
minimal_shows_fewest_states bound file good minimal table is_table exact =
    let count = count_of_words file (good_file file good) in
    subst (λ n. n ≤ length table) count
    (bound (length file.names) (set_of file) (access_words_of file) table
    (λ i j d before within.
    let told : AreTold file i j = minimal.1 i j before (omega (arith, count)) in
    let one = get_or_default (access_words_of file) i [] d (omega arith) in
    let two = get_or_default (access_words_of file) j [] d within in
    subst₂ (AreApart (length file.names) (set_of file)) one two (record { suffix = told.suffix; tells = told.tells }))
    is_table exact)

pub minimal_reaches_each_state : MinimalReachesEachState
minimal_reaches_each_state file minimal = minimal.0

-- ---- what is printed

-- what tells words apart for one set does so for each set with the same behaviours
same_tells : (k : ℕ) (L M : Language) (first second suffix : Word) → HaveSameBehaviours k M L → TellsApart k L first second suffix → TellsApart k M first second suffix
same_tells k L M first second suffix same tells = record {
  first_goes_on = tells.first_goes_on;
  second_goes_on = tells.second_goes_on;
  differ = λ e. tells.differ (sym (same (first ++ suffix) tells.first_goes_on) ∙ e ∙ same (second ++ suffix) tells.second_goes_on);
}

-- a certificate for a set with the same behaviours tells all of them apart
pub certificate_tells_all : (file : AutomatonFile) (L : Language) → IsGood file → HaveSameBehaviours (length file.names) (set_of file) L
    → IsCertificate (length file.names) L (access_words_of file) (suffix_words_of file) → HasAllTold file
certificate_tells_all file L good same certificate first second before within =
    let told = certificate.told first second [] before (omega (arith, count_of_words file (good_file file good))) in
    record {
      suffix = told.suffix;
      listed = told.listed;
      tells = same_tells (length file.names) L (set_of file) (word_at file first) (word_at file second) told.suffix same told.tells;
    }

pub printed_is_certified : AccessWordsLead → PrintedIsCertified
printed_is_certified lead L file good canonical certificate = (
  λ state within.
      lead (length file.names) L (table_of file) (access_words_of file) state canonical (omega (arith, count_of_words file (good_file file good), canonical.words)),
  certificate_tells_all file L good canonical.exact certificate,
)
