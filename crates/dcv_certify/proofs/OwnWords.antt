-- A file that spells its words as a proof does that an automaton has the fewest states: the words are the same.
use Rattle.std.proofs.Common.{◌≡◌, nat_eq, Bool, true, false, not, ℕ, zero, suc, ◌+◌, ◌<◌, List, [], ◌∷◌, ◌++◌, length, map, take, drop, fold, get_or, Some, slice_get, refl, sym, ap, ◌∙◌, subst, arith}
use Rattle.std.proofs.lemmas.List.{take_all, take_more, get_or-take}
use Rattle.std.specs.Bool.{beq}
use Rattle.std.specs.Cmp.{unsigned_Decides, booleans_Decides}
use Rattle.std.specs.Cmp.Lexicographic.{pointwise, pointwise_decides}
use Rattle.std.proofs.lemmas.Bool.{false≢true}
use Rattle.dcv_word.specs.Behaviour.{Word}
use Rattle.dcv_language.specs.Language.{HaveSameBehaviours}
use Rattle.dcv_language.specs.Certificate.{IsCertificate}
use Rattle.dcv_language.specs.declared.certificate.Access.{Access as CodeAccess}
use Rattle.dcv_language.specs.declared.certificate.Access.TheVariants.{Empty as NoLetters, Start, After}
use Rattle.dcv_language.specs.declared.certificate.Suffix.{Suffix as CodeSuffix}
use Rattle.dcv_language.specs.declared.certificate.Suffix.TheVariants.{Empty, Then}
use Rattle.dcv_language.specs.contracts.certificate.AccessPartialEq.TheImpl.{eq-value as access_eq}
use Rattle.dcv_language.specs.contracts.certificate.SuffixPartialEq.TheImpl.{eq-value as suffix_eq}
use Rattle.dcv_automaton_text.proofs.Kept.{both}
use Rattle.dcv_dfa.specs.Raw.{RawValue, raw_accepts}
use Rattle.dcv_certificate.specs.Proof.{suffix_word, suffix_words, IsSpelled, AreSpelled, IsProof}
use Rattle.dcv_automaton_text.specs.File.{Access, Suffix, SuffixLine, AutomatonFile}
use Rattle.dcv_automaton_text.specs.Meaning.{access_word_of, access_words_from, access_words_of, suffix_word_of, suffix_words_of}
use Rattle.dcv_automaton_text.specs.Rules.{IsGood}
use Rattle.dcv_automaton_read.specs.File.{access_from, suffix_from, accesses_of, suffixes_of}
use Rattle.dcv_certify.specs.Certified.{set_of, HasAllTold}
use Rattle.dcv_certify.proofs.SuffixWords.{with_suffix}
use Rattle.dcv_certify.proofs.Certificates.{certificate_tells_all}

-- ---- suffixes

same_suffix : (earlier : List Word) (suffix : CodeSuffix) → suffix_word_of earlier (suffix_from suffix) ≡ suffix_word earlier suffix
same_suffix earlier Empty = refl
same_suffix earlier (Then letter place) = refl

abbrev suffix_of_line : SuffixLine → Suffix
suffix_of_line line = line.suffix

suffixes_spelled : (lines : List SuffixLine) (suffixes : List CodeSuffix) (earlier : List Word) → map suffix_from suffixes ≡ map suffix_of_line lines
    → fold with_suffix earlier lines ≡ fold (λ words suffix. words ++ suffix_word words suffix ∷ []) earlier suffixes
suffixes_spelled [] [] earlier same = refl
suffixes_spelled [] (suffix ∷ suffixes) earlier same = absurd (let wrong = ap length same in omega arith)
suffixes_spelled (line ∷ lines) [] earlier same = absurd (let wrong = ap length same in omega arith)
suffixes_spelled (line ∷ lines) (suffix ∷ suffixes) earlier same =
    let head : suffix_from suffix ≡ suffix_of_line line = cc in
    let tail : map suffix_from suffixes ≡ map suffix_of_line lines = cc in
    ap (λ word. fold with_suffix (earlier ++ word ∷ []) lines) (ap (suffix_word_of earlier) (sym head) ∙ same_suffix earlier suffix)
    ∙ suffixes_spelled lines suffixes (earlier ++ suffix_word earlier suffix ∷ []) tail

-- ---- access words

abbrev spelled : List Word → Access → List Word
spelled words access = words ++ access_word_of words access ∷ []

-- the word of the state after the first so many, given theirs
next_word : (start : Word) (words : List Word) (place : ℕ) (one : CodeAccess) → place < length words → IsSpelled (start ∷ words) (suc place) one
    → access_word_of ([] ∷ take place words) (access_from one) ≡ get_or words place []
next_word start words place NoLetters within is = sym is
next_word start words place (Start letter) within is = sym is
next_word start words place (After zero letter) within is = absurd (let wrong = is.not_start in omega arith)
next_word start words place (After (suc before) letter) within is =
    let earlier : suc before < suc place = is.in_order (omega arith) in
    ap (λ word. word ++ letter ∷ []) (get_or-take place words before [] (omega arith)) ∙ sym is.word

later_words : (start : Word) (words : List Word) (rest : List CodeAccess) (place : ℕ) (so_far : List Word) → so_far ≡ [] ∷ take place words → place + length rest ≡ length words
    → ((k : ℕ) (one : CodeAccess) → slice_get rest k ≡ Some one → IsSpelled (start ∷ words) (suc (place + k)) one) → fold spelled so_far (map access_from rest) ≡ [] ∷ words
later_words start words [] place so_far is size each = is ∙ ap (λ rest. [] ∷ rest) (take_all place words (omega arith))
later_words start words (one ∷ rest) place so_far is size each =
    let within : place < length words = omega arith in
    let here : suc (place + 0) ≡ suc place = omega arith in
    let word = next_word start words place one within (subst (λ at. IsSpelled (start ∷ words) at one) here (each 0 one refl)) in
    let more : spelled so_far (access_from one) ≡ [] ∷ take (place + 1) words =
    ap (λ words. spelled words (access_from one)) is
    ∙ ap (λ word. ([] ∷ take place words) ++ word ∷ []) word
    ∙ ap (λ rest. [] ∷ rest) (sym (take_more words place [] within)) in
    later_words start words rest (place + 1) (spelled so_far (access_from one)) more (omega arith) (λ k other e.
    subst (λ at. IsSpelled (start ∷ words) at other) (let next : suc (place + suc k) ≡ suc (place + 1 + k) = omega arith in next) (each (suc k) other e))

-- the word of the start, given those of the others
start_word : (start : Word) (words : List Word) (one : CodeAccess) → IsSpelled (start ∷ words) 0 one → access_word_of ([] ∷ words) (access_from one) ≡ start
start_word start words NoLetters is = sym is
start_word start words (Start letter) is = sym is
start_word start words (After zero letter) is = absurd (let wrong = is.not_start in omega arith)
start_word start words (After (suc before) letter) is = sym is.word

words_spelled : (access : List CodeAccess) (words : List Word) → AreSpelled access words → access_words_from (map access_from access) ≡ words
words_spelled [] [] is = refl
words_spelled [] (start ∷ words) is = absurd (let wrong = is.count in omega arith)
words_spelled (one ∷ others) [] is = absurd (let wrong = is.count in omega arith)
words_spelled (one ∷ others) (start ∷ words) is =
    let size = is.count in
    let later = later_words start words others 0 ([] ∷ []) refl (omega arith) (λ k other e.
    subst (λ at. IsSpelled (start ∷ words) at other) (let here : suc k ≡ suc (0 + k) = omega arith in here) (is.each (suc k) other e)) in
    ap (λ found. access_word_of found (access_from one) ∷ drop 1 found) later
    ∙ ap (λ first. first ∷ words) (start_word start words one (is.each 0 one refl))

-- ---- both

module _ (file : AutomatonFile) (access : List CodeAccess) (suffixes : List CodeSuffix) (accesses_are : map access_from access ≡ accesses_of file) (suffixes_are : map suffix_from suffixes ≡ suffixes_of file) where
  same_words : (words : List Word) → AreSpelled access words → access_words_of file ≡ words
  unfolding access_words_of
  same_words words is = ap access_words_from (sym accesses_are) ∙ words_spelled access words is

  same_suffix_words : suffix_words_of file ≡ suffix_words suffixes
  unfolding suffix_words_of suffix_words
  same_suffix_words = suffixes_spelled file.suffix_lines suffixes [] suffixes_are

  -- where the automaton accepts what the table does, the suffixes tell every two states apart
  pub own_words_tell : (raw : RawValue) → IsGood file → raw.arena.slots ≡ length file.names → HaveSameBehaviours (length file.names) (set_of file) (raw_accepts raw) → IsProof raw access suffixes
      → HasAllTold file
  own_words_tell raw good slots same is =
      certificate_tells_all file (raw_accepts raw) good same
      (subst (λ k. IsCertificate k (raw_accepts raw) (access_words_of file) (suffix_words_of file)) slots
      (subst (λ words. IsCertificate raw.arena.slots (raw_accepts raw) words (suffix_words_of file)) (sym (same_words is.words is.spelled))
      (subst (IsCertificate raw.arena.slots (raw_accepts raw) is.words) (sym same_suffix_words) is.certificate)))

-- ---- equal lists

same_letter : (a b : List Bool) → pointwise beq a b ≡ true → a ≡ b
same_letter a b t = (pointwise_decides booleans_Decides a b).0 t

equal_access : (a b : CodeAccess) → access_eq.it a b ≡ true → a ≡ b
equal_access NoLetters NoLetters t = refl
equal_access NoLetters (Start letter) t = absurd (false≢true t)
equal_access NoLetters (After state letter) t = absurd (false≢true t)
equal_access (Start letter) NoLetters t = absurd (false≢true t)
equal_access (Start a) (Start b) t = ap Start (same_letter a b t)
equal_access (Start a) (After state b) t = absurd (false≢true t)
equal_access (After state letter) NoLetters t = absurd (false≢true t)
equal_access (After state a) (Start b) t = absurd (false≢true t)
equal_access (After one a) (After other b) t =
    let parts = both (nat_eq one other) (pointwise beq a b) t in
    let states = (unsigned_Decides one other).0 parts.0 in
    let letters = same_letter a b parts.1 in
    λ i. After (states i) (letters i)

equal_suffix : (a b : CodeSuffix) → suffix_eq.it a b ≡ true → a ≡ b
equal_suffix Empty Empty t = refl
equal_suffix Empty (Then letter from) t = absurd (false≢true t)
equal_suffix (Then letter from) Empty t = absurd (false≢true t)
equal_suffix (Then a one) (Then b other) t =
    let parts = both (pointwise beq a b) (nat_eq one other) t in
    let letters = same_letter a b parts.0 in
    let places = (unsigned_Decides one other).0 parts.1 in
    λ i. Then (letters i) (places i)

equal_lists : {X : Type 0} (E : X → X → Bool) → ((a b : X) → E a b ≡ true → a ≡ b) → (one other : List X) → pointwise E one other ≡ true → one ≡ other
equal_lists E same [] [] t = refl
equal_lists E same [] (y ∷ other) t = absurd (false≢true t)
equal_lists E same (x ∷ one) [] t = absurd (false≢true t)
equal_lists E same (x ∷ one) (y ∷ other) t =
    let parts = both (E x y) (pointwise E one other) t in
    let first = same x y parts.0 in
    let rest = equal_lists E same one other parts.1 in
    λ i. first i ∷ rest i

pub same_accesses : (one other : List CodeAccess) → pointwise access_eq.it one other ≡ true → one ≡ other
same_accesses = equal_lists access_eq.it equal_access

pub same_suffixes : (one other : List CodeSuffix) → pointwise suffix_eq.it one other ≡ true → one ≡ other
same_suffixes = equal_lists suffix_eq.it equal_suffix

-- a test that is not false is true
pub not_differ : (b : Bool) → false ≡ not b → b ≡ true
not_differ true e = refl
not_differ false e = absurd (false≢true e)
