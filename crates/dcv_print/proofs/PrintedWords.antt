-- The file that is printed of an automaton stands for the access words that are spelled, and for the suffixes.
use Rattle.std.proofs.Common.{◌≡◌, ℕ, zero, suc, ◌+◌, ◌<◌, List, [], ◌∷◌, ◌++◌, length, map, take, drop, fold, get_or, Some, slice_get, refl, sym, ap, ◌∙◌, subst, arith}
use Rattle.std.specs.List.{enumerate_from}
use Rattle.std.proofs.lemmas.List.{take_all, take_more, get_or-take}
use Rattle.dcv_word.specs.Behaviour.{Word}
use Rattle.dcv_language.specs.declared.certificate.Access.{Access as CodeAccess}
use Rattle.dcv_language.specs.declared.certificate.Access.TheVariants.{Empty as NoLetters, Start, After}
use Rattle.dcv_language.specs.declared.certificate.Suffix.{Suffix as CodeSuffix}
use Rattle.dcv_language.specs.declared.certificate.Suffix.TheVariants.{Empty, Then}
use Rattle.dcv_certificate.specs.Proof.{suffix_word, suffix_words, IsSpelled, AreSpelled}
use Rattle.dcv_automaton_text.specs.File.{Access, AccessLine, SuffixLine}
use Rattle.dcv_automaton_text.specs.Meaning.{access_word_of, access_words_from, access_words_of, suffix_word_of, suffix_words_of}
use Rattle.dcv_print.specs.Printed.{access_line, suffix_line, file_of}
use Rattle.dcv_automaton_read.specs.File.{access_from, suffix_from}
use Rattle.dcv_print.specs.Laws.{PrintedAccess, PrintedSuffixes}

-- ---- suffixes

abbrev grown : List Word → SuffixLine → List Word
grown earlier line = earlier ++ suffix_word_of earlier line.suffix ∷ []

same_suffix : (earlier : List Word) (suffix : CodeSuffix) → suffix_word_of earlier (suffix_from suffix) ≡ suffix_word earlier suffix
same_suffix earlier Empty = refl
same_suffix earlier (Then letter place) = refl

same_suffixes : (suffixes : List CodeSuffix) (first : ℕ) (earlier : List Word)
    → fold grown earlier (map suffix_line (enumerate_from first suffixes)) ≡ fold (λ words suffix. words ++ suffix_word words suffix ∷ []) earlier suffixes
same_suffixes [] first earlier = refl
same_suffixes (suffix ∷ suffixes) first earlier =
    ap (λ word. fold grown (earlier ++ word ∷ []) (map suffix_line (enumerate_from (first + 1) suffixes))) (same_suffix earlier suffix)
    ∙ same_suffixes suffixes (first + 1) (earlier ++ suffix_word earlier suffix ∷ [])

pub printed_suffixes : PrintedSuffixes
unfolding suffix_words_of suffix_words file_of
printed_suffixes raw names access suffixes counts = same_suffixes suffixes 0 []

-- ---- access words

plain_access : (access : List CodeAccess) (first : ℕ) → map (λ (line : AccessLine). line.access) (map access_line (enumerate_from first access)) ≡ map access_from access
plain_access [] first = refl
plain_access (one ∷ access) first = ap (λ rest. access_from one ∷ rest) (plain_access access (first + 1))

abbrev spelled : List Word → Access → List Word
spelled words access = words ++ access_word_of words access ∷ []

-- the word of the state after the first so many, given theirs
next_word : (start : Word) (words : List Word) (place : ℕ) (one : CodeAccess) → place < length words → IsSpelled (start ∷ words) (suc place) one
    → access_word_of ([] ∷ take place words) (access_from one) ≡ get_or words place []
next_word start words place NoLetters within is = sym is
next_word start words place (Start letter) within is = sym is
next_word start words place (After zero letter) within is = absurd (let wrong = is.not_start in omega arith)
next_word start words place (After (suc before) letter) within is =
    let earlier : suc before < suc place = is.in_order (omega arith) in
    ap (λ word. word ++ letter ∷ []) (get_or-take place words before [] (omega arith)) ∙ sym is.word

later_words : (start : Word) (words : List Word) (rest : List CodeAccess) (place : ℕ) (so_far : List Word) → so_far ≡ [] ∷ take place words → place + length rest ≡ length words
    → ((k : ℕ) (one : CodeAccess) → slice_get rest k ≡ Some one → IsSpelled (start ∷ words) (suc (place + k)) one) → fold spelled so_far (map access_from rest) ≡ [] ∷ words
later_words start words [] place so_far is size each = is ∙ ap (λ rest. [] ∷ rest) (take_all place words (omega arith))
later_words start words (one ∷ rest) place so_far is size each =
    let within : place < length words = omega arith in
    let here : suc (place + 0) ≡ suc place = omega arith in
    let word = next_word start words place one within (subst (λ at. IsSpelled (start ∷ words) at one) here (each 0 one refl)) in
    let more : spelled so_far (access_from one) ≡ [] ∷ take (place + 1) words =
    ap (λ words. spelled words (access_from one)) is
    ∙ ap (λ word. ([] ∷ take place words) ++ word ∷ []) word
    ∙ ap (λ rest. [] ∷ rest) (sym (take_more words place [] within)) in
    later_words start words rest (place + 1) (spelled so_far (access_from one)) more (omega arith) (λ k other e.
    subst (λ at. IsSpelled (start ∷ words) at other) (let next : suc (place + suc k) ≡ suc (place + 1 + k) = omega arith in next) (each (suc k) other e))

-- the word of the start, given those of the others
start_word : (start : Word) (words : List Word) (one : CodeAccess) → IsSpelled (start ∷ words) 0 one → access_word_of ([] ∷ words) (access_from one) ≡ start
start_word start words NoLetters is = sym is
start_word start words (Start letter) is = sym is
start_word start words (After zero letter) is = absurd (let wrong = is.not_start in omega arith)
start_word start words (After (suc before) letter) is = sym is.word

words_spelled : (access : List CodeAccess) (words : List Word) → AreSpelled access words → access_words_from (map access_from access) ≡ words
words_spelled [] [] is = refl
words_spelled [] (start ∷ words) is = absurd (let wrong = is.count in omega arith)
words_spelled (one ∷ others) [] is = absurd (let wrong = is.count in omega arith)
words_spelled (one ∷ others) (start ∷ words) is =
    let size = is.count in
    let later = later_words start words others 0 ([] ∷ []) refl (omega arith) (λ k other e.
    subst (λ at. IsSpelled (start ∷ words) at other) (let here : suc k ≡ suc (0 + k) = omega arith in here) (is.each (suc k) other e)) in
    ap (λ found. access_word_of found (access_from one) ∷ drop 1 found) later
    ∙ ap (λ first. first ∷ words) (start_word start words one (is.each 0 one refl))

pub printed_access : PrintedAccess
unfolding access_words_of file_of
printed_access raw names access suffixes counts words is = ap access_words_from (plain_access access 0) ∙ words_spelled access words is
