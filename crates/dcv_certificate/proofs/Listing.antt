-- Suffixes as words, and what one suffix more changes.
use Rattle.std.proofs.Common.{◌≡◌, ◌⊎◌, inl, inr, ℕ, zero, suc, ◌<◌, ◌≤◌, ◌+◌, Bool, List, [], ◌∷◌, ◌++◌, length, fold, Some, slice_get, refl, ap, sym, ◌∙◌, arith}
use Rattle.std.proofs.lemmas.List.{length-append, get_or_append_left}
use Rattle.std.proofs.lemmas.List.Sums.{fold-append}
use Rattle.std.proofs.lemmas.Option.{same_Some}
use Rattle.std.proofs.Math.Seq.{get_or-append_seam}
use Rattle.dcv_word.specs.Behaviour.{Word}
use Rattle.dcv_dfa.specs.Raw.{RawValue}
use Rattle.dcv_language.specs.declared.certificate.Suffix.{Suffix}
use Rattle.dcv_language.specs.declared.certificate.Suffix.TheVariants.{Then}
use Rattle.dcv_certificate.specs.Proof.{suffix_word, suffix_words, GoOnFromEarlier}
use Rattle.dcv_certificate.specs.Separation.{word_at, accepts_word, Agree}

-- ---- suffixes as words

pub suffix_words-push : (suffixes : List Suffix) (suffix : Suffix) → suffix_words (suffixes ++ suffix ∷ []) ≡ suffix_words suffixes ++ suffix_word (suffix_words suffixes) suffix ∷ []
unfolding suffix_words
suffix_words-push suffixes suffix = fold-append (λ (earlier : List Word) (suffix : Suffix). earlier ++ suffix_word earlier suffix ∷ []) [] suffixes (suffix ∷ [])

pub suffix_words-nil : suffix_words [] ≡ []
unfolding suffix_words
suffix_words-nil = refl

length_spelled : (suffixes : List Suffix) (earlier : List Word) → length (fold (λ (earlier : List Word) (suffix : Suffix). earlier ++ suffix_word earlier suffix ∷ []) earlier suffixes) ≡ length earlier + length suffixes
length_spelled [] earlier = omega arith
length_spelled (suffix ∷ suffixes) earlier =
    omega (arith, length_spelled suffixes (earlier ++ suffix_word earlier suffix ∷ []), length-append earlier (suffix_word earlier suffix ∷ []))

pub length-suffix_words : (suffixes : List Suffix) → length (suffix_words suffixes) ≡ length suffixes
unfolding suffix_words
length-suffix_words suffixes = omega (arith, length_spelled suffixes [])

-- ---- each goes on from an earlier one

pushed_at : (suffixes : List Suffix) (suffix : Suffix) (place : ℕ) (one : Suffix) → slice_get (suffixes ++ suffix ∷ []) place ≡ Some one
    → (slice_get suffixes place ≡ Some one) ⊎ ((place ≡ length suffixes) × (suffix ≡ one))
pushed_at [] suffix zero one e = inr (refl, same_Some suffix one e)
pushed_at [] suffix (suc place) one e = absurd cc
pushed_at (x ∷ xs) suffix zero one e = inl e
pushed_at (x ∷ xs) suffix (suc place) one e = elim (pushed_at xs suffix place one e) [ inl h ↦ inl h | inr h ↦ inr (ap suc h.0, h.1) ]

same_from : (letter other : List Bool) (from place : ℕ) → Then letter from ≡ Then other place → from ≡ place
same_from letter other from place e = cc

pub go_on_more : (suffixes : List Suffix) (letter : List Bool) (from : ℕ) → from < length suffixes → GoOnFromEarlier suffixes → GoOnFromEarlier (suffixes ++ Then letter from ∷ [])
go_on_more suffixes letter from within earlier place other_from other e = elim (pushed_at suffixes (Then letter from) place (Then other other_from) e) [
  | inl h ↦ earlier place other_from other h
  | inr h ↦ omega (arith, same_from letter other from other_from h.1, h.0)
]

-- ---- one word more

abbrev pub longer : List Word → List Bool → ℕ → List Word
longer listed letter from = listed ++ (letter ∷ word_at listed from) ∷ []

module _ (listed : List Word) (letter : List Bool) (from : ℕ) where
  pub at_before : (place : ℕ) → place < length listed → word_at (longer listed letter from) place ≡ word_at listed place
  at_before place h = get_or_append_left listed ((letter ∷ word_at listed from) ∷ []) [] place h

  pub at_end : word_at (longer listed letter from) (length listed) ≡ letter ∷ word_at listed from
  at_end = get_or-append_seam listed (letter ∷ word_at listed from) [] []

  pub length_longer : length (longer listed letter from) ≡ suc (length listed)
  length_longer = omega (arith, length-append listed ((letter ∷ word_at listed from) ∷ []))

  module _ (raw : RawValue) (count first second : ℕ) where
    pub agree_longer : count ≤ length listed → Agree raw listed count first second → Agree raw (longer listed letter from) count first second
    agree_longer within agree place below =
        let same = at_before place (omega arith) in
        ap (λ word. accepts_word raw word first) same ∙ agree place below ∙ sym (ap (λ word. accepts_word raw word second) same)

    pub agree_shorter : count ≤ length listed → Agree raw (longer listed letter from) count first second → Agree raw listed count first second
    agree_shorter within agree place below =
        let same = at_before place (omega arith) in
        sym (ap (λ word. accepts_word raw word first) same) ∙ agree place below ∙ ap (λ word. accepts_word raw word second) same
