-- Where no word is stuck, each word that keeps to the set goes on for ever: there is a letter more, and then another one. And a word that goes on is not stuck.
use Rattle.std.proofs.Common.{◌≡◌, ℕ, zero, suc, ◌+◌, Bool, not, List, [], ◌∷◌, ◌++◌, length, map, inl, inr, sym, ap, ◌∙◌, subst, arith, append-nil, append_assoc}
use Rattle.std.specs.Prelude.{IsTrue}
use Rattle.std.specs.List.{range_with_len}
use Rattle.std.proofs.lemmas.Bool.{cases_Bool, not-true, true≢false}
use Rattle.std.proofs.lemmas.List.FromFn.{map-range_with_len_more}
use Rattle.dcv_word.specs.Behaviour.{Word}
use Rattle.dcv_language.specs.Language.{Language, outside}
use Rattle.dcv_language.proofs.Behaviours.{Widths-head, Widths-rest}
use Rattle.dcv_quotient.proofs.Reaching.{letters_or}
use Rattle.dcv_stuck.specs.Stuck.{KeepsTo, IsStuck, IsNeverStuck, GoesOnForEver}
use Rattle.dcv_stuck.specs.Laws.{NeverStuckGoesOn}
use Rattle.dcv_stuck.proofs.Prefixes.{keeps-more, keeps-front}

record HasNext (k : ℕ) (L : Language) (word : Word) : Type 0 where
  pub letter : List Bool
  pub width : length letter ≡ k
  pub member : IsTrue (L (word ++ letter ∷ []))

record Kept (k : ℕ) (L : Language) : Type 0 where
  pub word : Word
  pub keeps : KeepsTo k L word

module _ (k : ℕ) (L : Language) (never : IsNeverStuck k L) where
  next : (kept : Kept k L) → HasNext k L kept.word
  next kept = elim (
      letters_or k (λ letter. IsTrue (outside L (kept.word ++ letter ∷ []))) (HasNext k L kept.word) (λ letter width.
      elim (cases_Bool (L (kept.word ++ letter ∷ []))) [
        | inl member ↦ inr (record { letter = letter; width = width; member = member })
        | inr out ↦ inl (ap not out)
      ])
      ) [
        | inl none ↦ absurd (never kept.word (record { keeps = kept.keeps; no_next = none }))
        | inr found ↦ found
      ]

  abbrev more : Kept k L → Kept k L
  more kept =
      let found = next kept in
      record { word = kept.word ++ found.letter ∷ []; keeps = keeps-more k L kept.word found.letter kept.keeps found.width found.member }

  module _ (from : Kept k L) where
    abbrev after : ℕ → Kept k L
    after zero = from
    after (suc count) = more (after count)

    abbrev letter_at : ℕ → List Bool
    letter_at count = (next (after count)).letter

    spelled : (count : ℕ) → from.word ++ map letter_at (range_with_len 0 count) ≡ (after count).word
    spelled zero = append-nil from.word
    spelled (suc count) =
        let one : suc count ≡ count + 1 = omega arith in
        ap (λ n. from.word ++ map letter_at (range_with_len 0 n)) one
        ∙ ap (λ rest. from.word ++ rest) (map-range_with_len_more letter_at 0 count count (omega arith))
        ∙ sym (append_assoc from.word (map letter_at (range_with_len 0 count)) (letter_at count ∷ []))
        ∙ ap (λ word. word ++ letter_at count ∷ []) (spelled count)

    goes_on : GoesOnForEver k L from.word
    goes_on = record { letters = letter_at; keeps = λ count. subst (KeepsTo k L) (sym (spelled count)) (after count).keeps }

not_stuck : (k : ℕ) (L : Language) (word : Word) → GoesOnForEver k L word → ¬ IsStuck k L word
not_stuck k L word way s =
    let letter = way.letters 0 in
    let width = Widths-head k letter [] (Widths-rest k word (letter ∷ []) (way.keeps 1).widths) in
    true≢false (sym (keeps-front k L word [] letter (way.keeps 1)) ∙ not-true (L (word ++ letter ∷ [])) (s.no_next letter width))

pub never_stuck_goes_on : NeverStuckGoesOn
never_stuck_goes_on k L = (
  λ never word keeps. goes_on k L never (record { word = word; keeps = keeps }),
  λ goes word s. not_stuck k L word (goes word s.keeps) s,
)
