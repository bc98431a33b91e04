-- A certificate has no more suffixes than words. With each suffix after the empty one another word differs from those that were told apart
-- before, so there are as many words as suffixes, no two alike.
use Rattle.std.proofs.Common.{◌≡◌, ◌≢◌, ℕ, zero, suc, ◌+◌, ◌<◌, ◌≤◌, Bool, true, false, List, [], ◌∷◌, ◌++◌, length, map, get_or, ◌⊎◌, inl, inr, refl, sym, ap, ◌∙◌, subst, arith}
use Rattle.std.specs.List.{All, AllPairs}
use Rattle.std.proofs.lemmas.Bool.{cases_order, eqb-true}
use Rattle.std.proofs.lemmas.List.{append_assoc, append-nil, length-append, get_or_append_left, get_or_default}
use Rattle.std.proofs.lemmas.List.Folds.{Any-from_list_any}
use Rattle.std.proofs.lemmas.Map.Made.{IsDistinct-from_AllPairs}
use Rattle.std.proofs.lemmas.Map.Steps.{length-le_from_distinct_below}
use Rattle.std.specs.Cmp.{unsigned_Decides}
use Rattle.std.specs.Prelude.{eqb}
use Rattle.std.proofs.lemmas.List.Elements.{All-append}
use Rattle.dcv_word.specs.Behaviour.{Word, IsBehaviour}
use Rattle.dcv_language.specs.Apart.{TellsApart}
use Rattle.dcv_language.specs.Certificate.{GrowsFrom, TellsNewPair, IsCertificate}
use Rattle.dcv_language.specs.Language.{Language}

same_truths : (a b : List Bool) → (a ≡ b) ⊎ (a ≢ b)
same_truths [] [] = inl refl
same_truths [] (y ∷ ys) = inr (λ same. cc)
same_truths (x ∷ xs) [] = inr (λ same. cc)
same_truths (x ∷ xs) (y ∷ ys) = elim (same_truth x y) [
  | inr other ↦ inr (λ same. other (let first : x ≡ y = cc in first))
  | inl first ↦
      elim (same_truths xs ys) [ inl rest ↦ inl (λ i. first i ∷ rest i) | inr other ↦ inr (λ same. other (let rest : xs ≡ ys = cc in rest)) ]
]
  where
    same_truth : (x y : Bool) → (x ≡ y) ⊎ (x ≢ y)
    same_truth true true = inl refl
    same_truth true false = inr (λ same. cc)
    same_truth false true = inr (λ same. cc)
    same_truth false false = inl refl

not_different : (a b : Bool) → (a ≢ b → ⊥) → a ≡ b
not_different true true h = refl
not_different true false h = absurd (h (λ same. cc))
not_different false true h = absurd (h (λ same. cc))
not_different false false h = refl

module _ (k : ℕ) (L : Language) (words : List Word) where
  abbrev word_at : ℕ → Word
  word_at place = get_or words place []

  -- which suffixes are accepted after a word
  abbrev answers : List Word → ℕ → List Bool
  answers suffixes place = map (λ suffix. L (word_at place ++ suffix)) suffixes

  record AreTold (suffixes : List Word) (places : List ℕ) : Type 0 where
    below : All (λ place. place < length words) places
    apart : AllPairs (λ one other. answers suffixes one ≢ answers suffixes other) places

  -- the answers with one suffix more
  parts_same : (suffixes : List Word) (suffix : Word) (one other : ℕ) → answers (suffixes ++ suffix ∷ []) one ≡ answers (suffixes ++ suffix ∷ []) other
      → (answers suffixes one ≡ answers suffixes other) × (L (word_at one ++ suffix) ≡ L (word_at other ++ suffix))
  parts_same [] suffix one other same = (refl, let last : L (word_at one ++ suffix) ≡ L (word_at other ++ suffix) = cc in last)
  parts_same (first ∷ suffixes) suffix one other same =
      let here : L (word_at one ++ first) ≡ L (word_at other ++ first) = cc in
      let behind : answers (suffixes ++ suffix ∷ []) one ≡ answers (suffixes ++ suffix ∷ []) other = cc in
      let rest = parts_same suffixes suffix one other behind in
      (λ i. here i ∷ rest.0 i, rest.1)

  -- whether a place has the answers of one of these
  met_or_new : (suffixes : List Word) (one : ℕ) (places : List ℕ)
      → ((at : ℕ) × (at < length places) × (answers suffixes one ≡ answers suffixes (get_or places at 0))) ⊎ All (λ place. answers suffixes one ≢ answers suffixes place) places
  met_or_new suffixes one [] = inr (λ i d within. absurd (omega arith))
  met_or_new suffixes one (place ∷ places) = elim (same_truths (answers suffixes one) (answers suffixes place)) [
    | inl same ↦ inl (0, omega arith, same)
    | inr other ↦
        elim (met_or_new suffixes one places) [ inl met ↦ inl (suc met.0, omega (arith, met.1), met.2) | inr rest ↦ inr (every other rest) ]
  ]
    where
      every : answers suffixes one ≢ answers suffixes place → All (λ place. answers suffixes one ≢ answers suffixes place) places → All (λ place. answers suffixes one ≢ answers suffixes place) (place ∷ places)
      every other rest zero d within = other
      every other rest (suc i) d within = rest i d (omega arith)

  added : (suffixes : List Word) (suffix : Word) (one : ℕ) (places : List ℕ) → one < length words → AreTold suffixes places
      → All (λ place. answers (suffixes ++ suffix ∷ []) one ≢ answers (suffixes ++ suffix ∷ []) place) places → AreTold (suffixes ++ suffix ∷ []) (one ∷ places)
  added suffixes suffix one places within told new = record { below = all_below; apart = all_apart }
    where
      all_below : All (λ place. place < length words) (one ∷ places)
      all_below zero d i = within
      all_below (suc at) d i = told.below at d (omega arith)

      all_apart : AllPairs (λ one other. answers (suffixes ++ suffix ∷ []) one ≢ answers (suffixes ++ suffix ∷ []) other) (one ∷ places)
      all_apart zero zero d before i = absurd (omega arith)
      all_apart zero (suc other) d before i = new other d (omega arith)
      all_apart (suc first) zero d before i = absurd (omega arith)
      all_apart (suc first) (suc other) d before i = λ same. told.apart first other d (omega arith) (omega arith) ((parts_same suffixes suffix (get_or places first d) (get_or places other d) same).0)

  -- two words that only this suffix tells apart cannot both answer as places that are told apart already
  not_both : (suffixes : List Word) (suffix : Word) (one other : ℕ) (places : List ℕ) → AreTold suffixes places → answers suffixes one ≡ answers suffixes other
      → L (word_at one ++ suffix) ≢ L (word_at other ++ suffix)
      → ((at : ℕ) × (at < length places) × (answers (suffixes ++ suffix ∷ []) one ≡ answers (suffixes ++ suffix ∷ []) (get_or places at 0)))
      → ((at : ℕ) × (at < length places) × (answers (suffixes ++ suffix ∷ []) other ≡ answers (suffixes ++ suffix ∷ []) (get_or places at 0))) → ⊥
  not_both suffixes suffix one other places told same differ met met' =
      let first = parts_same suffixes suffix one (get_or places met.0 0) met.2 in
      let second = parts_same suffixes suffix other (get_or places met'.0 0) met'.2 in
      let alike : answers suffixes (get_or places met.0 0) ≡ answers suffixes (get_or places met'.0 0) = sym first.0 ∙ same ∙ second.0 in
      elim (cases_order met.0 met'.0) [
        | inl equal ↦ differ (first.1 ∙ ap (λ at. L (word_at (get_or places at 0) ++ suffix)) equal ∙ sym second.1)
        | inr rest ↦ elim rest
            [ inl before ↦ told.apart met.0 met'.0 0 before met'.1 alike | inr behind ↦ told.apart met'.0 met.0 0 behind met.1 (sym alike) ]
      ]

  record HasMore (suffixes : List Word) (count : ℕ) : Type 0 where
    places : List ℕ
    told : AreTold suffixes places
    size : length places ≡ count

  one_more : (suffixes : List Word) (suffix : Word) (one other : ℕ) (places : List ℕ) → AreTold suffixes places → one < length words → other < length words
      → answers suffixes one ≡ answers suffixes other → L (word_at one ++ suffix) ≢ L (word_at other ++ suffix) → HasMore (suffixes ++ suffix ∷ []) (suc (length places))
  one_more suffixes suffix one other places told within within' same differ =
      elim (met_or_new (suffixes ++ suffix ∷ []) one places) [
        | inr new ↦ record { places = one ∷ places; told = added suffixes suffix one places within told new; size = refl }
        | inl met ↦
            elim (met_or_new (suffixes ++ suffix ∷ []) other places) [
              | inr new ↦ record { places = other ∷ places; told = added suffixes suffix other places within' told new; size = refl }
              | inl met' ↦ absurd (not_both suffixes suffix one other places told same differ met met')
            ]
      ]

  -- ---- a certificate's suffixes

  -- suffixes after the empty one, each of which is a behaviour
  abbrev AreBehind : List Word → Type 0
  AreBehind suffixes = All (IsBehaviour k) suffixes

  grown_behaves : (suffixes : List Word) (suffix : Word) → AreBehind suffixes → GrowsFrom k ([] ∷ suffixes) suffix → IsBehaviour k suffix
  grown_behaves suffixes suffix are grows =
      subst (IsBehaviour k) (sym grows.grown) (record { nonempty = omega arith; widths = widths_of })
    where
      shorter_widths : (at : ℕ) (word : Word) → at < suc (length suffixes) → word ≡ get_or ([] ∷ suffixes) at word → All (λ letter. length letter ≡ k) word
      shorter_widths zero word within is = λ i d below. absurd (let none : length word ≡ 0 = ap length is in omega arith)
      shorter_widths (suc at) word within is = subst (λ word. All (λ letter. length letter ≡ k) word) (sym is) (are at word (omega arith)).widths

      widths_of : All (λ letter. length letter ≡ k) (grows.letter ∷ grows.shorter)
      widths_of zero d below = grows.width
      widths_of (suc i) d below = shorter_widths grows.from.0 grows.shorter grows.from.1.0 grows.from.1.1 i d (omega arith)

  -- what no suffix tells apart has the same answers
  same_answers : (suffixes : List Word) (one other : ℕ) → AreBehind suffixes → All (λ letter. length letter ≡ k) (word_at one) → All (λ letter. length letter ≡ k) (word_at other)
      → All (λ suffix. ¬ TellsApart k L (word_at one) (word_at other) suffix) suffixes → answers suffixes one ≡ answers suffixes other
  same_answers [] one other are widths widths' none = refl
  same_answers (suffix ∷ suffixes) one other are widths widths' none =
      let is = are 0 suffix (omega arith) in
      let goes_on = λ (word : Word). λ (widths : All (λ letter. length letter ≡ k) word).
      let size = length-append word suffix in
      let some = is.nonempty in
      let behaves : IsBehaviour k (word ++ suffix) = record { nonempty = omega arith; widths = All-append (λ letter. length letter ≡ k) word suffix widths is.widths } in behaves in
      let here = not_different (L (word_at one ++ suffix)) (L (word_at other ++ suffix)) (λ differ.
      none 0 suffix (omega arith) (record { first_goes_on = goes_on (word_at one) widths; second_goes_on = goes_on (word_at other) widths'; differ = differ })) in
      let rest = same_answers suffixes one other (λ i d within. are (suc i) d (omega arith)) widths widths' (λ i d within. none (suc i) d (omega arith)) in
      λ i. here i ∷ rest i

  front_widths : (front back : Word) → All (λ letter. length letter ≡ k) (front ++ back) → All (λ letter. length letter ≡ k) front
  front_widths front back widths i d within =
      subst (λ letter. length letter ≡ k) (get_or_append_left front back d i within) (widths i d (let size = length-append front back in omega arith))

  told_more : (suffixes : List Word) (suffix : Word) (places : List ℕ) → AreBehind suffixes → AreTold suffixes places → TellsNewPair k L words ([] ∷ suffixes) suffix
      → HasMore (suffixes ++ suffix ∷ []) (suc (length places))
  told_more suffixes suffix places are told pair =
      let one = pair.first_is_access.0 in
      let other = pair.second_is_access.0 in
      let first_is : pair.first ≡ word_at one = place_of pair.first one pair.first_is_access.1.0 pair.first_is_access.1.1 in
      let second_is : pair.second ≡ word_at other = place_of pair.second other pair.second_is_access.1.0 pair.second_is_access.1.1 in
      let widths = subst (λ word. All (λ letter. length letter ≡ k) word) first_is (front_widths pair.first suffix pair.tells.first_goes_on.widths) in
      let widths' = subst (λ word. All (λ letter. length letter ≡ k) word) second_is (front_widths pair.second suffix pair.tells.second_goes_on.widths) in
      let none = λ (i : ℕ). λ (d : Word). λ (within : i < length suffixes).
      subst (λ second. ¬ TellsApart k L (word_at one) second (get_or suffixes i d)) second_is
      (subst (λ first. ¬ TellsApart k L first pair.second (get_or suffixes i d)) first_is (pair.is_new (suc i) d (omega arith))) in
      let differ = subst (λ second. L (word_at one ++ suffix) ≢ L (second ++ suffix)) second_is (subst (λ first. L (first ++ suffix) ≢ L (pair.second ++ suffix)) first_is pair.tells.differ) in
      one_more suffixes suffix one other places told pair.first_is_access.1.0 pair.second_is_access.1.0 (same_answers suffixes one other are widths widths' none) differ
    where
      place_of : (word : Word) (at : ℕ) → at < length words → word ≡ get_or words at word → word ≡ word_at at
      place_of word at within is = is ∙ get_or_default words at word [] within

  told_by_rest : (all suffixes rest : List Word) (places : List ℕ) → IsCertificate k L words all → all ≡ [] ∷ (suffixes ++ rest) → AreBehind suffixes → AreTold suffixes places
      → HasMore (suffixes ++ rest) (length places + length rest)
  told_by_rest all suffixes [] places certificate same are told =
      record { places = places; told = subst (λ suffixes. AreTold suffixes places) (sym (append-nil suffixes)) told; size = omega arith }
  told_by_rest all suffixes (suffix ∷ rest) places certificate same are told =
      let next = certificate.each ([] ∷ suffixes) rest suffix same in
      let behaves = grown_behaves suffixes suffix are next.grows in
      let more = told_more suffixes suffix places are told next.tells in
      let joined : suffixes ++ suffix ∷ rest ≡ (suffixes ++ suffix ∷ []) ++ rest = sym (append_assoc suffixes (suffix ∷ []) rest) in
      let others = told_by_rest all (suffixes ++ suffix ∷ []) rest more.places certificate (same ∙ ap (λ behind. [] ∷ behind) joined)
      (All-append (IsBehaviour k) suffixes (suffix ∷ []) are (only behaves)) more.told in
      let count : length more.places + length rest ≡ length places + suc (length rest) = let size = more.size in omega arith in
      subst (λ suffixes. HasMore suffixes (length places + suc (length rest))) (sym joined) (subst (λ count. HasMore ((suffixes ++ suffix ∷ []) ++ rest) count) count others)
    where
      only : {word : Word} → IsBehaviour k word → All (IsBehaviour k) (word ∷ [])
      only is zero d within = is
      only is (suc i) d within = absurd (omega arith)

  -- no two of them are one place
  few_places : (suffixes : List Word) (places : List ℕ) → AreTold suffixes places → length places ≤ length words
  few_places suffixes places told =
      length-le_from_distinct_below places (length words)
      (IsDistinct-from_AllPairs unsigned_Decides places (λ i j d before within same. told.apart i j d before within (ap (answers suffixes) same)))
      (λ place there. let found = Any-from_list_any (eqb place) places there in
      let same = eqb-true place found.1 found.4 in
      let below = told.below found.0 found.1 found.2 in
      let at = found.3 in
      omega arith)

pub suffixes_are_few : (k : ℕ) (L : Language) (words suffixes : List Word) → 0 < length words → IsCertificate k L words suffixes → length suffixes ≤ length words
suffixes_are_few k L words [] some certificate = omega arith
suffixes_are_few k L words (first ∷ rest) some certificate =
    let empty : first ≡ [] = (certificate.each [] rest first refl).grows in
    let more = told_by_rest k L words (first ∷ rest) [] rest (0 ∷ []) certificate (ap (λ first. first ∷ rest) empty) (λ i d within. absurd (omega arith)) (alone some) in
    let few = few_places k L words rest more.places more.told in
    omega (arith, more.size)
  where
    alone : 0 < length words → AreTold k L words [] (0 ∷ [])
    alone some = record { below = only; apart = λ i j d before within. absurd (omega arith) }
      where
        only : All (λ place. place < length words) (0 ∷ [])
        only zero d within = some
        only (suc i) d within = absurd (omega arith)
