-- Where names stand, and what a word over the joint names is on the own ones.
use Rattle.std.proofs.Common.{◌≡◌, ◌≢◌, ℕ, zero, suc, ◌+◌, ◌<◌, Bool, true, false, cond, not, List, [], ◌∷◌, length, map, get_or, refl, sym, ap, subst, ◌∙◌, arith, true≢false}
use Rattle.std.specs.Prelude.{◌||◌, bytes_eq, slice_index_or}
use Rattle.std.specs.List.{AllPairs}
use Rattle.std.proofs.lemmas.List.{length-map}
use Rattle.std.proofs.lemmas.Slice.Eq.{bytes_eq-Decides}
use Rattle.dcv_core.specs.Slots.{CoreIsBelow}
use Rattle.dcv_language.proofs.Behaviours.{Widths, Widths-cons, Widths-head, Widths-tail}
use Rattle.dcv_logic.specs.Track.{truth_at}
use Rattle.dcv_scope.specs.Names.{stands_in}
use Rattle.dcv_word.specs.Behaviour.{Word}
use Rattle.dcv_joint.specs.Laws.{MovedMeansRestricted, RestrictedIsBehaviour, RestrictedToAll, RestrictedInTurn, EachIsRestricted}
use Rattle.dcv_joint.specs.Moved.{places_of, moved_slots}
use Rattle.dcv_joint.specs.Names.{place_of, HasAll, truth_of, restricted}
use Rattle.dcv_joint.proofs.MovedWords.{Agree, AllAgree, words_moved}

-- ---- places

-- a name that stands in a list has a place in it, where what is made of the names is made of this one
module _ (name : List ℕ) where
  pub place_inside : (joint : List (List ℕ)) → stands_in name joint ≡ true → place_of joint name < length joint
  place_inside [] is = absurd (true≢false (sym is))
  place_inside (other ∷ joint) is = by_test (bytes_eq other name) is (place_inside joint)
    where
      by_test : (here : Bool) → (here || stands_in name joint) ≡ true → (stands_in name joint ≡ true → place_of joint name < length joint)
          → cond (not here) (1 + place_of joint name) 0 < suc (length joint)
      by_test true is later = omega arith
      by_test false is later = omega (arith, later is)

  pub truth_at_place : (f : List ℕ → Bool) (joint : List (List ℕ)) → stands_in name joint ≡ true → truth_at (map f joint) (place_of joint name) ≡ f name
  truth_at_place f [] is = absurd (true≢false (sym is))
  truth_at_place f (other ∷ joint) is = by_test (bytes_eq other name) refl is (truth_at_place f joint)
    where
      by_test : (here : Bool) → bytes_eq other name ≡ here → (here || stands_in name joint) ≡ true
          → (stands_in name joint ≡ true → truth_at (map f joint) (place_of joint name) ≡ f name)
          → truth_at (f other ∷ map f joint) (cond (not here) (1 + place_of joint name) 0) ≡ f name
      by_test true same is later = ap f ((bytes_eq-Decides other name).0 same)
      by_test false differs is later =
          let next : 1 + place_of joint name ≡ suc (place_of joint name) = omega arith in
          ap (truth_at (f other ∷ map f joint)) next ∙ later is

-- ---- letters

module _ (joint : List (List ℕ)) where
  place_is_within : (own : List (List ℕ)) (d : ℕ) (slot : ℕ) → HasAll joint own → slot < length (places_of joint own) → slice_index_or (places_of joint own) slot d < length joint
  place_is_within [] d slot all lt = absurd (omega (arith, lt))
  place_is_within (name ∷ own) d zero all lt = place_inside name joint all.0
  place_is_within (name ∷ own) d (suc slot) all lt = place_is_within own d slot all.1 (omega (arith, lt))

  slot_restricted : (own : List (List ℕ)) (letter : List Bool) (d : ℕ) (slot : ℕ) → slot < length (places_of joint own)
      → truth_at letter (slice_index_or (places_of joint own) slot d) ≡ truth_at (map (truth_of joint letter) own) slot
  slot_restricted [] letter d slot lt = absurd (omega (arith, lt))
  slot_restricted (name ∷ own) letter d zero lt = refl
  slot_restricted (name ∷ own) letter d (suc slot) lt = slot_restricted own letter d slot (omega (arith, lt))

  module _ (own : List (List ℕ)) where
    letter_agrees : (letter : List Bool) → length letter ≡ length joint → Agree (places_of joint own) (length joint) 0 letter (map (truth_of joint letter) own)
    letter_agrees letter wide = record {
      wide_length = omega (arith, wide);
      own_length = omega (arith, length-map own (truth_of joint letter), length-map own (place_of joint));
      truths = λ slot lt. slot_restricted own letter (moved_slots (places_of joint own) (length joint) slot) slot (omega (arith, lt));
    }

    word_agrees : (word : Word) → Widths (length joint) word → AllAgree (places_of joint own) (length joint) 0 word (restricted joint own word)
    word_agrees [] widths = tt
    word_agrees (letter ∷ word) widths =
        (letter_agrees letter (Widths-head (length joint) letter word widths), word_agrees word (Widths-tail (length joint) letter word widths))

    restricted_widths : (word : Word) → Widths (length own) (restricted joint own word)
    restricted_widths [] = λ k d lt. absurd (omega (arith, lt))
    restricted_widths (letter ∷ word) =
        Widths-cons (length own) (map (truth_of joint letter) own) (restricted joint own word) (length-map own (truth_of joint letter)) (restricted_widths word)

pub moved_means : MovedMeansRestricted
moved_means joint own tree word all below is =
    let few : length own ≡ length (places_of joint own) = sym (length-map own (place_of joint)) in
    words_moved (places_of joint own) (length joint)
    (λ slot lt. place_is_within joint own (moved_slots (places_of joint own) (length joint) slot) slot all lt)
    tree word (restricted joint own word) (subst (λ n. CoreIsBelow n tree) few below) (word_agrees joint own word is.widths)

pub restricted_is_behaviour : RestrictedIsBehaviour
restricted_is_behaviour joint own word is = record {
  nonempty = omega (arith, is.nonempty, length-map word (λ letter. map (truth_of joint letter) own));
  widths = restricted_widths joint own word;
}

-- ---- names that differ

-- the first of names that differ is none of the others
others_differ : (name : List ℕ) (names : List (List ℕ)) → AllPairs ◌≢◌ (name ∷ names) → (k : ℕ) (d : List ℕ) → k < length names → name ≢ get_or names k d
others_differ name names differ k d lt = differ 0 (suc k) d (omega arith) (omega (arith, lt))

rest_differ : (name : List ℕ) (names : List (List ℕ)) → AllPairs ◌≢◌ (name ∷ names) → AllPairs ◌≢◌ names
rest_differ name names differ i j d lt within = differ (suc i) (suc j) d (omega (arith, lt)) (omega (arith, within))

module _ (name : List ℕ) (names : List (List ℕ)) (truth : Bool) (letter : List Bool) where
  one_later : (other : List ℕ) → name ≢ other → truth_of (name ∷ names) (truth ∷ letter) other ≡ truth_of names letter other
  one_later other differ = by_test (bytes_eq name other) refl
    where
      by_test : (here : Bool) → bytes_eq name other ≡ here → truth_at (truth ∷ letter) (cond (not here) (1 + place_of names other) 0) ≡ truth_of names letter other
      by_test true same = absurd (differ ((bytes_eq-Decides name other).0 same))
      by_test false is = let next : 1 + place_of names other ≡ suc (place_of names other) = omega arith in ap (truth_at (truth ∷ letter)) next

  all_later : (others : List (List ℕ)) → ((k : ℕ) (d : List ℕ) → k < length others → name ≢ get_or others k d)
      → map (truth_of (name ∷ names) (truth ∷ letter)) others ≡ map (truth_of names letter) others
  all_later [] differ = refl
  all_later (other ∷ others) differ =
      let one = one_later other (differ 0 [] (omega arith)) in
      let more = all_later others (λ k d lt. differ (suc k) d (omega (arith, lt))) in
      λ i. one i ∷ more i

  first_place : truth_of (name ∷ names) (truth ∷ letter) name ≡ truth
  first_place = ap (λ here. truth_at (truth ∷ letter) (cond (not here) (1 + place_of names name) 0)) ((bytes_eq-Decides name name).1 refl)

letter_itself : (names : List (List ℕ)) (letter : List Bool) → AllPairs ◌≢◌ names → length letter ≡ length names → map (truth_of names letter) names ≡ letter
letter_itself [] [] differ e = refl
letter_itself [] (truth ∷ letter) differ e = absurd (omega (arith, e))
letter_itself (name ∷ names) [] differ e = absurd (omega (arith, e))
letter_itself (name ∷ names) (truth ∷ letter) differ e =
    let first = first_place name names truth letter in
    let more = all_later name names truth letter names (others_differ name names differ) ∙ letter_itself names letter (rest_differ name names differ) (omega (arith, e)) in
    λ i. first i ∷ more i

word_itself : (names : List (List ℕ)) (word : Word) → AllPairs ◌≢◌ names → Widths (length names) word → restricted names names word ≡ word
word_itself names [] differ widths = refl
word_itself names (letter ∷ word) differ widths =
    let one = letter_itself names letter differ (Widths-head (length names) letter word widths) in
    let more = word_itself names word differ (Widths-tail (length names) letter word widths) in
    λ i. one i ∷ more i

pub restricted_to_all : RestrictedToAll
restricted_to_all names word differ is = word_itself names word differ is.widths

-- ---- names in turn

letter_in_turn : (outer joint own : List (List ℕ)) (letter : List Bool) → HasAll joint own
    → map (truth_of joint (map (truth_of outer letter) joint)) own ≡ map (truth_of outer letter) own
letter_in_turn outer joint [] letter all = refl
letter_in_turn outer joint (name ∷ own) letter all =
    let one = truth_at_place name (truth_of outer letter) joint all.0 in
    let more = letter_in_turn outer joint own letter all.1 in
    λ i. one i ∷ more i

pub restricted_in_turn : RestrictedInTurn
restricted_in_turn outer joint own [] all = refl
restricted_in_turn outer joint own (letter ∷ word) all =
    let one = letter_in_turn outer joint own letter all in
    let more = restricted_in_turn outer joint own word all in
    λ i. one i ∷ more i

pub each_is_restricted : EachIsRestricted
each_is_restricted joint own word differ all is =
    (restricted own joint word, restricted_is_behaviour own joint word is, restricted_in_turn own joint own word all ∙ restricted_to_all own word differ is)
