-- Access words of a canonical table, and suffixes of a certificate, have a spelling: each word by that of another state and a letter, and each
-- suffix by a letter and an earlier one.
--     SpelledSuffixes listed      suffixes that spell these words
--     some_suffixes               a certificate's words have such
--     some_spellings              how the access words of all states are spelled
use Rattle.std.proofs.Common.{◌≡◌, ◌⊎◌, inl, inr, ℕ, zero, suc, ◌+◌, ◌-◌, ◌<◌, Bool, List, [], ◌∷◌, ◌++◌, length, drop, get_or, slice_get, Some, refl, sym, ap, ◌∙◌, subst, arith}
use Rattle.std.proofs.lemmas.Bool.{cases_lt, cases_order}
use Rattle.std.proofs.lemmas.List.{append-nil, append_assoc, length-append, length-drop, get_or_default}
use Rattle.std.proofs.lemmas.List.Sums.{fold-append}
use Rattle.std.proofs.lemmas.Option.{same_Some}
use Rattle.dcv_word.specs.Behaviour.{Word, IsBehaviour}
use Rattle.dcv_language.specs.Canonical.{access_word, IsAccessWord, IsCanonical}
use Rattle.dcv_language.specs.Certificate.{GrowsInTurn, IsCertificate}
use Rattle.dcv_language.specs.Language.{Language}
use Rattle.dcv_language.specs.Least.{IsLeastWhere}
use Rattle.dcv_language.specs.Table.{Table, automaton_of, leads_to}
use Rattle.dcv_language.specs.declared.certificate.Access.{Access}
use Rattle.dcv_language.specs.declared.certificate.Access.TheVariants.{Empty as EmptyAccess, Start, After}
use Rattle.dcv_language.specs.declared.certificate.Suffix.{Suffix}
use Rattle.dcv_language.specs.declared.certificate.Suffix.TheVariants.{Empty, Then}
use Rattle.dcv_language.proofs.Behaviours.{Widths, Widths-head, Widths-front, Widths-rest, single}
use Rattle.dcv_language.proofs.Bounds.{leads_to-below}
use Rattle.dcv_language.proofs.Canonicals.{access_least, entered_least}
use Rattle.dcv_language.proofs.Runs.{state_from-append}
use Rattle.dcv_language.proofs.Searches.{front_of_least_is_least}
use Rattle.dcv_language.proofs.Words.{WordLaws, Before, asymmetric, same_words}
use Rattle.dcv_certificate.specs.Proof.{IsSpelled, AreSpelled, suffix_word, suffix_words, GoOnFromEarlier}
use Rattle.dcv_quotient.proofs.WordClasses.{last_of_behaviour}

-- ---- suffixes

suffix_words-push : (suffixes : List Suffix) (suffix : Suffix)
    → suffix_words (suffixes ++ suffix ∷ []) ≡ suffix_words suffixes ++ suffix_word (suffix_words suffixes) suffix ∷ []
unfolding suffix_words
suffix_words-push suffixes suffix = fold-append (λ (earlier : List Word) (suffix : Suffix). earlier ++ suffix_word earlier suffix ∷ []) [] suffixes (suffix ∷ [])

no_suffix_words : suffix_words [] ≡ []
unfolding suffix_words
no_suffix_words = refl

pushed_at : (suffixes : List Suffix) (suffix : Suffix) (place : ℕ) (one : Suffix) → slice_get (suffixes ++ suffix ∷ []) place ≡ Some one
    → (slice_get suffixes place ≡ Some one) ⊎ ((place ≡ length suffixes) × (suffix ≡ one))
pushed_at [] suffix zero one e = inr (refl, same_Some suffix one e)
pushed_at [] suffix (suc place) one e = absurd cc
pushed_at (x ∷ xs) suffix zero one e = inl e
pushed_at (x ∷ xs) suffix (suc place) one e = elim (pushed_at xs suffix place one e) [ inl h ↦ inl h | inr h ↦ inr (ap suc h.0, h.1) ]

same_from : (letter other : List Bool) (from place : ℕ) → Then letter from ≡ Then other place → from ≡ place
same_from letter other from place e = cc

not_empty : (letter : List Bool) (from : ℕ) → Empty ≡ Then letter from → ⊥
not_empty letter from e = cc

pub record SpelledSuffixes (listed : List Word) : Type 0 where
  pub suffixes : List Suffix
  pub words : suffix_words suffixes ≡ listed
  pub count : length suffixes ≡ length listed
  pub earlier : GoOnFromEarlier suffixes

first_spelled : (word : Word) → word ≡ [] → (so : SpelledSuffixes []) → SpelledSuffixes (word ∷ [])
first_spelled word empty so = record {
  suffixes = so.suffixes ++ Empty ∷ [];
  words = suffix_words-push so.suffixes Empty ∙ ap (λ (words : List Word). words ++ [] ∷ []) so.words ∙ ap (λ (word : Word). word ∷ []) (sym empty);
  count = let size = so.count in omega (arith, length-append so.suffixes (Empty ∷ []));
  earlier = λ place from letter there. elim (pushed_at so.suffixes Empty place (Then letter from) there) [
    | inl before ↦ so.earlier place from letter before
    | inr last ↦ absurd (not_empty letter from last.1)
  ];
}

next_spelled : (listed : List Word) (letter : List Bool) (place : ℕ) (shorter : Word) → place < length listed → shorter ≡ get_or listed place shorter
    → (so : SpelledSuffixes listed) → SpelledSuffixes (listed ++ (letter ∷ shorter) ∷ [])
next_spelled listed letter place shorter within is so =
    let word : letter ∷ get_or (suffix_words so.suffixes) place [] ≡ letter ∷ shorter =
    ap (λ (words : List Word). letter ∷ get_or words place []) so.words ∙ ap (λ (word : Word). letter ∷ word) (get_or_default listed place [] shorter within ∙ sym is) in
    record {
      suffixes = so.suffixes ++ Then letter place ∷ [];
      words = suffix_words-push so.suffixes (Then letter place) ∙ (λ i. so.words i ++ word i ∷ []);
      count = let size = so.count in omega (arith, length-append so.suffixes (Then letter place ∷ []), length-append listed ((letter ∷ shorter) ∷ []));
      earlier = λ at from other there. elim (pushed_at so.suffixes (Then letter place) at (Then other from) there) [
        | inl before ↦ so.earlier at from other before
        | inr last ↦ let size = so.count in omega (arith, same_from letter other place from last.1, last.0)
      ];
    }

module _ (k : ℕ) (L : Language) (access listed : List Word) (certificate : IsCertificate k L access listed) where
  one_more : (earlier : List Word) (suffix : Word) → GrowsInTurn k earlier suffix → SpelledSuffixes earlier → SpelledSuffixes (earlier ++ suffix ∷ [])
  one_more [] suffix grows so = first_spelled suffix grows so
  one_more (first ∷ others) suffix grows so =
      subst (λ (word : Word). SpelledSuffixes ((first ∷ others) ++ word ∷ [])) (sym grows.grown)
      (next_spelled (first ∷ others) grows.letter grows.from.0 grows.shorter grows.from.1.0 grows.from.1.1 so)

  all_spelled : (earlier later : List Word) → listed ≡ earlier ++ later → SpelledSuffixes earlier → SpelledSuffixes listed
  all_spelled earlier [] split so = subst SpelledSuffixes (sym (append-nil earlier) ∙ sym split) so
  all_spelled earlier (suffix ∷ later) split so =
      all_spelled (earlier ++ suffix ∷ []) later (split ∙ sym (append_assoc earlier (suffix ∷ []) later))
      (one_more earlier suffix (certificate.each earlier later suffix split).grows so)

  pub some_suffixes : SpelledSuffixes listed
  some_suffixes = all_spelled [] listed refl (record {
    suffixes = [];
    words = no_suffix_words;
    count = refl;
    earlier = λ place from letter there. absurd cc;
  })

-- ---- access words

module _ (laws : WordLaws) (k : ℕ) (L : Language) (table : Table) (words : List Word) (c : IsCanonical k L table words) where
  -- the words of later states come later
  in_turn : (first second : ℕ) → 0 < first → first < second → second < length words → Before (access_word words first) (access_word words second)
  in_turn first second positive h l =
      let one : suc (first - 1) ≡ first = omega arith in
      let two : suc (second - 1) ≡ second = omega arith in
      let ordered = c.in_order (first - 1) (second - 1) [] (omega arith) (omega (arith, length-drop 1 words)) in
      subst (λ n. Before (access_word words n) (access_word words second)) one
      (subst (λ n. Before (access_word words (suc (first - 1))) (access_word words n)) two (dropped words (first - 1) (second - 1) ordered))
    where
      dropped : (words : List Word) (i j : ℕ) → Before (get_or (drop 1 words) i []) (get_or (drop 1 words) j [])
          → Before (access_word words (suc i)) (access_word words (suc j))
      dropped [] i j b = b
      dropped (word ∷ words) i j b = b

  -- a word that is the least of its state is its access word
  least_is : (word : Word) → IsLeastWhere k (λ other. leads_to table other ≡ leads_to table word) word → access_word words (leads_to table word) ≡ word
  least_is word least =
      let mine = entered_least k L table words c word least.behaviour in
      same_words laws (access_word words (leads_to table word)) word
      (least.least (access_word words (leads_to table word)) mine.behaviour mine.member)
      (mine.least word least.behaviour refl)

  abbrev Spelling : ℕ → Type 0
  Spelling state = (access : Access) × IsSpelled words state access

  module _ (state : ℕ) (within : state < length words) (front : Word) (letter : List Bool) (is : access_word words state ≡ front ++ letter ∷ [])
      (behaves : IsBehaviour k front) (least : IsAccessWord k table state (access_word words state)) where
    width : length letter ≡ k
    width = Widths-head k letter [] (Widths-rest k front (letter ∷ []) (subst (Widths k) is least.behaviour.widths))

    leads : state ≡ leads_to table (front ++ letter ∷ [])
    leads = sym least.member ∙ ap (leads_to table) is

    front_least : IsLeastWhere k (λ word. leads_to table word ≡ leads_to table front) front
    front_least =
        front_of_least_is_least laws k (automaton_of table) front letter behaves
        (subst (λ (n : ℕ). IsLeastWhere k (λ word. leads_to table word ≡ n) (front ++ letter ∷ [])) leads (subst (IsAccessWord k table state) is least))

    before : ℕ
    before = leads_to table front

    front_is : access_word words before ≡ front
    unfolding before
    front_is = least_is front front_least

    before_below : before < length words
    unfolding before
    before_below = let words_are = c.words in omega (arith, leads_to-below k table c.states front)

    -- else the letter alone is less
    not_start : 0 < before
    unfolding before
    not_start = elim (cases_lt 0 (leads_to table front)) [
      | inl positive ↦ positive
      | inr none ↦
          let zero_is : leads_to table front ≡ 0 = omega arith in
          let same : leads_to table (letter ∷ []) ≡ state =
          ap (λ n. (automaton_of table).next n letter) (sym zero_is) ∙ sym (state_from-append (automaton_of table) 0 front (letter ∷ [])) ∙ sym leads in
          let shorter : Before (letter ∷ []) (access_word words state) =
          laws.shorter (letter ∷ []) (access_word words state) (let some = behaves.nonempty in omega (arith, ap length is, length-append front (letter ∷ []))) in
          absurd (least.least (letter ∷ []) (single k letter width) same shorter)
    ]

    longer : length (access_word words state) ≡ suc (length (access_word words before))
    longer = omega (arith, ap length is, length-append front (letter ∷ []), ap length front_is)

    in_order : 0 < state → before < state
    in_order positive = elim (cases_order before state) [
      | inl same ↦ absurd (let lengths = ap (λ n. length (access_word words n)) same in omega (arith, longer))
      | inr rest ↦ elim rest [
        | inl sooner ↦ sooner
        | inr later ↦ absurd (asymmetric laws (access_word words state) (access_word words before)
            (in_turn state before positive later before_below)
            (laws.shorter (access_word words before) (access_word words state) (omega (arith, longer))))
      ]
    ]

    after : Spelling state
    after = (
      After before letter,
      record { word = is ∙ ap (λ (word : Word). word ++ letter ∷ []) (sym front_is); is_state = before_below; not_start = not_start; in_order = in_order },
    )

  by_front : (state : ℕ) → state < length words → (front : Word) (letter : List Bool) → access_word words state ≡ front ++ letter ∷ []
      → IsAccessWord k table state (access_word words state) → Spelling state
  by_front state within [] letter is least = (Start letter, is)
  by_front state within (first ∷ front) letter is least =
      after state within (first ∷ front) letter is
      (record { nonempty = omega arith; widths = Widths-front k (first ∷ front) (letter ∷ []) (subst (Widths k) is least.behaviour.widths) }) least

  spelled_state : (state : ℕ) → state < length words → Spelling state
  spelled_state state within = by_word (access_word words state) refl
    where
      by_word : (word : Word) → access_word words state ≡ word → Spelling state
      by_word [] e = (EmptyAccess, e)
      by_word (letter ∷ word) e =
          let words_are = c.words in
          let least = access_least k L table words c state (omega arith) (λ none. nothing (sym e ∙ none)) in
          let last = last_of_behaviour k (access_word words state) least.behaviour in
          by_front state within last.front last.letter last.is least
        where
          nothing : (letter ∷ word) ≡ [] → ⊥
          nothing e = cc

  -- the spellings of the states from one on
  record SpelledFrom (first count : ℕ) : Type 0 where
    access : List Access
    size : length access ≡ count
    each : (place : ℕ) (one : Access) → slice_get access place ≡ Some one → IsSpelled words (first + place) one

  spelled_from : (count first : ℕ) → first + count ≡ length words → SpelledFrom first count
  spelled_from zero first fits = record { access = []; size = refl; each = λ place one there. absurd cc }
  spelled_from (suc count) first fits =
      let here = spelled_state first (omega arith) in
      let rest = spelled_from count (suc first) (omega arith) in
      record {
        access = here.0 ∷ rest.access;
        size = ap suc rest.size;
        each = each here rest;
      }
    where
      each : (here : Spelling first) (rest : SpelledFrom (suc first) count) (place : ℕ) (one : Access) → slice_get (here.0 ∷ rest.access) place ≡ Some one
          → IsSpelled words (first + place) one
      each here rest zero one there =
          let same : here.0 ≡ one = same_Some here.0 one there in
          let at : first ≡ first + 0 = omega arith in
          subst (λ (n : ℕ). IsSpelled words n one) at (subst (IsSpelled words first) same here.1)
      each here rest (suc place) one there =
          let at : suc first + place ≡ first + suc place = omega arith in
          subst (λ (n : ℕ). IsSpelled words n one) at (rest.each place one there)

  pub some_spellings : (access : List Access) × AreSpelled access words
  some_spellings = let all = spelled_from (length words) 0 (omega arith) in (
    all.access,
    record { count = all.size; each = λ state one there. let at : 0 + state ≡ state = omega arith in subst (λ (n : ℕ). IsSpelled words n one) at (all.each state one there) },
  )
