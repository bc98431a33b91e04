-- A set has one canonical table at most. Each access word of one table is, in the other, the access word of the state to which it
-- leads there: so both lists have the same words in one order, and these give flags and rows.
use Rattle.std.proofs.Common.{◌≡◌, ◌≢◌, ⊎_elim, ℕ, zero, suc, ◌<◌, ◌^◌, Bool, List, [], ◌∷◌, ◌++◌, length, get_or, drop, refl, ap, sym, ◌∙◌, subst, arith, length-drop, get_or-drop, ext_get_or}
use Rattle.std.proofs.lemmas.Bool.{cases_eq}
use Rattle.dcv_word.specs.Behaviour.{Word, IsBehaviour}
use Rattle.dcv_word.specs.Letter.{letter_of, bits_of}
use Rattle.dcv_word.specs.Laws.{LetterHasItsWidth, BitsOfItsLetter}
use Rattle.dcv_language.specs.Language.{Language}
use Rattle.dcv_language.specs.Table.{Table, no_state, row_of, is_accepting, next_in, automaton_of, leads_to}
use Rattle.dcv_language.specs.Apart.{AreApart}
use Rattle.dcv_language.specs.Canonical.{access_word, IsStart, IsCanonical}
use Rattle.dcv_language.specs.Laws.{OneCanonicalTable}
use Rattle.dcv_language.proofs.Ascending.{Member, Member-at, place_of, Ascends-from_pairs, one_ascending}
use Rattle.dcv_language.proofs.Behaviours.{Widths, Widths-rest, single, goes_on, one_letter}
use Rattle.dcv_language.proofs.Bounds.{leads_to-below, alike}
use Rattle.dcv_language.proofs.Canonicals.{access_least, entered_least, access_leads, access_apart, not_apart_from_itself}
use Rattle.dcv_language.proofs.Runs.{state_from-append, accepts_by_state}
use Rattle.dcv_language.proofs.Words.{WordLaws, Before, same_words, irreflexive, asymmetric}

rest_widths : (k : ℕ) (L : Language) (u v : Word) (a : AreApart k L u v) → Widths k a.suffix
rest_widths k L u v a = Widths-rest k u a.suffix a.tells.first_goes_on.widths

-- ---- the words of one table in the other

module _ (laws : WordLaws) (k : ℕ) (L : Language) (one other : Table) (access words : List Word) (c : IsCanonical k L one access) (d : IsCanonical k L other words) where
  -- Of two behaviours that lead to one state in the other table, each is continued alike.
  back : (state : ℕ) → state < length one → access_word access state ≢ []
      → leads_to one (access_word words (leads_to other (access_word access state))) ≡ state
  back state h n =
      let x = access_word access state in
      let least = access_least k L one access c state h n in
      let there = entered_least k L other words d x least.behaviour in
      let y = access_word words (leads_to other x) in
      let state' = leads_to one y in
      let here = entered_least k L one access c y there.behaviour in
      let x' = access_word access state' in
      ⊎_elim (λ e. e) (λ differ.
      let apart = access_apart k L one access c state' state (leads_to-below k one c.states y) h differ in
      let w = rest_widths k L x' x apart in
      absurd (apart.tells.differ
      (alike k L one c.exact x' y apart.suffix here.member apart.tells.first_goes_on (goes_on k y apart.suffix there.behaviour w)
      ∙ alike k L other d.exact y x apart.suffix there.member (goes_on k y apart.suffix there.behaviour w) apart.tells.second_goes_on)))
      (cases_eq state' state)

  -- the access word of the state to which it leads there
  same_access : (state : ℕ) → state < length one → access_word access state ≢ []
      → access_word access state ≡ access_word words (leads_to other (access_word access state))
  same_access state h n =
      let x = access_word access state in
      let least = access_least k L one access c state h n in
      let there = entered_least k L other words d x least.behaviour in
      let y = access_word words (leads_to other x) in
      same_words laws x y (there.least x least.behaviour refl) (least.least y there.behaviour (back state h n))

-- ---- the starts

module _ (laws : WordLaws) (k : ℕ) (L : Language) (one other : Table) where
  same_start : (u v : Word) → IsStart k L one u → IsStart k L other v → u ≡ v
  same_start [] [] s t = refl
  same_start [] (b ∷ v) s t = absurd (t.least.member (s.apart (b ∷ v) t.least.behaviour))
  same_start (a ∷ u) [] s t = absurd (s.least.member (t.apart (a ∷ u) s.least.behaviour))
  same_start (a ∷ u) (b ∷ v) s t =
      same_words laws (a ∷ u) (b ∷ v) (t.least.least (a ∷ u) s.least.behaviour s.least.member) (s.least.least (b ∷ v) t.least.behaviour t.least.member)

-- ---- the further words

further_place : (words : List Word) (x : Word) → Member x (drop 1 words) → (i : ℕ) × (suc i < length words) × (access_word words (suc i) ≡ x)
further_place words x m =
    let p = place_of (drop 1 words) x m in
    (p.0, omega (arith, p.1, length-drop 1 words), sym (p.2 [] ∙ get_or-drop 1 words p.0 [] ∙ ap (access_word words) (omega arith)))

further_member : (words : List Word) (i : ℕ) → suc i < length words → Member (access_word words (suc i)) (drop 1 words)
further_member words i h =
    subst (λ x. Member x (drop 1 words)) (get_or-drop 1 words i [] ∙ ap (access_word words) (omega arith))
    (Member-at (drop 1 words) i [] (omega (arith, length-drop 1 words)))

module _ (laws : WordLaws) (k : ℕ) (L : Language) (one other : Table) (access words : List Word) (c : IsCanonical k L one access) (d : IsCanonical k L other words) where
  nonempty_further : (i : ℕ) → suc i < length one → access_word access (suc i) ≢ []
  nonempty_further i h e = absurd (omega (arith, (c.least (suc i) (omega arith) h).behaviour.nonempty, ap length e))

  same_first : access_word access 0 ≡ access_word words 0
  same_first = same_start laws k L one other (access_word access 0) (access_word words 0) c.start d.start

  -- a further word of one table is one of the other, since the first words are the same
  further_there : (x : Word) → Member x (drop 1 access) → Member x (drop 1 words)
  further_there x m =
      let p = further_place access x m in
      let state = suc p.0 in
      let h : state < length one = omega (arith, p.1, c.words) in
      let here = same_access laws k L one other access words c d state h (nonempty_further p.0 h) in
      let place = leads_to other (access_word access state) in
      by_place place (leads_to-below k other d.states (access_word access state)) p.0 h (p.2) here
    where
      by_place : (place : ℕ) → place < length other → (i : ℕ) → suc i < length one → access_word access (suc i) ≡ x → access_word access (suc i) ≡ access_word words place → Member x (drop 1 words)
      by_place zero l i h is e =
          absurd (not_apart_from_itself k L (access_word access 0)
          (subst (λ w. AreApart k L (access_word access 0) w) (e ∙ sym same_first) (access_apart k L one access c 0 (suc i) (omega arith) h (omega arith))))
      by_place (suc place) l i h is e =
          subst (λ w. Member w (drop 1 words)) (sym e ∙ is) (further_member words place (omega (arith, d.words)))

-- ---- both lists

first_and_further : (words : List Word) → 0 < length words → words ≡ access_word words 0 ∷ drop 1 words
first_and_further [] h = absurd (omega arith)
first_and_further (x ∷ words) h = refl

module _ (laws : WordLaws) (k : ℕ) (L : Language) (one other : Table) (access words : List Word) (c : IsCanonical k L one access) (d : IsCanonical k L other words) where
  same_further : drop 1 access ≡ drop 1 words
  same_further = one_ascending Before (irreflexive laws) (asymmetric laws) (drop 1 access) (drop 1 words)
      (Ascends-from_pairs Before (drop 1 access) c.in_order) (Ascends-from_pairs Before (drop 1 words) d.in_order)
      (further_there laws k L one other access words c d) (further_there laws k L other one words access d c)

  same_access_words : access ≡ words
  same_access_words =
      first_and_further access (omega (arith, c.words, c.states.nonempty))
      ∙ (λ i. same_first laws k L one other access words c d i ∷ same_further i)
      ∙ sym (first_and_further words (omega (arith, d.words, d.states.nonempty)))

-- ---- flags and rows

module _ (laws : WordLaws) (width : LetterHasItsWidth) (bits : BitsOfItsLetter) (k : ℕ) (L : Language) (one other : Table) (access : List Word) (c : IsCanonical k L one access) (d : IsCanonical k L other access) where
  as_long : length one ≡ length other
  as_long = sym c.words ∙ d.words

  flag_alone : (u : Word) → u ≡ [] → IsStart k L one u → IsStart k L other u → is_accepting one 0 ≡ is_accepting other 0
  flag_alone [] e s t = s.rejects ∙ sym t.rejects
  flag_alone (a ∷ u) e s t = absurd (nothing e)
    where
      nothing : (a ∷ u) ≡ [] → ⊥
      nothing e = cc

  flag_entered : (state : ℕ) (h : state < length one) → access_word access state ≢ [] → is_accepting one state ≡ is_accepting other state
  flag_entered state h n =
      let x = access_word access state in
      let b = (access_least k L one access c state h n).behaviour in
      ap (is_accepting one) (sym (access_leads k L one access c state h))
      ∙ sym (accepts_by_state (automaton_of one) x b.nonempty)
      ∙ c.exact x b ∙ sym (d.exact x b)
      ∙ accepts_by_state (automaton_of other) x b.nonempty
      ∙ ap (is_accepting other) (access_leads k L other access d state (omega (arith, as_long)))

  same_flag : (state : ℕ) → state < length one → is_accepting one state ≡ is_accepting other state
  same_flag zero h = by_word (access_word access 0) refl
    where
      by_word : (u : Word) → access_word access 0 ≡ u → is_accepting one 0 ≡ is_accepting other 0
      by_word [] e = flag_alone (access_word access 0) e c.start d.start
      by_word (a ∷ u) e = flag_entered 0 h (λ n. nothing (sym e ∙ n))
        where
          nothing : (a ∷ u) ≡ [] → ⊥
          nothing e = cc
  same_flag (suc state) h = flag_entered (suc state) h (nonempty_further laws k L one other access access c d state h)

  -- one step from an access word
  same_next : (state : ℕ) (a : List Bool) → state < length one → length a ≡ k → next_in one state a ≡ next_in other state a
  same_next state a h e =
      let x = access_word access state in
      let w = x ++ a ∷ [] in
      let b : IsBehaviour k w = step_behaves x refl in
      let p = next_in one state a in
      let q = next_in other state a in
      let to_p : leads_to one w ≡ p = state_from-append (automaton_of one) 0 x (a ∷ []) ∙ ap (λ s. next_in one s a) (access_leads k L one access c state h) in
      let to_q : leads_to other w ≡ q = state_from-append (automaton_of other) 0 x (a ∷ []) ∙ ap (λ s. next_in other s a) (access_leads k L other access d state (omega (arith, as_long))) in
      let of_p = entered_least k L one access c w b in
      let of_q = entered_least k L other access d w b in
      let u = access_word access (leads_to one w) in
      let v = access_word access (leads_to other w) in
      ⊎_elim (λ same. sym to_p ∙ same ∙ to_q) (λ differ.
      let apart = access_apart k L one access c (leads_to one w) (leads_to other w) (leads_to-below k one c.states w) (omega (arith, leads_to-below k other d.states w, as_long)) differ in
      let s = rest_widths k L u v apart in
      absurd (apart.tells.differ
      (alike k L one c.exact u w apart.suffix of_p.member apart.tells.first_goes_on (goes_on k w apart.suffix b s)
      ∙ alike k L other d.exact w v apart.suffix (sym of_q.member) (goes_on k w apart.suffix b s) apart.tells.second_goes_on)))
      (cases_eq (leads_to one w) (leads_to other w))
    where
      step_behaves : (x : Word) → access_word access state ≡ x → IsBehaviour k (x ++ a ∷ [])
      step_behaves [] f = single k a e
      step_behaves (b ∷ x) f = goes_on k (b ∷ x) (a ∷ []) (subst (λ w. IsBehaviour k w) f (access_least k L one access c state h (λ n. nothing (sym f ∙ n))).behaviour) (one_letter k a e)
        where
          nothing : (b ∷ x) ≡ [] → ⊥
          nothing e = cc

  same_row : (state : ℕ) → state < length one → row_of one state ≡ row_of other state
  same_row state h =
      let long_one : length (row_of one state) ≡ 2 ^ k = c.states.rows state no_state h in
      let long_other : length (row_of other state) ≡ 2 ^ k = d.states.rows state no_state (omega (arith, as_long)) in
      ext_get_or 0 (row_of one state) (row_of other state) (long_one ∙ sym long_other) (λ n l.
      let number : bits_of (letter_of k n) ≡ n = bits k n (omega arith) in
      subst (λ m. get_or (row_of one state) m 0 ≡ get_or (row_of other state) m 0) number (same_next state (letter_of k n) h (width k n)))

  same_table : one ≡ other
  same_table = ext_get_or no_state one other as_long (λ state h i. record { accepting = same_flag state h i; row = same_row state h i })

pub one_canonical_table : WordLaws → LetterHasItsWidth → BitsOfItsLetter → OneCanonicalTable
one_canonical_table laws width bits k L one other access words c d =
    let same = same_access_words laws k L one other access words c d in
    (same_table laws width bits k L one other access c (subst (λ w. IsCanonical k L other w) (sym same) d), same)
