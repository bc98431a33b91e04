-- The automaton of the stuck words: a word that keeps to the set leads to one state in it and in the automaton of the set, and any other to the sink.
use Rattle.std.proofs.Common.{◌≡◌, ℕ, ◌+◌, ◌<◌, Bool, true, false, not, if◌then◌else◌, List, [], ◌∷◌, ◌++◌, length, ◌⊎◌, inl, inr, refl, sym, ap, ◌∙◌, subst, arith, length-append, append-nil, append_assoc}
use Rattle.std.proofs.lemmas.Bool.{cases_Bool, not-true, true≢false}
use Rattle.dcv_word.specs.Behaviour.{Word}
use Rattle.dcv_language.specs.Automaton.{Automaton, state_from, state_after, accepts}
use Rattle.dcv_language.specs.Language.{Language}
use Rattle.dcv_language.proofs.Behaviours.{Widths, Widths-head, Widths-tail}
use Rattle.dcv_language.proofs.Runs.{state_from-append, accepts_on}
use Rattle.dcv_stuck.specs.Sink.{number_of, HasStuckWords}
use Rattle.dcv_stuck.specs.Stuck.{KeepsTo, IsStuck}
use Rattle.dcv_stuck.proofs.Prefixes.{keeps-empty, keeps-more, keeps-front}

-- ---- numbers

below_by : (flag : Bool) (state sink : ℕ) → state < sink → (if flag then state else sink) < sink + 1
below_by true state sink below = omega arith
below_by false state sink below = omega arith

module _ (automaton : Automaton ℕ) (sink : ℕ) where
  pub number_below : (state : ℕ) → state < sink → number_of automaton sink state < sink + 1
  number_below state below = below_by (automaton.accepting state) state sink below

  number_accepts : (state : ℕ) → automaton.accepting state ≡ true → number_of automaton sink state ≡ state
  number_accepts state accepts = ap (λ (flag : Bool). if flag then state else sink) accepts

  number_rejects : (state : ℕ) → automaton.accepting state ≡ false → number_of automaton sink state ≡ sink
  number_rejects state rejects = ap (λ (flag : Bool). if flag then state else sink) rejects

  -- a state whose number is the sink's rejects
  rejects_by_number : (state : ℕ) → state < sink → number_of automaton sink state ≡ sink → automaton.accepting state ≡ false
  rejects_by_number state below sunk = elim (cases_Bool (automaton.accepting state)) [
    | inl accepts ↦ absurd (omega (arith, number_accepts state accepts))
    | inr rejects ↦ rejects
  ]

module _ (k sink : ℕ) (automaton stuck : Automaton ℕ) (has : HasStuckWords k sink automaton stuck) where
  abbrev L : Language
  L = accepts automaton

  -- the states to which a word leads, in the automaton of the set and in that of the stuck words
  abbrev state : Word → ℕ
  state = state_after automaton

  abbrev new_state : Word → ℕ
  new_state = state_after stuck

  below_from : (at : ℕ) (word : Word) → at < sink → Widths k word → state_from automaton at word < sink
  below_from at [] below widths = below
  below_from at (letter ∷ word) below widths =
      below_from (automaton.next at letter) word (has.states.steps at letter below (Widths-head k letter word widths)) (Widths-tail k letter word widths)

  state_below : (word : Word) → Widths k word → state word < sink
  state_below word widths = below_from automaton.start word has.states.start widths

  accepts_next : (word : Word) (letter : List Bool) → L (word ++ letter ∷ []) ≡ automaton.accepting (automaton.next (state word) letter)
  accepts_next word letter = accepts_on automaton word (letter ∷ []) (omega (arith, length-append word (letter ∷ [])))

  new_state-more : (word : Word) (letter : List Bool) → Widths k word → new_state word ≡ state word → length letter ≡ k
      → new_state (word ++ letter ∷ []) ≡ number_of automaton sink (automaton.next (state word) letter)
  new_state-more word letter widths same width =
      state_from-append stuck stuck.start word (letter ∷ []) ∙ ap (λ at. stuck.next at letter) same ∙ has.steps (state word) letter (state_below word widths) width

  stays_in_sink : (word : Word) → Widths k word → state_from stuck sink word ≡ sink
  stays_in_sink [] widths = refl
  stays_in_sink (letter ∷ word) widths =
      ap (λ at. state_from stuck at word) (has.stays letter (Widths-head k letter word widths)) ∙ stays_in_sink word (Widths-tail k letter word widths)

  -- ---- where words lead

  abbrev Known : Word → Type 0
  Known word = (KeepsTo k L word × (new_state word ≡ state word)) ⊎ ((KeepsTo k L word → ⊥) × (new_state word ≡ sink))

  module _ (u v : Word) (letter : List Bool) (keeps : KeepsTo k L u) (same : new_state u ≡ state u) (widths : Widths k (letter ∷ v)) where
    abbrev next : ℕ
    next = automaton.next (state u) letter

    to_number : new_state (u ++ letter ∷ []) ≡ number_of automaton sink next
    to_number = new_state-more u letter keeps.widths same (Widths-head k letter v widths)

    known_out : L (u ++ letter ∷ []) ≡ false → Known (u ++ letter ∷ v)
    known_out out = inr (
      λ all. true≢false (sym (keeps-front k L u v letter all) ∙ out),
      ap new_state (sym (append_assoc u (letter ∷ []) v)) ∙ state_from-append stuck stuck.start (u ++ letter ∷ []) v
          ∙ ap (λ at. state_from stuck at v) (to_number ∙ number_rejects automaton sink next (sym (accepts_next u letter) ∙ out))
          ∙ stays_in_sink v (Widths-tail k letter v widths),
    )

    same_next : L (u ++ letter ∷ []) ≡ true → new_state (u ++ letter ∷ []) ≡ state (u ++ letter ∷ [])
    same_next member =
        to_number ∙ number_accepts automaton sink next (sym (accepts_next u letter) ∙ member) ∙ sym (state_from-append automaton automaton.start u (letter ∷ []))

  known_on : (u v : Word) → KeepsTo k L u → new_state u ≡ state u → Widths k v → Known (u ++ v)
  known_on u [] keeps same widths = subst Known (sym (append-nil u)) (inl (keeps, same))
  known_on u (letter ∷ v) keeps same widths = elim (cases_Bool (L (u ++ letter ∷ []))) [
    | inl member ↦
        subst Known (append_assoc u (letter ∷ []) v)
        (known_on (u ++ letter ∷ []) v (keeps-more k L u letter keeps (Widths-head k letter v widths) member) (same_next u v letter keeps same widths member)
        (Widths-tail k letter v widths))
    | inr out ↦ known_out u v letter keeps same widths out
  ]

  known : (word : Word) → Widths k word → Known word
  known word widths = known_on [] word (keeps-empty k L) has.start widths

  keeps_state : (word : Word) → KeepsTo k L word → new_state word ≡ state word
  keeps_state word keeps = elim (known word keeps.widths) [ inl (also, same) ↦ same | inr (not, sunk) ↦ absurd (not keeps) ]

  -- ---- the stuck words are those that are accepted, the empty one where the start accepts

  pub stuck_is_accepted : (word : Word) → IsStuck k L word → stuck.accepting (new_state word) ≡ true
  stuck_is_accepted word s =
      let below = state_below word s.keeps.widths in
      subst (λ at. stuck.accepting at ≡ true) (sym (keeps_state word s.keeps))
      ((has.flags (state word) below).1 (λ letter width.
      has.steps (state word) letter below width
      ∙ number_rejects automaton sink (automaton.next (state word) letter) (sym (accepts_next word letter) ∙ not-true (L (word ++ letter ∷ [])) (s.no_next letter width))))

  ends_in_sink : (word : Word) → KeepsTo k L word → ((letter : List Bool) → length letter ≡ k → stuck.next (state word) letter ≡ sink) → IsStuck k L word
  ends_in_sink word keeps to_sink = record {
    keeps = keeps;
    no_next = λ letter width.
        let below = state_below word keeps.widths in
        let next = automaton.next (state word) letter in
        let rejects = rejects_by_number automaton sink next (has.states.steps (state word) letter below width) (sym (has.steps (state word) letter below width) ∙ to_sink letter width) in
        ap not (accepts_next word letter ∙ rejects);
  }

  pub accepted_is_stuck : (word : Word) → Widths k word → stuck.accepting (new_state word) ≡ true → IsStuck k L word
  accepted_is_stuck word widths accepted = elim (known word widths) [
    | inl (keeps, same) ↦ ends_in_sink word keeps ((has.flags (state word) (state_below word widths)).0 (subst (λ at. stuck.accepting at ≡ true) same accepted))
    | inr (not, sunk) ↦ absurd (true≢false (sym accepted ∙ ap stuck.accepting sunk ∙ has.rejects))
  ]
