-- Whether two states of a machine are told apart, where all states that are reached are in a list.
--     Alike p q            each word is accepted from both or from neither
--     Differ p q           some word is accepted from one alone
--     alike_or_differ      one of the two is so
--     pairs_of             the pairs of the members of two lists
use Rattle.std.proofs.Common.{◌≡◌, ◌≢◌, ◌⊎◌, inl, inr, Bool, true, false, List, [], ◌∷◌, ◌++◌, refl, sym, ◌∙◌, subst}
use Rattle.dcv_word.specs.Behaviour.{Word}
use Rattle.dcv_language.specs.Automaton.{WorkingMachine, IsReached, state_from, accepts_from}
use Rattle.dcv_language.proofs.Ascending.{Member}
use Rattle.dcv_language.proofs.Behaviours.{Widths}
use Rattle.dcv_language.proofs.Runs.{reached_has, next_is_reached}
use Rattle.dcv_quotient.proofs.Reaching.{each_member_or, SomeMember, AllFound, found_within}

-- ---- members of joined lists

pub in_front : {X : Type 0} (x : X) (xs ys : List X) → Member x xs → Member x (xs ++ ys)
in_front x [] ys there = absurd there
in_front x (y ∷ xs) ys (inl same) = inl same
in_front x (y ∷ xs) ys (inr later) = inr (in_front x xs ys later)

pub in_back : {X : Type 0} (x : X) (xs ys : List X) → Member x ys → Member x (xs ++ ys)
in_back x [] ys there = there
in_back x (y ∷ xs) ys there = inr (in_back x xs ys there)

pub front_or_back : {X : Type 0} (x : X) (xs ys : List X) → Member x (xs ++ ys) → Member x xs ⊎ Member x ys
front_or_back x [] ys there = inr there
front_or_back x (y ∷ xs) ys (inl same) = inl (inl same)
front_or_back x (y ∷ xs) ys (inr later) = elim (front_or_back x xs ys later) [ inl front ↦ inl (inr front) | inr back ↦ inr back ]

pub same_truth : (a b : Bool) → (a ≡ b) ⊎ (a ≡ b → ⊥)
same_truth true true = inl refl
same_truth false false = inl refl
same_truth true false = inr (λ same. cc)
same_truth false true = inr (λ same. cc)

-- ---- pairs

with_first : {S : Type 0} → S → List S → List (S × S)
with_first first [] = []
with_first first (second ∷ seconds) = (first, second) ∷ with_first first seconds

pub pairs_of : {S : Type 0} → List S → List S → List (S × S)
pairs_of [] seconds = []
pairs_of (first ∷ firsts) seconds = with_first first seconds ++ pairs_of firsts seconds

beside_first : {S : Type 0} (first second : S) (seconds : List S) → Member second seconds → Member (first, second) (with_first first seconds)
unfolding with_first
beside_first first second [] there = absurd there
beside_first first second (one ∷ seconds) (inl same) = inl (λ i. (first, same i))
beside_first first second (one ∷ seconds) (inr later) = inr (beside_first first second seconds later)

pub among_pairs : {S : Type 0} (first second : S) (firsts seconds : List S) → Member first firsts → Member second seconds → Member (first, second) (pairs_of firsts seconds)
unfolding pairs_of
among_pairs first second [] seconds there other = absurd there
among_pairs first second (one ∷ firsts) seconds (inl same) other =
    in_front (first, second) (with_first one seconds) (pairs_of firsts seconds)
    (subst (λ (head : _). Member (first, second) (with_first head seconds)) same (beside_first first second seconds other))
among_pairs first second (one ∷ firsts) seconds (inr later) other = in_back (first, second) (with_first one seconds) (pairs_of firsts seconds) (among_pairs first second firsts seconds later other)

only_beside : {S : Type 0} (first : S) (seconds : List S) (pair : S × S) → Member pair (with_first first seconds) → (pair.0 ≡ first) × Member pair.1 seconds
unfolding with_first
only_beside first [] pair there = absurd there
only_beside first (one ∷ seconds) pair (inl same) = ((λ i. (same i).0), inl (λ i. (same i).1))
only_beside first (one ∷ seconds) pair (inr later) = let rest = only_beside first seconds pair later in (rest.0, inr rest.1)

pub only_pairs : {S : Type 0} (firsts seconds : List S) (pair : S × S) → Member pair (pairs_of firsts seconds) → Member pair.0 firsts × Member pair.1 seconds
unfolding pairs_of
only_pairs [] seconds pair there = absurd there
only_pairs (one ∷ firsts) seconds pair there = elim (front_or_back pair (with_first one seconds) (pairs_of firsts seconds) there) [
  | inl front ↦ let both = only_beside one seconds pair front in (inl both.0, both.1)
  | inr back ↦ let both = only_pairs firsts seconds pair back in (inr both.0, both.1)
]

module _ {S : Type 0} (machine : WorkingMachine S) where
  abbrev pub Alike : S → S → Type 0
  Alike p q = (word : Word) → Widths machine.slots word → accepts_from machine.automaton p word ≡ accepts_from machine.automaton q word

  pub record Differ (p q : S) : Type 0 where
    pub word : Word
    pub widths : Widths machine.slots word
    pub differ : accepts_from machine.automaton p word ≢ accepts_from machine.automaton q word

  -- both states side by side
  abbrev both : S → S → WorkingMachine (S × S)
  both p q = record {
    slots = machine.slots;
    automaton = record { start = (p, q); next = λ state letter. (machine.next state.0 letter, machine.next state.1 letter); accepting = λ state. false };
  }

  both_lead : (first second : S) (word : Word) (p q : S)
      → state_from (both first second).automaton (p, q) word ≡ (state_from machine.automaton p word, state_from machine.automaton q word)
  both_lead first second [] p q = refl
  both_lead first second (letter ∷ word) p q = both_lead first second word (machine.next p letter) (machine.next q letter)

  module _ (same_or_not : (a b : S) → (a ≡ b) ⊎ (a ≡ b → ⊥)) (list : List S) (all : AllFound machine list) where
    same_pair : (a b : S × S) → (a ≡ b) ⊎ (a ≡ b → ⊥)
    same_pair a b = by (same_or_not a.0 b.0) (same_or_not a.1 b.1)
      where
        by : ((a.0 ≡ b.0) ⊎ (a.0 ≡ b.0 → ⊥)) → ((a.1 ≡ b.1) ⊎ (a.1 ≡ b.1 → ⊥)) → (a ≡ b) ⊎ (a ≡ b → ⊥)
        by (inl first) (inl second) = inl (λ i. (first i, second i))
        by (inr first) second = inr (λ same. first (λ i. (same i).0))
        by (inl first) (inr second) = inr (λ same. second (λ i. (same i).1))

    both_reached : (p q : S) → IsReached machine p → IsReached machine q → (state : S × S) → IsReached (both p q) state → IsReached machine state.0 × IsReached machine state.1
    both_reached p q one other =
        reached_has (both p q) (λ state. IsReached machine state.0 × IsReached machine state.1) (one, other)
        (λ state letter width here. (next_is_reached machine state.0 letter width here.0, next_is_reached machine state.1 letter width here.1))

    universe_of : (p q : S) → IsReached machine p → IsReached machine q → (state : S × S) → IsReached (both p q) state → Member state (pairs_of list list)
    universe_of p q one other state reached =
        let parts = both_reached p q one other state reached in
        among_pairs state.0 state.1 list list (all.all state.0 parts.0) (all.all state.1 parts.1)

    pub alike_or_differ : (p q : S) → IsReached machine p → IsReached machine q → Alike p q ⊎ Differ p q
    alike_or_differ p q one other = by (found_within (both p q) same_pair (pairs_of list list) (universe_of p q one other))
      where
        agree : (states : List (S × S)) → AllFound (both p q) states → ((state : S × S) → Member state states → machine.accepting state.0 ≡ machine.accepting state.1) → Alike p q
        agree states found same = λ word widths.
            same (state_from machine.automaton p word, state_from machine.automaton q word)
            (found.all (state_from machine.automaton p word, state_from machine.automaton q word) (record { word = word; widths = widths; leads = both_lead p q word p q }))

        differ : (states : List (S × S)) → AllFound (both p q) states → SomeMember (λ state. machine.accepting state.0 ≡ machine.accepting state.1) states → Differ p q
        differ states found some =
            let reached = found.found.reached some.one some.there in
            let leads : (state_from machine.automaton p reached.word, state_from machine.automaton q reached.word) ≡ some.one = sym (both_lead p q reached.word p q) ∙ reached.leads in
            record {
              word = reached.word;
              widths = reached.widths;
              differ = λ same. some.fails (subst (λ (state : S × S). machine.accepting state.0 ≡ machine.accepting state.1) leads same);
            }

        by : (states : List (S × S)) × AllFound (both p q) states → Alike p q ⊎ Differ p q
        by (states, found) =
            elim (each_member_or (λ (state : S × S). machine.accepting state.0 ≡ machine.accepting state.1) states (λ state there. same_truth (machine.accepting state.0) (machine.accepting state.1))) [
              | inl same ↦ inl (agree states found same)
              | inr some ↦ inr (differ states found some)
            ]
