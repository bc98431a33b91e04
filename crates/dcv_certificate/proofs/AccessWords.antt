-- The words of the states that a search finds in a canonical automaton are its access words.
use Rattle.std.proofs.Common.{◌≡◌, ◌≢◌, inl, inr, ℕ, suc, ◌<◌, ◌+◌, ◌-◌, List, [], ◌∷◌, ◌++◌, length, drop, get_or, set, All, AllPairs, Option, None, Some, IfSome, slice_get, refl, ap, sym, subst, ◌∙◌, arith}
use Rattle.std.proofs.lemmas.Bool.{cases_lt, cases_order}
use Rattle.std.proofs.lemmas.List.{length-append, length-set, length-map, get_or-map, get_or-set_same, get_or-set_other, get_or_default, length-drop}
use Rattle.std.proofs.lemmas.Option.{slice_get-get_or, slice_get_within, get_or_from_slice_get, same_Some}
use Rattle.dcv_word.specs.Behaviour.{Word, IsBehaviour}
use Rattle.dcv_language.specs.Automaton.{state_after}
use Rattle.dcv_language.specs.Least.{IsLeastWhere}
use Rattle.dcv_language.specs.Table.{leads_to}
use Rattle.dcv_language.specs.Canonical.{access_word, IsCanonical}
use Rattle.dcv_language.proofs.Behaviours.{single}
use Rattle.dcv_language.proofs.Canonicals.{access_least, entered}
use Rattle.dcv_language.proofs.Runs.{state_from-append}
use Rattle.dcv_language.proofs.Words.{WordLaws, Before, asymmetric, same_words}
use Rattle.dcv_dfa.specs.Raw.{RawValue, IsRaw, automaton_of, raw_accepts}
use Rattle.dcv_dfa.specs.Auto.{table_of_states}
use Rattle.dcv_dfa.specs.Laws.{TableHasTheStates, TableLeadsAsTheStates}
use Rattle.dcv_reach.specs.declared.reached.Found.{Found}
use Rattle.dcv_reach.specs.Reached.{word_before, words_of, word_at, states_of, GoesBack, IsReached}
use Rattle.dcv_reach.proofs.Spelled.{spelled}
use Rattle.dcv_language.specs.declared.certificate.Access.{Access}
use Rattle.dcv_language.specs.declared.certificate.Access.TheVariants.{Empty}
use Rattle.dcv_certificate.specs.Proof.{IsSpelled, AreSpelled}
use Rattle.dcv_certificate.specs.Spelling.{spelling_of, AreSpellings}

-- ---- the list of spellings

-- of the first of the found ones
pub record SpelledSoFar (states count : ℕ) (found : List Found) (access : List Access) : Type 0 where
  pub each : length access ≡ states
  pub found_ones : (place : ℕ) (one : Found) → place < count → slice_get found place ≡ Some one → get_or access one.state Empty ≡ spelling_of found one.before one.letter
  pub others : (state : ℕ) → state < states → ((place : ℕ) → place < count → get_or (states_of found) place 0 ≢ state) → get_or access state Empty ≡ Empty

pub state_at : (found : List Found) (place : ℕ) (one : Found) → slice_get found place ≡ Some one → get_or (states_of found) place 0 ≡ one.state
state_at found place one at =
    get_or-map (λ (one : Found). one.state) found place one 0 (slice_get_within found place one at) ∙ ap (λ (one : Found). one.state) (get_or_from_slice_get found place one one at)

pub spelled_more : (states count : ℕ) (found : List Found) (access : List Access) (one : Found) → AllPairs (λ first second. first ≢ second) (states_of found) → one.state < states
    → slice_get found count ≡ Some one → SpelledSoFar states count found access → SpelledSoFar states (count + 1) found (set access one.state (spelling_of found one.before one.letter))
spelled_more states count found access one once below at so =
    let new = spelling_of found one.before one.letter in
    let within : one.state < length access = omega (arith, so.each) in
    let here = state_at found count one at in
    let size = length-map found (λ (one : Found). one.state) in
    record {
      each = length-set access one.state new ∙ so.each;
      found_ones = λ place other h is. elim (cases_lt place count) [
        | inl l ↦
            let differ : other.state ≢ one.state = λ e.
            once place count 0 l (omega (arith, slice_get_within found count one at, size)) (state_at found place other is ∙ e ∙ sym here) in
            get_or-set_other access one.state other.state new Empty differ ∙ so.found_ones place other l is
        | inr g ↦
            let e : place ≡ count = omega arith in
            let same : other ≡ one = same_Some other one (sym is ∙ ap (slice_get found) e ∙ at) in
            subst (λ (other : Found). get_or (set access one.state new) other.state Empty ≡ spelling_of found other.before other.letter) (sym same)
            (get_or-set_same access one.state new Empty within)
      ];
      others = λ state h none.
          let differ : state ≢ one.state = λ e. none count (omega arith) (here ∙ sym e) in
          get_or-set_other access one.state state new Empty differ ∙ so.others state h (λ place l. none place (omega arith));
    }

pub spelled_all : (states : ℕ) (found : List Found) (access : List Access) → SpelledSoFar states (length found) found access → AreSpellings states found access
spelled_all states found access so = record {
  count = so.each;
  found_ones = λ place one at. so.found_ones place one (slice_get_within found place one at) at;
  others = so.others;
}

-- ---- the words

module _ (laws : WordLaws) (has_states : TableHasTheStates) (leads_as : TableLeadsAsTheStates) (raw : RawValue) (is : IsRaw raw) (start : raw.start ≡ 0)
    (words : List Word) (c : IsCanonical raw.arena.slots (raw_accepts raw) (table_of_states raw) words)
    (found : List Found) (reached : IsReached raw.arena.slots (automaton_of raw) found) (back : GoesBack raw.arena.slots found) where
  states_are : length words ≡ length raw.rows
  states_are = c.words ∙ has_states raw

  behaves_as : (word : Word) → IsBehaviour raw.arena.slots word → leads_to (table_of_states raw) word ≡ state_after (automaton_of raw) word
  behaves_as word b = leads_as raw word is start b.widths

  -- an access word that is not empty is the least that leads to its state
  least : (state : ℕ) → state < length raw.rows → access_word words state ≢ [] → IsLeastWhere raw.arena.slots (λ word. state_after (automaton_of raw) word ≡ state) (access_word words state)
  least state h some =
      let l = access_least raw.arena.slots (raw_accepts raw) (table_of_states raw) words c state (omega (arith, has_states raw)) some in
      record {
        behaviour = l.behaviour;
        member = sym (behaves_as (access_word words state) l.behaviour) ∙ l.member;
        least = λ other b e. l.least other b (behaves_as other b ∙ e);
      }

  -- the word of a place is the access word of its state
  word_is : (place : ℕ) (one : Found) → slice_get found place ≡ Some one → one.state < length raw.rows → word_at found place ≡ access_word words one.state
  word_is place one at h =
      let f = reached.least place one at in
      let state_is : leads_to (table_of_states raw) (word_at found place) ≡ one.state = behaves_as (word_at found place) f.behaviour ∙ f.member in
      let some = subst (λ state. access_word words state ≢ []) state_is (entered raw.arena.slots (raw_accepts raw) (table_of_states raw) words c (word_at found place) f.behaviour) in
      let l = least one.state h some in
      same_words laws (word_at found place) (access_word words one.state) (l.least (word_at found place) f.behaviour f.member) (f.least (access_word words one.state) l.behaviour l.member)

  -- how it is spelled
  spelled_by : (place : ℕ) (one : Found) (before : Option ℕ) → slice_get found place ≡ Some one → one.before ≡ before → (below : (n : ℕ) (other : Found) → slice_get found n ≡ Some other → other.state < length raw.rows)
      → access_word words one.state ≡ word_before (words_of found) before ++ one.letter ∷ [] → IsSpelled words one.state (spelling_of found before one.letter)
  spelled_by place one None at e below word = word
  spelled_by place one (Some earlier) at e below word =
      let within : earlier < place = subst (λ before. IfSome before (λ n. n < place)) e (back.before place one at) in
      let there : earlier < length found = omega (arith, slice_get_within found place one at) in
      let other = get_or found earlier one in
      let other_at = slice_get-get_or found earlier one there in
      let state = get_or (states_of found) earlier 0 in
      let state_is : state ≡ other.state = state_at found earlier other other_at in
      let before_is : word_at found earlier ≡ access_word words state = word_is earlier other other_at (below earlier other other_at) ∙ ap (access_word words) (sym state_is) in
      let whole : access_word words one.state ≡ access_word words state ++ one.letter ∷ [] = word ∙ ap (λ front. front ++ one.letter ∷ []) before_is in
      let front = reached.least earlier other other_at in
      let state_below : state < length raw.rows = omega (arith, state_is, below earlier other other_at) in
      let nonempty : 0 < length (access_word words state) = omega (arith, front.behaviour.nonempty, ap length before_is) in
      let longer = length-append (access_word words state) (one.letter ∷ []) in
      let mine = reached.least place one at in
      let mine_is = word_is place one at (below place one at) in
      record {
        word = whole;
        is_state = omega (arith, states_are, state_below);
        not_start = elim (cases_lt 0 state) [
          | inl h ↦ h
          | inr h ↦
              let zero_is : state ≡ 0 = omega arith in
              let width = back.widths place one at in
              let leads_front : state_after (automaton_of raw) (access_word words state) ≡ raw.start =
              ap (state_after (automaton_of raw)) (sym before_is) ∙ front.member ∙ sym state_is ∙ zero_is ∙ sym start in
              let leads_letter : state_after (automaton_of raw) (one.letter ∷ []) ≡ one.state =
              ap (λ state. (automaton_of raw).next state one.letter) (sym leads_front) ∙ sym (state_from-append (automaton_of raw) raw.start (access_word words state) (one.letter ∷ []))
              ∙ ap (state_after (automaton_of raw)) (sym whole ∙ sym mine_is) ∙ mine.member in
              absurd (mine.least (one.letter ∷ []) (single raw.arena.slots one.letter width) leads_letter
              (laws.shorter (one.letter ∷ []) (word_at found place) (omega (arith, nonempty, longer, ap length whole, ap length mine_is))))
        ];
        in_order = λ positive. elim (cases_order state one.state) [
          | inl e ↦ absurd (omega (arith, longer, ap length whole, ap (λ state. length (access_word words state)) e))
          | inr rest ↦ elim rest [
            | inl h ↦ h
            | inr h ↦ absurd (asymmetric laws (access_word words one.state) (access_word words state)
                (in_turn one.state state positive h state_below)
                (laws.shorter (access_word words state) (access_word words one.state) (omega (arith, longer, ap length whole))))
          ]
        ];
      }
    where
      -- the words of later states come later
      in_turn : (first second : ℕ) → 0 < first → first < second → second < length raw.rows → Before (access_word words first) (access_word words second)
      in_turn first second positive h l =
          let one : suc (first - 1) ≡ first = omega arith in
          let two : suc (second - 1) ≡ second = omega arith in
          let ordered = c.in_order (first - 1) (second - 1) [] (omega arith) (omega (arith, length-drop 1 words, states_are)) in
          subst (λ n. Before (access_word words n) (access_word words second)) one
          (subst (λ n. Before (access_word words (suc (first - 1))) (access_word words n)) two (dropped words (first - 1) (second - 1) ordered))
        where
          dropped : (words : List Word) (i j : ℕ) → Before (get_or (drop 1 words) i []) (get_or (drop 1 words) j []) → Before (access_word words (suc i)) (access_word words (suc j))
          dropped [] i j b = b
          dropped (word ∷ words) i j b = b

  module _ (below : All (λ state. state < length raw.rows) (states_of found)) (access : List Access) (a : AreSpellings (length raw.rows) found access) where
    state_below : (place : ℕ) (one : Found) → slice_get found place ≡ Some one → one.state < length raw.rows
    state_below place one at =
        let within = slice_get_within found place one at in
        let l = below place 0 (omega (arith, within, length-map found (λ (one : Found). one.state))) in
        omega (arith, l, state_at found place one at)

    -- a state that is found
    found_spelled : (place state : ℕ) → place < length found → get_or (states_of found) place 0 ≡ state → IsSpelled words state (get_or access state Empty)
    found_spelled place state within e =
        let none : Found = record { state = 0; before = None; letter = [] } in
        let one = get_or found place none in
        let at = slice_get-get_or found place none within in
        let same : one.state ≡ state = sym (state_at found place one at) ∙ e in
        let word = sym (word_is place one at (state_below place one at)) ∙ spelled raw.arena.slots found place one back at in
        subst (λ state. IsSpelled words state (get_or access state Empty)) same
        (subst (IsSpelled words one.state) (sym (a.found_ones place one at)) (spelled_by place one one.before at refl state_below word))

    -- one that is not
    empty_spelled : (state : ℕ) → state < length raw.rows → access_word words state ≡ [] → IsSpelled words state (get_or access state Empty)
    empty_spelled state h e =
        subst (IsSpelled words state) (sym (a.others state h (λ place l is.
        let none : Found = record { state = 0; before = None; letter = [] } in
        let one = get_or found place none in
        let at = slice_get-get_or found place none l in
        let same : one.state ≡ state = sym (state_at found place one at) ∙ is in
        let word = word_is place one at (state_below place one at) in
        omega (arith, (reached.least place one at).behaviour.nonempty, ap length (word ∙ ap (access_word words) same ∙ e))))) e

    state_spelled : (state : ℕ) → state < length raw.rows → IsSpelled words state (get_or access state Empty)
    state_spelled state h = by_word (access_word words state) refl
      where
        by_word : (word : Word) → access_word words state ≡ word → IsSpelled words state (get_or access state Empty)
        by_word [] e = empty_spelled state h e
        by_word (letter ∷ word) e =
            let l = least state h (λ n. nothing (sym e ∙ n)) in
            let there = reached.all (access_word words state) l.behaviour in
            let within : there.0 < length found = omega (arith, there.1, length-map found (λ (one : Found). one.state)) in
            found_spelled there.0 state within (get_or_default (states_of found) there.0 0 (state_after (automaton_of raw) (access_word words state)) there.1 ∙ there.2 ∙ l.member)
          where
            nothing : (letter ∷ word) ≡ [] → ⊥
            nothing f = cc

    pub are_spelled : AreSpelled access words
    are_spelled = record {
      count = a.count ∙ sym states_are;
      each = λ state one at.
          let h : state < length raw.rows = omega (arith, slice_get_within access state one at, a.count) in
          subst (IsSpelled words state) (get_or_from_slice_get access state one Empty at) (state_spelled state h);
    }
