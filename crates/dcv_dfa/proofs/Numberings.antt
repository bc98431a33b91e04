-- What a visit adds: the nodes below a ref that have no number yet, children first.
use Rattle.std.proofs.Common.{◌≡◌, ◌≢◌, ℕ, zero, suc, ◌<◌, ◌≤◌, Bool, true, false, cond, not, nat_lt, List, [], ◌∷◌, ◌++◌, length, take, drop, fold, None, Some, slice_get, Contains, inl, inr, refl, sym, ap, subst, ◌∙◌, ◌⊎◌, arith}
use Rattle.std.specs.Cmp.{unsigned_Decides}
use Rattle.std.specs.List.{All, AllPairs, position, position_or_len}
use Rattle.std.specs.Option.{unwrap_or}
use Rattle.std.proofs.lemmas.Bool.{cases_lt, cases_Bool, false≢true, ltb-false}
use Rattle.std.proofs.lemmas.List.{append-nil, append_assoc, length_push, take-append-le, take-append-drop, take_at, get_or_append_left, get_or_push}
use Rattle.std.proofs.lemmas.List.Elements.{All-nil, All-cons, All-push, All-append, All-weaker, All-contains, Contains-append_left, Contains-append_cases, Contains-push, Contains-get_or}
use Rattle.std.proofs.lemmas.List.Quantifiers.{all_pairs_push}
use Rattle.std.proofs.lemmas.List.Sums.{prefix_len-le-length}
use Rattle.std.proofs.lemmas.Map.Made.{is_member-Decides}
use Rattle.std.proofs.lemmas.Option.{slice_get_within, slice_get-get_or, get_or_from_slice_get}
use Rattle.dcv_arena.specs.Arena.{ArenaValue, IsReduced, IsRef}
use Rattle.dcv_arena.specs.declared.nodes.Ref.{Ref}
use Rattle.dcv_arena.specs.declared.nodes.Ref.TheVariants.{Leaf, Place}
use Rattle.dcv_arena.proofs.Refs.{rank, rank_before, is_ref}
use Rattle.dcv_dfa.specs.NodeLines.{lo_of, hi_of, is_numbered, visit, numbered}
use Rattle.dcv_dfa.proofs.Visits.{has_children, visit-node}

-- ---- numbers

-- where no element passes, the first place after the list
pub position_or_end : (p : ℕ → Bool) (xs : List ℕ) → unwrap_or (position p xs) (length xs) ≡ position_or_len p xs
position_or_end p xs = by (nat_lt (position_or_len p xs) (length xs)) refl
  where
    by : (found : Bool) → nat_lt (position_or_len p xs) (length xs) ≡ found → unwrap_or (cond found (Some (position_or_len p xs)) None) (length xs) ≡ position_or_len p xs
    by true e = refl
    by false e = omega (arith, ltb-false (position_or_len p xs) (length xs) e, prefix_len-le-length (λ x. not (p x)) xs)

-- ---- places that have a number

pub numbered_there : (places : List ℕ) (place : ℕ) → is_numbered places place ≡ true → Contains places place
numbered_there places place = (is_member-Decides unsigned_Decides places place).0

pub there_numbered : (places : List ℕ) (place : ℕ) → Contains places place → is_numbered places place ≡ true
there_numbered places place = (is_member-Decides unsigned_Decides places place).1

pub absent_numbered : (places : List ℕ) (place : ℕ) → (Contains places place → ⊥) → is_numbered places place ≡ false
absent_numbered places place absent =
    elim (cases_Bool (is_numbered places place)) [
      | inl there ↦ absurd (absent (numbered_there places place there))
      | inr none ↦ none
    ]

-- a leaf, or a place that has a number
abbrev pub HasNumber : List ℕ → Ref → Type 0
HasNumber places (Leaf state) = Unit {0}
HasNumber places (Place place) = Contains places place

pub has_more : (places more : List ℕ) (ref : Ref) → HasNumber places ref → HasNumber (places ++ more) ref
has_more places more (Leaf state) has = tt
has_more places more (Place place) has = Contains-append_left places more place has

-- each place is a node's, stands once, and has the children of its node before it
pub record IsNumbering (arena : ArenaValue) (places : List ℕ) : Type 0 where
  pub within : All (λ place. place < length arena.nodes) places
  pub once : AllPairs (λ first second. first ≢ second) places
  pub lo_first : (number place : ℕ) → slice_get places number ≡ Some place → HasNumber (take number places) (lo_of arena place)
  pub hi_first : (number place : ℕ) → slice_get places number ≡ Some place → HasNumber (take number places) (hi_of arena place)

-- a place at the end, or before it
last_or_before : (places : List ℕ) (last number place : ℕ) → slice_get (places ++ last ∷ []) number ≡ Some place
    → ((number < length places) × (slice_get places number ≡ Some place)) ⊎ ((number ≡ length places) × (last ≡ place))
last_or_before places last number place e =
    let within = slice_get_within (places ++ last ∷ []) number place e in
    let at = get_or_from_slice_get (places ++ last ∷ []) number place 0 e in
    elim (cases_lt number (length places)) [
      | inl before ↦ inl (before, slice_get-get_or places number 0 before ∙ ap Some (sym (get_or_append_left places (last ∷ []) 0 number before) ∙ at))
      | inr after ↦
          let end : length places ≡ number = omega (arith, length_push places last) in
          inr (sym end, sym (get_or_push places last 0 number end) ∙ at)
    ]

module _ (arena : ArenaValue) where
  -- where the children have numbers, a place that has none gets the next
  pub one_more : (places : List ℕ) (place : ℕ) → place < length arena.nodes → IsNumbering arena places
      → (Contains places place → ⊥) → HasNumber places (lo_of arena place) → HasNumber places (hi_of arena place) → IsNumbering arena (places ++ place ∷ [])
  one_more places place below is absent lo hi = record {
    within = All-push (λ place. place < length arena.nodes) places place is.within below;
    once = all_pairs_push (λ first second. first ≢ second) places place is.once
        (λ k d before same. absent (subst (Contains places) same (Contains-get_or places k d before)));
    lo_first = first (lo_of arena) is.lo_first lo;
    hi_first = first (hi_of arena) is.hi_first hi;
  }
    where
      first : (child : ℕ → Ref) → ((number place : ℕ) → slice_get places number ≡ Some place → HasNumber (take number places) (child place))
          → HasNumber places (child place) → (number other : ℕ) → slice_get (places ++ place ∷ []) number ≡ Some other
          → HasNumber (take number (places ++ place ∷ [])) (child other)
      first child before own number other at =
          elim (last_or_before places place number other at) [
            | inl earlier ↦ subst (λ front. HasNumber front (child other)) (sym (take-append-le number places (place ∷ []) (omega (arith, earlier.0)))) (before number other earlier.1)
            | inr last ↦
                subst (λ front. HasNumber front (child other)) (sym (take_at places (place ∷ []) number (sym last.0)))
                (subst (λ at. HasNumber places (child at)) last.1 own)
          ]

  -- a numbering has the children of each of its nodes
  pub has_child : (places : List ℕ) → IsNumbering arena places → (place : ℕ) → Contains places place
      → HasNumber places (lo_of arena place) × HasNumber places (hi_of arena place)
  has_child places is place there =
      let at : slice_get places there.0 ≡ Some place = slice_get-get_or places there.0 place there.1 ∙ ap Some there.2 in
      (whole (lo_of arena place) there.0 (is.lo_first there.0 place at), whole (hi_of arena place) there.0 (is.hi_first there.0 place at))
    where
      whole : (ref : Ref) (number : ℕ) → HasNumber (take number places) ref → HasNumber places ref
      whole (Leaf state) number has = tt
      whole (Place place) number has =
          subst (λ all. Contains all place) (take-append-drop number places) (Contains-append_left (take number places) (drop number places) place has)

-- ---- visits

-- what is after a visit to a ref, from what was before
pub record IsVisited (arena : ArenaValue) (ref : Ref) (old new : List ℕ) : Type 0 where
  pub more : List ℕ
  pub adds : new ≡ old ++ more
  -- no node is added but from the ref's down
  pub below : All (λ place. place < rank ref) more
  pub has : HasNumber new ref
  pub numbering : IsNumbering arena old → IsNumbering arena new

-- a place that has no number yet, and is not one of those added
pub still_absent : {arena : ArenaValue} {ref : Ref} {old new : List ℕ} (visited : IsVisited arena ref old new) (place : ℕ) → rank ref ≤ place → (Contains old place → ⊥) → Contains new place → ⊥
still_absent {arena} {ref} {old} {new} visited place later absent there =
    elim (Contains-append_cases old visited.more place (subst (λ places. Contains places place) visited.adds there)) [
      | inl before ↦ absent before
      | inr added ↦ omega (arith, All-contains (λ place. place < rank ref) visited.more place visited.below added)
    ]

module _ (arena : ArenaValue) (is : IsReduced arena) where
  nothing_added : (ref : Ref) (places : List ℕ) → HasNumber places ref → IsVisited arena ref places places
  nothing_added ref places has = record {
    more = [];
    adds = sym (append-nil places);
    below = All-nil (λ place. place < rank ref);
    has = has;
    numbering = λ numbering. numbering;
  }

  node_added : (place : ℕ) (old middle new : List ℕ) → place < length arena.nodes → (Contains old place → ⊥)
      → IsVisited arena (lo_of arena place) old middle → IsVisited arena (hi_of arena place) middle new → IsVisited arena (Place place) old (new ++ place ∷ [])
  node_added place old middle new within absent lo hi =
      let facts = has_children arena is place within in
      let lo_rank = rank_before place (lo_of arena place) facts.lo_before in
      let hi_rank = rank_before place (hi_of arena place) facts.hi_before in
      record {
        more = lo.more ++ (hi.more ++ place ∷ []);
        adds =
            ap (λ all. all ++ place ∷ []) (hi.adds ∙ ap (λ all. all ++ hi.more) lo.adds ∙ append_assoc old lo.more hi.more)
            ∙ append_assoc old (lo.more ++ hi.more) (place ∷ [])
            ∙ ap (λ all. old ++ all) (append_assoc lo.more hi.more (place ∷ []));
        below = All-append (λ other. other < suc place) lo.more (hi.more ++ place ∷ [])
            (All-weaker (λ other. other < rank (lo_of arena place)) (λ other. other < suc place) (λ other h. omega (arith, h, lo_rank)) lo.more lo.below)
            (All-push (λ other. other < suc place) hi.more place
            (All-weaker (λ other. other < rank (hi_of arena place)) (λ other. other < suc place) (λ other h. omega (arith, h, hi_rank)) hi.more hi.below) (omega arith));
        has = Contains-push new place;
        numbering = λ numbering.
            one_more arena new place within (hi.numbering (lo.numbering numbering))
            (still_absent hi place hi_rank (still_absent lo place lo_rank absent))
            (subst (λ places. HasNumber places (lo_of arena place)) (sym hi.adds) (has_more middle hi.more (lo_of arena place) lo.has))
            hi.has;
      }

  visited_within : (count : ℕ) (ref : Ref) → IsRef arena ref → rank ref ≤ count → (places : List ℕ) → IsVisited arena ref places (visit arena places ref)
  visited_within count (Leaf state) one h places = nothing_added (Leaf state) places tt
  visited_within zero (Place place) one h places = absurd (omega arith)
  visited_within (suc count) (Place place) one h places =
      let facts = has_children arena is place one in
      let lo = lo_of arena place in
      let hi = hi_of arena place in
      let first = visited_within count lo (is_ref arena is place lo one facts.lo_before) (omega (arith, rank_before place lo facts.lo_before)) places in
      let middle = visit arena places lo in
      let last = visited_within count hi (is_ref arena is place hi one facts.hi_before) (omega (arith, rank_before place hi facts.hi_before)) middle in
      let new = visit arena middle hi in
      let by : (found : Bool) → is_numbered places place ≡ found → IsVisited arena (Place place) places (cond found places (new ++ place ∷ [])) = elim [
        | true ↦ λ at. nothing_added (Place place) places (numbered_there places place at)
        | false ↦ λ at. node_added place places middle new one (λ there. false≢true (sym at ∙ there_numbered places place there)) first last
      ] in
      subst (IsVisited arena (Place place) places) (sym (visit-node arena is place one places)) (by (is_numbered places place) refl)

  pub visited : (ref : Ref) → IsRef arena ref → (places : List ℕ) → IsVisited arena ref places (visit arena places ref)
  visited ref one places = visited_within (rank ref) ref one (omega arith) places

  -- ---- rows

  -- what is after visits to these refs, one after another
  pub record AreVisited (refs : List Ref) (old new : List ℕ) : Type 0 where
    pub more : List ℕ
    pub adds : new ≡ old ++ more
    pub has : All (HasNumber new) refs
    pub numbering : IsNumbering arena old → IsNumbering arena new

  all_visited : (refs : List Ref) → All (IsRef arena) refs → (places : List ℕ) → AreVisited refs places (fold (visit arena) places refs)
  all_visited [] ones places = record {
    more = [];
    adds = sym (append-nil places);
    has = All-nil (HasNumber places);
    numbering = λ numbering. numbering;
  }
  all_visited (ref ∷ refs) ones places =
      let first = visited ref (ones 0 ref (omega arith)) places in
      let rest = all_visited refs (λ i d below. ones (suc i) d (omega arith)) (visit arena places ref) in
      record {
        more = first.more ++ rest.more;
        adds = rest.adds ∙ ap (λ all. all ++ rest.more) first.adds ∙ append_assoc places first.more rest.more;
        has = All-cons (HasNumber (fold (visit arena) (visit arena places ref) refs)) ref refs
            (subst (λ places. HasNumber places ref) (sym rest.adds) (has_more (visit arena places ref) rest.more ref first.has))
            rest.has;
        numbering = λ numbering. rest.numbering (first.numbering numbering);
      }

  no_numbers : IsNumbering arena []
  no_numbers = record {
    within = All-nil (λ place. place < length arena.nodes);
    once = λ i j d before within. absurd (omega arith);
    lo_first = λ number place at. absurd (omega (arith, slice_get_within [] number place at));
    hi_first = λ number place at. absurd (omega (arith, slice_get_within [] number place at));
  }

  pub rows_numbered : (rows : List Ref) → All (IsRef arena) rows → IsNumbering arena (numbered arena rows) × All (HasNumber (numbered arena rows)) rows
  rows_numbered rows ones =
      let all = all_visited rows ones [] in
      (all.numbering no_numbers, all.has)

  -- ---- what goes from nodes to their children

  -- what is true of a ref, and goes from each node to its children, is true of all that is added
  module _ (P : Ref → Type 0) (goes : (place : ℕ) → place < length arena.nodes → P (Place place) → P (lo_of arena place) × P (hi_of arena place)) where
    abbrev Holds : ℕ → Type 0
    Holds place = P (Place place)

    holds_within : (count : ℕ) (ref : Ref) → IsRef arena ref → rank ref ≤ count → P ref → (places : List ℕ) → All Holds places → All Holds (visit arena places ref)
    holds_within count (Leaf state) one h its places all = all
    holds_within zero (Place place) one h its places all = absurd (omega arith)
    holds_within (suc count) (Place place) one h its places all =
        let facts = has_children arena is place one in
        let lo = lo_of arena place in
        let hi = hi_of arena place in
        let children = goes place one its in
        let middle = visit arena places lo in
        let new = visit arena middle hi in
        let first = holds_within count lo (is_ref arena is place lo one facts.lo_before) (omega (arith, rank_before place lo facts.lo_before)) children.0 places all in
        let last = holds_within count hi (is_ref arena is place hi one facts.hi_before) (omega (arith, rank_before place hi facts.hi_before)) children.1 middle first in
        let by : (found : Bool) → All Holds (cond found places (new ++ place ∷ [])) = elim [
          | true ↦ all
          | false ↦ All-push Holds new place last its
        ] in
        subst (All Holds) (sym (visit-node arena is place one places)) (by (is_numbered places place))

    all_hold : (rows : List Ref) → All (IsRef arena) rows → All P rows → (places : List ℕ) → All Holds places → All Holds (fold (visit arena) places rows)
    all_hold [] ones its places all = all
    all_hold (ref ∷ rows) ones its places all =
        all_hold rows (λ i d below. ones (suc i) d (omega arith)) (λ i d below. its (suc i) d (omega arith)) (visit arena places ref)
        (holds_within (rank ref) ref (ones 0 ref (omega arith)) (omega arith) (its 0 ref (omega arith)) places all)

    pub numbered_hold : (rows : List Ref) → All (IsRef arena) rows → All P rows → All Holds (numbered arena rows)
    numbered_hold rows ones its = all_hold rows ones its [] (All-nil Holds)
