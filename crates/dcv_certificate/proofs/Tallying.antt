-- What a tally of marks knows after one mark more, and that blocks which are counted in full are told apart by no letter.
use Rattle.std.proofs.Common.{◌≡◌, ◌≢◌, ◌⊎◌, inl, inr, ℕ, zero, suc, ◌<◌, ◌≤◌, ◌+◌, ◌==◌, ◌||◌, ◌&&◌, Bool, true, false, if◌then◌else◌, List, [], ◌∷◌, ◌++◌, length, get_or, All, Option, None, Some, refl, ap, sym, subst, ◌∙◌, arith}
use Rattle.std.proofs.lemmas.Bool.{cases_eq, cases_Bool, eq-eqb, ne_eqb}
use Rattle.std.proofs.lemmas.List.Elements.{All-push}
use Rattle.std.proofs.lemmas.List.Folds.{list_any-append}
use Rattle.std.proofs.lemmas.Option.{same_Some}
use Rattle.dcv_arena.specs.Arena.{ArenaValue, value_of}
use Rattle.dcv_arena.specs.declared.nodes.Ref.{Ref}
use Rattle.dcv_refinement.specs.Members.{block_of}
use Rattle.dcv_certificate.specs.Separation.{count_below}
use Rattle.dcv_certificate.specs.Marks.{marked}
use Rattle.dcv_certificate.specs.Tallies.{number_of, HasNoOther, has_mark, is_counted, IsTally, IsAdded, AreSizes, AreMarkedAlike}
use Rattle.dcv_certificate.proofs.Counting.{count_le, count_lt}
use Rattle.dcv_certificate.proofs.Truths.{or_left, or_right, or_neither, and_second, and_parts, and_both}

or_nothing : (b : Bool) → (b || false) ≡ b
or_nothing true = refl
or_nothing false = refl

has_mark-push : (marks : List (ℕ × Ref)) (state : ℕ) (mark : Ref) (other : ℕ) → has_mark (marks ++ (state, mark) ∷ []) other ≡ (has_mark marks other || (state == other))
has_mark-push marks state mark other =
    list_any-append (λ (mark : ℕ × Ref). mark.0 == other) marks ((state, mark) ∷ []) ∙ ap (λ b. has_mark marks other || b) (or_nothing (state == other))

module _ (states : ℕ) (blocks : List ℕ) (at new_at : ℕ → Option (Ref × ℕ)) (met new_met : ℕ → Bool) (marks : List (ℕ × Ref)) (state : ℕ) (mark : Ref)
    (t : IsTally states blocks at met marks) (a : IsAdded at met state (block_of blocks state) mark new_at new_met) (below : state < states) where
  more_counted : (other n : ℕ) → is_counted blocks marks other n ≡ true → is_counted blocks (marks ++ (state, mark) ∷ []) other n ≡ true
  more_counted other n e =
      let both = and_parts (block_of blocks n == other) (has_mark marks n) e in
      and_both (block_of blocks n == other) (has_mark (marks ++ (state, mark) ∷ []) n) both.0 (has_mark-push marks state mark n ∙ or_left (has_mark marks n) (state == n) both.1)

  met_then : (other : ℕ) → new_met other ≡ has_mark (marks ++ (state, mark) ∷ []) other
  met_then other = elim (cases_eq state other) [
    | inl e ↦ ap new_met (sym e) ∙ a.met_here ∙ sym (has_mark-push marks state mark other ∙ or_right (has_mark marks other) (state == other) (eq-eqb state other e))
    | inr ne ↦ a.met_others other (λ e. ne (sym e)) ∙ t.met_ones other ∙ sym (has_mark-push marks state mark other ∙ or_neither (has_mark marks other) (state == other) (ne_eqb state other ne))
  ]

  some_not_none : (entry : Ref × ℕ) → Some entry ≡ None → ⊥
  some_not_none entry e = cc

  others_then : (other : ℕ) → new_at other ≡ None → All (λ (m : ℕ × Ref). block_of blocks m.0 ≢ other) (marks ++ (state, mark) ∷ [])
  others_then other none = elim (cases_eq other (block_of blocks state)) [
    | inl e ↦ absurd (some_not_none (mark, a.number) (sym a.here ∙ ap new_at (sym e) ∙ none))
    | inr ne ↦ All-push (λ (m : ℕ × Ref). block_of blocks m.0 ≢ other) marks (state, mark) (t.others other (sym (a.others other ne) ∙ none)) (λ e. ne (sym e))
  ]

  earlier_alike : (before : Option (Ref × ℕ)) → at (block_of blocks state) ≡ before → All (λ (m : ℕ × Ref). block_of blocks m.0 ≡ block_of blocks state → m.1 ≡ mark) marks
  earlier_alike None e = λ i d h same. absurd (t.others (block_of blocks state) e i d h same)
  earlier_alike (Some entry) e = λ i d h same. t.alike (block_of blocks state) entry e i d h same ∙ subst (λ before. HasNoOther before mark) e a.alone

  alike_then : (other : ℕ) (entry : Ref × ℕ) → new_at other ≡ Some entry → All (λ (m : ℕ × Ref). block_of blocks m.0 ≡ other → m.1 ≡ entry.0) (marks ++ (state, mark) ∷ [])
  alike_then other entry is = elim (cases_eq other (block_of blocks state)) [
    | inl e ↦
        let same : (mark, a.number) ≡ entry = same_Some (mark, a.number) entry (sym a.here ∙ ap new_at (sym e) ∙ is) in
        subst (λ other. All (λ (m : ℕ × Ref). block_of blocks m.0 ≡ other → m.1 ≡ entry.0) (marks ++ (state, mark) ∷ [])) (sym e)
        (subst (λ (entry : Ref × ℕ). All (λ (m : ℕ × Ref). block_of blocks m.0 ≡ block_of blocks state → m.1 ≡ entry.0) (marks ++ (state, mark) ∷ [])) same
        (All-push (λ (m : ℕ × Ref). block_of blocks m.0 ≡ block_of blocks state → m.1 ≡ mark) marks (state, mark) (earlier_alike (at (block_of blocks state)) refl) (λ e. refl)))
    | inr ne ↦ All-push (λ (m : ℕ × Ref). block_of blocks m.0 ≡ other → m.1 ≡ entry.0) marks (state, mark) (t.alike other entry (sym (a.others other ne) ∙ is)) (λ e. absurd (ne (sym e)))
  ]

  counted_then : (other : ℕ) → number_of (new_at other) ≤ count_below states (is_counted blocks (marks ++ (state, mark) ∷ []) other)
  counted_then other =
      let more = marks ++ (state, mark) ∷ [] in
      let le = count_le states (is_counted blocks marks other) (is_counted blocks more other) (λ n h e. more_counted other n e) in
      elim (cases_eq other (block_of blocks state)) [
        | inl e ↦
            let is : number_of (new_at other) ≡ a.number = ap (λ other. number_of (new_at other)) e ∙ ap number_of a.here in
            let was = t.counted other in
            let before : number_of (at (block_of blocks state)) ≡ number_of (at other) = ap (λ other. number_of (at other)) (sym e) in
            elim (cases_Bool (met state)) [
              | inl there ↦
                  let bound : a.number ≤ number_of (at (block_of blocks state)) + 0 = subst (λ (b : Bool). a.number ≤ number_of (at (block_of blocks state)) + (if b then 0 else 1)) there a.bound in
                  omega (arith, is, was, before, bound, le)
              | inr fresh ↦
                  let bound : a.number ≤ number_of (at (block_of blocks state)) + 1 = subst (λ (b : Bool). a.number ≤ number_of (at (block_of blocks state)) + (if b then 0 else 1)) fresh a.bound in
                  let lt = count_lt states (is_counted blocks marks other) (is_counted blocks more other) (λ n h e. more_counted other n e) state below
                  (and_second (block_of blocks state == other) (has_mark marks state) (sym (t.met_ones state) ∙ fresh))
                  (and_both (block_of blocks state == other) (has_mark more state) (eq-eqb (block_of blocks state) other (sym e))
                  (has_mark-push marks state mark state ∙ or_right (has_mark marks state) (state == state) (eq-eqb state state refl))) in
                  omega (arith, is, was, before, bound, lt)
            ]
        | inr ne ↦ omega (arith, ap number_of (a.others other ne), t.counted other, le)
      ]

  pub tally_more : IsTally states blocks new_at new_met (marks ++ (state, mark) ∷ [])
  tally_more = record { met_ones = met_then; others = others_then; alike = alike_then; counted = counted_then }

-- ---- blocks in full

-- no state of the block has a mark
marked_none : (arena : ArenaValue) (blocks : List ℕ) (letter : List Bool) (block state : ℕ) (marks : List (ℕ × Ref)) → block_of blocks state ≡ block
    → All (λ (m : ℕ × Ref). block_of blocks m.0 ≢ block) marks → marked arena marks letter state ≡ false
marked_none arena blocks letter block state [] e none = refl
marked_none arena blocks letter block state (m ∷ marks) e none =
    let rest = marked_none arena blocks letter block state marks e (λ i d h. none (suc i) d (omega arith)) in
    let other = ne_eqb m.0 state (λ same. none 0 m (omega arith) (ap (block_of blocks) same ∙ e)) in
    λ i. (other i && (value_of arena m.1 letter == 1)) || rest i

both_or : (here has value : Bool) → ((here && value) || (has && value)) ≡ ((here || has) && value)
both_or true true true = refl
both_or true true false = refl
both_or true false true = refl
both_or true false false = refl
both_or false has value = refl

-- each mark of the block's states is of one function
marked_alone : (arena : ArenaValue) (blocks : List ℕ) (letter : List Bool) (block state : ℕ) (mark : Ref) (marks : List (ℕ × Ref)) → block_of blocks state ≡ block
    → All (λ (m : ℕ × Ref). block_of blocks m.0 ≡ block → m.1 ≡ mark) marks → marked arena marks letter state ≡ (has_mark marks state && (value_of arena mark letter == 1))
marked_alone arena blocks letter block state mark [] e all = refl
marked_alone arena blocks letter block state mark (m ∷ marks) e all =
    let rest = marked_alone arena blocks letter block state mark marks e (λ i d h. all (suc i) d (omega arith)) in
    let value = value_of arena mark letter == 1 in
    elim (cases_eq m.0 state) [
      | inl same ↦
          let is : m.1 ≡ mark = all 0 m (omega arith) (ap (block_of blocks) same ∙ e) in
          (λ i. ((m.0 == state) && (value_of arena (is i) letter == 1)) || rest i) ∙ both_or (m.0 == state) (has_mark marks state) value
      | inr ne ↦
          let not = ne_eqb m.0 state ne in
          (λ i. (not i && (value_of arena m.1 letter == 1)) || rest i) ∙ sym (λ i. (not i || has_mark marks state) && value)
    ]

-- a block that has a mark is counted in full
full_at : (blocks : List ℕ) (at : ℕ → Option (Ref × ℕ)) (sizes : List ℕ) (block : ℕ) (marks : List (ℕ × Ref))
    → All (λ (m : ℕ × Ref). get_or sizes (block_of blocks m.0) 0 ≤ number_of (at (block_of blocks m.0))) marks
    → (All (λ (m : ℕ × Ref). block_of blocks m.0 ≢ block) marks) ⊎ (get_or sizes block 0 ≤ number_of (at block))
full_at blocks at sizes block [] all = inl (λ i d h. absurd (omega arith))
full_at blocks at sizes block (m ∷ marks) all = elim (cases_eq (block_of blocks m.0) block) [
  | inl e ↦ inr (subst (λ block. get_or sizes block 0 ≤ number_of (at block)) e (all 0 m (omega arith)))
  | inr ne ↦ elim (full_at blocks at sizes block marks (λ i d h. all (suc i) d (omega arith))) [
    | inl none ↦ inl (none_more (λ (m : ℕ × Ref). block_of blocks m.0 ≢ block) m marks ne none)
    | inr full ↦ inr full
  ]
]
  where
    none_more : (P : ℕ × Ref → Type 0) (m : ℕ × Ref) (marks : List (ℕ × Ref)) → P m → All P marks → All P (m ∷ marks)
    none_more P m marks p all zero d h = p
    none_more P m marks p all (suc i) d h = all i d (omega arith)

pub alike_in_full : (blocks : List ℕ) (count : ℕ) (sizes : List ℕ) (at : ℕ → Option (Ref × ℕ)) (met : ℕ → Bool) (marks : List (ℕ × Ref))
    → IsTally (length blocks) blocks at met marks → AreSizes blocks count sizes → All (λ block. block < count) blocks
    → All (λ (m : ℕ × Ref). get_or sizes (block_of blocks m.0) 0 ≤ number_of (at (block_of blocks m.0))) marks
    → AreMarkedAlike blocks marks
alike_in_full blocks count sizes at met marks t s low full arena letter first second first_is second_is together =
    elim (full_at blocks at sizes (block_of blocks first) marks full) [
      | inl none ↦
          marked_none arena blocks letter (block_of blocks first) first marks refl none
          ∙ sym (marked_none arena blocks letter (block_of blocks first) second marks (sym together) none)
      | inr all ↦ by_entry (at (block_of blocks first)) refl all
    ]
  where
    -- each state of the block has a mark
    has_it : (state : ℕ) → state < length blocks → block_of blocks state ≡ block_of blocks first → get_or sizes (block_of blocks first) 0 ≤ number_of (at (block_of blocks first)) → has_mark marks state ≡ true
    has_it state h same all = elim (cases_Bool (has_mark marks state)) [
      | inl there ↦ there
      | inr no_mark ↦
          let here = block_of blocks first in
          let lt = count_lt (length blocks) (is_counted blocks marks here) (λ n. block_of blocks n == here)
          (λ n l e. (and_parts (block_of blocks n == here) (has_mark marks n) e).0) state h
          (and_second (block_of blocks state == here) (has_mark marks state) no_mark) (eq-eqb (block_of blocks state) here same) in
          absurd (omega (arith, lt, t.counted here, all, s.are here (low first 0 first_is)))
    ]

    by_entry : (entry : Option (Ref × ℕ)) → at (block_of blocks first) ≡ entry → get_or sizes (block_of blocks first) 0 ≤ number_of (at (block_of blocks first))
        → marked arena marks letter first ≡ marked arena marks letter second
    by_entry None e all =
        let none = t.others (block_of blocks first) e in
        marked_none arena blocks letter (block_of blocks first) first marks refl none ∙ sym (marked_none arena blocks letter (block_of blocks first) second marks (sym together) none)
    by_entry (Some entry) e all =
        let alone = t.alike (block_of blocks first) entry e in
        let one = has_it first first_is refl all in
        let other = has_it second second_is (sym together) all in
        let value = value_of arena entry.0 letter == 1 in
        marked_alone arena blocks letter (block_of blocks first) first entry.0 marks refl alone ∙ ap (λ b. b && value) (one ∙ sym other)
        ∙ sym (marked_alone arena blocks letter (block_of blocks first) second entry.0 marks (sym together) alone)
