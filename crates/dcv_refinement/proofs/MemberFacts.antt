-- Lists of members that are put and mended.
use Rattle.std.proofs.Common.{◌≡◌, inl, inr, ℕ, zero, suc, ◌<◌, ◌≤◌, ◌+◌, ◌↔◌, Bool, true, false, cond, List, [], ◌∷◌, length, map, get_or, set, Vec, Option, Some, Contains, filter, refl, sym, ap, subst, ◌∙◌, arith}
use Rattle.std.proofs.lemmas.Bool.{cases_lt, cases_eq, eqb-true, eq-eqb, true≢false}
use Rattle.std.proofs.lemmas.List.{get_or-set_same, get_or-set_other, length-set}
use Rattle.std.proofs.lemmas.Option.{slice_get-get_or}
use Rattle.std.specs.Option.{option_map_or}
use Rattle.std.proofs.lemmas.List.Elements.{All-contains, All-contains_itself, All-filter, filter_passes, Contains-append_right}
use Rattle.dcv_refinement.specs.NumberLists.{AddsAt, list_at}
use Rattle.dcv_refinement.specs.Members.{list_of, is_in, IsPut, IsMended, HaveTheirOwn}
use Rattle.dcv_refinement.proofs.ListFacts.{list_there, list_else}

-- ---- what is seen of the lists

pub seen_at : {Z : Type 0} (lists : List (Vec ℕ Z)) (at : ℕ) → list_of (map (λ list. list.items) lists) at ≡ list_at lists at
seen_at [] at = refl
seen_at (list ∷ lists) zero = refl
seen_at (list ∷ lists) (suc at) = seen_at lists at

pub seen : {Z : Type 0} (lists : List (Vec ℕ Z)) → list_of (map (λ list. list.items) lists) ≡ list_at lists
seen lists = λ i at. seen_at lists at i

-- the list that is read at a place
pub list_is : {Z : Type 0} (lists : List (Vec ℕ Z)) (block : ℕ) (vector : Vec ℕ Z) → block < length lists → vector ≡ get_or lists block vector → vector.items ≡ list_at lists block
list_is {Z} lists block vector within is =
    sym (ap (λ (found : Option (Vec ℕ Z)). option_map_or (λ one. one.items) found []) (slice_get-get_or lists block vector within ∙ ap Some (sym is)))

-- ---- what a filter keeps

module _ (test : ℕ → Bool) where
  kept_only : (xs : List ℕ) (x : ℕ) → Contains (filter test xs) x → Contains xs x × (test x ≡ true)
  kept_only xs x c = (All-contains (Contains xs) (filter test xs) x (All-filter test (Contains xs) xs (All-contains_itself xs)) c, All-contains (λ x. test x ≡ true) (filter test xs) x (filter_passes test xs) c)

  kept_behind : (y : ℕ) (xs : List ℕ) (x : ℕ) (first : Bool) → Contains (filter test xs) x → Contains (cond first (y ∷ filter test xs) (filter test xs)) x
  kept_behind y xs x true rest = Contains-append_right (y ∷ []) (filter test xs) x rest
  kept_behind y xs x false rest = rest

  kept_all : (xs : List ℕ) (x : ℕ) → Contains xs x → test x ≡ true → Contains (filter test xs) x
  kept_all [] x c passes = absurd (omega (arith, c.1))
  kept_all (y ∷ xs) x (zero, within, is) passes =
      let here : test y ≡ true = ap test is ∙ passes in
      let first : Contains (y ∷ filter test xs) x = (0, omega arith, is) in
      subst (λ (passes : Bool). Contains (cond passes (y ∷ filter test xs) (filter test xs)) x) (sym here) first
  kept_all (y ∷ xs) x (suc k, within, is) passes = kept_behind y xs x (test y) (kept_all xs x (k, omega (arith, within), is) passes)

-- ---- members of a block

is_in_block : (blocks : List ℕ) (block member : ℕ) → is_in blocks block member ≡ true → (member < length blocks) × (get_or blocks member 0 ≡ block)
is_in_block [] block member e = absurd (true≢false (sym e))
is_in_block (own ∷ blocks) block zero e = (omega arith, eqb-true own block e)
is_in_block (own ∷ blocks) block (suc member) e = let rest = is_in_block blocks block member e in (omega (arith, rest.0), rest.1)

in_block_is : (blocks : List ℕ) (block member : ℕ) → member < length blocks → get_or blocks member 0 ≡ block → is_in blocks block member ≡ true
in_block_is [] block member within is = absurd (omega arith)
in_block_is (own ∷ blocks) block zero within is = eq-eqb own block is
in_block_is (own ∷ blocks) block (suc member) within is = in_block_is blocks block member (omega (arith, within)) is

module _ {Z : Type 0} (blocks : List ℕ) (block : ℕ) (lists : List (Vec ℕ Z)) where
  -- a list that is kept in part
  pub mended : (own : Vec ℕ Z) → block < length lists → own.items ≡ filter (is_in blocks block) (list_at lists block) → IsMended blocks block (list_at lists) (list_at (set lists block own))
  mended own within is = record {
    own = λ member.
        let there : list_at (set lists block own) block ≡ filter (is_in blocks block) (list_at lists block) = list_there lists block 0 own within ∙ is in (
          (λ c.
              let both = kept_only (is_in blocks block) (list_at lists block) member (subst (λ list. Contains list member) there c) in
              (both.0, is_in_block blocks block member both.1)),
          (λ both. subst (λ list. Contains list member) (sym there) (kept_all (is_in blocks block) (list_at lists block) member both.0 (in_block_is blocks block member both.1.0 both.1.1))),
        );
    others = λ other differs. list_else lists block 0 own within other differs;
  }

pub put_grown : {Z : Type 0} (old grown new : List (Vec ℕ Z)) (block member : ℕ) → ((at : ℕ) → list_at grown at ≡ list_at old at) → block < length grown → AddsAt grown new block member
    → IsPut (list_at old) block member (list_at new)
put_grown old grown new block member same within adds = record {
  keeps = λ at one c. adds.keeps at one (subst (λ list. Contains list one) (sym (same at)) c);
  has = adds.has within;
  only = λ at one c. elim (adds.only at one c) [
    | inl before ↦ inl (subst (λ list. Contains list one) (same at) before)
    | inr here ↦ inr here
  ];
}

-- ---- each list has all of its block

module _ (blocks : List ℕ) (old new : ℕ → List ℕ) where
  pub own_mended : (block : ℕ) → IsMended blocks block old new → HaveTheirOwn blocks old → HaveTheirOwn blocks new
  own_mended block is was member within = elim (cases_eq (get_or blocks member 0) block) [
    | inl same ↦
        let there = subst (λ at. Contains (old at) member) same (was member within) in
        subst (λ at. Contains (new at) member) (sym same) ((is.own member).1 (there, (within, same)))
    | inr other ↦ subst (λ list. Contains list member) (sym (is.others (get_or blocks member 0) other)) (was member within)
  ]

  -- what is left after mending is the block
  pub block_mended : (block : ℕ) → IsMended blocks block old new → HaveTheirOwn blocks old → (member : ℕ) → Contains (new block) member ↔ ((member < length blocks) × (get_or blocks member 0 ≡ block))
  block_mended block is was member = (
    (λ c. ((is.own member).0 c).1),
    (λ both. (is.own member).1 (subst (λ at. Contains (old at) member) both.1 (was member both.0), both)),
  )

  -- a member moves to another block
  pub own_put : (block member : ℕ) → member < length blocks → IsPut old block member new → HaveTheirOwn blocks old → HaveTheirOwn (set blocks member block) new
  own_put block member within put was one h = elim (cases_eq one member) [
    | inl e ↦
        let here : Contains (new (get_or (set blocks member block) member 0)) member = subst (λ at. Contains (new at) member) (sym (get_or-set_same blocks member block 0 within)) put.has in
        subst (λ one. Contains (new (get_or (set blocks member block) one 0)) one) (sym e) here
    | inr ne ↦
        let still : one < length blocks = omega (arith, h, length-set blocks member block) in
        subst (λ at. Contains (new at) one) (sym (get_or-set_other blocks member one block 0 ne)) (put.keeps (get_or blocks one 0) one (was one still))
  ]

-- the members so far are in the lists of their blocks, and one more
pub own_more : (blocks : List ℕ) (old new : ℕ → List ℕ) (count : ℕ) → IsPut old (get_or blocks count 0) count new
    → ((member : ℕ) → member < count → Contains (old (get_or blocks member 0)) member) → (member : ℕ) → member < count + 1 → Contains (new (get_or blocks member 0)) member
own_more blocks old new count put was member h = elim (cases_lt member count) [
  | inl before ↦ put.keeps (get_or blocks member 0) member (was member before)
  | inr last ↦ let same : count ≡ member = omega arith in subst (λ member. Contains (new (get_or blocks member 0)) member) same put.has
]
