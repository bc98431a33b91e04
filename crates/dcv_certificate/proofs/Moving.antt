-- Blocks after states were given new numbers.
use Rattle.std.proofs.Common.{◌≡◌, ◌≢◌, ◌⊎◌, inl, inr, ◌↔◌, ℕ, zero, suc, ◌<◌, ◌≤◌, ◌+◌, ◌==◌, Bool, true, false, cond, nat_eq, List, [], ◌∷◌, ◌++◌, length, get_or, set, take, All, Option, Some, None, SomeIff, slice_get, refl, ap, sym, subst, ◌∙◌, arith}
use Rattle.std.specs.List.{list_any, AllByRecursion, IsDistinct}
use Rattle.indexmap.specs.IndexSet.{insert_key}
use Rattle.std.proofs.lemmas.Bool.{cases_lt, cases_eq, cases_Bool, true≢false, eqb-true, eq-eqb, ne_eqb}
use Rattle.std.proofs.lemmas.List.{get_or-set_same, get_or-set_other, length-set, length-append, get_or_default}
use Rattle.std.proofs.lemmas.List.Folds.{list_any_more}
use Rattle.std.proofs.lemmas.Option.{same_Some, slice_get_within}
use Rattle.dcv_refinement.specs.Members.{block_of}
use Rattle.dcv_certificate.specs.Separation.{has, IsSplit}
use Rattle.dcv_certificate.specs.Partition.{OnceEach, IsBehind, IsMovedTo}
use Rattle.dcv_certificate.specs.Tallies.{count_up}
use Rattle.dcv_certificate.proofs.Truths.{or_right, or_neither}

-- ---- members of a list

pub has_more_same : (numbers : List ℕ) (i state : ℕ) → i < length numbers → get_or numbers i 0 ≡ state → has (take (i + 1) numbers) state ≡ true
has_more_same numbers i state h e =
    list_any_more (λ one. one == state) numbers i 0 h ∙ or_right (has (take i numbers) state) (get_or numbers i 0 == state) (eq-eqb (get_or numbers i 0) state e)

pub has_more_other : (numbers : List ℕ) (i state : ℕ) → i < length numbers → get_or numbers i 0 ≢ state → has (take (i + 1) numbers) state ≡ has (take i numbers) state
has_more_other numbers i state h ne =
    list_any_more (λ one. one == state) numbers i 0 h ∙ or_neither (has (take i numbers) state) (get_or numbers i 0 == state) (ne_eqb (get_or numbers i 0) state ne)

-- ---- the new number of a block that is left

front_at : (xs ys : List ℕ) (place n : ℕ) → slice_get xs place ≡ Some n → slice_get (xs ++ ys) place ≡ Some n
front_at [] ys place n e = absurd cc
front_at (x ∷ xs) ys zero n e = e
front_at (x ∷ xs) ys (suc place) n e = front_at xs ys place n e

end_at : (xs : List ℕ) (x : ℕ) → slice_get (xs ++ x ∷ []) (length xs) ≡ Some x
end_at [] x = refl
end_at (y ∷ xs) x = end_at xs x

inserted_at : (keys : List ℕ) (key place n : ℕ) → slice_get keys place ≡ Some n → slice_get (insert_key nat_eq keys key) place ≡ Some n
inserted_at keys key place n e =
    let pushed = front_at keys (key ∷ []) place n e in
    elim (list_any (nat_eq key) keys) as (λ there. slice_get (cond there keys (keys ++ key ∷ [])) place ≡ Some n) [ true ↦ e | false ↦ pushed ]

differs_from : (x : ℕ) (xs : List ℕ) (place n : ℕ) → AllByRecursion (λ y. nat_eq x y ≡ false) xs → slice_get xs place ≡ Some n → x ≢ n
differs_from x [] place n all e same = absurd cc
differs_from x (y ∷ ys) zero n all e same = true≢false (sym (eq-eqb x y (same ∙ sym (same_Some y n e))) ∙ all.0)
differs_from x (y ∷ ys) (suc place) n all e same = differs_from x ys place n all.1 e same

pub once_each : (keys : List ℕ) → IsDistinct nat_eq keys → OnceEach keys
unfolding IsDistinct
once_each [] d first second n e f = absurd cc
once_each (x ∷ xs) d zero zero n e f = refl
once_each (x ∷ xs) d zero (suc second) n e f = absurd (differs_from x xs second n d.0 f (same_Some x n e))
once_each (x ∷ xs) d (suc first) zero n e f = absurd (differs_from x xs first n d.0 e (same_Some x n f))
once_each (x ∷ xs) d (suc first) (suc second) n e f = ap suc (once_each xs d.1 first second n e f)

-- the list is what it was, or has the block at its end
grown_by : (count block place number : ℕ) (old new : List ℕ) → new ≡ insert_key nat_eq old block → OnceEach new → slice_get new place ≡ Some block → number ≡ count + place
    → (length new ≡ length old) ⊎ ((length new ≡ length old + 1) × (number ≡ count + length old))
grown_by count block place number old new is once at sum = by (list_any (nat_eq block) old) is
  where
    by : (there : Bool) → new ≡ cond there old (old ++ block ∷ []) → (length new ≡ length old) ⊎ ((length new ≡ length old + 1) × (number ≡ count + length old))
    by true same = inl (ap (λ keys. length keys) same)
    by false more =
        let last : slice_get new (length old) ≡ Some block = ap (λ keys. slice_get keys (length old)) more ∙ end_at old block in
        let here : place ≡ length old = once place (length old) block at last in
        inr (ap (λ keys. length keys) more ∙ length-append old (block ∷ []), omega arith)

-- where the block was inserted at a place of the list
pub moved_behind : (count block place number key : ℕ) (old new : List ℕ) → block < count → new ≡ insert_key nat_eq old block → IsDistinct nat_eq new
    → slice_get new place ≡ Some key → nat_eq block key ≡ true → number ≡ count + place → IsMovedTo count old new block number
moved_behind count block place number key old new below is distinct at same sum =
    let there = at ∙ ap Some (sym (eqb-true block key same)) in
    record {
      kept = λ n other e. subst (λ keys. slice_get keys n ≡ Some other) (sym is) (inserted_at old block n other e);
      once = λ before. once_each new distinct;
      moved = λ h. record { place = place; is = sum; at = there };
      stays = λ h. absurd (omega arith);
      grown = grown_by count block place number old new is (once_each new distinct) there sum;
    }

pub some_is : (sum : Option ℕ) (C : Type 0) (value x : ℕ) → SomeIff sum C value → sum ≡ Some x → x ≡ value
some_is None C value x is e = absurd cc
some_is (Some y) C value x is e = sym (same_Some y x e) ∙ is.1

-- ---- while states are moved

-- of the states in the part so far each has the number of its old block among those that are left, and the others their old block
pub record AreMoved (count states : ℕ) (old part new left : List ℕ) : Type 0 where
  pub each : length new ≡ length old
  pub once : OnceEach left
  pub moved : (state : ℕ) → state < states → has part state ≡ true → IsBehind count left (block_of old state) (block_of new state)
  pub stay : (state : ℕ) → state < states → has part state ≡ false → block_of new state ≡ block_of old state

behind_kept : (count : ℕ) (left more : List ℕ) (block number : ℕ) → ((place other : ℕ) → slice_get left place ≡ Some other → slice_get more place ≡ Some other)
    → IsBehind count left block number → IsBehind count more block number
behind_kept count left more block number kept b = record { place = b.place; is = b.is; at = kept b.place block b.at }

pub one_moved : (count states : ℕ) (old part new left more : List ℕ) (i number : ℕ) → i < length part → get_or part i 0 < states → states ≡ length old
    → ((state : ℕ) → state < states → block_of old state < count)
    → AreMoved count states old (take i part) new left → IsMovedTo count left more (block_of new (get_or part i 0)) number
    → AreMoved count states old (take (i + 1) part) (set new (get_or part i 0) number) more
one_moved count states old part new left more i number h l sizes low m to =
    let one = get_or part i 0 in
    let within : one < length new = omega (arith, m.each) in
    record {
      each = omega (arith, length-set new one number, m.each);
      once = to.once m.once;
      moved = λ state below is. elim (cases_eq one state) [
        | inl e ↦ subst (λ state. IsBehind count more (block_of old state) (block_of (set new one number) state)) e
            (subst (λ n. IsBehind count more (block_of old one) n) (sym (get_or-set_same new one number 0 within))
            (elim (cases_Bool (has (take i part) one)) [
              | inl already ↦
                  let b = m.moved one l already in
                  let same : number ≡ block_of new one = to.stays (omega (arith, b.is)) in
                  subst (λ n. IsBehind count more (block_of old one) n) (sym same) (behind_kept count left more (block_of old one) (block_of new one) to.kept b)
              | inr fresh ↦
                  let stayed = m.stay one l fresh in
                  subst (λ block. IsBehind count more block number) stayed (to.moved (omega (arith, stayed, low one l)))
            ]))
        | inr ne ↦
            let before = sym (has_more_other part i state h ne) ∙ is in
            subst (λ n. IsBehind count more (block_of old state) n) (sym (get_or-set_other new one state number 0 (λ e. ne (sym e))))
            (behind_kept count left more (block_of old state) (block_of new state) to.kept (m.moved state below before))
      ];
      stay = λ state below is. elim (cases_eq one state) [
        | inl e ↦ absurd (true≢false (sym (has_more_same part i state h e) ∙ is))
        | inr ne ↦ get_or-set_other new one state number 0 (λ e. ne (sym e)) ∙ m.stay state below (sym (has_more_other part i state h ne) ∙ is)
      ];
    }

-- ---- once all are moved

module _ (count : ℕ) (old part new left : List ℕ) (low : (state : ℕ) → state < length old → block_of old state < count) (m : AreMoved count (length old) old part new left) where
  both_moved : (first second : ℕ) → first < length old → second < length old → has part first ≡ true → has part second ≡ true
      → (block_of new first ≡ block_of new second) ↔ (block_of old first ≡ block_of old second)
  both_moved first second h l is also =
      let a = m.moved first h is in
      let b = m.moved second l also in (
        (λ e.
            let same : a.place ≡ b.place = omega (arith, a.is, b.is, e) in
            same_Some (block_of old first) (block_of old second) (sym a.at ∙ ap (slice_get left) same ∙ b.at)),
        (λ e.
            let same : a.place ≡ b.place = m.once a.place b.place (block_of old second) (a.at ∙ ap Some e) b.at in
            omega (arith, a.is, b.is, same)),
      )

  moved_apart : (first second : ℕ) → first < length old → second < length old → has part first ≡ true → has part second ≡ false → block_of new first ≢ block_of new second
  moved_apart first second h l is not e = omega (arith, (m.moved first h is).is, m.stay second l not, low second l, e)

  both_split : (first second : ℕ) → first < length old → second < length old
      → (block_of new first ≡ block_of new second) ↔ ((block_of old first ≡ block_of old second) × (has part first ≡ has part second))
  both_split first second h l = elim (cases_Bool (has part first)) [
    | inl is ↦ elim (cases_Bool (has part second)) [
      | inl also ↦ let both = both_moved first second h l is also in ((λ e. (both.0 e, is ∙ sym also)), (λ p. both.1 p.0))
      | inr not ↦ ((λ e. absurd (moved_apart first second h l is not e)), (λ p. absurd (true≢false (sym is ∙ p.1 ∙ not))))
    ]
    | inr isnt ↦ elim (cases_Bool (has part second)) [
      | inl also ↦ ((λ e. absurd (moved_apart second first l h also isnt (sym e))), (λ p. absurd (true≢false (sym also ∙ sym p.1 ∙ isnt))))
      | inr not ↦ ((λ e. (sym (m.stay first h isnt) ∙ e ∙ m.stay second l not, isnt ∙ sym not)), (λ p. m.stay first h isnt ∙ p.0 ∙ sym (m.stay second l not)))
    ]
  ]

  pub is_split : IsSplit (length old) old part new
  is_split = record { each = m.each; split = both_split }

  pub new_numbers : All (λ block. block < count + length left) new
  new_numbers i d h =
      let within : i < length old = omega (arith, m.each) in
      let same = get_or_default new i d 0 h in
      subst (λ n. n < count + length left) (sym same) (elim (cases_Bool (has part i)) [
        | inl is ↦ let b = m.moved i within is in omega (arith, b.is, slice_get_within left b.place (block_of old i) b.at)
        | inr not ↦ omega (arith, m.stay i within not, low i within)
      ])

-- ---- how many blocks there are then

module _ (count : ℕ) (left more : List ℕ) (block number bound : ℕ) (is : bound ≡ count + length left) (to : IsMovedTo count left more block number) (low : block < bound) where
  number_low : number < count + length more
  number_low = elim (cases_lt block count) [
    | inl h ↦ let behind = to.moved h in omega (arith, behind.is, slice_get_within more behind.place block behind.at)
    | inr h ↦ elim to.grown [
      | inl same ↦ omega (arith, to.stays h, low, same)
      | inr last ↦ omega (arith, to.stays h, low, last.0)
    ]
  ]

  pub number_fits : number ≤ bound
  number_fits = elim to.grown [
    | inl same ↦ omega (arith, number_low, same)
    | inr last ↦ omega (arith, last.1)
  ]

  pub bound_then : count_up bound number ≡ count + length more
  bound_then = elim to.grown [
    | inl same ↦
        let differ : number ≢ bound = λ e. omega (arith, number_low, same, e) in
        ap (λ (last : Bool). cond last (bound + 1) bound) (ne_eqb number bound differ) ∙ is ∙ omega (arith, same)
    | inr last ↦
        let here : number ≡ bound = omega (arith, last.1) in
        ap (λ (last : Bool). cond last (bound + 1) bound) (eq-eqb number bound here) ∙ omega (arith, last.0)
  ]
