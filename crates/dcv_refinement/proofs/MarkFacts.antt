-- Marking on the way up.
use Rattle.std.proofs.Common.{◌≡◌, ℕ, zero, suc, ◌<◌, ◌≤◌, ◌-◌, Bool, true, false, if◌then◌else◌, List, [], ◌∷◌, ◌++◌, length, get_or, Some, slice_get, ◌⊎◌, inl, inr, Contains, refl, sym, ap, subst, ◌∙◌, arith}
use Rattle.std.specs.List.{All}
use Rattle.std.proofs.lemmas.Bool.{eqb-true}
use Rattle.std.proofs.lemmas.List.{append_assoc}
use Rattle.std.proofs.lemmas.List.Elements.{All-weaker, All-contains, All-contains_itself, Contains-push, Contains-push_cases, Contains-append_right}
use Rattle.std.proofs.lemmas.Option.{slice_get_within, slice_get-get_or, get_or_from_slice_get, same_Some}
use Rattle.std.proofs.lemmas.Map.Views.{Contains-from_any}
use Rattle.dcv_refinement.specs.SparseSet.{has, with_number}
use Rattle.dcv_arena.specs.declared.nodes.Ref.{Ref}
use Rattle.dcv_refinement.specs.Lists.{entry_at, chain, AreEarlier, listed_at}
use Rattle.dcv_refinement.specs.Index.{IsFollowed, Grows}
use Rattle.dcv_refinement.specs.declared.lists.Entry.{Entry}
use Rattle.dcv_refinement.specs.declared.lists.Lists.{Lists}
use Rattle.dcv_refinement.proofs.ChainFacts.{back}

pub contains_at : (xs : List ℕ) (place x : ℕ) → slice_get xs place ≡ Some x → Contains xs x
contains_at xs place x at = (place, slice_get_within xs place x at, get_or_from_slice_get xs place x x at)

pub at_of_contains : (xs : List ℕ) (x : ℕ) (c : Contains xs x) → slice_get xs c.0 ≡ Some x
at_of_contains xs x c = slice_get-get_or xs c.0 x c.1 ∙ ap Some c.2

-- what stands at a place of a list stands there still when the list has grown
pub stood_before : (old new : List ℕ) → ((at x : ℕ) → slice_get old at ≡ Some x → slice_get new at ≡ Some x) → (at x : ℕ) → at < length old → slice_get new at ≡ Some x → get_or old at 0 ≡ x
stood_before old new stay at x within is = same_Some (get_or old at 0) x (sym (stay at (get_or old at 0) (slice_get-get_or old at 0 within)) ∙ is)

-- ---- one more key

in_front : (xs ys : List ℕ) (place x : ℕ) → slice_get xs place ≡ Some x → slice_get (xs ++ ys) place ≡ Some x
in_front [] ys place x at = absurd cc
in_front (y ∷ xs) ys zero x at = at
in_front (y ∷ xs) ys (suc place) x at = in_front xs ys place x at

module _ (old : List ℕ) (one : ℕ) where
  abbrev Is : List ℕ → Type 0
  Is new = (new ≡ old) ⊎ (new ≡ old ++ one ∷ [])

  inserted : Is (with_number old one)
  inserted = by (has old one)
    where
      by : (found : Bool) → Is (if found then old else old ++ one ∷ [])
      by true = inl refl
      by false = inr refl

  in_list : Contains (with_number old one) one
  in_list = by (has old one) refl
    where
      by : (found : Bool) → has old one ≡ found → Contains (if found then old else old ++ one ∷ []) one
      by true e = Contains-from_any eqb-true one old e
      by false e = Contains-push old one

  module _ (new : List ℕ) (is : new ≡ with_number old one) where
    pub inserted_stays : (at x : ℕ) → slice_get old at ≡ Some x → slice_get new at ≡ Some x
    inserted_stays at x there = elim inserted [
      | inl same ↦ ap (λ keys. slice_get keys at) (is ∙ same) ∙ there
      | inr more ↦ ap (λ keys. slice_get keys at) (is ∙ more) ∙ in_front old (one ∷ []) at x there
    ]

    pub inserted_only : (x : ℕ) → Contains new x → Contains old x ⊎ (one ≡ x)
    inserted_only x c = elim inserted [
      | inl same ↦ inl (subst (λ keys. Contains keys x) (is ∙ same) c)
      | inr more ↦ Contains-push_cases old one x (subst (λ keys. Contains keys x) (is ∙ more) c)
    ]

  module _ (new : List ℕ) (is : new ≡ with_number old one) where
    inserted_kept : (x : ℕ) → Contains old x → Contains new x
    inserted_kept x c = contains_at new c.0 x (inserted_stays new is c.0 x (at_of_contains old x c))

    inserted_there : Contains new one
    inserted_there = subst (λ keys. Contains keys one) (sym is) in_list

-- ---- what is marked

pub all_from_contains : (P : ℕ → Type 0) (xs : List ℕ) → ((x : ℕ) → Contains xs x → P x) → All P xs
all_from_contains P xs each = All-weaker (Contains xs) P each xs (All-contains_itself xs)

module _ (nodes rows : Lists) where
  pub followed_after : (ref : Ref) (looked new_marked : List ℕ) → All (Contains new_marked) (listed_at nodes ref) → IsFollowed nodes rows ref new_marked (looked ++ listed_at rows ref)
  followed_after ref looked new_marked all = record {
    each_node = λ place c. All-contains (Contains new_marked) (listed_at nodes ref) place all c;
    each_row = λ state c. Contains-append_right looked (listed_at rows ref) state c;
  }

  pub followed_on : (ref : Ref) (marked looked new_marked new_looked : List ℕ) → Grows marked looked new_marked new_looked → IsFollowed nodes rows ref marked looked
      → IsFollowed nodes rows ref new_marked new_looked
  followed_on ref marked looked new_marked new_looked grows was = record {
    each_node = λ place c.
        let at = was.each_node place c in
        contains_at new_marked at.0 place (grows.stay at.0 place (at_of_contains marked place at));
    each_row = λ state c. grows.kept state (was.each_row state c);
  }

pub grows_in_turn : (a b c d e f : List ℕ) → Grows a b c d → Grows c d e f → Grows a b e f
grows_in_turn a b c d e f one other = record {
  stay = λ at place there. other.stay at place (one.stay at place there);
  kept = λ state there. other.kept state (one.kept state there);
}

-- ---- marking the places of a list, from its last entry back

-- what is left of a list of entries begins at one of them, and what stands after it is marked
pub record MarksBack (entries : List Entry) (last : ℕ) (old : List ℕ) (next : ℕ) (marked : List ℕ) : Type 0 where
  pub within : next ≤ length entries
  pub listed : (place : ℕ) → Contains (chain entries next) place → Contains (chain entries last) place
  pub done : (place : ℕ) → Contains (chain entries last) place → Contains marked place ⊎ Contains (chain entries next) place
  pub only : (place : ℕ) → Contains marked place → Contains old place ⊎ Contains (chain entries last) place
  pub stay : (at place : ℕ) → slice_get old at ≡ Some place → slice_get marked at ≡ Some place

module _ (entries : List Entry) (are : AreEarlier entries) (last : ℕ) (old : List ℕ) where
  pub marks_one_more : (next : ℕ) (marked new : List ℕ) → 0 < next → new ≡ with_number marked (entry_at entries (next - 1)).number
      → MarksBack entries last old next marked → MarksBack entries last old (entry_at entries (next - 1)).earlier new
  marks_one_more next marked new some is was =
      let one = (entry_at entries (next - 1)).number in
      let rest = chain entries (entry_at entries (next - 1)).earlier in
      let inside : next - 1 < length entries = omega (arith, some, was.within) in
      let before : (entry_at entries (next - 1)).earlier ≤ next - 1 = are (next - 1) inside in
      let here : chain entries next ≡ one ∷ rest = back entries are next (next - 1) (omega (arith, some)) inside in
      record {
        within = omega (arith, before, some, was.within);
        listed = λ place c. was.listed place (subst (λ list. Contains list place) (sym here) (Contains-append_right (one ∷ []) rest place c));
        done = λ place c. elim (was.done place c) [
          | inl old ↦ inl (inserted_kept marked one new is place old)
          | inr left ↦ elim (first one rest place (subst (λ list. Contains list place) here left)) [
            | inl same ↦ inl (subst (Contains new) (sym same) (inserted_there marked one new is))
            | inr later ↦ inr later
          ]
        ];
        only = λ place c. elim (inserted_only marked one new is place c) [
          | inl before ↦ was.only place before
          | inr this ↦ inr (was.listed place (subst (λ list. Contains list place) (sym here) (subst (Contains (one ∷ rest)) this (0, omega arith, refl))))
        ];
        stay = λ at place there. inserted_stays marked one new is at place (was.stay at place there);
      }
    where
      first : (one : ℕ) (rest : List ℕ) (place : ℕ) → Contains (one ∷ rest) place → (place ≡ one) ⊎ Contains rest place
      first one rest place (zero, inside, e) = inl (sym e)
      first one rest place (suc k, inside, e) = inr (k, omega (arith, inside), e)

  pub all_marked_back : (next : ℕ) (marked : List ℕ) → ¬ (0 < next) → MarksBack entries last old next marked → All (Contains marked) (chain entries last)
  all_marked_back next marked end was = all_from_contains (Contains marked) (chain entries last) (λ place c. elim (was.done place c) [
    | inl found ↦ found
    | inr left ↦
        let none : next ≡ 0 = omega (arith, end) in
        absurd (let gone = subst (λ next. Contains (chain entries next) place) none left in omega (arith, gone.1))
  ])

pub look_back : (entries : List Entry) → AreEarlier entries → (next : ℕ) → 0 < next → next ≤ length entries → (looked new whole : List ℕ)
    → new ≡ looked ++ (entry_at entries (next - 1)).number ∷ [] → looked ++ chain entries next ≡ whole → new ++ chain entries (entry_at entries (next - 1)).earlier ≡ whole
look_back entries are next some within looked new whole is was =
    let one = (entry_at entries (next - 1)).number in
    let rest = chain entries (entry_at entries (next - 1)).earlier in
    ap (λ list. list ++ rest) is ∙ append_assoc looked (one ∷ []) rest
    ∙ ap (λ list. looked ++ list) (sym (back entries are next (next - 1) (omega (arith, some)) (omega (arith, some, within)))) ∙ was
