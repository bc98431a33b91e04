-- Names, and whether they are among others.
use Rattle.std.proofs.Common.{◌≡◌, ℕ, true, false, ◌⊎◌, List, [], ◌∷◌, ◌++◌, inl, inr, refl, sym, subst}
use Rattle.std.specs.Prelude.{bytes_eq}
use Rattle.std.proofs.lemmas.Bool.{or_from, or_left, or_right, or_cases, false_from_ne_true, false≢true, both_ways}
use Rattle.std.proofs.lemmas.Slice.Eq.{bytes_eq-Decides}
use Rattle.dcv_observer.specs.Naming.{is_among, AreDistinct}

abbrev pub Name : Type 0
Name = List ℕ

pub is_itself : (name : Name) → bytes_eq name name ≡ true
is_itself name = (bytes_eq-Decides name name).1 refl

pub one_name : (name other : Name) → bytes_eq name other ≡ true → name ≡ other
one_name name other same = (bytes_eq-Decides name other).0 same

pub differs : (name other : Name) → (name ≡ other → ⊥) → bytes_eq name other ≡ false
differs name other differ = false_from_ne_true (bytes_eq name other) (λ same. differ (one_name name other same))

pub differs_back : (name other : Name) → bytes_eq name other ≡ false → bytes_eq other name ≡ false
differs_back name other differ =
    differs other name (λ same. both_ways (bytes_eq name other) differ (subst (λ n. bytes_eq name n ≡ true) (sym same) (is_itself name)))

pub among_here : (names : List Name) (name : Name) → is_among (name ∷ names) name ≡ true
among_here names name = or_left _ _ (is_itself name)

pub among_later : (first : Name) (names : List Name) (name : Name) → is_among names name ≡ true → is_among (first ∷ names) name ≡ true
among_later first names name h = or_right (bytes_eq name first) (is_among names name) h

pub among_append_left : (names more : List Name) (name : Name) → is_among names name ≡ true → is_among (names ++ more) name ≡ true
among_append_left [] more name h = absurd (false≢true h)
among_append_left (n ∷ names) more name h =
    elim (or_cases (bytes_eq name n) (is_among names name) h) [
      | inl here ↦ or_left _ _ here
      | inr later ↦ or_right _ _ (among_append_left names more name later)
    ]

pub among_append_right : (names more : List Name) (name : Name) → is_among more name ≡ true → is_among (names ++ more) name ≡ true
among_append_right [] more name h = h
among_append_right (n ∷ names) more name h = or_right _ _ (among_append_right names more name h)

pub among_append_cases : (names more : List Name) (name : Name) → is_among (names ++ more) name ≡ true
    → (is_among names name ≡ true) ⊎ (is_among more name ≡ true)
among_append_cases [] more name h = inr h
among_append_cases (n ∷ names) more name h =
    elim (or_cases (bytes_eq name n) (is_among (names ++ more) name) h) [
      | inl here ↦ inl (or_left _ _ here)
      | inr later ↦ elim (among_append_cases names more name later) [
        | inl front ↦ inl (or_right _ _ front)
        | inr back ↦ inr back
      ]
    ]

pub among_neither : (names more : List Name) (name : Name) → is_among names name ≡ false → is_among more name ≡ false → is_among (names ++ more) name ≡ false
among_neither names more name one other =
    false_from_ne_true (is_among (names ++ more) name) (λ there.
    elim (among_append_cases names more name there) [
      | inl front ↦ both_ways (is_among names name) one front
      | inr back ↦ both_ways (is_among more name) other back
    ])

-- ---- names of which each stands once

pub distinct_front : (names more : List Name) → AreDistinct (names ++ more) → AreDistinct names
distinct_front [] more h = tt
distinct_front (n ∷ names) more h =
    (false_from_ne_true (is_among names n) (λ front. both_ways (is_among (names ++ more) n) h.0 (among_append_left names more n front)), distinct_front names more h.1)

pub distinct_apart : (names more : List Name) → AreDistinct (names ++ more) → (name : Name) → is_among more name ≡ true → is_among names name ≡ false
distinct_apart [] more h name back = refl
distinct_apart (n ∷ names) more h name back =
    or_from (bytes_eq name n) (is_among names name)
    (differs name n (λ same. both_ways (is_among (names ++ more) n) h.0 (among_append_right names more n (subst (λ m. is_among more m ≡ true) same back))))
    (distinct_apart names more h.1 name back)

pub distinct_behind : (names more : List Name) → AreDistinct (names ++ more) → AreDistinct more
distinct_behind [] more distinct = distinct
distinct_behind (n ∷ names) more distinct = distinct_behind names more distinct.1

pub distinct_append : (names more : List Name) → AreDistinct names → AreDistinct more → ((name : Name) → is_among names name ≡ true → is_among more name ≡ false)
    → AreDistinct (names ++ more)
distinct_append [] more one other apart = other
distinct_append (n ∷ names) more one other apart = (
  among_neither names more n one.0 (apart n (among_here names n)),
  distinct_append names more one.1 other (λ name there. apart name (among_later n names name there)),
)

pub distinct_push : (names : List Name) (last : Name) → AreDistinct names → is_among names last ≡ false → AreDistinct (names ++ last ∷ [])
distinct_push names last distinct new =
    distinct_append names (last ∷ []) distinct (refl, tt) (λ name there.
    or_from (bytes_eq name last) false (differs name last (λ same. both_ways (is_among names last) new (subst (λ n. is_among names n ≡ true) same there))) refl)
