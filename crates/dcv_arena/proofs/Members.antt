-- What the lists made by `map`, `filter`, `flat_map` and a range contain.
use Rattle.std.proofs.Common.{◌≡◌, ℕ, zero, suc, ◌<◌, Bool, true, false, cond, List, [], ◌∷◌, length, map, filter, inl, inr, get_or, Contains, refl, ap, ◌∙◌, arith}
use Rattle.std.specs.List.{flat_map, range_with_len}
use Rattle.std.proofs.lemmas.List.{length-map, get_or-map}
use Rattle.std.proofs.lemmas.List.Elements.{Contains-append_left, Contains-append_right, Contains-append_cases, All-contains, All-contains_itself, All-filter, All-map, All-weaker, filter_passes}
use Rattle.std.proofs.lemmas.List.FromFn.{length-range_with_len, get_or-range_with_len}

Contains-first : {X : Type 0} (xs : List X) (y x : X) → y ≡ x → Contains (y ∷ xs) x
Contains-first xs y x e = (0, omega arith, e)

Contains-later : {X : Type 0} (xs : List X) (y x : X) → Contains xs x → Contains (y ∷ xs) x
Contains-later xs y x c = (suc c.0, omega (arith, c.1), c.2)

pub Contains-map : {X Y : Type 0} (f : X → Y) (xs : List X) (x : X) → Contains xs x → Contains (map f xs) (f x)
Contains-map f xs x c = (c.0, omega (arith, length-map xs f, c.1), get_or-map f xs c.0 x (f x) c.1 ∙ ap f c.2)

pub Contains-map_cases : {X Y : Type 0} (f : X → Y) (xs : List X) (y : Y) → Contains (map f xs) y → (x : X) × Contains xs x × (f x ≡ y)
Contains-map_cases {X} f xs y =
    All-contains (λ y. (x : X) × Contains xs x × (f x ≡ y)) (map f xs) y
    (All-map (λ y. (x : X) × Contains xs x × (f x ≡ y)) f xs
    (All-weaker (Contains xs) (λ z. (x : X) × Contains xs x × (f x ≡ f z)) (λ z c. (z, c, refl)) xs (All-contains_itself xs)))

at_filter : {X : Type 0} (p : X → Bool) (xs : List X) (x : X) (k : ℕ) → k < length xs → get_or xs k x ≡ x → p x ≡ true → Contains (filter p xs) x
at_filter p [] x k h e passes = absurd (omega arith)
at_filter p (y ∷ xs) x zero h e passes = rw (ap p e ∙ passes) (Contains-first (filter p xs) y x e)
at_filter p (y ∷ xs) x (suc k) h e passes =
    let rest = at_filter p xs x k (omega arith) e passes in
    elim (p y) as (λ b. Contains (cond b (y ∷ filter p xs) (filter p xs)) x) [ true ↦ Contains-later (filter p xs) y x rest | false ↦ rest ]

pub Contains-filter : {X : Type 0} (p : X → Bool) (xs : List X) (x : X) → Contains xs x → p x ≡ true → Contains (filter p xs) x
Contains-filter p xs x c passes = at_filter p xs x c.0 c.1 c.2 passes

pub Contains-filter_cases : {X : Type 0} (p : X → Bool) (xs : List X) (x : X) → Contains (filter p xs) x → Contains xs x × (p x ≡ true)
Contains-filter_cases p xs x c = (
  All-contains (Contains xs) (filter p xs) x (All-filter p (Contains xs) xs (All-contains_itself xs)) c,
  All-contains (λ x. p x ≡ true) (filter p xs) x (filter_passes p xs) c,
)

at_flat_map : {X Y : Type 0} (f : X → List Y) (xs : List X) (x : X) (y : Y) (k : ℕ) → k < length xs → get_or xs k x ≡ x → Contains (f x) y → Contains (flat_map f xs) y
at_flat_map f [] x y k h e c = absurd (omega arith)
at_flat_map f (z ∷ xs) x y zero h e c = Contains-append_left (f z) (flat_map f xs) y (rw e c)
at_flat_map f (z ∷ xs) x y (suc k) h e c = Contains-append_right (f z) (flat_map f xs) y (at_flat_map f xs x y k (omega arith) e c)

pub Contains-flat_map : {X Y : Type 0} (f : X → List Y) (xs : List X) (x : X) (y : Y) → Contains xs x → Contains (f x) y → Contains (flat_map f xs) y
Contains-flat_map f xs x y in_xs in_f = at_flat_map f xs x y in_xs.0 in_xs.1 in_xs.2 in_f

pub Contains-flat_map_cases : {X Y : Type 0} (f : X → List Y) (xs : List X) (y : Y) → Contains (flat_map f xs) y → (x : X) × Contains xs x × Contains (f x) y
Contains-flat_map_cases f [] y c = absurd (omega (arith, c.1))
Contains-flat_map_cases f (z ∷ xs) y c =
    elim (Contains-append_cases (f z) (flat_map f xs) y c) [
      | inl here ↦ (z, Contains-first xs z z refl, here)
      | inr there ↦ let rest = Contains-flat_map_cases f xs y there in (rest.0, Contains-later xs z rest.0 rest.1, rest.2)
    ]

pub Contains-range : (count k : ℕ) → k < count → Contains (range_with_len 0 count) k
Contains-range count k h = (k, omega (arith, length-range_with_len 0 count), get_or-range_with_len 0 count k k h ∙ omega arith)

pub Contains-range_cases : (count k : ℕ) → Contains (range_with_len 0 count) k → k < count
Contains-range_cases count k c =
    let size = length-range_with_len 0 count in
    omega (arith, c.1, c.2, get_or-range_with_len 0 count c.0 k (omega (arith, c.1)))
