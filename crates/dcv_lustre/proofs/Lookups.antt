-- What names have, where values are listed in the order of names.
--     lookup names values name      what a name has
use Rattle.std.proofs.Common.{◌≡◌, ℕ, zero, suc, ◌+◌, ◌≤◌, true, false, not, cond, ◌⊎◌, List, [], ◌∷◌, length, map, get_or, inl, inr, refl, sym}
use Rattle.std.proofs.Common.{ap, subst, ◌∙◌, arith}
use Rattle.std.specs.Prelude.{bytes_eq}
use Rattle.std.specs.List.{position_or_len}
use Rattle.std.proofs.lemmas.Bool.{cases_Bool, or_parts, or_left, or_right, or_cases, false≢true, both_ways}
use Rattle.dcv_observer.specs.Naming.{is_among, AreDistinct}
use Rattle.dcv_observer.proofs.Naming.{Name, is_itself, one_name, differs}
use Rattle.dcv_lustre.specs.Tree.{Value, Truth}

abbrev pub lookup : List Name → List Value → Name → Value
lookup names values name = get_or values (position_or_len (bytes_eq name) names) (Truth false)

next_place : (value : Value) (values : List Value) (n : ℕ) → get_or (value ∷ values) (1 + n) (Truth false) ≡ get_or values n (Truth false)
next_place value values n = let e : 1 + n ≡ suc n = omega arith in ap (λ k. get_or (value ∷ values) k (Truth false)) e

pub lookup_here : (names : List Name) (values : List Value) (n name : Name) (value : Value) → bytes_eq name n ≡ true
    → lookup (n ∷ names) (value ∷ values) name ≡ value
lookup_here names values n name value same =
    ap (λ b. get_or (value ∷ values) (cond (not b) (1 + position_or_len (bytes_eq name) names) 0) (Truth false)) same

pub lookup_later : (names : List Name) (values : List Value) (n name : Name) (value : Value) → bytes_eq name n ≡ false
    → lookup (n ∷ names) (value ∷ values) name ≡ lookup names values name
lookup_later names values n name value other =
    ap (λ b. get_or (value ∷ values) (cond (not b) (1 + position_or_len (bytes_eq name) names) 0) (Truth false)) other
    ∙ next_place value values (position_or_len (bytes_eq name) names)

-- a name that is among them
pub lookup_map : (f : Name → Value) (names : List Name) (name : Name) → is_among names name ≡ true → lookup names (map f names) name ≡ f name
lookup_map f [] name h = absurd (false≢true h)
lookup_map f (n ∷ names) name h =
    elim (cases_Bool (bytes_eq name n)) [
      | inl same ↦ lookup_here names (map f names) n name (f n) same ∙ ap f (sym (one_name name n same))
      | inr other ↦
          lookup_later names (map f names) n name (f n) other
          ∙ lookup_map f names name (later other (or_cases (bytes_eq name n) (is_among names name) h))
    ]
  where
    later : bytes_eq name n ≡ false → (bytes_eq name n ≡ true) ⊎ (is_among names name ≡ true) → is_among names name ≡ true
    later other (inl same) = absurd (both_ways (bytes_eq name n) other same)
    later other (inr more) = more

-- a name that is not
pub lookup_absent : (names : List Name) (values : List Value) (name : Name) → is_among names name ≡ false → length values ≤ length names
    → lookup names values name ≡ Truth false
lookup_absent names [] name h short = absent_of_none (position_or_len (bytes_eq name) names)
  where
    absent_of_none : (k : ℕ) → get_or [] k (Truth false) ≡ Truth false
    absent_of_none zero = refl
    absent_of_none (suc k) = refl
lookup_absent [] (value ∷ values) name h short = absurd (omega arith)
lookup_absent (n ∷ names) (value ∷ values) name h short =
    let both = or_parts (bytes_eq name n) (is_among names name) h in
    lookup_later names values n name value both.0 ∙ lookup_absent names values name both.1 (omega arith)

-- maps that agree on the names of a list
pub maps_agree : (f g : Name → Value) (names : List Name) → ((name : Name) → is_among names name ≡ true → f name ≡ g name) → map f names ≡ map g names
maps_agree f g [] same = refl
maps_agree f g (n ∷ names) same =
    let head : f n ≡ g n = same n (or_left _ _ (is_itself n)) in
    let tail = maps_agree f g names (λ name h. same name (or_right _ _ h)) in
    λ i. head i ∷ tail i

-- each name has the value at its place
pub map_lookup : (names : List Name) (values : List Value) → AreDistinct names → length values ≡ length names → map (lookup names values) names ≡ values
map_lookup [] [] distinct size = refl
map_lookup [] (value ∷ values) distinct size = absurd (omega arith)
map_lookup (n ∷ names) [] distinct size = absurd (omega arith)
map_lookup (n ∷ names) (value ∷ values) distinct size =
    let head = lookup_here names values n n value (is_itself n) in
    let tail : map (lookup (n ∷ names) (value ∷ values)) names ≡ values =
    maps_agree (lookup (n ∷ names) (value ∷ values)) (lookup names values) names (λ name h.
    lookup_later names values n name value (differs name n (λ same. both_ways (is_among names n) distinct.0 (subst (λ m. is_among names m ≡ true) same h))))
    ∙ map_lookup names values distinct.1 (omega arith) in
    λ i. head i ∷ tail i
