-- Two lists with the same names, where what stands under a name in one is related to what stands under it in the other: so a name is found in both,
-- or in neither.
--     Both      what is found is related, or nothing is found
--     AllBoth   lists whose members are related, place by place
--     Matched   lists of names whose entries are related, place by place
use Rattle.std.proofs.Common.{◌≡◌, ℕ, Bool, true, false, cond, List, [], ◌∷◌, ◌++◌, Option, Some, None, refl, subst}
use Rattle.std.specs.Prelude.{bytes_eq}
use Rattle.std.specs.List.{zip}
use Rattle.dcv_logic.specs.Environment.{found}

module _ {X Y : Type 0} (R : X → Y → Type 0) where
  abbrev pub Both : Option X → Option Y → Type 0
  Both None None = Unit {0}
  Both (Some x) (Some y) = R x y
  Both _ _ = ⊥

  abbrev pub AllBoth : List X → List Y → Type 0
  AllBoth [] [] = Unit {0}
  AllBoth (x ∷ xs) (y ∷ ys) = R x y × AllBoth xs ys
  AllBoth _ _ = ⊥

  abbrev pub Matched : List (List ℕ × X) → List (List ℕ × Y) → Type 0
  Matched [] [] = Unit {0}
  Matched (x ∷ xs) (y ∷ ys) = (x.0 ≡ y.0) × (R x.1 y.1 × Matched xs ys)
  Matched _ _ = ⊥

  pub found_both : (xs : List (List ℕ × X)) (ys : List (List ℕ × Y)) (name : List ℕ) → Matched xs ys → Both (found xs name) (found ys name)
  found_both [] [] name m = tt
  found_both (x ∷ xs) (y ∷ ys) name m =
      subst (λ key. Both (found (x ∷ xs) name) (cond (bytes_eq key name) (Some y.1) (found ys name))) m.0 (here_or_later (bytes_eq x.0 name) (found_both xs ys name m.1.1))
    where
      here_or_later : (here : Bool) → Both (found xs name) (found ys name) → Both (cond here (Some x.1) (found xs name)) (cond here (Some y.1) (found ys name))
      here_or_later true later = m.1.0
      here_or_later false later = later
  found_both _ _ name m = absurd m

  -- parameters that stand for arguments
  pub parameters_match : (parameters : List (List ℕ)) (xs : List X) (ys : List Y) (outer : List (List ℕ × X)) (others : List (List ℕ × Y))
      → AllBoth xs ys → Matched outer others → Matched (zip parameters xs ++ outer) (zip parameters ys ++ others)
  parameters_match [] xs ys outer others all m = m
  parameters_match (p ∷ parameters) [] [] outer others all m = m
  parameters_match (p ∷ parameters) (x ∷ xs) (y ∷ ys) outer others all m = (refl, (all.0, parameters_match parameters xs ys outer others all.1 m))
  parameters_match (p ∷ parameters) _ _ outer others all m = absurd all

-- what is related is related in another way too
pub match_still : {X Y : Type 0} {R S : X → Y → Type 0} → ((x : X) (y : Y) → R x y → S x y)
    → (xs : List (List ℕ × X)) (ys : List (List ℕ × Y)) → Matched R xs ys → Matched S xs ys
match_still still [] [] m = tt
match_still still (x ∷ xs) (y ∷ ys) m = (m.0, (still x.1 y.1 m.1.0, match_still still xs ys m.1.1))
match_still still _ _ m = absurd m
