-- Texts of several parts, with the same between two: one part more.
use Rattle.std.proofs.Common.{◌≡◌, ℕ, zero, suc, ◌+◌, ◌<◌, ◌==◌, cond, List, [], ◌∷◌, ◌++◌, length, map, take, get_or, refl, ap, sym, ◌∙◌, arith}
use Rattle.std.specs.List.{flat_map, join_by}
use Rattle.std.proofs.lemmas.Bool.{ne_eqb}
use Rattle.std.proofs.lemmas.List.{append_assoc, append-nil, take_more}
use Rattle.std.proofs.lemmas.List.Concat.{flat_map-cons}
use Rattle.std.proofs.lemmas.Grind.{flat_map-append}

-- what stands before one more
abbrev separator : {X : Type 0} → List ℕ → List X → List ℕ
separator between [] = []
separator between (x ∷ xs) = between

one_part_more : {X : Type 0} (f : X → List ℕ) (between : List ℕ) (xs : List X) (x : X) → join_by f between (xs ++ x ∷ []) ≡ join_by f between xs ++ (separator between xs ++ f x)
one_part_more f between [] x = append-nil (f x)
one_part_more f between (first ∷ xs) x =
    ap (λ rest. f first ++ rest) (flat_map-append (λ y. between ++ f y) xs (x ∷ []) ∙ ap (λ last. flat_map (λ y. between ++ f y) xs ++ last) (append-nil (between ++ f x)))
    ∙ sym (append_assoc (f first) (flat_map (λ y. between ++ f y) xs) (between ++ f x))

separator_at : {X : Type 0} (between : List ℕ) (xs : List X) (place : ℕ) → place < length xs → cond (place == 0) [] between ≡ separator between (take place xs)
separator_at between xs zero within = refl
separator_at between [] (suc place) within = absurd (omega (arith, within))
separator_at between (x ∷ xs) (suc place) within = ap (λ first. cond first [] between) (ne_eqb (suc place) 0 (λ e. absurd (omega (arith, e))))

-- so a text goes on, part by part
pub text_goes_on : {X : Type 0} (f : X → List ℕ) (between : List ℕ) (xs : List X) (place : ℕ) (x : X) (text more before : List ℕ) → place < length xs → x ≡ get_or xs place x
    → text ≡ join_by f between (take place xs) → before ≡ cond (place == 0) [] between → more ≡ text ++ (before ++ f x) → more ≡ join_by f between (take (place + 1) xs)
text_goes_on f between xs place x text more before within is spelled separated goes =
    goes
    ∙ (λ i. spelled i ++ ((separated ∙ separator_at between xs place within) i ++ f x))
    ∙ sym (one_part_more f between (take place xs) x)
    ∙ ap (λ last. join_by f between (take place xs ++ last ∷ [])) is
    ∙ sym (ap (join_by f between) (take_more xs place x within))

-- the parts may be what some things are made into
flat_map_of_map : {X Y : Type 0} (f : Y → List ℕ) (g : X → Y) (xs : List X) → flat_map (λ x. f (g x)) xs ≡ flat_map f (map g xs)
flat_map_of_map f g [] = refl
flat_map_of_map f g (x ∷ xs) =
    flat_map-cons (λ x. f (g x)) x xs ∙ ap (λ rest. f (g x) ++ rest) (flat_map_of_map f g xs) ∙ sym (flat_map-cons f (g x) (map g xs))

pub text_of_made : {X Y : Type 0} (f : Y → List ℕ) (g : X → Y) (between : List ℕ) (xs : List X) → join_by (λ x. f (g x)) between xs ≡ join_by f between (map g xs)
text_of_made f g between [] = refl
text_of_made f g between (x ∷ xs) = ap (λ rest. f (g x) ++ rest) (flat_map_of_map (λ y. between ++ f y) g xs)
