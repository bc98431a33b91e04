-- Texts of lists: what a loop over all of a list has put.
use Rattle.std.proofs.Common.{◌≡◌, ℕ, ◌≤◌, List, ◌∷◌, ◌++◌, length, map, take, sym, ap, ◌∙◌}
use Rattle.std.specs.List.{flat_map, join_by}
use Rattle.std.proofs.lemmas.List.{take_all}
use Rattle.std.proofs.lemmas.List.Folds.{flat_map-map}

-- a text of each, as it is seen
pub all_seen : {X Y : Type 0} (f : Y → List ℕ) (see : X → Y) (xs : List X) (n : ℕ) → length xs ≤ n → flat_map (λ x. f (see x)) (take n xs) ≡ flat_map f (map see xs)
all_seen f see xs n whole = ap (flat_map (λ x. f (see x))) (take_all n xs whole) ∙ sym (flat_map-map f see xs)

-- the same, with something between every two
pub joined_seen : {X Y : Type 0} (f : Y → List ℕ) (between : List ℕ) (see : X → Y) (first : X) (others all : List X) (n : ℕ) → all ≡ first ∷ others → length others ≤ n
    → f (see first) ++ flat_map (λ x. between ++ f (see x)) (take n others) ≡ join_by f between (map see all)
joined_seen f between see first others all n is whole =
    ap (λ text. f (see first) ++ text) (all_seen (λ y. between ++ f y) see others n whole) ∙ ap (λ xs. join_by f between (map see xs)) (sym is)

-- the same of a word for such lists, which stands for the joined text where there is one
pub joined_all : {X : Type 0} (f : X → List ℕ) (between : List ℕ) (text : List X → List ℕ)
    → ((first : X) (others : List X) → join_by f between (first ∷ others) ≡ text (first ∷ others))
    → (one first : X) (others all : List X) (n : ℕ) → one ≡ first → all ≡ first ∷ others → length others ≤ n
    → f one ++ flat_map (λ x. between ++ f x) (take n others) ≡ text all
joined_all f between text is one first others all n same split whole =
    ap (λ start. f start ++ flat_map (λ x. between ++ f x) (take n others)) same
    ∙ ap (λ more. f first ++ flat_map (λ x. between ++ f x) more) (take_all n others whole)
    ∙ is first others ∙ ap text (sym split)
