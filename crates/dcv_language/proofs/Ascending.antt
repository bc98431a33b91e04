-- Lists that ascend in a strict order are equal where they have the same members.
use Rattle.std.proofs.Common.{◌≡◌, ◌⊎◌, inl, inr, ℕ, zero, suc, ◌<◌, List, [], ◌∷◌, length, get_or, AllPairs, refl, sym, ◌∙◌, subst, arith}
use Rattle.std.specs.List.{IsAmong}

abbrev pub Member : {X : Type 0} → X → List X → Type 0
Member x [] = ⊥
Member x (y ∷ ys) = (x ≡ y) ⊎ Member x ys

abbrev pub Ascends : {X : Type 0} → (X → X → Type 0) → List X → Type 0
Ascends R [] = Unit {0}
Ascends {X} R (x ∷ xs) = ((y : X) → Member y xs → R x y) × Ascends R xs

-- ---- members by their places

pub Member-at : {X : Type 0} (xs : List X) (i : ℕ) (d : X) → i < length xs → Member (get_or xs i d) xs
Member-at [] i d h = absurd (omega arith)
Member-at (x ∷ xs) zero d h = inl refl
Member-at (x ∷ xs) (suc i) d h = inr (Member-at xs i d (omega arith))

pub place_of : {X : Type 0} (xs : List X) (x : X) → Member x xs → (i : ℕ) × (i < length xs) × ((d : X) → x ≡ get_or xs i d)
place_of [] x m = absurd m
place_of (y ∷ ys) x (inl e) = (0, omega arith, λ d. e)
place_of (y ∷ ys) x (inr m) = let p = place_of ys x m in (suc p.0, omega (arith, p.1), p.2)

pub Member-from_IsAmong : {X : Type 0} (xs : List X) (x : X) → IsAmong xs x → Member x xs
Member-from_IsAmong xs x among = subst (λ y. Member y xs) (sym among.1.1) (Member-at xs among.0 x among.1.0)

pub IsAmong-from_Member : {X : Type 0} (xs : List X) (x : X) → Member x xs → IsAmong xs x
IsAmong-from_Member xs x m = let p = place_of xs x m in (p.0, (p.1, p.2 x))

-- ---- ascending lists

module _ {X : Type 0} (R : X → X → Type 0) where
  pub Ascends-from_pairs : (xs : List X) → AllPairs R xs → Ascends R xs
  Ascends-from_pairs [] pairs = tt
  Ascends-from_pairs (x ∷ xs) pairs = (
    (λ y m. let p = place_of xs y m in subst (λ z. R x z) (sym (p.2 x)) (pairs 0 (suc p.0) x (omega arith) (omega (arith, p.1)))),
    Ascends-from_pairs xs (λ i j d h k. pairs (suc i) (suc j) d (omega arith) (omega arith)),
  )

  pub pairs_from_Ascends : (xs : List X) → Ascends R xs → AllPairs R xs
  pairs_from_Ascends [] a i j d h k = absurd (omega arith)
  pairs_from_Ascends (x ∷ xs) a i zero d h k = absurd (omega arith)
  pairs_from_Ascends (x ∷ xs) a zero (suc j) d h k = a.0 (get_or xs j d) (Member-at xs j d (omega arith))
  pairs_from_Ascends (x ∷ xs) a (suc i) (suc j) d h k = pairs_from_Ascends xs a.1 i j d (omega arith) (omega arith)

  module _ (irreflexive : (x : X) → R x x → ⊥) (asymmetric : (x y : X) → R x y → R y x → ⊥) where
    same_head : (x y : X) (xs ys : List X) → ((z : X) → Member z xs → R x z) → ((z : X) → Member z ys → R y z) → Member x (y ∷ ys) → Member y (x ∷ xs) → x ≡ y
    same_head x y xs ys a b (inl e) n = e
    same_head x y xs ys a b (inr m) (inl e) = sym e
    same_head x y xs ys a b (inr m) (inr n) = absurd (asymmetric x y (a y n) (b x m))

    in_tail : (x y z : X) (ys : List X) → x ≡ y → R x z → Member z (y ∷ ys) → Member z ys
    in_tail x y z ys e r (inl f) = absurd (irreflexive x (subst (λ w. R x w) (f ∙ sym e) r))
    in_tail x y z ys e r (inr m) = m

    pub one_ascending : (xs ys : List X) → Ascends R xs → Ascends R ys → ((z : X) → Member z xs → Member z ys) → ((z : X) → Member z ys → Member z xs) → xs ≡ ys
    one_ascending [] [] a b f g = refl
    one_ascending [] (y ∷ ys) a b f g = absurd (g y (inl refl))
    one_ascending (x ∷ xs) [] a b f g = absurd (f x (inl refl))
    one_ascending (x ∷ xs) (y ∷ ys) a b f g =
        let head = same_head x y xs ys a.0 b.0 (f x (inl refl)) (g y (inl refl)) in
        let tail = one_ascending xs ys a.1 b.1
        (λ z m. in_tail x y z ys head (a.0 z m) (f z (inr m)))
        (λ z m. in_tail y x z xs (sym head) (b.0 z m) (g z (inr m))) in
        λ i. head i ∷ tail i
