-- What is made of a list so far, and what is left of it.
use Rattle.std.proofs.Common.{◌≡◌, ℕ, List, [], ◌∷◌, ◌++◌, map, ap, ◌∙◌, append_assoc}
use Rattle.std.proofs.lemmas.List.{map_push}
use Rattle.dcv_observer.specs.Conditions.{Names}

-- what is made so far and what is left make up the whole
pub one_more : {X Y Z : Type 0} (f : X → Y) (g : Z → Y) (made more : List X) (x : X) (z : Z) (later : List Z) (all : List Y) → more ≡ made ++ x ∷ [] → f x ≡ g z
    → map f made ++ map g (z ∷ later) ≡ all → map f more ++ map g later ≡ all
one_more f g made more x z later all is same whole =
    ap (λ xs. map f xs ++ map g later) is
    ∙ ap (λ ys. ys ++ map g later) (map_push f made x)
    ∙ append_assoc (map f made) (f x ∷ []) (map g later)
    ∙ ap (λ y. map f made ++ y ∷ map g later) same
    ∙ whole

pub text_more : (all texts more : Names) (name text : List ℕ) (later : Names) → texts ++ (name ∷ later) ≡ all → text ≡ name → more ≡ texts ++ text ∷ [] → more ++ later ≡ all
text_more all texts more name text later whole is pushed =
    ap (λ (ts : Names). ts ++ later) pushed ∙ append_assoc texts (text ∷ []) later ∙ ap (λ (t : List ℕ). texts ++ t ∷ later) is ∙ whole
