-- Lists from the first element on.
use Rattle.std.proofs.Common.{◌≡◌, List, [], ◌∷◌, ◌++◌, map, reverse, refl, sym, ap, ◌∙◌}
use Rattle.std.proofs.lemmas.List.{map-append, reverse-append}

pub forwards : {A B : Type 0} (f : A → B) (list : List A) → map f (reverse list) ≡ reverse (map f list)
forwards f [] = refl
forwards f (x ∷ list) =
    ap (map f) (reverse-append (x ∷ []) list)
    ∙ map-append f (reverse list) (x ∷ [])
    ∙ ap (λ l. l ++ f x ∷ []) (forwards f list)
    ∙ sym (reverse-append (f x ∷ []) (map f list))
