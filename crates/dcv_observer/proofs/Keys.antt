-- Searches in lists that are seen in another way.
use Rattle.std.proofs.Common.{◌≡◌, ◌+◌, Bool, not, cond, ◌||◌, List, [], ◌∷◌, map, Some, None, refl, ap, sym, nat_lt}
use Rattle.std.specs.List.{list_any, position, position_or_len}
use Rattle.std.proofs.lemmas.List.{length-map}

module _ {X Y : Type 0} (p : Y → Bool) (f : X → Y) where
  pub any_seen : (xs : List X) → list_any (λ x. p (f x)) xs ≡ list_any p (map f xs)
  any_seen [] = refl
  any_seen (x ∷ xs) = ap (λ b. p (f x) || b) (any_seen xs)

  place_seen : (xs : List X) → position_or_len (λ x. p (f x)) xs ≡ position_or_len p (map f xs)
  place_seen [] = refl
  place_seen (x ∷ xs) = ap (λ n. cond (not (p (f x))) (1 + n) 0) (place_seen xs)

  pub position_seen : (xs : List X) → position (λ x. p (f x)) xs ≡ position p (map f xs)
  position_seen xs =
      let place = place_seen xs in
      let size = sym (length-map xs f) in
      λ i. cond (nat_lt (place i) (size i)) (Some (place i)) None
