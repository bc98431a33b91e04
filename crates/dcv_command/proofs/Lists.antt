-- What is found in a list, and what its tests say of each element.
use Rattle.dcv_command.proofs.Common.{◌≡◌, refl, ap, ◌∙◌, Bool, true, false, List, [], ◌∷◌, None, Some, find, is_some, not, ◌||◌}
use Rattle.dcv_command.proofs.Common.{if◌then◌else◌, AllByRecursion, list_all, list_any, both, is_false}
use Rattle.std.specs.Prelude.{IfSome}
use Rattle.std.proofs.lemmas.Bool.{or_from, or_parts}

pub each_fails : {X : Type 0} (test : X → Bool) (xs : List X) → list_any test xs ≡ false → AllByRecursion (λ x. test x ≡ false) xs
each_fails test [] none = tt
each_fails test (x ∷ xs) none = ((or_parts (test x) _ none).0, each_fails test xs (or_parts (test x) _ none).1)

pub none_passes : {X : Type 0} (test : X → Bool) (xs : List X) → AllByRecursion (λ x. test x ≡ false) xs → list_any test xs ≡ false
none_passes test [] all = refl
none_passes test (x ∷ xs) (one, others) = or_from (test x) (list_any test xs) one (none_passes test xs others)

pub all_both : {X : Type 0} (P Q R : X → Type 0) → ((x : X) → P x → Q x → R x) → (xs : List X) → AllByRecursion P xs → AllByRecursion Q xs → AllByRecursion R xs
all_both P Q R so [] ps qs = tt
all_both P Q R so (x ∷ xs) (p, ps) (q, qs) = (so x p q, all_both P Q R so xs ps qs)

pub if_found : {X : Type 0} (P : X → Type 0) (test : X → Bool) (xs : List X) → AllByRecursion P xs → IfSome (find test xs) (λ x. P x × (test x ≡ true))
if_found P test [] all = tt
if_found P test (x ∷ xs) (one, others) = by (test x) refl (if_found P test xs others)
  where
    by : (passes : Bool) → test x ≡ passes → IfSome (find test xs) (λ x. P x × (test x ≡ true))
        → IfSome (if passes then Some x else find test xs) (λ x. P x × (test x ≡ true))
    by true is later = (one, is)
    by false is later = later

pub any_is_found : {X : Type 0} (test : X → Bool) (xs : List X) → list_any test xs ≡ is_some (find test xs)
any_is_found test [] = refl
any_is_found test (x ∷ xs) = by (test x) (any_is_found test xs)
  where
    by : (passes : Bool) → list_any test xs ≡ is_some (find test xs) → (passes || list_any test xs) ≡ is_some (if passes then Some x else find test xs)
    by true later = refl
    by false later = later

pub none_found : {X : Type 0} (test : X → Bool) (xs : List X) → list_all (λ x. not (test x)) xs ≡ true → find test xs ≡ None
none_found test [] none = refl
none_found test (x ∷ xs) none =
    ap (λ passes. if passes then Some x else find test xs) (is_false (test x) (both (not (test x)) _ none).0)
    ∙ none_found test xs (both (not (test x)) _ none).1
