-- A number for each pair of numbers and for each list of them. Different ones have different numbers.
use Rattle.std.specs.Prelude.{◌≡◌, ℕ, zero, suc, ◌+◌, ◌<◌, Bool, true, false, List, [], ◌∷◌, refl}
use Rattle.std.proofs.Common.{ap, arith}

-- doubled as often as the first says, of the second's odd number
unfoldable pub number_of_pair : ℕ → ℕ → ℕ
number_of_pair zero second = suc (second + second)
number_of_pair (suc first) second = number_of_pair first second + number_of_pair first second

unfoldable pub number_of_list : List ℕ → ℕ
number_of_list [] = 0
number_of_list (n ∷ numbers) = number_of_pair n (number_of_list numbers)

unfoldable pub number_of_truth : Bool → ℕ
number_of_truth false = 0
number_of_truth true = 1

pub pairs_apart : (first second other another : ℕ) → number_of_pair first second ≡ number_of_pair other another → (first ≡ other) × (second ≡ another)
unfolding number_of_pair
pairs_apart zero second zero another same = (refl, omega (arith, same))
pairs_apart zero second (suc other) another same = absurd (omega (arith, same))
pairs_apart (suc first) second zero another same = absurd (omega (arith, same))
pairs_apart (suc first) second (suc other) another same =
    let rest = pairs_apart first second other another (omega (arith, same)) in
    (ap suc rest.0, rest.1)

positive : (first second : ℕ) → 0 < number_of_pair first second
unfolding number_of_pair
positive zero second = omega arith
positive (suc first) second = omega (arith, positive first second)

pub lists_apart : (first second : List ℕ) → number_of_list first ≡ number_of_list second → first ≡ second
unfolding number_of_list
lists_apart [] [] same = refl
lists_apart [] (n ∷ second) same = absurd (omega (arith, same, positive n (number_of_list second)))
lists_apart (m ∷ first) [] same = absurd (omega (arith, same, positive m (number_of_list first)))
lists_apart (m ∷ first) (n ∷ second) same =
    let parts = pairs_apart m (number_of_list first) n (number_of_list second) same in
    let rest = lists_apart first second parts.1 in
    λ i. parts.0 i ∷ rest i

pub truths_apart : (first second : Bool) → number_of_truth first ≡ number_of_truth second → first ≡ second
unfolding number_of_truth
truths_apart false false same = refl
truths_apart false true same = absurd (omega (arith, same))
truths_apart true false same = absurd (omega (arith, same))
truths_apart true true same = refl
