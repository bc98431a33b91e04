-- The star of an interval by its first part, and that steps beyond those of the interval change nothing.
use Rattle.std.proofs.Common.{◌≡◌, ℕ, zero, suc, ◌+◌, ◌-◌, ◌<◌, ◌≤◌, Bool, false, refl, sym, ap, ◌∙◌, arith}
use Rattle.std.specs.Prelude.{◌||◌, ◌&&◌, ◌==◌}
use Rattle.std.proofs.Math.Bool.{or-false}
use Rattle.std.proofs.lemmas.Bool.Decides.{nat_tests}
use Rattle.dcv_logic.specs.Search.{some_from, some_between}
use Rattle.dcv_logic.specs.Connectives.{star}

-- two tests that agree from some instant on are found alike
some_from-same : (p q : ℕ → Bool) (n i : ℕ) → ((m : ℕ) → i ≤ m → p m ≡ q m) → some_from i n p ≡ some_from i n q
some_from-same p q zero i same = refl
some_from-same p q (suc n) i same =
    ap (λ b. b || some_from (i + 1) n p) (same i (omega arith))
    ∙ ap (λ b. q i || b) (some_from-same p q n (i + 1) (λ m le. same m (omega arith)))

-- where no step is left, a star is one instant
no_step : (d : ℕ → ℕ → Bool) (n b e : ℕ) → e ≤ b → star d (suc n) b e ≡ (b == e)
no_step d n b e le =
    let none : e + 1 - (b + 1) ≡ 0 = omega arith in
    ap (λ left. b == e || some_from (b + 1) left (λ m. d b m && star d n m e)) none ∙ or-false (b == e)

-- steps beyond those of the interval change nothing
pub star_enough : (d : ℕ → ℕ → Bool) (n k b e : ℕ) → e - b ≤ n → e - b ≤ k → star d n b e ≡ star d k b e
star_enough d zero zero b e ln lk = refl
star_enough d zero (suc k) b e ln lk = sym (no_step d k b e (omega arith))
star_enough d (suc n) zero b e ln lk = no_step d n b e (omega arith)
star_enough d (suc n) (suc k) b e ln lk =
    ap (λ s. b == e || s) (some_from-same _ _ (e + 1 - (b + 1)) (b + 1) (λ m le. ap (λ s. d b m && s) (star_enough d n k m e (omega arith) (omega arith))))

pub other_instants : (b e : ℕ) → b < e → (b == e) ≡ false
other_instants b e lt = grind (arith, nat_tests)

-- a star of more than one instant: the first segment, and the star from its end
pub star-step : (d : ℕ → ℕ → Bool) (b e : ℕ) → b < e → star d (e - b) b e ≡ some_between (b + 1) e (λ m. d b m && star d (e - m) m e)
star-step d b e lt =
    let one_more : e - b ≡ suc (e - (b + 1)) = omega arith in
    ap (λ n. star d n b e) one_more
    ∙ ap (λ t. t || some_between (b + 1) e (λ m. d b m && star d (e - (b + 1)) m e)) (other_instants b e lt)
    ∙ some_from-same _ _ (e + 1 - (b + 1)) (b + 1) (λ m le. ap (λ s. d b m && s) (star_enough d (e - (b + 1)) (e - m) m e (omega arith) (omega arith)))
