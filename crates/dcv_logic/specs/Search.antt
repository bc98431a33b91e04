-- Bounded searches: some instant of an interval, and how many instants.
use Rattle.std.specs.Prelude.{ℕ, zero, suc, ◌+◌, ◌-◌, Bool, false, ◌||◌, not, if◌then◌else◌}

-- one of the n instants from i on has p
abbrev pub some_from : ℕ → ℕ → (ℕ → Bool) → Bool
some_from i zero p = false
some_from i (suc n) p = p i || some_from (i + 1) n p

-- some m with b ≤ m ≤ e has p
abbrev pub some_between : ℕ → ℕ → (ℕ → Bool) → Bool
some_between b e p = some_from b (e + 1 - b) p

-- each m with b ≤ m ≤ e has p
abbrev pub each_between : ℕ → ℕ → (ℕ → Bool) → Bool
each_between b e p = not (some_between b e (λ m. not (p m)))

-- how many of the n instants from i on have p
abbrev pub count_from : ℕ → ℕ → (ℕ → Bool) → ℕ
count_from i zero p = 0
count_from i (suc n) p = (if p i then 1 else 0) + count_from (i + 1) n p

-- how many m with b ≤ m ≤ e have p
abbrev pub count_between : ℕ → ℕ → (ℕ → Bool) → ℕ
count_between b e p = count_from b (e + 1 - b) p
