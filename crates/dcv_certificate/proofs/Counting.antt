-- How many pairs of states are in one block: fewer where blocks were split.
use Rattle.std.proofs.Common.{◌≡◌, ◌≢◌, ◌⊎◌, inl, inr, ℕ, zero, suc, ◌<◌, ◌≤◌, ◌+◌, ◌==◌, if◌then◌else◌, Bool, true, false, List, refl, sym, ap, arith}
use Rattle.std.proofs.lemmas.Bool.{cases_lt, eqb-true, eq-eqb, ne_eqb, true≢false}
use Rattle.dcv_refinement.specs.Members.{block_of}
use Rattle.dcv_certificate.specs.Separation.{count_below, sum_below, pairs_together}

pub last_or_before : (place count : ℕ) → place < suc count → (place < count) ⊎ (place ≡ count)
last_or_before place count h = elim (cases_lt place count) [ inl l ↦ inl l | inr l ↦ inr (omega arith) ]

abbrev pub one_if : Bool → ℕ
one_if test = if test then 1 else 0

pub one_if_le : (b : Bool) → one_if b ≤ 1
one_if_le true = omega arith
one_if_le false = omega arith

one_le : (a b : Bool) → (a ≡ true → b ≡ true) → one_if a ≤ one_if b
one_le true true h = omega arith
one_le true false h = absurd (true≢false (sym (h refl)))
one_le false true h = omega arith
one_le false false h = omega arith

one_lt : (a b : Bool) → a ≡ false → b ≡ true → one_if a < one_if b
one_lt true b e f = absurd (true≢false e)
one_lt false true e f = omega arith
one_lt false false e f = absurd (true≢false (sym f))

pub count_le : (n : ℕ) (p q : ℕ → Bool) → ((i : ℕ) → i < n → p i ≡ true → q i ≡ true) → count_below n p ≤ count_below n q
count_le zero p q h = omega arith
count_le (suc n) p q h =
    let rest : count_below n p ≤ count_below n q = count_le n p q (λ i l. h i (omega arith)) in
    let here : one_if (p n) ≤ one_if (q n) = one_le (p n) (q n) (h n (omega arith)) in
    omega arith

pub count_lt : (n : ℕ) (p q : ℕ → Bool) → ((i : ℕ) → i < n → p i ≡ true → q i ≡ true) → (at : ℕ) → at < n → p at ≡ false → q at ≡ true → count_below n p < count_below n q
count_lt zero p q h at l absent there = absurd (omega arith)
count_lt (suc n) p q h at l absent there = elim (last_or_before at n l) [
  | inl before ↦
      let rest : count_below n p < count_below n q = count_lt n p q (λ i l. h i (omega arith)) at before absent there in
      let here : one_if (p n) ≤ one_if (q n) = one_le (p n) (q n) (h n (omega arith)) in
      omega arith
  | inr e ↦
      let rest : count_below n p ≤ count_below n q = count_le n p q (λ i l. h i (omega arith)) in
      let here : one_if (p n) < one_if (q n) = one_lt (p n) (q n) (rw e at absent) (rw e at there) in
      omega arith
]

pub count_same : (n : ℕ) (p q : ℕ → Bool) → ((i : ℕ) → i < n → p i ≡ q i) → count_below n p ≡ count_below n q
count_same zero p q h = refl
count_same (suc n) p q h =
    let rest : count_below n p ≡ count_below n q = count_same n p q (λ i l. h i (omega arith)) in
    let here : one_if (p n) ≡ one_if (q n) = ap one_if (h n (omega arith)) in
    omega arith

-- one test is another but for one number
pub count_change : (n : ℕ) (p q : ℕ → Bool) (at : ℕ) → at < n → ((i : ℕ) → i ≢ at → p i ≡ q i) → count_below n p + one_if (q at) ≡ count_below n q + one_if (p at)
count_change zero p q at l h = absurd (omega arith)
count_change (suc n) p q at l h = elim (last_or_before at n l) [
  | inl before ↦
      let rest : count_below n p + one_if (q at) ≡ count_below n q + one_if (p at) = count_change n p q at before h in
      let differ : n ≢ at = omega arith in
      let here : one_if (p n) ≡ one_if (q n) = ap one_if (h n differ) in
      omega arith
  | inr e ↦
      let rest : count_below n p ≡ count_below n q = count_same n p q (λ i g. h i (let differ : i ≢ at = omega arith in differ)) in
      let one : one_if (p at) ≡ one_if (p n) = ap (λ i. one_if (p i)) e in
      let other : one_if (q at) ≡ one_if (q n) = ap (λ i. one_if (q i)) e in
      omega arith
]

pub count_none : (n : ℕ) (p : ℕ → Bool) → ((i : ℕ) → i < n → p i ≡ false) → count_below n p ≡ 0
count_none zero p h = refl
count_none (suc n) p h =
    let rest : count_below n p ≡ 0 = count_none n p (λ i l. h i (omega arith)) in
    let here : one_if (p n) ≡ 0 = ap one_if (h n (omega arith)) in
    omega arith

pub count_some : (n : ℕ) (p : ℕ → Bool) (at : ℕ) → at < n → p at ≡ true → 0 < count_below n p
count_some n p at l there =
    let least : count_below n (λ i. false) < count_below n p = count_lt n (λ i. false) p (λ i g e. absurd (true≢false (sym e))) at l refl there in
    omega arith

pub record Passes (n : ℕ) (p q : ℕ → Bool) : Type 0 where
  pub number : ℕ
  pub below : number < n
  pub one : p number ≡ false
  pub other : q number ≡ true

longer : (n : ℕ) (p q : ℕ → Bool) → Passes n p q → Passes (suc n) p q
longer n p q is = record { number = is.number; below = omega (arith, is.below); one = is.one; other = is.other }

-- where more numbers pass a test than pass another, some number passes the one alone
pub more_pass : (n : ℕ) (p q : ℕ → Bool) → count_below n p < count_below n q → Passes n p q
more_pass zero p q h = absurd (omega arith)
more_pass (suc n) p q h = by (p n) (q n) refl refl (λ less. more_pass n p q less)
  where
    by : (a b : Bool) → p n ≡ a → q n ≡ b → (count_below n p < count_below n q → Passes n p q) → Passes (suc n) p q
    by false true e f rest = record { number = n; below = omega arith; one = e; other = f }
    by true b e f rest =
        let full : one_if (p n) ≡ 1 = ap one_if e in
        let most = one_if_le (q n) in
        longer n p q (rest (omega arith))
    by false false e f rest = let none : one_if (q n) ≡ 0 = ap one_if f in longer n p q (rest (omega arith))

sum_le : (n : ℕ) (f g : ℕ → ℕ) → ((i : ℕ) → i < n → f i ≤ g i) → sum_below n f ≤ sum_below n g
sum_le zero f g h = omega arith
sum_le (suc n) f g h =
    let rest : sum_below n f ≤ sum_below n g = sum_le n f g (λ i l. h i (omega arith)) in
    let here : f n ≤ g n = h n (omega arith) in
    omega arith

sum_lt : (n : ℕ) (f g : ℕ → ℕ) → ((i : ℕ) → i < n → f i ≤ g i) → (at : ℕ) → at < n → f at < g at → sum_below n f < sum_below n g
sum_lt zero f g h at l less = absurd (omega arith)
sum_lt (suc n) f g h at l less = elim (last_or_before at n l) [
  | inl before ↦
      let rest : sum_below n f < sum_below n g = sum_lt n f g (λ i l. h i (omega arith)) at before less in
      let here : f n ≤ g n = h n (omega arith) in
      omega arith
  | inr e ↦
      let rest : sum_below n f ≤ sum_below n g = sum_le n f g (λ i l. h i (omega arith)) in
      let here : f n < g n = rw e at less in
      omega arith
]

-- a partition that is finer has fewer pairs, where two states were parted
pub pairs_fewer : (states : ℕ) (old new : List ℕ)
    → ((first second : ℕ) → first < states → second < states → block_of new first ≡ block_of new second → block_of old first ≡ block_of old second)
    → (first second : ℕ) → first < states → second < states → block_of old first ≡ block_of old second → block_of new first ≢ block_of new second
    → pairs_together states new < pairs_together states old
unfolding pairs_together
pairs_fewer states old new finer first second h l same differ =
    let row = λ (blocks : List ℕ) (a : ℕ). count_below states (λ b. block_of blocks a == block_of blocks b) in
    let kept = λ (a : ℕ) (g : a < states) (b : ℕ) (k : b < states) (e : (block_of new a == block_of new b) ≡ true).
    eq-eqb (block_of old a) (block_of old b) (finer a b g k (eqb-true (block_of new a) (block_of new b) e)) in
    sum_lt states (row new) (row old)
    (λ a g. count_le states (λ b. block_of new a == block_of new b) (λ b. block_of old a == block_of old b) (kept a g))
    first h
    (count_lt states (λ b. block_of new first == block_of new b) (λ b. block_of old first == block_of old b) (kept first h) second l
    (ne_eqb (block_of new first) (block_of new second) differ) (eq-eqb (block_of old first) (block_of old second) same))
