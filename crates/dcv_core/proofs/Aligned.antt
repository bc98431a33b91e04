-- What is said of an interval by a search, a bracket, a count, a track or a star is said of another of the same length, where what holds at instants
-- agrees at those that stand side by side.
use Rattle.std.proofs.Common.{◌≡◌, ℕ, zero, suc, ◌+◌, ◌-◌, ◌<◌, ◌≤◌, Bool, true, false, cond, refl, ap, ◌∙◌, arith}
use Rattle.std.specs.Prelude.{◌||◌, ◌&&◌, ◌==◌, not, nat_lt}
use Rattle.std.proofs.lemmas.Bool.Decides.{nat_tests}
use Rattle.dcv_logic.specs.Search.{some_from, some_between, each_between, count_from, count_between}
use Rattle.dcv_logic.specs.Connectives.{bracket_holds, counted, star}
use Rattle.dcv_language.specs.Operations.{iff}
use Rattle.dcv_syntax.specs.declared.formulas.Bracket.{Bracket}
use Rattle.dcv_syntax.specs.declared.formulas.Bracket.TheVariants.{Point, Run, Every, Unit as TwoInstants}
use Rattle.dcv_syntax.specs.declared.formulas.Count.{Count}
use Rattle.dcv_syntax.specs.declared.formulas.Count.TheVariants.{Scount, Sdur}
use Rattle.dcv_syntax.specs.declared.propositions.Direction.{Direction}
use Rattle.dcv_syntax.specs.declared.propositions.Direction.TheVariants.{Prior, Next}
use Rattle.dcv_core.specs.Holds.{track_holds}

-- instants m and m' stand side by side, where b and x do
abbrev pub Beside : ℕ → ℕ → ℕ → ℕ → Type 0
Beside b x m m' = m + x ≡ m' + b

some_from-beside : (n i j : ℕ) (p q : ℕ → Bool) → ((m m' : ℕ) → i ≤ m → m < i + n → Beside i j m m' → p m ≡ q m') → some_from i n p ≡ some_from j n q
some_from-beside zero i j p q h = refl
some_from-beside (suc n) i j p q h =
    let head : p i ≡ q j = h i j (omega arith) (omega arith) (omega arith) in
    let rest : some_from (i + 1) n p ≡ some_from (j + 1) n q =
    some_from-beside n (i + 1) (j + 1) p q (λ m m' lo hi beside. h m m' (omega (arith, lo)) (omega (arith, hi)) (omega (arith, beside))) in
    λ k. head k || rest k

count_from-beside : (n i j : ℕ) (p q : ℕ → Bool) → ((m m' : ℕ) → i ≤ m → m < i + n → Beside i j m m' → p m ≡ q m') → count_from i n p ≡ count_from j n q
count_from-beside zero i j p q h = refl
count_from-beside (suc n) i j p q h =
    let head : p i ≡ q j = h i j (omega arith) (omega arith) (omega arith) in
    let rest : count_from (i + 1) n p ≡ count_from (j + 1) n q =
    count_from-beside n (i + 1) (j + 1) p q (λ m m' lo hi beside. h m m' (omega (arith, lo)) (omega (arith, hi)) (omega (arith, beside))) in
    λ k. cond (head k) 1 0 + rest k

module _ (b e x y : ℕ) (level : Beside b x e y) where
  as_many : e + 1 - b ≡ y + 1 - x
  as_many = omega (arith, level)

  module _ (p q : ℕ → Bool) (h : (m m' : ℕ) → b ≤ m → m ≤ e → Beside b x m m' → p m ≡ q m') where
    within : (m m' : ℕ) → b ≤ m → m < b + (e + 1 - b) → Beside b x m m' → p m ≡ q m'
    within m m' lo hi beside = h m m' lo (omega (arith, lo, hi)) beside

    pub some_between-beside : some_between b e p ≡ some_between x y q
    some_between-beside = some_from-beside (e + 1 - b) b x p q within ∙ ap (λ n. some_from x n q) as_many

    count_between-beside : count_between b e p ≡ count_between x y q
    count_between-beside = count_from-beside (e + 1 - b) b x p q within ∙ ap (λ n. count_from x n q) as_many

  each_between-beside : (p q : ℕ → Bool) → ((m m' : ℕ) → b ≤ m → m ≤ e → Beside b x m m' → p m ≡ q m') → each_between b e p ≡ each_between x y q
  each_between-beside p q h =
      ap not (some_between-beside (λ m. not (p m)) (λ m. not (q m)) (λ m m' lo hi beside. ap not (h m m' lo hi beside)))

-- ---- tests of an interval

equal-beside : (b e x y : ℕ) → Beside b x e y → (b == e) ≡ (x == y)
equal-beside b e x y level = grind (arith, nat_tests)

less-beside : (b e x y : ℕ) → Beside b x e y → nat_lt b e ≡ nat_lt x y
less-beside b e x y level = grind (arith, nat_tests)

next-beside : (b e x y : ℕ) → Beside b x e y → (e == b + 1) ≡ (y == x + 1)
next-beside b e x y level = grind (arith, nat_tests)

pub less_only : (b e : ℕ) → nat_lt b e ≡ true → b < e
less_only b e more = grind (arith, nat_tests)

pub and_given : (t p q : Bool) → (t ≡ true → p ≡ q) → (t && p) ≡ (t && q)
and_given true p q h = h refl
and_given false p q h = refl

-- ---- brackets, counts and tracks

module _ (b e x y : ℕ) (level : Beside b x e y) (begins : b ≤ e) (p q : ℕ → Bool) (h : (m m' : ℕ) → b ≤ m → m ≤ e → Beside b x m m' → p m ≡ q m') where
  first : p b ≡ q x
  first = h b x (omega arith) begins (omega arith)

  pub bracket-beside : (bracket : Bracket) → bracket_holds bracket p b e ≡ bracket_holds bracket q x y
  bracket-beside Point = λ i. equal-beside b e x y level i && first i
  bracket-beside Run =
      and_given (nat_lt b e) (each_between b (e - 1) p) (each_between x (y - 1) q)
      (λ more. let lt : b < e = less_only b e more in each_between-beside b (e - 1) x (y - 1) (omega (arith, level, lt)) p q (λ m m' lo hi. h m m' lo (omega (arith, hi))))
      ∙ ap (λ t. t && each_between x (y - 1) q) (less-beside b e x y level)
  bracket-beside Every = each_between-beside b e x y level p q h
  bracket-beside TwoInstants = λ i. next-beside b e x y level i && first i

  pub counted-beside : (count : Count) → counted count p b e ≡ counted count q x y
  counted-beside Scount = count_between-beside b e x y level p q h
  counted-beside Sdur =
      let steps : e - b ≡ y - x = omega (arith, level) in
      count_from-beside (e - b) b x p q (λ m m' lo hi. h m m' lo (omega (arith, hi, begins))) ∙ ap (λ n. count_from x n q) steps

  module _ (track other : ℕ → Bool) (own : (m m' : ℕ) → b ≤ m → m ≤ e → Beside b x m m' → track m ≡ other m') where
    pub track-beside : (direction : Direction) → track_holds direction track p b e ≡ track_holds direction other q x y
    track-beside Prior =
        let later = each_between-beside (b + 1) e (x + 1) y (omega (arith, level)) (λ m. iff (track m) (p (m - 1))) (λ m. iff (other m) (q (m - 1)))
        (λ m m' lo hi beside.
        let here = own m m' (omega (arith, lo)) hi (omega (arith, beside)) in
        let before = h (m - 1) (m' - 1) (omega (arith, lo)) (omega (arith, hi)) (omega (arith, lo, beside)) in
        λ i. iff (here i) (before i)) in
        λ i. not (own b x (omega arith) begins (omega arith) i) && later i
    track-beside Next =
        let earlier = each_between-beside (b + 1) e (x + 1) y (omega (arith, level)) (λ m. iff (track (m - 1)) (p m)) (λ m. iff (other (m - 1)) (q m))
        (λ m m' lo hi beside.
        let here = own (m - 1) (m' - 1) (omega (arith, lo)) (omega (arith, hi)) (omega (arith, lo, beside)) in
        let after = h m m' (omega (arith, lo)) hi (omega (arith, beside)) in
        λ i. iff (here i) (after i)) in
        λ i. not (own e y begins (omega arith) level i) && earlier i

-- the same of one interval
module _ (b e : ℕ) (p q : ℕ → Bool) (h : (m : ℕ) → b ≤ m → m ≤ e → p m ≡ q m) where
  at_one_place : (m m' : ℕ) → b ≤ m → m ≤ e → Beside b b m m' → p m ≡ q m'
  at_one_place m m' lo hi beside = h m lo hi ∙ ap q (omega (arith, beside))

  pub some_between-same : some_between b e p ≡ some_between b e q
  some_between-same = some_between-beside b e b e refl p q at_one_place

  pub bracket-same : b ≤ e → (bracket : Bracket) → bracket_holds bracket p b e ≡ bracket_holds bracket q b e
  bracket-same begins = bracket-beside b e b e refl begins p q at_one_place

  pub counted-same : b ≤ e → (count : Count) → counted count p b e ≡ counted count q b e
  counted-same begins = counted-beside b e b e refl begins p q at_one_place

module _ (b e : ℕ) (p q track other : ℕ → Bool) (h : (m : ℕ) → b ≤ m → m ≤ e → p m ≡ q m) (own : (m : ℕ) → b ≤ m → m ≤ e → track m ≡ other m) where
  pub track-same : b ≤ e → (direction : Direction) → track_holds direction track p b e ≡ track_holds direction other q b e
  track-same begins = track-beside b e b e refl begins p q (at_one_place b e p q h) track other (at_one_place b e track other own)

-- ---- stars

module _ (c d : ℕ → ℕ → Bool) where
  pub star-beside : (n b e x y : ℕ) → Beside b x e y
      → ((m k m' k' : ℕ) → b ≤ m → m ≤ k → k ≤ e → Beside b x m m' → Beside b x k k' → c m k ≡ d m' k')
      → star c n b e ≡ star d n x y
  star-beside zero b e x y level h = equal-beside b e x y level
  star-beside (suc n) b e x y level h =
      let here : (b == e) ≡ (x == y) = equal-beside b e x y level in
      let cut : some_between (b + 1) e (λ m. c b m && star c n m e) ≡ some_between (x + 1) y (λ m. d x m && star d n m y) =
      some_between-beside (b + 1) e (x + 1) y (omega (arith, level)) (λ m. c b m && star c n m e) (λ m. d x m && star d n m y)
      (λ m m' lo hi beside.
      let first : c b m ≡ d x m' = h b m x m' (omega arith) (omega (arith, lo)) hi (omega arith) (omega (arith, beside)) in
      let rest : star c n m e ≡ star d n m' y = star-beside n m e m' y (omega (arith, level, beside))
      (λ s t s' t' low up high beside_s beside_t. h s t s' t' (omega (arith, low, lo)) up high (omega (arith, beside, beside_s)) (omega (arith, beside, beside_t))) in
      λ i. first i && rest i) in
      λ i. here i || cut i

  pub star-same : (n b e : ℕ) → ((m k : ℕ) → b ≤ m → m ≤ k → k ≤ e → c m k ≡ d m k) → star c n b e ≡ star d n b e
  star-same n b e h = star-beside n b e b e refl
      (λ m k m' k' lo up hi beside_m beside_k.
      let same_m : m ≡ m' = omega (arith, beside_m) in
      let same_k : k ≡ k' = omega (arith, beside_k) in
      h m k lo up hi ∙ (λ i. d (same_m i) (same_k i)))
