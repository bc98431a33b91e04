-- What the searches find, what the counts count, and the forms that search, each in words.
use Rattle.std.proofs.Common.{◌≡◌, ℕ, zero, suc, ◌+◌, ◌-◌, ◌<◌, ◌≤◌, Bool, true, false, cond, [], ◌∷◌, ◌⊎◌, inl, inr, length, map, refl, sym, ap, subst, ◌∙◌, arith, true≢false}
use Rattle.std.specs.Prelude.{◌||◌, ◌&&◌, ◌==◌, not}
use Rattle.std.specs.Bool.{Decides}
use Rattle.std.specs.List.{range_with_len}
use Rattle.std.proofs.Math.Nat.{eq-or-lt_of_le}
use Rattle.std.proofs.Math.Bool.{or-false}
use Rattle.std.proofs.lemmas.Bool.{true_from_ne_false, not_from_false, not-true}
use Rattle.std.proofs.lemmas.Bool.Decides.{Decides-like, Decides-at, Decides-not, Decides-and, Decides-or, Decides-eqb, Decides-ltb}
use Rattle.std.proofs.lemmas.List.Sums.{sum_by-cons}
use Rattle.std.proofs.lemmas.List.FromFn.{length-map-range_with_len, get_or-map-range_with_len}
use Rattle.dcv_logic.specs.Track.{Track, truth_at, values_from}
use Rattle.dcv_logic.specs.Search.{some_from, some_between}
use Rattle.dcv_language.specs.Operations.{some_track}
use Rattle.dcv_logic.specs.Satisfaction.{satisfies, chop_holds}
use Rattle.dcv_logic.specs.Connectives.{star, somewhere}
use Rattle.dcv_logic.specs.Laws.{SomeBetweenIsThere, EachBetweenIsEvery, SomeTrackIsThere, TrackHasEachInstant, TrackHasItsValues, CountFromCounts, CountBetweenCounts, RunInWords, EveryInWords, ChopOfOne, ChopInWords, StarInWords, StarBoundIsFree, SomewhereInWords, EverywhereInWords, ExistsInWords, ForAllInWords}
use Rattle.dcv_logic.specs.Value.{value}
use Rattle.dcv_logic.specs.Environment.{bind}
use Rattle.dcv_logic.proofs.Stars.{star-step, star_enough, other_instants}

-- a test decides that it is true
itself : (x : Bool) → Decides x (x ≡ true)
itself x = (λ e. e, λ e. e)

-- ---- searches over instants

module _ (P : ℕ → Type 0) where
  -- one of n instants from i on
  abbrev Among : ℕ → ℕ → Type 0
  Among i n = (m : ℕ) × (i ≤ m) × (m < i + n) × P m

  first_or_later : (i n : ℕ) → P i ⊎ Among (i + 1) n → Among i (suc n)
  first_or_later i n (inl here) = (i, omega arith, omega arith, here)
  first_or_later i n (inr (m, lo, hi, holds)) = (m, omega (arith, lo), omega (arith, hi), holds)

  by_place : (i n m : ℕ) → (i ≡ m) ⊎ (i < m) → m < i + suc n → P m → P i ⊎ Among (i + 1) n
  by_place i n m (inl e) hi holds = inl (subst P (sym e) holds)
  by_place i n m (inr lt) hi holds = inr (m, omega (arith, lt), omega (arith, hi), holds)

  is_first_or_later : (i n : ℕ) → Among i (suc n) → P i ⊎ Among (i + 1) n
  is_first_or_later i n (m, lo, hi, holds) = by_place i n m (eq-or-lt_of_le lo) hi holds

  none_left : (i : ℕ) → Among i zero → ⊥
  none_left i (m, lo, hi, holds) = omega (arith, lo, hi)

  up_to : (b e : ℕ) → Among b (e + 1 - b) → (m : ℕ) × (b ≤ m) × (m ≤ e) × P m
  up_to b e (m, lo, hi, holds) = (m, lo, omega (arith, lo, hi), holds)

  from_up_to : (b e : ℕ) → ((m : ℕ) × (b ≤ m) × (m ≤ e) × P m) → Among b (e + 1 - b)
  from_up_to b e (m, lo, hi, holds) = (m, lo, omega (arith, lo, hi), holds)

  -- a search for what a test decides
  module _ (p : ℕ → Bool) (each : (m : ℕ) → Decides (p m) (P m)) where
    some_among : (n i : ℕ) → Decides (some_from i n p) (Among i n)
    some_among zero i = (λ e. absurd (true≢false (sym e)), λ found. absurd (none_left i found))
    some_among (suc n) i =
        Decides-like _ (first_or_later i n) (is_first_or_later i n) (Decides-or (p i) (some_from (i + 1) n p) (each i) (some_among n (i + 1)))

    some_such : (b e : ℕ) → Decides (some_between b e p) ((m : ℕ) × (b ≤ m) × (m ≤ e) × P m)
    some_such b e = Decides-like _ (up_to b e) (from_up_to b e) (some_among (e + 1 - b) b)

-- a search for what two tests decide
module _ (P Q : ℕ → Type 0) (b e : ℕ) where
  with_both : ((m : ℕ) × (b ≤ m) × (m ≤ e) × (P m × Q m)) → (m : ℕ) × (b ≤ m) × (m ≤ e) × P m × Q m
  with_both (m, lo, hi, (first, second)) = (m, lo, hi, first, second)

  with_pair : ((m : ℕ) × (b ≤ m) × (m ≤ e) × P m × Q m) → (m : ℕ) × (b ≤ m) × (m ≤ e) × (P m × Q m)
  with_pair (m, lo, hi, first, second) = (m, lo, hi, (first, second))

  some_with_both : (p q : ℕ → Bool) → ((m : ℕ) → Decides (p m) (P m)) → ((m : ℕ) → Decides (q m) (Q m)) →
      Decides (some_between b e (λ m. p m && q m)) ((m : ℕ) × (b ≤ m) × (m ≤ e) × P m × Q m)
  some_with_both p q each_p each_q =
      Decides-like _ with_both with_pair (some_such (λ m. P m × Q m) (λ m. p m && q m) (λ m. Decides-and (p m) (q m) (each_p m) (each_q m)) b e)

pub some_between-found : SomeBetweenIsThere
some_between-found b e p = some_such (λ m. p m ≡ true) p (λ m. itself (p m)) b e

-- no counterexample between two instants
module _ (p : ℕ → Bool) (b e : ℕ) where
  each_holds : (((m : ℕ) × (b ≤ m) × (m ≤ e) × (not (p m) ≡ true)) → ⊥) → (m : ℕ) → b ≤ m → m ≤ e → p m ≡ true
  each_holds none m lo hi = true_from_ne_false (p m) (λ fails. none (m, lo, hi, not_from_false (p m) fails))

  none_fails_between : ((m : ℕ) → b ≤ m → m ≤ e → p m ≡ true) → ((m : ℕ) × (b ≤ m) × (m ≤ e) × (not (p m) ≡ true)) → ⊥
  none_fails_between all (m, lo, hi, fails) = true≢false (sym (all m lo hi) ∙ not-true (p m) fails)

pub each_between-every : EachBetweenIsEvery
each_between-every b e p =
    Decides-like _ (each_holds p b e) (none_fails_between p b e) (Decides-not _ (some_between-found b e (λ m. not (p m))))

-- ---- searches over tracks

abbrev TrackWith : ℕ → (Track → Bool) → Type 0
TrackWith n p = (track : Track) × (length track ≡ n) × (p track ≡ true)

only_empty : (p : Track → Bool) → TrackWith zero p → p [] ≡ true
only_empty p ([], len, holds) = holds
only_empty p (x ∷ track, len, holds) = absurd (omega (arith, len))

either_first : (n : ℕ) (p : Track → Bool) → TrackWith n (λ t. p (false ∷ t)) ⊎ TrackWith n (λ t. p (true ∷ t)) → TrackWith (suc n) p
either_first n p (inl (track, len, holds)) = (false ∷ track, ap suc len, holds)
either_first n p (inr (track, len, holds)) = (true ∷ track, ap suc len, holds)

by_first : (n : ℕ) (p : Track → Bool) → TrackWith (suc n) p → TrackWith n (λ t. p (false ∷ t)) ⊎ TrackWith n (λ t. p (true ∷ t))
by_first n p ([], len, holds) = absurd (omega (arith, len))
by_first n p (false ∷ track, len, holds) = inl (track, omega (arith, len), holds)
by_first n p (true ∷ track, len, holds) = inr (track, omega (arith, len), holds)

pub some_track-found : SomeTrackIsThere
some_track-found zero p = (λ holds. ([], refl, holds), only_empty p)
some_track-found (suc n) p =
    Decides-like _ (either_first n p) (by_first n p)
    (Decides-or _ _ (some_track-found n (λ t. p (false ∷ t))) (some_track-found n (λ t. p (true ∷ t))))

module _ (n : ℕ) (p : Track → Bool) where
  each_track : (TrackWith n (λ t. not (p t)) → ⊥) → (track : Track) → length track ≡ n → p track ≡ true
  each_track none track len = true_from_ne_false (p track) (λ fails. none (track, len, not_from_false (p track) fails))

  no_track_fails : ((track : Track) → length track ≡ n → p track ≡ true) → TrackWith n (λ t. not (p t)) → ⊥
  no_track_fails all (track, len, fails) = true≢false (sym (all track len) ∙ not-true (p track) fails)

  all_tracks-every : Decides (not (some_track n (λ t. not (p t)))) ((track : Track) → length track ≡ n → p track ≡ true)
  all_tracks-every = Decides-like _ each_track no_track_fails (Decides-not _ (some_track-found n (λ t. not (p t))))

-- ---- tracks and counts

values-map : (f : ℕ → Bool) (n i : ℕ) → values_from f i n ≡ map f (range_with_len i n)
values-map f zero i = refl
values-map f (suc n) i = ap (λ rest. f i ∷ rest) (values-map f n (i + 1))

pub track-length : TrackHasEachInstant
track-length n f = ap length (values-map f n 0) ∙ length-map-range_with_len f 0 n

pub track-values : TrackHasItsValues
track-values n f i lt = ap (λ track. truth_at track i) (values-map f n 0) ∙ get_or-map-range_with_len f 0 n i i false lt (omega arith)

pub count_from-counts : CountFromCounts
count_from-counts i zero p = refl
count_from-counts i (suc n) p =
    ap (λ k. cond (p i) 1 0 + k) (count_from-counts (i + 1) n p) ∙ sym (sum_by-cons (λ m. cond (p m) 1 0) i (range_with_len (i + 1) n))

pub count_between-counts : CountBetweenCounts
count_between-counts b e p = count_from-counts b (e + 1 - b) p

-- ---- forms over parts of an interval

but_the_last : (V : ℕ → Type 0) (b e : ℕ) → (b < e) × ((i : ℕ) → b ≤ i → i ≤ e - 1 → V i) → (b < e) × ((i : ℕ) → b ≤ i → i < e → V i)
but_the_last V b e (lt, all) = (lt, λ i lo hi. all i lo (omega (arith, hi)))

up_to_the_last : (V : ℕ → Type 0) (b e : ℕ) → (b < e) × ((i : ℕ) → b ≤ i → i < e → V i) → (b < e) × ((i : ℕ) → b ≤ i → i ≤ e - 1 → V i)
up_to_the_last V b e (lt, all) = (lt, λ i lo hi. all i lo (omega (arith, hi, lt)))

pub run-in_words : RunInWords
run-in_words env p b e =
    Decides-like _ (but_the_last (λ i. value env p.kind i ≡ true) b e) (up_to_the_last (λ i. value env p.kind i ≡ true) b e) (Decides-and _ _ (Decides-ltb b e) (each_between-every b (e - 1) (value env p.kind)))

pub every-in_words : EveryInWords
every-in_words env p b e = each_between-every b e (value env p.kind)

at_the_end : (P : ℕ → Type 0) (b e : ℕ) → ((m : ℕ) × (b ≤ m) × (m ≤ e) × P m × (m ≡ e)) → P e
at_the_end P b e (m, lo, hi, holds, is) = subst P is holds

pub chop-of_one : ChopOfOne
chop-of_one env d span outer b e le =
    Decides-like _ (at_the_end (λ m. satisfies env d b m ≡ true) b e) (λ holds. (e, le, omega arith, holds, refl))
    (some_with_both (λ m. satisfies env d b m ≡ true) (λ m. m ≡ e) b e (satisfies env d b) (λ m. m == e) (λ m. itself (satisfies env d b m)) (λ m. Decides-eqb m e))

pub chop-in_words : ChopInWords
chop-in_words env d span outer rest b e =
    let first : ℕ → Bool = λ m. satisfies env d b m in
    let others : ℕ → Bool = λ m. chop_holds env rest m e in
    some_with_both (λ m. first m ≡ true) (λ m. others m ≡ true) b e first others (λ m. itself (first m)) (λ m. itself (others m))

-- the equation of a star, as a test
module _ (d : ℕ → ℕ → Bool) (b e : ℕ) where
  abbrev cut : ℕ → Bool
  cut m = d b m && star d (e - m) m e

  star_here : e ≤ b → star d (e - b) b e ≡ (b == e || some_between (b + 1) e cut)
  star_here le =
      let at_once : e - b ≡ 0 = omega (arith, le) in
      let none : e + 1 - (b + 1) ≡ 0 = omega (arith, le) in
      ap (λ n. star d n b e) at_once ∙ sym (or-false (b == e)) ∙ ap (λ left. b == e || some_from (b + 1) left cut) (sym none)

  star_later : b < e → star d (e - b) b e ≡ (b == e || some_between (b + 1) e cut)
  star_later lt = star-step d b e lt ∙ sym (ap (λ t. t || some_between (b + 1) e cut) (other_instants b e lt))

  star_equation : (b ≡ e) ⊎ (b < e) → star d (e - b) b e ≡ (b == e || some_between (b + 1) e cut)
  star_equation (inl is) = star_here (omega (arith, is))
  star_equation (inr lt) = star_later lt

module _ (P Q : ℕ → Type 0) (b e : ℕ) where
  one_or_cut : (b ≡ e) ⊎ ((m : ℕ) × (b + 1 ≤ m) × (m ≤ e) × P m × Q m) → (e ≡ b) ⊎ ((m : ℕ) × (b < m) × (m ≤ e) × P m × Q m)
  one_or_cut (inl is) = inl (sym is)
  one_or_cut (inr (m, lo, hi, first, rest)) = inr (m, omega (arith, lo), hi, first, rest)

  is_one_or_cut : (e ≡ b) ⊎ ((m : ℕ) × (b < m) × (m ≤ e) × P m × Q m) → (b ≡ e) ⊎ ((m : ℕ) × (b + 1 ≤ m) × (m ≤ e) × P m × Q m)
  is_one_or_cut (inl is) = inl (sym is)
  is_one_or_cut (inr (m, lo, hi, first, rest)) = inr (m, omega (arith, lo), hi, first, rest)

pub star-in_words : StarInWords
star-in_words env d span b e le =
    let body = satisfies env d in
    let first : ℕ → Bool = λ m. body b m in
    let rest : ℕ → Bool = λ m. star body (e - m) m e in
    let First : ℕ → Type 0 = λ m. first m ≡ true in
    let Rest : ℕ → Type 0 = λ m. rest m ≡ true in
    Decides-at _ _ (star_equation body b e (eq-or-lt_of_le le))
    (Decides-like _ (one_or_cut First Rest b e) (is_one_or_cut First Rest b e)
    (Decides-or _ _ (Decides-eqb b e) (some_with_both First Rest (b + 1) e first rest (λ m. itself (first m)) (λ m. itself (rest m)))))

pub star-bound : StarBoundIsFree
star-bound d n b e le = star_enough d n (e - b) b e le (omega arith)

-- the parts of an interval
module _ (P : ℕ → ℕ → Type 0) (b e : ℕ) where
  pair : ((x : ℕ) × (b ≤ x) × (x ≤ e) × ((y : ℕ) × (x ≤ y) × (y ≤ e) × P x y)) → (x : ℕ) × (y : ℕ) × (b ≤ x) × (x ≤ y) × (y ≤ e) × P x y
  pair (x, lo, hi, (y, xy, ye, holds)) = (x, y, lo, xy, ye, holds)

  unpair : ((x : ℕ) × (y : ℕ) × (b ≤ x) × (x ≤ y) × (y ≤ e) × P x y) → (x : ℕ) × (b ≤ x) × (x ≤ e) × ((y : ℕ) × (x ≤ y) × (y ≤ e) × P x y)
  unpair (x, y, lo, xy, ye, holds) = (x, lo, omega (arith, xy, ye), (y, xy, ye, holds))

somewhere-found : (d : ℕ → ℕ → Bool) (b e : ℕ) → Decides (somewhere d b e) ((x : ℕ) × (y : ℕ) × (b ≤ x) × (x ≤ y) × (y ≤ e) × (d x y ≡ true))
somewhere-found d b e =
    let Part : ℕ → Type 0 = λ x. (y : ℕ) × (x ≤ y) × (y ≤ e) × (d x y ≡ true) in
    Decides-like _ (pair (λ x y. d x y ≡ true) b e) (unpair (λ x y. d x y ≡ true) b e) (some_such Part _ (λ x. some_between-found x e (d x)) b e)

module _ (d : ℕ → ℕ → Bool) (b e : ℕ) where
  abbrev FailsSomewhere : Type 0
  FailsSomewhere = (x : ℕ) × (y : ℕ) × (b ≤ x) × (x ≤ y) × (y ≤ e) × (not (d x y) ≡ true)

  everywhere : (FailsSomewhere → ⊥) → (x y : ℕ) → b ≤ x → x ≤ y → y ≤ e → d x y ≡ true
  everywhere none x y lo xy ye = true_from_ne_false (d x y) (λ fails. none (x, y, lo, xy, ye, not_from_false (d x y) fails))

  nowhere_fails : ((x y : ℕ) → b ≤ x → x ≤ y → y ≤ e → d x y ≡ true) → FailsSomewhere → ⊥
  nowhere_fails all (x, y, lo, xy, ye, fails) = true≢false (sym (all x y lo xy ye) ∙ not-true (d x y) fails)

pub somewhere-in_words : SomewhereInWords
somewhere-in_words env d span b e = somewhere-found (satisfies env d) b e

pub everywhere-in_words : EverywhereInWords
everywhere-in_words env d span b e =
    let body = satisfies env d in
    Decides-like _ (everywhere body b e) (nowhere_fails body b e) (Decides-not _ (somewhere-found (λ x y. not (body x y)) b e))

-- ---- quantifiers

pub exists-in_words : ExistsInWords
exists-in_words env name d span b e = some_track-found env.instants (λ track. satisfies (bind env name.text track) d b e)

pub for_all-in_words : ForAllInWords
for_all-in_words env name d span b e = all_tracks-every env.instants (λ track. satisfies (bind env name.text track) d b e)
