-- Chops in words: joined from the left or from the right they say the same, and `<>D` is true ^ D ^ true.
use Rattle.std.proofs.Common.{◌≡◌, ℕ, zero, suc, ◌+◌, ◌-◌, ◌≤◌, Bool, true, false, refl, sym, ap, ◌∙◌, arith, true≢false}
use Rattle.std.specs.Prelude.{◌||◌, ◌&&◌, ◌==◌, not}
use Rattle.std.proofs.lemmas.Bool.Decides.{nat_tests}
use Rattle.dcv_logic.specs.Search.{some_from, some_between, each_between}
use Rattle.dcv_logic.specs.Connectives.{somewhere}
use Rattle.dcv_logic.proofs.InWords.{some_between-found}

-- two truths are the same where each implies the other
pub by_both : (a b : Bool) → (a ≡ true → b ≡ true) → (b ≡ true → a ≡ true) → a ≡ b
by_both true true to from = refl
by_both true false to from = sym (to refl)
by_both false true to from = from refl
by_both false false to from = refl

pub and-parts : (a b : Bool) → (a && b) ≡ true → (a ≡ true) × (b ≡ true)
and-parts true b e = (refl, e)
and-parts false b e = absurd (true≢false (sym e))

pub and-both : (a b : Bool) → a ≡ true → b ≡ true → (a && b) ≡ true
and-both a b e f = λ i. e i && f i

pub and-true : (a : Bool) → (a && true) ≡ a
and-true true = refl
and-true false = refl

pub or-assoc : (a b c : Bool) → ((a || b) || c) ≡ (a || (b || c))
or-assoc true b c = refl
or-assoc false b c = refl

pub equal_itself : (n : ℕ) → (n == n) ≡ true
equal_itself n = grind (arith, nat_tests)

pub equal_only : (m n : ℕ) → (m == n) ≡ true → m ≡ n
equal_only m n e = grind (arith, nat_tests)

abbrev Between : (ℕ → Bool) → ℕ → ℕ → Type 0
Between p b e = (m : ℕ) × (b ≤ m) × (m ≤ e) × (p m ≡ true)

find : (b e : ℕ) (p : ℕ → Bool) → some_between b e p ≡ true → Between p b e
find b e p = (some_between-found b e p).0

give : (b e : ℕ) (p : ℕ → Bool) (m : ℕ) → b ≤ m → m ≤ e → p m ≡ true → some_between b e p ≡ true
give b e p m lo hi holds = (some_between-found b e p).1 (m, lo, hi, holds)

-- a chop whose second part is one instant
module _ (c : ℕ → Bool) (b e : ℕ) (le : b ≤ e) where
  pub chop-one : some_between b e (λ m. c m && m == e) ≡ c e
  chop-one = by_both _ _
      (λ some. at_end (find b e (λ m. c m && m == e) some))
      (λ holds. give b e (λ m. c m && m == e) e le (omega arith) (and-both (c e) (e == e) holds (equal_itself e)))
    where
      at_end : Between (λ m. c m && m == e) b e → c e ≡ true
      at_end (m, lo, hi, holds) =
          let parts = and-parts (c m) (m == e) holds in
          sym (ap c (equal_only m e parts.1)) ∙ parts.0

-- associativity
module _ (c d f : ℕ → ℕ → Bool) (b e : ℕ) where
  abbrev left_first : Bool
  left_first = some_between b e (λ m. some_between b m (λ l. c b l && d l m) && f m e)

  abbrev right_first : Bool
  right_first = some_between b e (λ l. c b l && some_between l e (λ m. d l m && f m e))

  to_right : Between (λ m. some_between b m (λ l. c b l && d l m) && f m e) b e → right_first ≡ true
  to_right (m, lo, hi, holds) =
      let parts = and-parts (some_between b m (λ l. c b l && d l m)) (f m e) holds in
      further (find b m (λ l. c b l && d l m) parts.0) parts.1
    where
      further : Between (λ l. c b l && d l m) b m → f m e ≡ true → right_first ≡ true
      further (l, low, high, both) last =
          let firsts = and-parts (c b l) (d l m) both in
          let rest = give l e (λ k. d l k && f k e) m high hi (and-both (d l m) (f m e) firsts.1 last) in
          give b e (λ k. c b k && some_between k e (λ j. d k j && f j e)) l low (omega (arith, high, hi)) (and-both (c b l) (some_between l e (λ j. d l j && f j e)) firsts.0 rest)

  to_left : Between (λ l. c b l && some_between l e (λ m. d l m && f m e)) b e → left_first ≡ true
  to_left (l, lo, hi, holds) =
      let parts = and-parts (c b l) (some_between l e (λ m. d l m && f m e)) holds in
      further parts.0 (find l e (λ m. d l m && f m e) parts.1)
    where
      further : c b l ≡ true → Between (λ m. d l m && f m e) l e → left_first ≡ true
      further first (m, low, high, both) =
          let lasts = and-parts (d l m) (f m e) both in
          let front = give b m (λ k. c b k && d k m) l lo low (and-both (c b l) (d l m) first lasts.0) in
          give b e (λ k. some_between b k (λ j. c b j && d j k) && f k e) m (omega (arith, lo, low)) high (and-both (some_between b m (λ j. c b j && d j m)) (f m e) front lasts.1)

  pub chop-assoc : left_first ≡ right_first
  chop-assoc = by_both left_first right_first
      (λ some. to_right (find b e (λ m. some_between b m (λ l. c b l && d l m) && f m e) some))
      (λ some. to_left (find b e (λ l. c b l && some_between l e (λ m. d l m && f m e)) some))

-- some part, as true ^ D ^ true
module _ (d : ℕ → ℕ → Bool) (b e : ℕ) where
  abbrev as_chop : Bool
  as_chop = some_between b e (λ m. some_between b m (λ l. true && d l m) && true)

  from_chop : Between (λ m. some_between b m (λ l. true && d l m) && true) b e → somewhere d b e ≡ true
  from_chop (m, lo, hi, holds) = further (find b m (λ l. true && d l m) (and-parts (some_between b m (λ l. true && d l m)) true holds).0)
    where
      further : Between (λ l. true && d l m) b m → somewhere d b e ≡ true
      further (l, low, high, both) =
          give b e (λ x. some_between x e (λ y. d x y)) l low (omega (arith, high, hi)) (give l e (λ y. d l y) m high hi both)

  to_chop : Between (λ x. some_between x e (λ y. d x y)) b e → as_chop ≡ true
  to_chop (l, lo, hi, holds) = further (find l e (λ y. d l y) holds)
    where
      further : Between (λ y. d l y) l e → as_chop ≡ true
      further (m, low, high, both) =
          give b e (λ k. some_between b k (λ j. true && d j k) && true) m (omega (arith, lo, low)) high
          (and-both (some_between b m (λ j. true && d j m)) true (give b m (λ j. true && d j m) l lo low both) refl)

  pub somewhere-chop : as_chop ≡ somewhere d b e
  somewhere-chop = by_both as_chop (somewhere d b e)
      (λ some. from_chop (find b e (λ m. some_between b m (λ l. true && d l m) && true) some))
      (λ some. to_chop (find b e (λ x. some_between x e (λ y. d x y)) some))

-- a search for nothing finds nothing, so each instant has what is true
nothing_found : (n i : ℕ) → some_from i n (λ m. false) ≡ false
nothing_found zero i = refl
nothing_found (suc n) i = nothing_found n (i + 1)

pub each_true : (b e : ℕ) → each_between b e (λ m. true) ≡ true
each_true b e = ap not (nothing_found (e + 1 - b) b)
