-- Truths of `and` and `or` where one side is known.
use Rattle.std.proofs.Common.{◌≡◌, ◌||◌, ◌&&◌, Bool, true, false, refl, sym}
use Rattle.std.proofs.lemmas.Bool.{true≢false}

pub or_left : (a b : Bool) → a ≡ true → (a || b) ≡ true
or_left true b e = refl
or_left false b e = absurd (true≢false (sym e))

pub or_right : (a b : Bool) → b ≡ true → (a || b) ≡ true
or_right true b e = refl
or_right false b e = e

pub or_neither : (a b : Bool) → b ≡ false → (a || b) ≡ a
or_neither true b e = refl
or_neither false b e = e

pub or_other : (a b : Bool) → a ≡ false → (a || b) ≡ true → b ≡ true
or_other true b e f = absurd (true≢false e)
or_other false b e f = f

pub and_left : (a b : Bool) → a ≡ true → (a && b) ≡ b
and_left true b e = refl
and_left false b e = absurd (true≢false (sym e))

pub and_right : (a b : Bool) → b ≡ true → (a && b) ≡ a
and_right true b e = e
and_right false b e = refl

pub and_first : (a b : Bool) → a ≡ false → (a && b) ≡ false
and_first true b e = absurd (true≢false e)
and_first false b e = refl

pub and_second : (a b : Bool) → b ≡ false → (a && b) ≡ false
and_second true b e = e
and_second false b e = refl

pub and_parts : (a b : Bool) → (a && b) ≡ true → (a ≡ true) × (b ≡ true)
and_parts true true e = (refl, refl)
and_parts true false e = absurd (true≢false (sym e))
and_parts false b e = absurd (true≢false (sym e))

pub and_both : (a b : Bool) → a ≡ true → b ≡ true → (a && b) ≡ true
and_both true true e f = refl
and_both true false e f = absurd (true≢false (sym f))
and_both false b e f = absurd (true≢false (sym e))
