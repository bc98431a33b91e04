use Rattle.std.proofs.Common.{◌≡◌, ◌≤◌, ◌^◌, Bool, false, true, get_or, set, length, refl, sym, ap, ◌∙◌, arith}
use Rattle.std.proofs.Math.Nat.{pow-le-pow_right}
use Rattle.std.specs.Bool.{beq}
use Rattle.std.proofs.lemmas.List.{set-get_or, length-set}
use Rattle.dcv_word.specs.Letter.{bits_of}
use Rattle.dcv_word.proofs.Bits.{width_of, number_of, bits_of-lt, bits_raised, bits_lowered}
use Rattle.dcv_word.proofs.letters.Letter.bits_with.Goals as goal

same_value : (a b : Bool) → beq a b ≡ true → a ≡ b
same_value true true e = refl
same_value true false e = absurd cc
same_value false true e = absurd cc
same_value false false e = refl

other_than_true : (a b : Bool) → beq a b ≡ false → b ≡ true → a ≡ false
other_than_true true true e t = absurd cc
other_than_true true false e t = absurd cc
other_than_true false b e t = refl

other_than_false : (a b : Bool) → beq a b ≡ false → b ≡ false → a ≡ true
other_than_false true b e f = refl
other_than_false false true e f = absurd cc
other_than_false false false e f = absurd cc

pub overflow_sub-place-2 : goal.overflow_sub-place-2
overflow_sub-place-2 c = omega (arith, width_of _ _ _ c.self.view_is)

pub overflow_add-result : goal.overflow_add-result
overflow_add-result c =
    let letter = c.args.self.now in
    let before = sym c.get.ensures.value ∙ other_than_true c.get.result c.args.value c.if-get-value.false c.if-value.true in
    let sum = bits_raised _ _ c.args.slot letter c.self.view_is c.self.invariant.0 c.self.invariant.1 c.requires before in
    let width : length letter ≤ 32 = omega (arith, width_of _ _ _ c.self.view_is, c.self.invariant.0) in
    let bound : 2 ^ length letter ≤ 2 ^ 32 = pow-le-pow_right (omega arith) width in
    omega (arith, sum, bits_of-lt (set letter c.args.slot true), ap (λ n. 2 ^ n) (length-set letter c.args.slot true), bound)

pub overflow_sub-result : goal.overflow_sub-result
overflow_sub-result c =
    let letter = c.args.self.now in
    let before = sym c.get.ensures.value ∙ other_than_false c.get.result c.args.value c.if-get-value.false c.if-value.false in
    let difference = bits_lowered _ _ c.args.slot letter c.self.view_is c.self.invariant.0 c.self.invariant.1 c.requires before in
    omega (arith, difference)

pub returns-then-get-value : goal.returns-then-get-value
returns-then-get-value c =
    let letter = c.args.self.now in
    let before : get_or letter c.args.slot false ≡ c.args.value = sym c.get.ensures.value ∙ same_value c.get.result c.args.value c.if-get-value.true in
    number_of _ _ letter c.self.view_is c.self.invariant.1
    ∙ ap bits_of (sym (set-get_or letter c.args.slot false) ∙ ap (set letter c.args.slot) before)

pub returns-then-value : goal.returns-then-value
returns-then-value c =
    let letter = c.args.self.now in
    let before = sym c.get.ensures.value ∙ other_than_true c.get.result c.args.value c.if-get-value.false c.if-value.true in
    bits_raised _ _ c.args.slot letter c.self.view_is c.self.invariant.0 c.self.invariant.1 c.requires before
    ∙ ap (λ value. bits_of (set letter c.args.slot value)) (sym c.if-value.true)

pub returns-else-value : goal.returns-else-value
returns-else-value c =
    let letter = c.args.self.now in
    let before = sym c.get.ensures.value ∙ other_than_false c.get.result c.args.value c.if-get-value.false c.if-value.false in
    let difference = bits_lowered _ _ c.args.slot letter c.self.view_is c.self.invariant.0 c.self.invariant.1 c.requires before in
    omega (arith, difference, ap (λ value. bits_of (set letter c.args.slot value)) c.if-value.false)
