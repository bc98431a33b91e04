use Rattle.std.proofs.Common.{◌≡◌, ◌<◌, ◌^◌, length, subst, arith}
use Rattle.dcv_word.proofs.Readings.{number_upto-lt, number_upto-next, number_upto-fits, digit-le}
use Rattle.dcv_word.proofs.lines.number_of.Goals as goal

pub overflow_mul-number : goal.overflow_mul-number
overflow_mul-number c =
    omega (arith, number_upto-fits c.args.digits.now c.loop-digit.digit-index (omega arith) c.requires.short)

pub overflow_add-number : goal.overflow_add-number
overflow_add-number c =
    let line = c.args.digits.now in
    let i = c.loop-digit.digit-index in
    omega (arith, number_upto-fits line i (omega arith) c.requires.short, digit-le _ (c.requires.digits i 0 (omega arith)))

pub loop-digit-preserved : goal.loop-digit-preserved
loop-digit-preserved c =
    let line = c.args.digits.now in
    let i = c.loop-digit.digit-index in
    let next = number_upto-next line i 0 c.requires.digits (omega arith) in
    cc

pub returns-clause-bound : goal.returns-clause-bound
returns-clause-bound c =
    let line = c.args.digits.now in
    let whole : c.loop-digit.digit-index ≡ length line = omega arith in
    subst (λ i. c.loop-digit.number < 2 ^ i) whole (rw c.loop-digit.invariant (number_upto-lt line c.loop-digit.digit-index (omega arith)))
