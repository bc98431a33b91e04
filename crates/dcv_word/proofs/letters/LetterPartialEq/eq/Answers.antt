use Rattle.std.specs.Bool.{one_answer}
use Rattle.dcv_word.proofs.Bits.{bits_decide, widths_decide, same_letter}
use Rattle.dcv_word.proofs.letters.LetterPartialEq.eq.Goals as goal

pub returns-then-self-other-clause-same : goal.returns-then-self-other-clause-same
returns-then-self-other-clause-same c =
    bits_decide _ _ _ _ _ _ c.self.view_is c.other.view_is c.self.invariant.1 c.other.invariant.1 c.if-self-other.true

pub returns-then-self-other-clause-eq : goal.returns-then-self-other-clause-eq
returns-then-self-other-clause-eq c =
    one_answer _ _ (bits_decide _ _ _ _ _ _ c.self.view_is c.other.view_is c.self.invariant.1 c.other.invariant.1 c.if-self-other.true) (same_letter c.args.self.now c.args.other.now)

pub returns-else-self-other-clause-same : goal.returns-else-self-other-clause-same
returns-else-self-other-clause-same c =
    widths_decide _ _ _ _ _ _ c.self.view_is c.other.view_is c.if-self-other.false

pub returns-else-self-other-clause-eq : goal.returns-else-self-other-clause-eq
returns-else-self-other-clause-eq c =
    one_answer _ _ (widths_decide _ _ _ _ _ _ c.self.view_is c.other.view_is c.if-self-other.false) (same_letter c.args.self.now c.args.other.now)
