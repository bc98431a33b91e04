use Rattle.std.proofs.Common.{false, true, [], ◌∷◌, ◌++◌, ap, ◌∙◌, arith}
use Rattle.std.proofs.lemmas.List.{length_push, set_at, append_assoc}
use Rattle.std.proofs.lemmas.Result.{on_ok_weaker}
use Rattle.dcv_apply.specs.Sources.{numbers_in}
use Rattle.dcv_apply.proofs.operands.Sources.push_sides.Goals as goal

pub returns : goal.returns
returns c =
    let sources = c.args.self.now in
    let operands = c.args.operands.now in
    let old = c.args.numbers.now.items in
    let sides = c.in_ok-when_false.ensures in
    on_ok_weaker c.push_numbers-2.result (λ pushed letter size.
    let low = letter ++ false ∷ [] in
    let high = letter ++ true ∷ [] in
    let at_low = c.in_ok-push_numbers.ensures low (omega (arith, length_push letter false)) in
    let lows = (λ i. numbers_in sources (c.deref.ensures i) low) ∙ sides.lo_numbers low (omega (arith, length_push letter false))
    ∙ ap (numbers_in sources operands) (set_at letter false [] false c.args.slots size) in
    let highs = (λ i. numbers_in sources (c.deref-2.ensures i) high) ∙ sides.hi_numbers high (omega (arith, length_push letter true))
    ∙ ap (numbers_in sources operands) (set_at letter true [] true c.args.slots size) in
    pushed high (omega (arith, length_push letter true))
    ∙ (λ i. (at_low ∙ (λ j. old ++ lows j)) i ++ highs i)
    ∙ append_assoc old (numbers_in sources operands low) (numbers_in sources operands high))
    c.push_numbers-2.ensures
