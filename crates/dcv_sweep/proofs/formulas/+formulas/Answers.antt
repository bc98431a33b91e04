use Rattle.std.proofs.Common.{◌≡◌, ◌+◌, ◌-◌, arith, sym, ap, ◌∙◌}
use Rattle.dcv_core.proofs.MadeSteps.{then_ok, not_is_one, star_is_one, exists_is_one}
use Rattle.dcv_syntax.specs.declared.propositions.Connective.TheVariants.{Iff}
use Rattle.dcv_core.specs.Core.{CoreJoined}
use Rattle.dcv_sweep.specs.DrawnCores.{over_two, operation_of, drawn_core}
use Rattle.dcv_sweep.proofs.Adding.{one_deeper, most_one_deeper, drawn_length, adds_one, adds_same}
use Rattle.dcv_sweep.proofs.formulas.+formulas.Goals as goal

pub formula-operation-requires : goal.formula-operation-requires
formula-operation-requires t c =
    let some = c.if-depth-eq0.false in
    (omega (arith, some), ((c.requires.slots.0, omega (arith, c.requires.slots.1, some)), omega (arith, c.requires.room, most_one_deeper c.args.depth some)))

pub formula-returns : goal.formula-returns
formula-returns t c =
    let depth = c.args.depth in
    let same = (λ i. operation_of (c.draw-kind.ensures.number i) (drawn_core (depth - 1)) c.args.slots (c.draw-kind.ensures.state i))
    ∙ one_deeper depth c.args.slots c.args.draw.now c.if-depth-eq0.false in
    then_ok c.operation.result c.operation.ensures (λ last. adds_same same)

pub joined-formula-requires-2 : goal.joined-formula-requires-2
joined-formula-requires-2 t c =
    (omega arith, (c.requires.slots, omega (arith, c.requires.room, drawn_length c.args.depth c.args.slots _ c.in_ok-first.ensures)))

pub joined-push-requires : goal.joined-push-requires
joined-push-requires t c =
    let depth = c.args.depth in
    omega (arith, c.requires.room, drawn_length depth c.args.slots _ c.in_ok-first.ensures, drawn_length depth c.args.slots _ c.in_ok-second.ensures)

pub operation-push-requires : goal.operation-push-requires
operation-push-requires t c = omega (arith, c.requires.room, drawn_length c.args.depth c.args.slots _ c.in_ok-operand-in-1.ensures)

pub operation-push-requires-in-5 : goal.operation-push-requires-in-5
operation-push-requires-in-5 t c = omega (arith, c.requires.room, drawn_length c.args.depth c.args.slots _ c.in_ok-operand-in-5.ensures)

pub operation-push-requires-in-6 : goal.operation-push-requires-in-6
operation-push-requires-in-6 t c = omega (arith, c.requires.room, drawn_length c.args.depth (c.args.slots + 1) _ c.in_ok-operand-in-6.ensures)

pub operation-returns-in_ok-operand-in-1 : goal.operation-returns-in_ok-operand-in-1
operation-returns-in_ok-operand-in-1 t c =
    let same = ap (λ kind. operation_of kind (drawn_core c.args.depth) c.args.slots c.args.draw.now) (sym c.in-1.is) in
    then_ok c.push.result c.push.ensures.ok (λ last pushed. adds_same same (adds_one not_is_one c.in_ok-operand-in-1.ensures pushed))

pub operation-returns-in_ok-operand-in-5 : goal.operation-returns-in_ok-operand-in-5
operation-returns-in_ok-operand-in-5 t c =
    let same = ap (λ kind. operation_of kind (drawn_core c.args.depth) c.args.slots c.args.draw.now) (sym c.in-5.is) in
    then_ok c.push-in-5.result c.push-in-5.ensures.ok (λ last pushed. adds_same same (adds_one star_is_one c.in_ok-operand-in-5.ensures pushed))

pub operation-returns-in_ok-operand-in-6 : goal.operation-returns-in_ok-operand-in-6
operation-returns-in_ok-operand-in-6 t c =
    let same = ap (λ kind. operation_of kind (drawn_core c.args.depth) c.args.slots c.args.draw.now) (sym c.in-6.is) in
    then_ok c.push-in-6.result c.push-in-6.ensures.ok (λ last pushed. adds_same same (adds_one exists_is_one c.in_ok-operand-in-6.ensures pushed))

pub operation-returns-in_default : goal.operation-returns-in_default
operation-returns-in_default t c =
    let same : over_two (CoreJoined Iff) (drawn_core c.args.depth c.args.slots) c.args.draw.now ≡ operation_of c.args.kind (drawn_core c.args.depth) c.args.slots c.args.draw.now = grind arith in
    then_ok c.joined-in_default.result c.joined-in_default.ensures (λ last. adds_same same)
