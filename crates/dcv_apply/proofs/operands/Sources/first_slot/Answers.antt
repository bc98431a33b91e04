use Rattle.std.proofs.Common.{arith, subst}
use Rattle.std.specs.List.{All}
use Rattle.std.proofs.lemmas.List.{take_all}
use Rattle.dcv_arena.specs.declared.nodes.Ref.TheVariants.{Leaf}
use Rattle.dcv_apply.specs.Operands.{IsOperandFrom}
use Rattle.dcv_apply.proofs.OperandFacts.{all_from_more}
use Rattle.dcv_apply.proofs.operands.Sources.first_slot.Goals as goal

pub loop-operand-preserved : goal.loop-operand-preserved
loop-operand-preserved c =
    let operands = c.args.operands.now in
    let index = c.loop-operand.operand-index in
    let so_far = c.loop-operand.invariant in
    let one = c.first_slot_of.ensures in
    record {
      bound = omega arith;
      from = all_from_more c.args.self.now.first.now c.args.self.now.second.now operands index (0, Leaf 0) c.loop-operand.first c.first_slot_of.result c.min-first.result
          c.loop-operand-test.true (omega arith) (omega arith) so_far.from one.from;
      last = λ slot within from. omega (arith, so_far.last slot within from, one.last slot within (from index (0, Leaf 0) c.loop-operand-test.true));
    }

pub returns-clause-from : goal.returns-clause-from
returns-clause-from c =
    let operands = c.args.operands.now in
    subst (All (IsOperandFrom c.args.self.now.first.now c.args.self.now.second.now c.loop-operand.first)) (take_all c.loop-operand.operand-index operands c.loop-operand-test.false)
    c.loop-operand.invariant.from
