use Rattle.std.proofs.Common.{sym, ap, subst, ◌∙◌, arith}
use Rattle.dcv_shelf.specs.Shelf.{table_of_auto}
use Rattle.dcv_build.specs.Asked.{KnownValue, tables_at, AreThere}
use Rattle.dcv_build.proofs.Moves.{moved_there, moved_tables, all_taken}
use Rattle.dcv_build.proofs.building.move_on.Goals as goal

pub loop-number-preserved : goal.loop-number-preserved
loop-number-preserved c =
    let was = c.loop-number.invariant in
    let shelf = c.args.known.now.tables in
    let before = c.loop-number.new.tables in
    let after = c.add.new.self.tables in
    let numbers = c.loop-number.numbers.items in
    let index = c.loop-number.number-index in
    let one = table_of_auto c.in_ok-auto.auto in
    record {
      limits = c.add.ensures.limits ∙ was.limits;
      there = subst (AreThere after) (sym c.in_ok-push.ensures.items)
          (moved_there shelf before after c.add.ensures.kept c.args.waiting.now numbers index 0 c.in_ok-moved.moved one was.there was.same (omega arith) c.in_ok-auto.ensures c.in_ok-moved.ensures.added);
      same = ap (tables_at after) c.in_ok-push.ensures.items
          ∙ moved_tables shelf before after c.add.ensures.kept c.args.waiting.now numbers index 0 c.in_ok-moved.moved one was.there was.same (omega arith) c.in_ok-auto.ensures c.in_ok-moved.ensures.added;
    }

pub returns-clause-limits : goal.returns-clause-limits
returns-clause-limits c = ap (λ (known : KnownValue). known.limits) c.begin.ensures ∙ c.loop-number.invariant.limits

pub returns-clause-there : goal.returns-clause-there
returns-clause-there c = subst (λ (known : KnownValue). AreThere known.tables c.loop-number.numbers.items) (sym c.begin.ensures) c.loop-number.invariant.there

pub returns-clause-waiting : goal.returns-clause-waiting
returns-clause-waiting c =
    ap (λ (known : KnownValue). tables_at known.tables c.loop-number.numbers.items) c.begin.ensures
    ∙ c.loop-number.invariant.same
    ∙ ap (tables_at c.args.known.now.tables) (all_taken c.args.waiting.now c.loop-number.number-index (omega arith))
