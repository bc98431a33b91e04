use Rattle.std.proofs.Common.{◌≡◌, Some, sym, ap, subst, ◌∙◌}
use Rattle.dcv_arena.specs.Arena.{value_of}
use Rattle.dcv_arena.proofs.Tables.{table_of-at}
use Rattle.dcv_arena.proofs.nodes.Arena.eval.Goals as goal
use Rattle.dcv_arena.proofs.nodes.Arena.eval.Goals.{In-Leaf}

number : (c : In-Leaf) → c.in-Leaf.number ≡ value_of c.args.self.now c.args.root c.args.letter.now
number c =
    subst (λ ref. value_of c.args.self.now ref c.args.letter.now ≡ value_of c.args.self.now c.args.root c.args.letter.now) c.in-Leaf.is c.loop-current.invariant.same

pub returns-in-Leaf-clause-value : goal.returns-in-Leaf-clause-value
returns-in-Leaf-clause-value c = number c

pub returns-in-Leaf-clause-table : goal.returns-in-Leaf-clause-table
returns-in-Leaf-clause-table c size =
    table_of-at c.args.self.now c.args.root c.args.letter.now size ∙ ap Some (sym (number c))
