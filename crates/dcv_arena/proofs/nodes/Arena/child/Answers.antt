use Rattle.std.proofs.Common.{cond, sym, ap, ◌∙◌, arith}
use Rattle.dcv_arena.specs.Arena.{value_of}
use Rattle.dcv_arena.proofs.Refs.{is_ref, level_of-place, level_of-le, value_of-place}
use Rattle.dcv_arena.proofs.nodes.Arena.child.Goals as goal

pub returns-then-is_true_at-clause-is_ref : goal.returns-then-is_true_at-clause-is_ref
returns-then-is_true_at-clause-is_ref c =
    let at = c.node_at-node.ensures in
    is_ref c.args.self.now at.arena.reduced c.args.place c.node_at-node.result.hi c.requires at.node.hi_before

pub returns-then-is_true_at-clause-level : goal.returns-then-is_true_at-clause-level
returns-then-is_true_at-clause-level c =
    let at = c.node_at-node.ensures in
    omega (arith, level_of-place c.args.self.now at.arena.reduced c.args.place c.node_at-node.result at.there, at.node.hi_level)

pub returns-then-is_true_at-clause-bound : goal.returns-then-is_true_at-clause-bound
returns-then-is_true_at-clause-bound c =
    let at = c.node_at-node.ensures in
    level_of-le c.args.self.now at.arena.reduced c.node_at-node.result.hi (is_ref c.args.self.now at.arena.reduced c.args.place c.node_at-node.result.hi c.requires at.node.hi_before)

pub returns-then-is_true_at-clause-value : goal.returns-then-is_true_at-clause-value
returns-then-is_true_at-clause-value c =
    let at = c.node_at-node.ensures in
    let node = c.node_at-node.result in
    let arena = c.args.self.now in
    let letter = c.args.letter.now in
    sym (value_of-place arena at.arena.reduced c.args.place node at.there letter
    ∙ ap (λ side. cond side (value_of arena node.hi letter) (value_of arena node.lo letter)) (sym c.is_true_at.ensures ∙ c.if-is_true_at.true))

pub returns-else-is_true_at-clause-is_ref : goal.returns-else-is_true_at-clause-is_ref
returns-else-is_true_at-clause-is_ref c =
    let at = c.node_at-node.ensures in
    is_ref c.args.self.now at.arena.reduced c.args.place c.node_at-node.result.lo c.requires at.node.lo_before

pub returns-else-is_true_at-clause-level : goal.returns-else-is_true_at-clause-level
returns-else-is_true_at-clause-level c =
    let at = c.node_at-node.ensures in
    omega (arith, level_of-place c.args.self.now at.arena.reduced c.args.place c.node_at-node.result at.there, at.node.lo_level)

pub returns-else-is_true_at-clause-bound : goal.returns-else-is_true_at-clause-bound
returns-else-is_true_at-clause-bound c =
    let at = c.node_at-node.ensures in
    level_of-le c.args.self.now at.arena.reduced c.node_at-node.result.lo (is_ref c.args.self.now at.arena.reduced c.args.place c.node_at-node.result.lo c.requires at.node.lo_before)

pub returns-else-is_true_at-clause-value : goal.returns-else-is_true_at-clause-value
returns-else-is_true_at-clause-value c =
    let at = c.node_at-node.ensures in
    let node = c.node_at-node.result in
    let arena = c.args.self.now in
    let letter = c.args.letter.now in
    sym (value_of-place arena at.arena.reduced c.args.place node at.there letter
    ∙ ap (λ side. cond side (value_of arena node.hi letter) (value_of arena node.lo letter)) (sym c.is_true_at.ensures ∙ c.if-is_true_at.false))
