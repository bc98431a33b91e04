use Rattle.std.proofs.Common.{◌<◌, true, false, cond, set, get_or, sym, ap, subst, ◌∙◌, arith}
use Rattle.std.proofs.lemmas.Option.{slice_get_within}
use Rattle.dcv_arena.specs.Arena.{IsRef, level_of, value_of, IncludesNodesOf}
use Rattle.dcv_arena.specs.declared.nodes.Ref.TheVariants.{Place}
use Rattle.dcv_arena.proofs.Refs.{is_ref, level_of-place, value_of-place, value_of-lo, value_of-hi, fixed_later}
use Rattle.dcv_arena.proofs.Listed.{includes_fixed}
use Rattle.dcv_arena.proofs.nodes.Arena.split.Goals as goal

pub returns-in-Leaf-clause-lo_value : goal.returns-in-Leaf-clause-lo_value
returns-in-Leaf-clause-lo_value c = λ letter size.
    (λ i. value_of c.args.self.now (c.in-Leaf.is i) letter) ∙ (λ i. value_of c.args.self.now (sym c.in-Leaf.is i) (set letter c.args.slot false))

pub returns-in-Leaf-clause-hi_value : goal.returns-in-Leaf-clause-hi_value
returns-in-Leaf-clause-hi_value c = λ letter size.
    (λ i. value_of c.args.self.now (c.in-Leaf.is i) letter) ∙ (λ i. value_of c.args.self.now (sym c.in-Leaf.is i) (set letter c.args.slot true))

pub returns-then-node-slot-clause-lo_value : goal.returns-then-node-slot-clause-lo_value
returns-then-node-slot-clause-lo_value c = λ letter size.
    let at = c.node_at-node.ensures in
    value_of-lo c.args.self.now at.arena.reduced c.in-Place.place c.node_at-node.result at.there letter size
    ∙ (λ i. value_of c.args.self.now (sym c.in-Place.is i) (set letter (c.if-node-slot.true i) false))

pub returns-then-node-slot-clause-lo_nodes : goal.returns-then-node-slot-clause-lo_nodes
returns-then-node-slot-clause-lo_nodes c =
    let at = c.node_at-node.ensures in
    let arena = c.args.self.now in
    let place = c.in-Place.place in
    let node = c.node_at-node.result in
    let one = is_ref arena at.arena.reduced place node.lo (slice_get_within arena.nodes place node at.there) at.node.lo_before in
    subst (λ ref. IncludesNodesOf arena node.lo arena ref) (sym c.in-Place.is)
    (includes_fixed arena at.arena.reduced node.slot false node.lo (Place place) one at.node.lo_level (value_of-lo arena at.arena.reduced place node at.there))

pub returns-then-node-slot-clause-hi_value : goal.returns-then-node-slot-clause-hi_value
returns-then-node-slot-clause-hi_value c = λ letter size.
    let at = c.node_at-node.ensures in
    value_of-hi c.args.self.now at.arena.reduced c.in-Place.place c.node_at-node.result at.there letter size
    ∙ (λ i. value_of c.args.self.now (sym c.in-Place.is i) (set letter (c.if-node-slot.true i) true))

pub returns-then-node-slot-clause-hi_nodes : goal.returns-then-node-slot-clause-hi_nodes
returns-then-node-slot-clause-hi_nodes c =
    let at = c.node_at-node.ensures in
    let arena = c.args.self.now in
    let place = c.in-Place.place in
    let node = c.node_at-node.result in
    let one = is_ref arena at.arena.reduced place node.hi (slice_get_within arena.nodes place node at.there) at.node.hi_before in
    subst (λ ref. IncludesNodesOf arena node.hi arena ref) (sym c.in-Place.is)
    (includes_fixed arena at.arena.reduced node.slot true node.hi (Place place) one at.node.hi_level (value_of-hi arena at.arena.reduced place node at.there))

pub returns-then-node-slot-clause-value : goal.returns-then-node-slot-clause-value
returns-then-node-slot-clause-value c = λ letter.
    let at = c.node_at-node.ensures in
    let arena = c.args.self.now in
    let node = c.node_at-node.result in
    (λ i. value_of arena (c.in-Place.is i) letter)
    ∙ value_of-place arena at.arena.reduced c.in-Place.place node at.there letter
    ∙ (λ i. cond (get_or letter (c.if-node-slot.true i) false) (value_of arena node.hi letter) (value_of arena node.lo letter))

pub returns-else-node-slot-clause-lo_value : goal.returns-else-node-slot-clause-lo_value
returns-else-node-slot-clause-lo_value c = λ letter size.
    let arena = c.args.self.now in
    let at = c.node_at-node.ensures in
    let place = c.in-Place.place in
    let one : IsRef arena (Place place) = slice_get_within arena.nodes place c.node_at-node.result at.there in
    let level = level_of-place arena at.arena.reduced place c.node_at-node.result at.there in
    let later : c.args.slot < level_of arena (Place place) = omega (arith, level, c.if-node-slot.false, c.requires.slot, ap (level_of arena) c.in-Place.is) in
    fixed_later arena at.arena.reduced (Place place) c.args.slot one later false letter
    ∙ (λ i. value_of arena (sym c.in-Place.is i) (set letter c.args.slot false))

pub returns-else-node-slot-clause-hi_value : goal.returns-else-node-slot-clause-hi_value
returns-else-node-slot-clause-hi_value c = λ letter size.
    let arena = c.args.self.now in
    let at = c.node_at-node.ensures in
    let place = c.in-Place.place in
    let one : IsRef arena (Place place) = slice_get_within arena.nodes place c.node_at-node.result at.there in
    let level = level_of-place arena at.arena.reduced place c.node_at-node.result at.there in
    let later : c.args.slot < level_of arena (Place place) = omega (arith, level, c.if-node-slot.false, c.requires.slot, ap (level_of arena) c.in-Place.is) in
    fixed_later arena at.arena.reduced (Place place) c.args.slot one later true letter
    ∙ (λ i. value_of arena (sym c.in-Place.is i) (set letter c.args.slot true))
