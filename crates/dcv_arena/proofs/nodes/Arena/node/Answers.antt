use Rattle.std.proofs.Common.{◌≡◌, Ok, Some, slice_get, length, sym, subst, ◌∙◌, arith}
use Rattle.std.proofs.lemmas.Bool.{false≢true}
use Rattle.dcv_arena.specs.Arena.{IsArena, IsNodeAt, KeepsRefs, node_of}
use Rattle.dcv_arena.specs.Placing.{IsPlaced}
use Rattle.dcv_arena.proofs.Same.{same_refs}
use Rattle.dcv_arena.proofs.Placed.{there_placed, kept_placed, adds_placed}
use Rattle.dcv_arena.proofs.Growth.{ref_meant, level_meant, value_meant, lo_nodes_meant, hi_nodes_meant}
use Rattle.dcv_arena.proofs.nodes.Arena.node.Goals as goal
use Rattle.dcv_arena.proofs.nodes.Arena.node.Goals.{In_ok-place}

is_arena : (c : In_ok-place) → IsArena c.args.self.now
is_arena c = subst IsArena c.self.view_is c.self.invariant

right : (c : In_ok-place) → IsNodeAt c.args.self.now (length c.args.self.now.nodes) (node_of c.args.slot c.args.lo c.args.hi)
right c = record {
  slot = c.requires.slot;
  lo_before = c.requires.lo;
  hi_before = c.requires.hi;
  lo_level = c.requires.lo_level;
  hi_level = c.requires.hi_level;
  differ = λ e. false≢true (sym c.if-eq.false ∙ c.eq.ensures ∙ (same_refs c.args.lo c.args.hi).1 e);
}

placed : (c : In_ok-place) → IsPlaced c.args.self.now (node_of c.args.slot c.args.lo c.args.hi) c.place_of.new.self (Ok c.in_ok-place.place)
placed c = subst (λ node. IsPlaced c.args.self.now node c.place_of.new.self (Ok c.in_ok-place.place)) c.new.ensures c.in_ok-place.ensures.placed

kept : (c : In_ok-place) → KeepsRefs c.args.self.now c.place_of.new.self
kept c = kept_placed c.args.self.now c.place_of.new.self (node_of c.args.slot c.args.lo c.args.hi) c.in_ok-place.place (is_arena c) (right c) (placed c)

there : (c : In_ok-place) → slice_get c.place_of.new.self.nodes c.in_ok-place.place ≡ Some (node_of c.args.slot c.args.lo c.args.hi)
there c = there_placed c.args.self.now c.place_of.new.self (node_of c.args.slot c.args.lo c.args.hi) c.in_ok-place.place (is_arena c) (right c) (placed c)

pub returns-clause-is_ref : goal.returns-clause-is_ref
returns-clause-is_ref c = ref_meant c.args.self.now c.place_of.new.self c.in_ok-place.ensures.arena.reduced (kept c) c.in_ok-place.place c.args.slot c.args.lo c.args.hi (there c) c.requires.lo c.requires.hi

pub returns-clause-level : goal.returns-clause-level
returns-clause-level c =
    omega (arith, level_meant c.args.self.now c.place_of.new.self c.in_ok-place.ensures.arena.reduced (kept c) c.in_ok-place.place c.args.slot c.args.lo c.args.hi (there c) c.requires.lo c.requires.hi)

pub returns-clause-value : goal.returns-clause-value
returns-clause-value c = value_meant c.args.self.now c.place_of.new.self c.in_ok-place.ensures.arena.reduced (kept c) c.in_ok-place.place c.args.slot c.args.lo c.args.hi (there c) c.requires.lo c.requires.hi

pub returns-clause-lo_nodes : goal.returns-clause-lo_nodes
returns-clause-lo_nodes c = lo_nodes_meant c.args.self.now c.place_of.new.self c.in_ok-place.ensures.arena.reduced (kept c) c.in_ok-place.place c.args.slot c.args.lo c.args.hi (there c) c.requires.lo c.requires.hi

pub returns-clause-hi_nodes : goal.returns-clause-hi_nodes
returns-clause-hi_nodes c = hi_nodes_meant c.args.self.now c.place_of.new.self c.in_ok-place.ensures.arena.reduced (kept c) c.in_ok-place.place c.args.slot c.args.lo c.args.hi (there c) c.requires.lo c.requires.hi

pub returns-clause-kept : goal.returns-clause-kept
returns-clause-kept c = kept c

pub returns-clause-adds : goal.returns-clause-adds
returns-clause-adds c = adds_placed c.args.self.now c.place_of.new.self (node_of c.args.slot c.args.lo c.args.hi) c.in_ok-place.place (is_arena c) (right c) (placed c)
