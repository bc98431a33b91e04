use Rattle.std.proofs.Common.{◌≡◌, ◌≢◌, ◌<◌, false, Ok, length, sym, ap, subst, ◌∙◌, arith}
use Rattle.std.specs.List.{list_any}
use Rattle.indexmap.specs.IndexSet.{insert_key}
use Rattle.dcv_arena.specs.contracts.stored.StoredNodePartialEq.TheImpl.{eq-value as node_eq}
use Rattle.std.proofs.lemmas.Bool.{iff_false}
use Rattle.dcv_arena.specs.Arena.{ArenaValue, IsArena, IsNodeAt}
use Rattle.dcv_arena.specs.Placing.{IsPlaced}
use Rattle.dcv_arena.proofs.Placed.{placed_by_insert, placed_by_fault, is_arena_placed}
use Rattle.dcv_arena.proofs.Same.{absent_there}
use Rattle.dcv_arena.proofs.nodes.Arena.place_of.Goals as goal
use Rattle.dcv_arena.proofs.nodes.Arena.place_of.Goals.{In_ok-place}

-- the arena that inserting leaves has the node at its place
placed : (c : In_ok-place) → let old : ArenaValue = record { slots = c.self.inside.slots; limit = c.self.inside.limit; nodes = c.self.inside.nodes.keys } in
    IsPlaced old c.args.node (record old { nodes = c.insert_full.new.self.keys }) (Ok c.in_ok-place.place)
placed c =
    let old : ArenaValue = record { slots = c.self.inside.slots; limit = c.self.inside.limit; nodes = c.self.inside.nodes.keys } in
    let count = ap (λ (arena : ArenaValue). length arena.nodes) c.self.view_is in
    let limit = ap (λ (arena : ArenaValue). arena.limit) c.self.view_is in
    let not_full : length c.args.self.now.nodes ≢ c.args.self.now.limit = iff_false c.is_full.ensures c.if-is_full.false in
    let keys = subst (λ nodes. c.insert_full.new.self.keys ≡ insert_key node_eq.it nodes c.args.node) c.make_room.ensures c.in_ok-place.ensures.keys in
    placed_by_insert old c.args.node c.insert_full.new.self.keys c.in_ok-place.place keys c.in_ok-place.ensures.stored
    (omega (arith, count, limit, c.self.invariant.within))

arena_after : (c : In_ok-place) → IsArena (record { slots = c.self.inside.slots; limit = c.self.inside.limit; nodes = c.insert_full.new.self.keys })
arena_after c =
    let old : ArenaValue = record { slots = c.self.inside.slots; limit = c.self.inside.limit; nodes = c.self.inside.nodes.keys } in
    let right : IsNodeAt old (length old.nodes) c.args.node = subst (λ (arena : ArenaValue). IsNodeAt arena (length arena.nodes) c.args.node) (sym c.self.view_is) c.requires in
    is_arena_placed old (record old { nodes = c.insert_full.new.self.keys }) c.args.node c.in_ok-place.place c.self.invariant right (placed c)

pub returns-in_err-place-clause-placed : goal.returns-in_err-place-clause-placed
returns-in_err-place-clause-placed c =
    let old : ArenaValue = record { slots = c.self.inside.slots; limit = c.self.inside.limit; nodes = c.self.inside.nodes.keys } in
    let new : ArenaValue = record old { nodes = c.insert_full.new.self.keys } in
    let count = ap (λ (arena : ArenaValue). length arena.nodes) c.self.view_is in
    let limit = ap (λ (arena : ArenaValue). arena.limit) c.self.view_is in
    let not_full : length c.args.self.now.nodes ≢ c.args.self.now.limit = iff_false c.is_full.ensures c.if-is_full.false in
    let room : length old.nodes < old.limit = omega (arith, count, limit, c.self.invariant.within) in
    let same : new ≡ old = λ i. record old { nodes = (c.in_err-place.ensures.err ∙ c.make_room.ensures) i } in
    let absent = subst (λ nodes. list_any (node_eq.it c.args.node) nodes ≡ false) c.make_room.ensures c.in_err-place.ensures.absent in
    subst (λ arena. IsPlaced arena c.args.node new c.from_residual.result) c.self.view_is
    (placed_by_fault old new c.args.node c.from_residual.result c.from_residual.ensures.1 (absent_there old.nodes c.args.node absent) room same)

pub invariant_of-self-2 : goal.invariant_of-self-2
invariant_of-self-2 c = arena_after c

pub returns-clause-placed : goal.returns-clause-placed
returns-clause-placed c =
    let old : ArenaValue = record { slots = c.self.inside.slots; limit = c.self.inside.limit; nodes = c.self.inside.nodes.keys } in
    let new : ArenaValue = record old { nodes = c.insert_full.new.self.keys } in
    subst (λ arena. IsPlaced arena c.args.node new (Ok c.in_ok-place.place)) c.self.view_is (placed c)

pub returns-clause-arena : goal.returns-clause-arena
returns-clause-arena c = arena_after c
