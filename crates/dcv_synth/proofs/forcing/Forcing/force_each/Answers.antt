use Rattle.std.proofs.Common.{ℕ, ◌+◌, Bool, List, drop, get_or, refl, sym, subst}
use Rattle.std.proofs.lemmas.List.{drop_more}
use Rattle.dcv_arena.specs.Arena.{ArenaValue}
use Rattle.dcv_arena.specs.declared.nodes.Ref.TheVariants.{Place}
use Rattle.dcv_synth.specs.Forced.{IsForced, AreForcedBefore, AreForcedBut}
use Rattle.dcv_synth.proofs.Losing.{known_before, one_forced}
use Rattle.dcv_synth.proofs.forcing.Forcing.force_each.Goals as goal

pub is_node_forced-forced-requires-clause-before : goal.is_node_forced-forced-requires-clause-before
is_node_forced-forced-requires-clause-before c =
    let first = c.args.self.now in
    let known = c.loop-place.invariant in
    let places = c.args.places.now in
    let place = get_or places c.loop-place.place-index 0 in
    subst (λ (parts : ℕ × ArenaValue × List Bool). AreForcedBefore place parts.0 parts.1 parts.2 c.loop-place.self.forced.items)
    (λ i. (sym known.1 i, sym known.0 i, sym known.2 i))
    (known_before first.inputs first.arena.now first.lost.items c.loop-place.self.forced.items places c.loop-place.place-index 0 c.requires.sorted c.loop-place-test.true
    (c.requires.within c.loop-place.place-index 0 c.loop-place-test.true) known.3)

pub loop-place-preserved : goal.loop-place-preserved
loop-place-preserved c =
    let first = c.args.self.now in
    let known = c.loop-place.invariant in
    let forced = c.loop-place.self.forced.items in
    let places = c.args.places.now in
    let index = c.loop-place.place-index in
    let place = get_or places index 0 in
    let here = subst (λ (parts : ℕ × ArenaValue × List Bool). IsForced parts.0 parts.1 parts.2 (Place place) c.is_node_forced-forced.result)
    (λ i. (known.1 i, known.0 i, known.2 i)) c.is_node_forced-forced.ensures in
    let left = subst (λ rest. AreForcedBut rest first.inputs first.arena.now first.lost.items forced) (drop_more places index 0 c.loop-place-test.true) known.3 in (
      known.0,
      known.1,
      known.2,
      one_forced first.inputs first.arena.now first.lost.items forced _ place (drop (index + 1) places) c.is_node_forced-forced.result
          (c.requires.within index 0 c.loop-place-test.true) left here refl,
    )
