use Rattle.std.proofs.Common.{true, false, set, ap, ◌∙◌}
use Rattle.dcv_arena.specs.Arena.{value_of}
use Rattle.dcv_arena.specs.declared.nodes.Ref.TheVariants.{Place}
use Rattle.dcv_minimise.specs.Hashes.{mixed, hash_at}
use Rattle.dcv_minimise.proofs.HashFacts.{lo_is, hi_is}
use Rattle.dcv_minimise.proofs.refine.hashes.hash_of.Goals as goal

pub returns : goal.returns
returns c =
    let arena = c.args.arena.now in
    let blocks = c.args.blocks.now in
    let hashes = c.args.hashes.now in
    let place = c.args.place in
    let split = c.split-lo.ensures in
    let level = c.level-slot.ensures.level in
    let lo = lo_is arena split.arena.reduced place c.requires.place c.split-lo.result.0 split.lo_is_ref
    (λ letter size. split.lo_value letter size ∙ ap (λ slot. value_of arena (Place place) (set letter slot false)) level) in
    let hi = hi_is arena split.arena.reduced place c.requires.place c.split-lo.result.1 split.hi_is_ref
    (λ letter size. split.hi_value letter size ∙ ap (λ slot. value_of arena (Place place) (set letter slot true)) level) in
    let lo_hash = c.hash_at.ensures ∙ ap (hash_at blocks hashes) lo in
    let hi_hash = c.hash_at-2.ensures ∙ ap (hash_at blocks hashes) hi in
    c.mixed.ensures ∙ (λ i. mixed (level i) (lo_hash i) (hi_hash i))
