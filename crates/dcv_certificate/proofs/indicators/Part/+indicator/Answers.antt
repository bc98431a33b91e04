use Rattle.std.proofs.Common.{◌≡◌, ◌<◌, ◌≤◌, length, None, Some, is_some, nat_eq, refl, sym, subst, ◌∙◌, arith}
use Rattle.indexmap.specs.IndexMap.{get}
use Rattle.dcv_arena.specs.Arena.{IsRef, level_of}
use Rattle.dcv_arena.specs.declared.nodes.Ref.TheVariants.{Place}
use Rattle.dcv_arena.proofs.Roots.{kept_in_turn}
use Rattle.dcv_certificate.specs.Indicators.{IsIndicator}
use Rattle.dcv_certificate.specs.Separation.{count_below}
use Rattle.dcv_certificate.proofs.Indicating.{indicator_kept, became_kept, became_more, indicator_of_node, indicator_nowhere, leads_nowhere, fresh_still, not_all, one_place_more}
use Rattle.dcv_certificate.proofs.indicators.Part.+indicator.Goals as goal

pub returns-then-not-contains-clause-indicator : goal.returns-then-not-contains-clause-indicator
returns-then-not-contains-clause-indicator t c =
    let self = c.args.self.now in
    let scratch = c.args.scratch.now in
    let place = c.in-Place.place in
    let is_ref = subst (IsRef self.arena.now) c.in-Place.is c.requires.root in
    let inner = c.level-slot.ensures.node place refl in
    let below : level_of self.arena.now (Place place) ≤ scratch.slots = omega (arith, inner, c.level-slot.ensures.level, c.requires.slots) in
    subst (λ root. IsIndicator self scratch root c.leaf-then-not-contains.result) (sym c.in-Place.is)
    (subst (IsIndicator self scratch (Place place)) (sym c.leaf-then-not-contains.ensures.leaf)
    (indicator_nowhere self scratch (Place place) below (leads_nowhere self place c.contains-in-Place.result c.requires.above is_ref c.contains-in-Place.ensures c.if-not-contains.true)))

pub returns-in-Some-clause-indicator : goal.returns-in-Some-clause-indicator
returns-in-Some-clause-indicator t c =
    let self = c.args.self.now in
    let scratch = c.args.scratch.now in
    let there : get nat_eq c.args.became.now c.in-Place.place ≡ Some c.in-Some.mark = sym (c.copied.ensures ∙ c.get.ensures.value) ∙ c.in-Some.is in
    subst (λ root. IsIndicator self scratch root c.in-Some.mark) (sym c.in-Place.is) (c.requires.became c.in-Place.place c.in-Some.mark there)

pub returns-in_ok-insert-in-Place-clause-kept : goal.returns-in_ok-insert-in-Place-clause-kept
returns-in_ok-insert-in-Place-clause-kept t c =
    kept_in_turn c.args.scratch.now c.indicator.new.scratch c.node_in.new.scratch c.indicator.ensures.kept
    (kept_in_turn c.indicator.new.scratch c.indicator-in-Place.new.scratch c.node_in.new.scratch c.indicator-in-Place.ensures.kept c.node_in.ensures.kept)

pub returns-in_ok-insert-in-Place-clause-became : goal.returns-in_ok-insert-in-Place-clause-became
returns-in_ok-insert-in-Place-clause-became t c =
    let self = c.args.self.now in
    let place = c.in-Place.place in
    let slot = c.level-slot.result in
    let lo = c.split-lo.result.0 in
    let hi = c.split-lo.result.1 in
    let low = c.in_ok-low-in-Place.low in
    let high = c.in_ok-high-in-Place.high in
    let mark = c.in_ok-mark-in-Place.mark in
    let one = c.indicator.new.scratch in
    let two = c.indicator-in-Place.new.scratch in
    let new = c.node_in.new.scratch in
    let node = c.in_ok-mark-in-Place.ensures in
    let low_is = indicator_kept self one two lo low c.indicator-in-Place.ensures.kept c.in_ok-low-in-Place.ensures.indicator in
    let own : IsIndicator self new (Place place) mark =
    indicator_of_node self two new (Place place) lo hi mark low high slot c.level-slot.ensures.level c.split-lo.ensures.value low_is c.in_ok-high-in-Place.ensures.indicator node.is_ref node.level node.value in
    became_more self new (get nat_eq c.indicator-in-Place.new.became) (get nat_eq c.insert.new.self) place mark c.in_ok-insert-in-Place.ensures.updates.0 own
    (became_kept self two new (get nat_eq c.indicator-in-Place.new.became) c.node_in.ensures.kept c.in_ok-high-in-Place.ensures.became)

pub node_in-requires-clause-room : goal.node_in-requires-clause-room
node_in-requires-clause-room t c =
    let place = c.in-Place.place in
    let arena = c.args.self.now.arena.now in
    let within : place < length arena.nodes = subst (IsRef arena) c.in-Place.is c.requires.root in
    let two = get nat_eq c.indicator-in-Place.new.became in
    let inner = c.level-slot.ensures.node place refl in
    let fresh : get nat_eq c.args.became.now place ≡ None = sym (c.copied.ensures ∙ c.get.ensures.value) ∙ c.in_default.is in
    let still : two place ≡ None = fresh_still c.args.self.now place c.split-lo.result.0 c.split-lo.result.1 (get nat_eq c.args.became.now) (get nat_eq c.indicator.new.became) two fresh
    c.in_ok-low-in-Place.ensures.earlier c.in_ok-high-in-Place.ensures.earlier (omega (arith, c.level-slot.ensures.level, c.split-lo.ensures.lo_level inner))
    (omega (arith, c.level-slot.ensures.level, c.split-lo.ensures.hi_level inner)) in
    omega (
      arith,
      c.in_ok-high-in-Place.ensures.few,
      not_all (length arena.nodes) place within two still,
      c.level-slot.ensures.arena.within,
      c.level-slot.ensures.arena.limit,
      c.requires.limit,
      c.indicator.ensures.kept.limit,
      c.indicator-in-Place.ensures.kept.limit,
    )

pub returns-in_ok-insert-in-Place-clause-few : goal.returns-in_ok-insert-in-Place-clause-few
returns-in_ok-insert-in-Place-clause-few t c =
    let place = c.in-Place.place in
    let arena = c.args.self.now.arena.now in
    let within : place < length arena.nodes = subst (IsRef arena) c.in-Place.is c.requires.root in
    let two = get nat_eq c.indicator-in-Place.new.became in
    let inner = c.level-slot.ensures.node place refl in
    let fresh : get nat_eq c.args.became.now place ≡ None = sym (c.copied.ensures ∙ c.get.ensures.value) ∙ c.in_default.is in
    let still : two place ≡ None = fresh_still c.args.self.now place c.split-lo.result.0 c.split-lo.result.1 (get nat_eq c.args.became.now) (get nat_eq c.indicator.new.became) two fresh
    c.in_ok-low-in-Place.ensures.earlier c.in_ok-high-in-Place.ensures.earlier (omega (arith, c.level-slot.ensures.level, c.split-lo.ensures.lo_level inner))
    (omega (arith, c.level-slot.ensures.level, c.split-lo.ensures.hi_level inner)) in
    let new = get nat_eq c.insert.new.self in
    let more = one_place_more (length arena.nodes) place within two still new c.in_ok-mark-in-Place.mark c.in_ok-insert-in-Place.ensures.updates.0 in
    let few : length c.node_in.new.scratch.nodes ≤ count_below (length arena.nodes) (λ place. is_some (new place)) = omega (arith, c.node_in.ensures.one_more, c.in_ok-high-in-Place.ensures.few, more) in
    few
