use Rattle.std.proofs.Common.{◌<◌, length, get_or, arith}
use Rattle.dcv_reach.specs.Reached.{states_of}
use Rattle.dcv_minimise.proofs.Firsts.{begun, none_met, one_inside, read_at, met_again, again_kept, newly_met_at, newly_kept_at}
use Rattle.dcv_minimise.proofs.fold.first_states.Goals as goal

pub loop-one-init : goal.loop-one-init
loop-one-init c =
    let blocks = c.args.blocks.now in
    let states = states_of c.args.found.now in
    record {
      met = none_met blocks states c.in_ok-met.met.items (c.in_ok-met.ensures.items_if_clones_equal (λ y same. same));
      has = begun blocks states c.args.start c.in_ok-states.states.items c.in_ok-states.ensures.items;
    }

pub bounds-blocks-one : goal.bounds-blocks-one
bounds-blocks-one c = one_inside c.args.found.now (length c.args.blocks.now) c.loop-one.one-index c.one-item.result c.loop-one-test.true c.one-item.is c.requires.states

pub index-requires : goal.index-requires
index-requires c =
    let inside = one_inside c.args.found.now (length c.args.blocks.now) c.loop-one.one-index c.one-item.result c.loop-one-test.true c.one-item.is c.requires.states in
    let below = c.requires.blocks c.one-item.result.state 0 inside in
    omega (arith, below, c.loop-one.invariant.met.beside)

pub loop-one-preserved-then-index : goal.loop-one-preserved-then-index
loop-one-preserved-then-index c =
    let blocks = c.args.blocks.now in
    let states = states_of c.args.found.now in
    let place = c.loop-one.one-index in
    let one = c.one-item.result in
    let met = c.loop-one.met.items in
    let was = c.loop-one.invariant in
    let inside = one_inside c.args.found.now (length blocks) place one c.loop-one-test.true c.one-item.is c.requires.states in
    let below : get_or blocks one.state 0 < length met = omega (arith, c.requires.blocks one.state 0 inside, was.met.beside) in
    let known = read_at blocks c.args.found.now c.args.start place met c.loop-one.states.items one c.loop-one-test.true c.one-item.is was.met was.has
    c.index.result.now _ below c.index.ensures c.if-index.true in
    record {
      met = met_again blocks states place met was.met was.has.places was.has.firsts known;
      has = again_kept blocks states place c.args.start met c.loop-one.states.items was.met was.has known;
    }

pub index_mut-requires : goal.index_mut-requires
index_mut-requires c =
    let inside = one_inside c.args.found.now (length c.args.blocks.now) c.loop-one.one-index c.one-item.result c.loop-one-test.true c.one-item.is c.requires.states in
    let below = c.requires.blocks c.one-item.result.state 0 inside in
    omega (arith, below, c.loop-one.invariant.met.beside)

pub loop-one-preserved : goal.loop-one-preserved
loop-one-preserved c =
    let blocks = c.args.blocks.now in
    let place = c.loop-one.one-index in
    let one = c.one-item.result in
    let met = c.loop-one.met.items in
    let was = c.loop-one.invariant in
    let inside = one_inside c.args.found.now (length blocks) place one c.loop-one-test.true c.one-item.is c.requires.states in
    let here = c.requires.blocks one.state 0 inside in
    let below : get_or blocks one.state 0 < length met = omega (arith, here, was.met.beside) in
    let new = read_at blocks c.args.found.now c.args.start place met c.loop-one.states.items one c.loop-one-test.true c.one-item.is was.met was.has
    c.index.result.now _ below c.index.ensures c.if-index.false in
    record {
      met = newly_met_at blocks c.args.found.now c.args.start place met c.loop-one.states.items one c.loop-one-test.true c.one-item.is was.met was.has new here;
      has = newly_kept_at blocks c.args.found.now c.args.start place met c.loop-one.states.items one c.loop-one-test.true c.one-item.is was.met was.has new c.push.new.self.items c.in_ok-push.ensures.items;
    }
