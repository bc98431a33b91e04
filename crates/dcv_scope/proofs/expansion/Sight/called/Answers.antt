use Rattle.std.proofs.Common.{arith}
use Rattle.dcv_scope.proofs.InSight.{found_newest, found_none, newest_within, newest_measures, newest_skips, length-first}
use Rattle.dcv_scope.proofs.Relays.{fewer_relays}
use Rattle.dcv_scope.proofs.expansion.Sight.called.Goals as goal

pub returns-in_default : goal.returns-in_default
returns-in_default c = found_none c.args.self.now.variables.now c.args.self.now.macros.now c.args.name.now c.in_default.ensures

pub bounds-self-macros : goal.bounds-self-macros
bounds-self-macros c =
    let self = c.args.self.now in
    newest_within self.variables.now self.macros.now c.args.name.now c.in-Some.defined.now c.in-Some.macros.now self.measures.now c.in-Some.ensures c.requires.is_sight.measured

pub slice_bounds-result-end : goal.slice_bounds-result-end
slice_bounds-result-end c =
    let self = c.args.self.now in
    let within = newest_within self.variables.now self.macros.now c.args.name.now c.in-Some.defined.now c.in-Some.macros.now self.measures.now c.in-Some.ensures c.requires.is_sight.measured in
    length-first self.measures.now _ (omega (arith, within))

pub returns : goal.returns
returns c =
    let self = c.args.self.now in
    let variables = self.variables.now in
    let name = c.args.name.now in
    let last = c.in-Some.defined.now in
    let earlier = c.in-Some.macros.now in
    let newest = c.in-Some.ensures in
    let measured = c.requires.is_sight.measured in
    record {
      newest = newest;
      few = c.requires.is_sight.few;
      measured = newest_measures variables self.macros.now name last earlier newest self.measures.now measured;
      relays = fewer_relays variables self.macros.now earlier last newest.later.0 self.relays.now newest.later.1 c.requires.is_sight.relays;
      expansion = found_newest variables self.macros.now name last earlier newest;
      skips = newest_skips variables self.macros.now name last earlier newest self.measures.now measured _;
    }
