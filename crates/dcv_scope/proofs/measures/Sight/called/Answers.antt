use Rattle.std.proofs.Common.{◌-◌, [], Some, length, ap, sym, ◌∙◌, arith}
use Rattle.std.specs.Prelude.{slice_index_or}
use Rattle.std.specs.Option.{option_map}
use Rattle.dcv_scope.specs.declared.measures.MacroMeasure.{MacroMeasure}
use Rattle.dcv_scope.specs.Linear.{capped_macro}
use Rattle.dcv_scope.specs.Walk.{declared_alone}
use Rattle.dcv_scope.proofs.LookUps.{length-linears, measured_at, newest_here, older_there}
use Rattle.dcv_scope.proofs.measures.Sight.called.Goals as goal

pub bounds-self-place-then-eq : goal.bounds-self-place-then-eq
bounds-self-place-then-eq c =
    let same = ap length c.requires.measured ∙ length-linears _ c.args.self.now.macros.now in
    omega (arith, same, c.loop-place-test.true, c.loop-place.auto.place)

pub returns-then-eq : goal.returns-then-eq
returns-then-eq c =
    let nothing : MacroMeasure = record { own = record { size = 0; depth = 0; quantifiers = 0 }; shares = [] } in
    let sight = declared_alone c.args.self.now.declared.now in
    let macros = c.args.self.now.macros.now in
    let place = c.loop-place.place in
    let here = sym c.eq.ensures ∙ c.if-eq.true in
    let found_here = newest_here sight macros place c.index-self-place.result c.args.name.now c.loop-place-test.true c.loop-place.auto.place here in
    let numbers = measured_at sight macros (place - 1) c.index-self-place.result nothing (omega (arith, c.loop-place-test.true, c.loop-place.auto.place)) in
    ap Some (ap (λ ms. slice_index_or ms (place - 1) nothing) c.requires.measured ∙ numbers)
    ∙ ap (option_map capped_macro) (sym found_here ∙ c.loop-place.invariant)

pub loop-place-preserved : goal.loop-place-preserved
loop-place-preserved c =
    let sight = declared_alone c.args.self.now.declared.now in
    let macros = c.args.self.now.macros.now in
    let place = c.loop-place.place in
    let there = sym c.eq.ensures ∙ c.if-eq.false in
    sym (older_there sight macros place c.index-self-place.result c.args.name.now c.loop-place-test.true c.loop-place.auto.place there)
    ∙ c.loop-place.invariant
