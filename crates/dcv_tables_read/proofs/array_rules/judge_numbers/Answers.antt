use Rattle.std.proofs.Common.{◌+◌, length, sym, ap, ◌∙◌, arith}
use Rattle.dcv_c_tables.specs.Layout.{text_in, number_line}
use Rattle.dcv_tables_read.proofs.NumberLemmas.{room, one_more, stops_here, all_kept}
use Rattle.dcv_tables_read.proofs.array_rules.judge_numbers.Goals as goal

pub after_line-at-requires : goal.after_line-at-requires
after_line-at-requires g c =
    let fits = room (g.R.Rule.number c.args.rule.now) (g.R.Rule.keeps c.args.rule.now) c.args.elements.now c.args.first c.loop-place.place c.loop-place.at
    c.index-elements-place.result c.loop-place-test.true (sym c.index-elements-place.is) c.loop-place.invariant in
    let same = ap (λ n. length (text_in (number_line n))) c.number.ensures in
    omega (arith, fits, same, c.requires)

pub overflow_add-result : goal.overflow_add-result
overflow_add-result g c =
    let fits = room (g.R.Rule.number c.args.rule.now) (g.R.Rule.keeps c.args.rule.now) c.args.elements.now c.args.first c.loop-place.place c.loop-place.at
    c.index-elements-place.result c.loop-place-test.true (sym c.index-elements-place.is) c.loop-place.invariant in
    omega (arith, fits, c.requires)

pub returns-then-not-keeps : goal.returns-then-not-keeps
returns-then-not-keeps g c =
    stops_here (g.R.Rule.number c.args.rule.now) (g.R.Rule.keeps c.args.rule.now) c.args.elements.now c.args.first c.loop-place.place c.loop-place.at
    c.index-elements-place.result c.loop-place-test.true (sym c.index-elements-place.is) c.loop-place.invariant (sym c.keeps.ensures ∙ c.if-not-keeps.true)

pub loop-place-preserved : goal.loop-place-preserved
loop-place-preserved g c =
    one_more (g.R.Rule.number c.args.rule.now) (g.R.Rule.keeps c.args.rule.now) c.args.elements.now c.args.first c.loop-place.place c.loop-place.at
    c.index-elements-place.result c.loop-place-test.true (sym c.index-elements-place.is) c.loop-place.invariant c.after_line-at.result
    (sym c.keeps.ensures ∙ c.if-not-keeps.false) (c.after_line-at.ensures ∙ ap (λ n. c.loop-place.at + length (text_in (number_line n))) c.number.ensures)

pub returns : goal.returns
returns g c = all_kept (g.R.Rule.number c.args.rule.now) (g.R.Rule.keeps c.args.rule.now) c.args.elements.now c.args.first c.loop-place.place c.loop-place.at
    c.loop-place-test.false c.loop-place.invariant
