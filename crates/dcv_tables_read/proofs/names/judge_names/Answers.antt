use Rattle.std.proofs.Common.{[], get_or, take, sym, ◌∙◌, arith}
use Rattle.dcv_tables_read.proofs.NameLemmas.{Name, judged_same, at_start, room, one_more, stops_here, all_kept}
use Rattle.dcv_tables_read.proofs.names.judge_names.Goals as goal

abbrev nothing : Name
nothing = record { ref_ptr = (0, 0); now = [] }

pub loop-place-init : goal.loop-place-init
loop-place-init c = at_start c.args.names.now c.args.first

pub overflow_add-result : goal.overflow_add-result
overflow_add-result c =
    let fits = room c.args.names.now c.args.first c.loop-place.place c.loop-place.at nothing c.loop-place-test.true c.loop-place.invariant in
    omega (arith, fits, c.requires)

pub returns-then-not-keeps_name : goal.returns-then-not-keeps_name
returns-then-not-keeps_name c =
    stops_here c.args.names.now c.args.first c.loop-place.place c.loop-place.at nothing c.loop-place-test.true c.loop-place.invariant
    (sym (judged_same (take c.loop-place.place c.args.names.now) (get_or c.args.names.now c.loop-place.place nothing).now) ∙ sym c.keeps_name.ensures ∙ c.if-not-keeps_name.true)

pub loop-place-preserved : goal.loop-place-preserved
loop-place-preserved c =
    one_more c.args.names.now c.args.first c.loop-place.place c.loop-place.at nothing c.loop-place-test.true c.loop-place.invariant _
    (sym (judged_same (take c.loop-place.place c.args.names.now) (get_or c.args.names.now c.loop-place.place nothing).now) ∙ sym c.keeps_name.ensures ∙ c.if-not-keeps_name.false)
    (omega arith)

pub returns : goal.returns
returns c = all_kept c.args.names.now c.args.first c.loop-place.place c.loop-place.at c.loop-place-test.false c.loop-place.invariant
