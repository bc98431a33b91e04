use Rattle.std.proofs.Common.{◌<◌, ◌+◌, All, length, get_or, take, sym, subst, arith}
use Rattle.std.proofs.lemmas.List.Elements.{All-push}
use Rattle.dcv_arena.proofs.Roots.{kept_in_turn}
use Rattle.dcv_refinement.specs.Leads.{row_at}
use Rattle.dcv_certificate.specs.Marks.{IsMarkFrom}
use Rattle.dcv_certificate.specs.Indicators.{IsIndicator, AreIndicators}
use Rattle.dcv_certificate.proofs.Walking.{marks_kept}
use Rattle.dcv_certificate.proofs.Indicating.{one_indicator_more}
use Rattle.dcv_certificate.proofs.indicators.Part.marks.Goals as goal

pub returns-in_err-mark-clause-kept : goal.returns-in_err-mark-clause-kept
returns-in_err-mark-clause-kept c = kept_in_turn c.args.scratch.now c.loop-state.scratch c.indicator.new.scratch c.loop-state.invariant.kept c.indicator.ensures.kept

pub returns-in_err-push-clause-kept : goal.returns-in_err-push-clause-kept
returns-in_err-push-clause-kept c = kept_in_turn c.args.scratch.now c.loop-state.scratch c.indicator.new.scratch c.loop-state.invariant.kept c.indicator.ensures.kept

pub loop-state-preserved : goal.loop-state-preserved
loop-state-preserved c =
    let self = c.args.self.now in
    let rows = c.args.rows.now in
    let looked = c.args.looked.now in
    let place = c.loop-state.state-index in
    let old = c.loop-state.scratch in
    let new = c.indicator.new.scratch in
    let was = c.loop-state.invariant in
    let mark = c.in_ok-mark.mark in
    let state = get_or looked place 0 in
    let within : state < length rows = c.requires.looked place 0 c.loop-state-test.true in
    let is : IsIndicator self new (row_at rows state) mark = c.in_ok-mark.ensures.indicator in
    let items = c.in_ok-push.ensures.items in
    record {
      kept = kept_in_turn c.args.scratch.now old new was.kept c.indicator.ensures.kept;
      arena = c.indicator.ensures.arena;
      few = c.in_ok-mark.ensures.few;
      became = c.in_ok-mark.ensures.became;
      refs = subst (All (IsMarkFrom new (length rows) 0)) (sym items)
          (All-push (IsMarkFrom new (length rows) 0) c.loop-state.marks.items (state, mark) (marks_kept old new c.indicator.ensures.kept (length rows) 0 c.loop-state.marks.items was.refs)
          (record { is_state = within; is_ref = is.is_ref; level = omega arith }));
      so_far = subst (AreIndicators self rows (take (place + 1) looked) new) (sym items)
          (one_indicator_more self rows looked place old new (length rows) c.loop-state.marks.items mark c.indicator.ensures.kept was.refs c.loop-state-test.true was.so_far is);
    }
