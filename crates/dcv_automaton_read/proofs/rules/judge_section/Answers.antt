use Rattle.std.proofs.Common.{◌+◌, length, map, get_or, Ok, Err, ap, subst, arith}
use Rattle.std.proofs.lemmas.List.{length-map}
use Rattle.std.specs.List.{zip}
use Rattle.dcv_automaton_read.specs.Judged.{IsJudged, first_word}
use Rattle.dcv_automaton_read.specs.Parts.{judged_lines}
use Rattle.dcv_automaton_read.proofs.Judging.{at_start, more_of, stop_of, all_kept}
use Rattle.dcv_automaton_read.proofs.rules.judge_section.Goals as goal

pub loop-place-init : goal.loop-place-init
loop-place-init g c =
    (at_start g.S.Section.words (g.S.Section.keeps c.args.section.now) (map g.S.Section.seen (g.S.Section.lines c.args.section.now)) c.args.first 0 0, omega arith, omega arith)

pub judge_line-requires : goal.judge_line-requires
judge_line-requires g c = omega (arith, c.loop-place.invariant.1, c.loop-place.invariant.2)

pub returns-in_err-number-clause-judged : goal.returns-in_err-number-clause-judged
returns-in_err-number-clause-judged g c =
    let section = c.args.section.now in
    let seen = g.S.Section.seen in
    let spelled = g.S.Section.words in
    let keeps = g.S.Section.keeps section in
    let number = c.loop-place.number in
    let place = c.loop-place.place in
    let given = c.lines-line-items.result.now in
    let x = c.line-item.result in
    stop_of seen spelled keeps (g.S.Section.lines section) given x c.args.first place number c.lines-line-items.ensures
    (number + length (zip (spelled (seen (get_or given place x))) (keeps place (seen (get_or given place x)))))
    (c.args.first + length (judged_lines spelled keeps 0 (map seen (g.S.Section.lines section))))
    c.in_err-number.field-0.0 c.from_residual.result c.loop-place-test.true c.loop-place.invariant.0 c.from_residual.ensures.1
    (subst (λ line. IsJudged (first_word number (zip (spelled (seen line)) (keeps place (seen line)))) (number + length (zip (spelled (seen line)) (keeps place (seen line))))
    (Err c.in_err-number.field-0.0)) c.line-item.is c.in_err-number.ensures.judged)

pub loop-place-preserved : goal.loop-place-preserved
loop-place-preserved g c =
    let section = c.args.section.now in
    let seen = g.S.Section.seen in
    let spelled = g.S.Section.words in
    let keeps = g.S.Section.keeps section in
    let number = c.loop-place.number in
    let place = c.loop-place.place in (
      more_of seen spelled keeps (g.S.Section.lines section) c.lines-line-items.result.now c.line-item.result c.args.first place number
          c.lines-line-items.ensures c.in_ok-number.number c.loop-place-test.true c.loop-place.invariant.0
          (subst (λ line. IsJudged (first_word number (zip (spelled (seen line)) (keeps place (seen line)))) (number + length (zip (spelled (seen line)) (keeps place (seen line))))
          (Ok c.in_ok-number.number)) c.line-item.is c.in_ok-number.ensures.judged),
      omega (arith, c.loop-place.invariant.1, c.in_ok-number.ensures.bound),
      omega (arith, c.in_ok-number.ensures.few),
    )

pub returns-clause-judged : goal.returns-clause-judged
returns-clause-judged g c =
    let section = c.args.section.now in
    let lines = g.S.Section.lines section in
    all_kept g.S.Section.words (g.S.Section.keeps section) (map g.S.Section.seen lines) c.args.first c.loop-place.place c.loop-place.number
    (omega (arith, c.loop-place-test.false, length-map lines g.S.Section.seen, ap length c.lines-line-items.ensures)) c.loop-place.invariant.0

pub returns-clause-bound : goal.returns-clause-bound
returns-clause-bound g c = omega (arith, c.loop-place.invariant.1, c.loop-place.invariant.2)
