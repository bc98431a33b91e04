use Rattle.std.proofs.Common.{◌+◌, List, ℕ, length, subst, Ok, Err}
use Rattle.std.specs.Borrow.{Bor}
use Rattle.dcv_automaton_lines.specs.Seen.{file_of}
use Rattle.dcv_automaton_read.specs.Judged.{IsJudged, first_word}
use Rattle.dcv_automaton_read.specs.Parts.{judged_names, judged_head}
use Rattle.dcv_automaton_read.specs.Seen.{texts_of}
use Rattle.dcv_automaton_read.proofs.Judging.{handed_on}
use Rattle.dcv_automaton_read.proofs.HeadWords.{head_judged, head_stops}
use Rattle.dcv_automaton_read.proofs.rules.judge_head.Goals as goal

pub returns-in_err-number-clause-judged : goal.returns-in_err-number-clause-judged
returns-in_err-number-clause-judged c =
    let file = file_of c.args.lines.now in
    let judged = subst (λ (names : List (Bor (List ℕ))). IsJudged (first_word 3 (judged_names (texts_of names))) (3 + length (judged_names (texts_of names))) (Err c.in_err-number.field-0.0)) c.deref.ensures.value c.in_err-number.ensures.judged in
    handed_on (first_word 0 (judged_head file)) (length (judged_head file)) c.in_err-number.field-0.0 c.from_residual.result c.from_residual.ensures.1
    (head_stops file c.in_err-number.field-0.0 judged)

pub returns-clause-judged : goal.returns-clause-judged
returns-clause-judged c =
    let file = file_of c.args.lines.now in
    let judged = subst (λ (names : List (Bor (List ℕ))). IsJudged (first_word 3 (judged_names (texts_of names))) (3 + length (judged_names (texts_of names))) (Ok c.in_ok-number.number)) c.deref.ensures.value c.in_ok-number.ensures.judged in
    head_judged file c.in_ok-number.number c.keeps_count.result c.judge.result c.keeps_count.ensures judged c.judge.ensures.judged
