use Rattle.std.proofs.Common.{ℕ, ◌+◌, length, Result, Ok}
use Rattle.dcv_automaton_lines.specs.Seen.{file_of}
use Rattle.dcv_automaton_text.specs.Rules.{judged_steps}
use Rattle.dcv_automaton_read.specs.declared.faults.Stop.{Stop}
use Rattle.dcv_automaton_read.specs.Parts.{judged_nodes, judged_states, judged_access, judged_suffixes}
use Rattle.dcv_automaton_read.proofs.Judging.{whole_in_turn, whole_stops}
use Rattle.dcv_automaton_read.proofs.HeadWords.{end_part, from_steps, from_suffixes, from_access, from_states, behind_head, in_head, in_end, end_kept}
use Rattle.dcv_automaton_read.proofs.rules.judge_lines.Goals as goal

pub returns-in_err-behind_head-clause-judged : goal.returns-in_err-behind_head-clause-judged
returns-in_err-behind_head-clause-judged c =
    in_head (file_of c.args.lines.now) c.from_residual.result c.in_err-behind_head.field-0.0 c.from_residual.ensures.1 c.in_err-behind_head.ensures.judged

pub returns-in_err-behind_nodes-clause-judged : goal.returns-in_err-behind_nodes-clause-judged
returns-in_err-behind_nodes-clause-judged c =
    let file = file_of c.args.lines.now in
    let answer = c.from_residual-in_err-behind_nodes.result in
    behind_head file answer c.in_ok-behind_head.behind_head c.in_ok-behind_head.ensures.judged
    (whole_stops (judged_nodes file) (from_states file) c.in_ok-behind_head.behind_head (c.in_ok-behind_head.behind_head + length (judged_nodes file)) c.in_err-behind_nodes.field-0.0 answer c.from_residual-in_err-behind_nodes.ensures.1 c.in_err-behind_nodes.ensures.judged)

pub returns-in_err-behind_states-clause-judged : goal.returns-in_err-behind_states-clause-judged
returns-in_err-behind_states-clause-judged c =
    let file = file_of c.args.lines.now in
    let answer = c.from_residual-in_err-behind_states.result in
    behind_head file answer c.in_ok-behind_head.behind_head c.in_ok-behind_head.ensures.judged
    (whole_in_turn (judged_nodes file) (from_states file) c.in_ok-behind_head.behind_head c.in_ok-behind_nodes.behind_nodes answer c.in_ok-behind_nodes.ensures.judged
    (whole_stops (judged_states file) (from_access file) c.in_ok-behind_nodes.behind_nodes (c.in_ok-behind_nodes.behind_nodes + length (judged_states file)) c.in_err-behind_states.field-0.0 answer c.from_residual-in_err-behind_states.ensures.1 c.in_err-behind_states.ensures.judged))

pub returns-in_err-behind_access-clause-judged : goal.returns-in_err-behind_access-clause-judged
returns-in_err-behind_access-clause-judged c =
    let file = file_of c.args.lines.now in
    let answer = c.from_residual-in_err-behind_access.result in
    behind_head file answer c.in_ok-behind_head.behind_head c.in_ok-behind_head.ensures.judged
    (whole_in_turn (judged_nodes file) (from_states file) c.in_ok-behind_head.behind_head c.in_ok-behind_nodes.behind_nodes answer c.in_ok-behind_nodes.ensures.judged
    (whole_in_turn (judged_states file) (from_access file) c.in_ok-behind_nodes.behind_nodes c.in_ok-behind_states.behind_states answer c.in_ok-behind_states.ensures.judged
    (whole_stops (judged_access file) (from_suffixes file) c.in_ok-behind_states.behind_states (c.in_ok-behind_states.behind_states + length (judged_access file)) c.in_err-behind_access.field-0.0 answer c.from_residual-in_err-behind_access.ensures.1 c.in_err-behind_access.ensures.judged)))

pub returns-in_err-behind_suffixes-clause-judged : goal.returns-in_err-behind_suffixes-clause-judged
returns-in_err-behind_suffixes-clause-judged c =
    let file = file_of c.args.lines.now in
    let answer = c.from_residual-in_err-behind_suffixes.result in
    behind_head file answer c.in_ok-behind_head.behind_head c.in_ok-behind_head.ensures.judged
    (whole_in_turn (judged_nodes file) (from_states file) c.in_ok-behind_head.behind_head c.in_ok-behind_nodes.behind_nodes answer c.in_ok-behind_nodes.ensures.judged
    (whole_in_turn (judged_states file) (from_access file) c.in_ok-behind_nodes.behind_nodes c.in_ok-behind_states.behind_states answer c.in_ok-behind_states.ensures.judged
    (whole_in_turn (judged_access file) (from_suffixes file) c.in_ok-behind_states.behind_states c.in_ok-behind_access.behind_access answer c.in_ok-behind_access.ensures.judged
    (whole_stops (judged_suffixes file) (from_steps file) c.in_ok-behind_access.behind_access (c.in_ok-behind_access.behind_access + length (judged_suffixes file)) c.in_err-behind_suffixes.field-0.0 answer c.from_residual-in_err-behind_suffixes.ensures.1 c.in_err-behind_suffixes.ensures.judged))))

pub returns-in_err-behind_steps-clause-judged : goal.returns-in_err-behind_steps-clause-judged
returns-in_err-behind_steps-clause-judged c =
    let file = file_of c.args.lines.now in
    let answer = c.from_residual-in_err-behind_steps.result in
    behind_head file answer c.in_ok-behind_head.behind_head c.in_ok-behind_head.ensures.judged
    (whole_in_turn (judged_nodes file) (from_states file) c.in_ok-behind_head.behind_head c.in_ok-behind_nodes.behind_nodes answer c.in_ok-behind_nodes.ensures.judged
    (whole_in_turn (judged_states file) (from_access file) c.in_ok-behind_nodes.behind_nodes c.in_ok-behind_states.behind_states answer c.in_ok-behind_states.ensures.judged
    (whole_in_turn (judged_access file) (from_suffixes file) c.in_ok-behind_states.behind_states c.in_ok-behind_access.behind_access answer c.in_ok-behind_access.ensures.judged
    (whole_in_turn (judged_suffixes file) (from_steps file) c.in_ok-behind_access.behind_access c.in_ok-behind_suffixes.behind_suffixes answer c.in_ok-behind_suffixes.ensures.judged
    (whole_stops (judged_steps file file.steps) (end_part file) c.in_ok-behind_suffixes.behind_suffixes (c.in_ok-behind_suffixes.behind_suffixes + length (judged_steps file file.steps)) c.in_err-behind_steps.field-0.0 answer c.from_residual-in_err-behind_steps.ensures.1 c.in_err-behind_steps.ensures.judged)))))

pub returns-in_err-judge-clause-judged : goal.returns-in_err-judge-clause-judged
returns-in_err-judge-clause-judged c =
    let file = file_of c.args.lines.now in
    let answer = c.from_residual-in_err-judge.result in
    behind_head file answer c.in_ok-behind_head.behind_head c.in_ok-behind_head.ensures.judged
    (whole_in_turn (judged_nodes file) (from_states file) c.in_ok-behind_head.behind_head c.in_ok-behind_nodes.behind_nodes answer c.in_ok-behind_nodes.ensures.judged
    (whole_in_turn (judged_states file) (from_access file) c.in_ok-behind_nodes.behind_nodes c.in_ok-behind_states.behind_states answer c.in_ok-behind_states.ensures.judged
    (whole_in_turn (judged_access file) (from_suffixes file) c.in_ok-behind_states.behind_states c.in_ok-behind_access.behind_access answer c.in_ok-behind_access.ensures.judged
    (whole_in_turn (judged_suffixes file) (from_steps file) c.in_ok-behind_access.behind_access c.in_ok-behind_suffixes.behind_suffixes answer c.in_ok-behind_suffixes.ensures.judged
    (whole_in_turn (judged_steps file file.steps) (end_part file) c.in_ok-behind_suffixes.behind_suffixes c.in_ok-behind_steps.behind_steps answer c.in_ok-behind_steps.ensures.judged
    (in_end file answer c.in_ok-behind_steps.behind_steps c.has_all_lines.result c.in_err-judge.field-0.0 c.has_all_lines.ensures c.from_residual-in_err-judge.ensures.1 c.in_err-judge.ensures.judged))))))

pub returns-clause-judged : goal.returns-clause-judged
returns-clause-judged c =
    let file = file_of c.args.lines.now in
    let answer : Result ℕ Stop = Ok 0 in
    behind_head file answer c.in_ok-behind_head.behind_head c.in_ok-behind_head.ensures.judged
    (whole_in_turn (judged_nodes file) (from_states file) c.in_ok-behind_head.behind_head c.in_ok-behind_nodes.behind_nodes answer c.in_ok-behind_nodes.ensures.judged
    (whole_in_turn (judged_states file) (from_access file) c.in_ok-behind_nodes.behind_nodes c.in_ok-behind_states.behind_states answer c.in_ok-behind_states.ensures.judged
    (whole_in_turn (judged_access file) (from_suffixes file) c.in_ok-behind_states.behind_states c.in_ok-behind_access.behind_access answer c.in_ok-behind_access.ensures.judged
    (whole_in_turn (judged_suffixes file) (from_steps file) c.in_ok-behind_access.behind_access c.in_ok-behind_suffixes.behind_suffixes answer c.in_ok-behind_suffixes.ensures.judged
    (whole_in_turn (judged_steps file file.steps) (end_part file) c.in_ok-behind_suffixes.behind_suffixes c.in_ok-behind_steps.behind_steps answer c.in_ok-behind_steps.ensures.judged
    (end_kept file c.in_ok-behind_steps.behind_steps c.in_ok-judge.field-0 c.has_all_lines.result c.has_all_lines.ensures c.in_ok-judge.ensures.judged))))))
