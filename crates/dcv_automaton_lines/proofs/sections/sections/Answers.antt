use Rattle.std.proofs.Common.{◌++◌, ap, ◌∙◌}
use Rattle.std.specs.List.{flat_map}
use Rattle.dcv_automaton_text.specs.Spelled.{spelled_line}
use Rattle.dcv_automaton_lines.specs.Gathered.{line_of, section_words}
use Rattle.dcv_automaton_lines.specs.Seen.{file_of}
use Rattle.dcv_automaton_lines.proofs.Gathering.{stops, before_closing, fault_here, section_step, shorter, closed_spelled, closed_fault}
use Rattle.dcv_automaton_lines.proofs.sections.sections.Goals as goal

pub returns-in_err-line-clause-fault : goal.returns-in_err-line-clause-fault
returns-in_err-line-clause-fault c =
    let small = before_closing c.loop-version.first c.is_closing.result c.is_closing.ensures.1 c.loop-version-test.true in
    stops _ _ _ c.in_err-line.field-0.0 c.from_residual.ensures.1
    (c.loop-version.invariant.fault _ (fault_here c.args.version c.loop-version.first small c.loop-version.rest.now _ c.in_err-line.ensures.fault))

pub loop-version-smaller : goal.loop-version-smaller
loop-version-smaller c = shorter c.args.version (line_of c.in_ok-line.line) c.loop-version.rest.now c.in_ok-line.behind.now c.in_ok-line.ensures.spelled

pub loop-version-preserved : goal.loop-version-preserved
loop-version-preserved c =
    let small = before_closing c.loop-version.first c.is_closing.result c.is_closing.ensures.1 c.loop-version-test.true in
    let step = section_step c.args.version c.loop-version.first c.kind-first.result (file_of c.loop-version.lines) (file_of c.add.new.self) (line_of c.in_ok-line.line) c.args.text.now
    c.loop-version.rest.now c.in_ok-line.behind.now small c.kind-first.ensures c.in_ok-add.ensures c.in_ok-line.ensures.later c.in_ok-line.ensures.form c.loop-version.invariant.begun
    c.loop-version.invariant.form c.loop-version.invariant.spelled c.in_ok-line.ensures.spelled c.loop-version.invariant.fault in
    record { names = step.names ∙ c.loop-version.invariant.names; states = step.states ∙ c.loop-version.invariant.states; begun = step.begun; form = step.form; spelled = step.spelled; fault = step.fault }

pub returns-clause-spelled : goal.returns-clause-spelled
returns-clause-spelled c =
    c.loop-version.invariant.spelled ∙ ap (λ r. flat_map spelled_line (section_words (file_of c.loop-version.lines)) ++ r)
    (closed_spelled c.args.version c.loop-version.first (c.is_closing.ensures.0 c.loop-version-test.false) c.loop-version.rest.now)

pub returns-clause-behind : goal.returns-clause-behind
returns-clause-behind c = λ left fault.
    c.loop-version.invariant.fault left (closed_fault c.args.version c.loop-version.first (c.is_closing.ensures.0 c.loop-version-test.false) c.loop-version.rest.now left fault)
