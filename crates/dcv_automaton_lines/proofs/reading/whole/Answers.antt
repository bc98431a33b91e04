use Rattle.std.proofs.Common.{◌++◌, ◌∷◌, map, sym, ap, ◌∙◌, subst}
use Rattle.std.specs.Fmt.{decimal}
use Rattle.std.specs.Option.{option_map}
use Rattle.dcv_automaton_text.specs.Form.{IsNumber}
use Rattle.dcv_automaton_text.specs.File.{AutomatonFile}
use Rattle.dcv_automaton_text.specs.Spelled.{spelled_front}
use Rattle.dcv_automaton_lines.specs.Parts.{Whole, Words, Tail, Closed}
use Rattle.dcv_automaton_lines.specs.Seen.{file_of, step_part_of}
use Rattle.dcv_automaton_lines.specs.declared.sections.Kind.TheVariants.{Node}
use Rattle.dcv_automaton_lines.proofs.Gathering.{stops, stop_passes}
use Rattle.dcv_automaton_lines.proofs.WholeText.{fault_in_title, fault_in_names, fault_in_states, fault_in_number, fault_behind_number, before_is, form_is, some_steps, some_version, room_is, stuck_passes}
use Rattle.dcv_automaton_lines.proofs.reading.whole.Goals as goal

pub returns-in_err-version-clause-fault : goal.returns-in_err-version-clause-fault
returns-in_err-version-clause-fault c =
    stops _ _ _ c.in_err-version.field-0.0 c.from_residual.ensures.1 (fault_in_title c.args.text.now _ c.in_err-version.ensures.fault)

pub returns-in_err-listed-clause-fault : goal.returns-in_err-listed-clause-fault
returns-in_err-listed-clause-fault c =
    stuck_passes Whole Words c.args.text.now c.in_ok-version.named.now _ c.in_err-listed.field-0.0 c.from_residual-in_err-listed.ensures.1
    (λ left. fault_in_names c.in_ok-version.version c.args.text.now c.in_ok-version.named.now left c.in_ok-version.ensures.ok) c.in_err-listed.ensures.fault

pub returns-in_err-counted-clause-fault : goal.returns-in_err-counted-clause-fault
returns-in_err-counted-clause-fault c =
    let names = map (λ name. name.now) c.in_ok-listed.listed.items in
    stops _ _ _ c.in_err-counted.field-0.0 c.from_residual-in_err-counted.ensures.1
    (fault_in_states c.in_ok-version.version c.args.text.now c.in_ok-version.named.now c.in_ok-listed.stated.now names c.in_ok-version.ensures.ok c.in_ok-listed.ensures.form
    c.in_ok-listed.ensures.spelled _ c.in_err-counted.ensures.fault)

pub returns-in_err-states-clause-fault : goal.returns-in_err-states-clause-fault
returns-in_err-states-clause-fault c =
    let names = map (λ name. name.now) c.in_ok-listed.listed.items in
    stops _ _ _ c.in_err-states.field-0.0 c.from_residual-in_err-states.ensures.1
    (fault_in_number c.in_ok-version.version c.args.text.now c.in_ok-version.named.now c.in_ok-listed.stated.now names c.in_ok-version.ensures.ok c.in_ok-listed.ensures.form
    c.in_ok-listed.ensures.spelled c.in_ok-counted.counted.now _ c.in_ok-counted.ensures.ok c.in_err-states.ensures.fault)

pub returns-in_err-lines-clause-fault : goal.returns-in_err-lines-clause-fault
returns-in_err-lines-clause-fault c =
    let names = map (λ name. name.now) c.in_ok-listed.listed.items in
    stop_passes Whole (Tail c.in_ok-version.version Node) c.args.text.now c.in_ok-states.rest.now _ c.in_err-lines.field-0.0 c.from_residual-in_err-lines.ensures.1
    (fault_behind_number c.in_ok-version.version c.args.text.now c.in_ok-version.named.now c.in_ok-listed.stated.now names c.in_ok-version.ensures.ok c.in_ok-listed.ensures.form
    c.in_ok-listed.ensures.spelled c.in_ok-counted.counted.now c.in_ok-states.rest.now c.in_ok-states.states c.in_ok-states.ensures.small c.in_ok-counted.ensures.ok c.in_ok-states.ensures.spelled)
    c.in_err-lines.ensures.fault

pub before-lines-requires : goal.before-lines-requires
before-lines-requires c =
    let names = map (λ name. name.now) c.in_ok-listed.listed.items in
    let file : AutomatonFile = record (file_of c.in_ok-lines.lines) { steps = some_steps c.in_ok-version.version } in
    room_is c.args.text.now (spelled_front file) c.closing.result.now c.in_ok-lines.behind.now
    (before_is c.in_ok-version.version c.args.text.now c.in_ok-version.named.now c.in_ok-listed.stated.now names c.in_ok-version.ensures.ok c.in_ok-listed.ensures.form
    c.in_ok-listed.ensures.spelled c.in_ok-counted.counted.now c.in_ok-states.rest.now c.in_ok-lines.behind.now c.closing.result.now file c.in_ok-counted.ensures.ok
    (c.in_ok-states.ensures.spelled ∙ ap (λ n. decimal n ++ 10 ∷ c.in_ok-states.rest.now) (sym c.in_ok-lines.ensures.states)) (sym c.in_ok-lines.ensures.names) c.in_ok-lines.ensures.spelled
    c.closing.ensures (some_version c.in_ok-version.version))

pub returns-in_err-lines-2-clause-fault : goal.returns-in_err-lines-2-clause-fault
returns-in_err-lines-2-clause-fault c =
    let names = map (λ name. name.now) c.in_ok-listed.listed.items in
    stop_passes Whole (Closed c.in_ok-version.version) c.args.text.now c.in_ok-lines.behind.now _ c.in_err-lines-2.field-0.0 c.from_residual-in_err-lines-2.ensures.1
    (λ left fault. fault_behind_number c.in_ok-version.version c.args.text.now c.in_ok-version.named.now c.in_ok-listed.stated.now names c.in_ok-version.ensures.ok c.in_ok-listed.ensures.form
    c.in_ok-listed.ensures.spelled c.in_ok-counted.counted.now c.in_ok-states.rest.now c.in_ok-states.states c.in_ok-states.ensures.small c.in_ok-counted.ensures.ok c.in_ok-states.ensures.spelled
    left (c.in_ok-lines.ensures.behind left fault))
    c.in_err-lines-2.ensures.fault

pub returns-clause-ok : goal.returns-clause-ok
returns-clause-ok c =
    let has = c.in_ok-lines.ensures.form in
    let names = map (λ name. name.now) c.in_ok-listed.listed.items in
    let file : AutomatonFile = record (file_of c.in_ok-lines.lines) { steps = option_map step_part_of c.in_ok-lines-2.field-0 } in
    form_is c.in_ok-version.version c.args.text.now c.in_ok-version.named.now c.in_ok-listed.stated.now names c.in_ok-version.ensures.ok c.in_ok-listed.ensures.form
    c.in_ok-listed.ensures.spelled c.in_ok-counted.counted.now c.in_ok-states.rest.now c.in_ok-lines.behind.now file
    (subst IsNumber (sym c.in_ok-lines.ensures.states) c.in_ok-states.ensures.small) c.in_ok-counted.ensures.ok
    (c.in_ok-states.ensures.spelled ∙ ap (λ n. decimal n ++ 10 ∷ c.in_ok-states.rest.now) (sym c.in_ok-lines.ensures.states)) (sym c.in_ok-lines.ensures.names)
    (λ dash. c.in_ok-listed.ensures.not_a_dash (sym c.in_ok-lines.ensures.names ∙ dash))
    (record { node_lines = has.node_lines; state_lines = has.state_lines; access_lines = has.access_lines; suffix_lines = has.suffix_lines }) c.in_ok-lines-2.ensures.form c.in_ok-lines.ensures.spelled
    c.in_ok-lines-2.ensures.version c.in_ok-lines-2.ensures.spelled

pub returns-clause-front : goal.returns-clause-front
returns-clause-front c =
    let names = map (λ name. name.now) c.in_ok-listed.listed.items in
    let file : AutomatonFile = record (file_of c.in_ok-lines.lines) { steps = option_map step_part_of c.in_ok-lines-2.field-0 } in
    c.before-lines.ensures (spelled_front file)
    (before_is c.in_ok-version.version c.args.text.now c.in_ok-version.named.now c.in_ok-listed.stated.now names c.in_ok-version.ensures.ok c.in_ok-listed.ensures.form
    c.in_ok-listed.ensures.spelled c.in_ok-counted.counted.now c.in_ok-states.rest.now c.in_ok-lines.behind.now c.closing.result.now file c.in_ok-counted.ensures.ok
    (c.in_ok-states.ensures.spelled ∙ ap (λ n. decimal n ++ 10 ∷ c.in_ok-states.rest.now) (sym c.in_ok-lines.ensures.states)) (sym c.in_ok-lines.ensures.names) c.in_ok-lines.ensures.spelled
    c.closing.ensures c.in_ok-lines-2.ensures.version)
