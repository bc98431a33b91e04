use Rattle.std.proofs.Common.{◌≡◌, length, map, sym, ap, ◌∙◌}
use Rattle.std.proofs.lemmas.List.{length-map}
use Rattle.dcv_syntax.specs.declared.names.Name.{Name}
use Rattle.dcv_automaton_file.specs.File.{texts_of}
use Rattle.dcv_c.specs.Seen.{seen_statement}
use Rattle.dcv_synth.specs.Placing.{unit_names}
use Rattle.dcv_synth.specs.declared.statements.Places.{Places}
use Rattle.dcv_synth.proofs.UnitMade.{has_names}
use Rattle.dcv_synth.proofs.units.step_of.Goals as goal

pub returns-clause-statements : goal.returns-clause-statements
returns-clause-statements c =
    let texts = texts_of c.args.names.now in
    let outputs = length c.args.output.now.lines in
    let places : Places = record { inputs = length c.args.names.now; nexts = length c.lines.result.now } in
    let nexts : length c.args.next.now.lines ≡ length c.lines.result.now = ap length (sym c.lines.ensures) in
    ap (λ n. map (seen_statement (unit_names texts n outputs)) c.in_ok-statements.statements.items) nexts
    ∙ c.in_ok-statements.ensures (unit_names texts (length c.lines.result.now) outputs) texts
    (has_names texts places outputs (length-map c.args.names.now (λ (name : Name). name.text)))
