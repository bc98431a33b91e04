-- The unit is that of a controller which is right for the automaton's table, and wins as that does.
use Rattle.dcv_cli.proofs.Common.{◌≡◌, ◌≤◌, ◌-◌, take, arith, length, length-map, length-take, Name, refl, sym, ap, ◌∙◌, subst, IsControlOf, Realisable}
use Rattle.dcv_automaton_file.specs.File.{texts_of}
use Rattle.dcv_dfa.specs.Raw.{automaton_of}
use Rattle.dcv_synth.specs.Control.{unit_of}
use Rattle.dcv_synth.proofs.UnitOf.{has_unit}
use Rattle.dcv_cli.proofs.Syntheses.{names_of_inputs, of_set, says_controller, some_names, texts_of_some}
use Rattle.dcv_cli.proofs.synth.controller.Goals as goal

pub unit-requires-clause-names : goal.unit-requires-clause-names
unit-requires-clause-names c =
    names_of_inputs c.args.inputs c.args.names.now c.requires.printable.are_names

pub returns : goal.returns
returns c k L of =
    let n = c.args.inputs in
    let raw = c.args.built.now.auto in
    let names = c.args.names.now in
    let control = c.args.control.now in
    let within : n ≤ k = subst (λ count. n ≤ count) of.slots c.requires.inputs in
    let control_is = subst (λ count. IsControlOf n (count - n) (automaton_of raw) control) of.slots c.requires.control in
    let are = some_names n (texts_of names) c.requires.printable.are_names in
    let slots = c.requires.printable.slots in
    let texts = length-map names (λ (name : Name). name.text) in
    let few = c.requires.inputs in
    let width = control_is.next.slots in
    let count : length (take n (texts_of names)) ≡ control.next.arena.slots = omega (arith, length-take n (texts_of names)) in
    let has = has_unit (take n (texts_of names)) control c.states-2.ensures.control are count c.requires.next_nodes c.requires.output_nodes in
    let same = c.in_ok-unit.ensures.unit ∙ ap (λ texts. unit_of texts control) (sym (texts_of_some n names)) in
    Realisable
    (says_controller c.answers_are_of_tables.ensures.tables n (k - n) L raw (of_set n k L raw c.states.ensures.raw c.states.ensures.auto.start within of)
    c.answers_are_of_tables.ensures.controls c.controls_win.ensures c.least_lines_are_one.ensures.have c.winners_of_same_behaviours.ensures.wins c.texts_spell_units.ensures.back
    (take n (texts_of names)) control c.in_ok-unit.unit has control_is same c.keeps_the_rules.ensures.form c.keeps_the_rules.ensures.names
    c.in_ok-unit.ensures.wins)
    refl refl
