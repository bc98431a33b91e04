-- What is answered of the automata is what is right for the files.
use Rattle.dcv_cli.proofs.Common.{refl, Undeclared, ◌∙◌, sym, ap, Err, letters_of, IsCompared, First, Second}
use Rattle.dcv_cli.proofs.Comparisons.{names_same, names_differ, count_same, explains_first_over, explains_second_over, compares, explains_product}
use Rattle.dcv_cli.proofs.ThreeEnds.{marked_explains}
use Rattle.dcv_cli.proofs.implies.compare.Goals as goal

pub returns-then-not-has_names_of-clause-refused : goal.returns-then-not-has_names_of-clause-refused
returns-then-not-has_names_of-clause-refused c text other_text one other is is' =
    rw c.of.ensures (Undeclared (names_differ _ _ one other _ c.has_names_of.ensures is.names is'.names c.if-not-has_names_of.true) refl)

pub returns-in-Err-clause-refused : goal.returns-in-Err-clause-refused
returns-in-Err-clause-refused c text other_text one other is is' =
    let same = names_same _ _ one other _ c.has_names_of.ensures is.names is'.names c.if-not-has_names_of.false in
    let refusal = c.in-Err.refusal in
    rw c.in_file.ensures (marked_explains (IsCompared c.args.limits one other) First refusal (explains_first_over c.args.limits one other refusal same (c.in-Err.ensures.over text one is)))

pub returns-in-Err-build-clause-refused : goal.returns-in-Err-build-clause-refused
returns-in-Err-build-clause-refused c text other_text one other is is' =
    let same = names_same _ _ one other _ c.has_names_of.ensures is.names is'.names c.if-not-has_names_of.false in
    let refusal = c.in-Err-build.refusal in
    rw c.in_file-in-Err-build.ensures (marked_explains (IsCompared c.args.limits one other) Second refusal
    (explains_second_over c.args.limits one other refusal same (c.in-Ok.ensures.built text one is).within (c.in-Err-build.ensures.over other_text other is')))

pub least_outside-requires : goal.least_outside-requires
least_outside-requires c =
    let one = c.requires.one in
    let other = c.requires.other in
    let same = names_same _ _ one.file other.file _ c.has_names_of.ensures one.is.names other.is.names c.if-not-has_names_of.false in
    (c.in-Ok.ensures.built one.text one.file one.is).automaton.slots ∙ count_same one.file.variables other.file.variables same
    ∙ sym (c.in-Ok-build.ensures.built other.text other.file other.is).automaton.slots

pub returns-in-Ok-least_outside-clause-compared : goal.returns-in-Ok-least_outside-clause-compared
returns-in-Ok-least_outside-clause-compared c text other_text one other is is' =
    let same = names_same _ _ one other _ c.has_names_of.ensures is.names is'.names c.if-not-has_names_of.false in
    let found = c.in-Ok-least_outside.ensures in
    compares c.args.limits one other c.answers_are_of_sets.ensures.automata c.none_is_inclusion.ensures.none c.in-Ok.built c.in-Ok-build.built c.states.ensures.auto
    c.states-2.ensures.auto same (c.in-Ok.ensures.built text one is) (c.in-Ok-build.ensures.built other_text other is') (letters_of c.in-Ok-least_outside.least) found.within found.least

pub returns-clause-refused : goal.returns-clause-refused
returns-clause-refused c text other_text one other is is' =
    let same = names_same _ _ one other _ c.has_names_of.ensures is.names is'.names c.if-not-has_names_of.false in
    let at = c.in-Err-least_outside in
    rw (c.of-in-Err-least_outside.ensures, c.from.ensures)
    (explains_product c.args.limits one other c.answers_are_of_sets.ensures.automata c.none_is_inclusion.ensures.none c.in-Ok.built c.in-Ok-build.built c.states.ensures.auto
    c.states-2.ensures.auto same (c.in-Ok.ensures.built text one is) (c.in-Ok-build.ensures.built other_text other is') at.fault
    (λ limit e. c.least_outside.ensures.states limit (at.is ∙ ap Err e)) (λ limit e. c.least_outside.ensures.nodes limit (at.is ∙ ap Err e)))
