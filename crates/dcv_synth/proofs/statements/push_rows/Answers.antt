use Rattle.std.proofs.Common.{◌≡◌, ℕ, ◌<◌, ◌++◌, List, length, map, subst, ◌∙◌, arith}
use Rattle.std.proofs.lemmas.List.{take_all}
use Rattle.dcv_language.specs.Limits.{number_bound}
use Rattle.dcv_language.specs.declared.child.Child.{Child}
use Rattle.dcv_language.specs.declared.child.Child.TheVariants.{State}
use Rattle.dcv_dfa.specs.NodeLines.{IsBelow}
use Rattle.dcv_c.specs.Seen.{seen_statement}
use Rattle.dcv_synth.specs.Units.{state_choices, all_state_choices}
use Rattle.dcv_synth.proofs.UnitMade.{row_pushed}
use Rattle.dcv_synth.proofs.statements.push_rows.Goals as goal

pub loop-place-preserved : goal.loop-place-preserved
loop-place-preserved c = λ (all names : List (List ℕ)) (count : ℕ) has next_below output_below.
    let states = c.args.states.now in
    let k = c.loop-place.place in
    let within : k < length states = omega (arith, c.loop-place-test.true) in
    row_pushed (seen_statement all) states c.args.nexts.now c.args.outputs.now k c.requires.next_count c.requires.output_count within
    c.args.statements.now.items c.loop-place.statements.items c.push_row.new.statements.items
    (c.loop-place.invariant all names count has next_below output_below)
    (subst (λ (row : ℕ × (Child × Child)). IsBelow number_bound c.args.places.nexts row.1.0 → IsBelow number_bound count row.1.1
    → map (seen_statement all) c.push_row.new.statements.items ≡ map (seen_statement all) c.loop-place.statements.items ++ state_choices row)
    (λ i. (c.row_at.ensures.state i, (c.row_at.ensures.next i, c.row_at.ensures.output i))) (c.in_ok-push_row.ensures all names count has)
    (next_below k (State 0) (omega (arith, within, c.requires.next_count))) (output_below k (State 0) (omega (arith, within, c.requires.output_count))))

pub returns : goal.returns
returns c = λ (all names : List (List ℕ)) (count : ℕ) has next_below output_below.
    let past = c.loop-place-test.false in
    let states = take_all c.loop-place.place c.args.states.now (omega (arith, past)) in
    let nexts = take_all c.loop-place.place c.args.nexts.now (omega (arith, past, c.requires.next_count)) in
    let outputs = take_all c.loop-place.place c.args.outputs.now (omega (arith, past, c.requires.output_count)) in
    c.loop-place.invariant all names count has next_below output_below
    ∙ (λ i. map (seen_statement all) c.args.statements.now.items ++ all_state_choices (states i) (nexts i) (outputs i))
