use Rattle.std.proofs.Common.{ℕ, ◌<◌, ◌++◌, List, length, map, ap, ◌∙◌, arith}
use Rattle.std.proofs.lemmas.List.{take_all}
use Rattle.dcv_language.specs.declared.child.Child.TheVariants.{State}
use Rattle.dcv_dfa.specs.declared.node_lines.NodeLine.{NodeLine}
use Rattle.dcv_c.specs.Seen.{seen_statement}
use Rattle.dcv_synth.specs.Units.{choice, choices}
use Rattle.dcv_synth.proofs.UnitMade.{numbered_pushed}
use Rattle.dcv_synth.proofs.statements.push_choices.Goals as goal

abbrev no_line : NodeLine
no_line = record { slot = 0; hi = State 0; lo = State 0 }

pub loop-number-preserved : goal.loop-number-preserved
loop-number-preserved c = λ (all names : List (List ℕ)) (name : ℕ → List ℕ) inputs stand fits.
    let lines = c.args.lines.now in
    let k = c.loop-number.number in
    let within : k < length lines = omega (arith, c.loop-number-test.true) in
    numbered_pushed (seen_statement all) (choice name names) lines k no_line within
    c.args.statements.now.items c.loop-number.statements.items c.push.new.self.items c.node_choice.result
    (c.loop-number.invariant all names name inputs stand fits) c.in_ok-push.ensures.items
    (c.node_choice.ensures all names name (length lines) inputs stand within (fits k no_line within))

pub returns : goal.returns
returns c = λ (all names : List (List ℕ)) (name : ℕ → List ℕ) inputs stand fits.
    let lines = c.args.lines.now in
    c.loop-number.invariant all names name inputs stand fits
    ∙ ap (λ lines. map (seen_statement all) c.args.statements.now.items ++ choices name names lines)
    (take_all c.loop-number.number lines (omega (arith, c.loop-number-test.false)))
