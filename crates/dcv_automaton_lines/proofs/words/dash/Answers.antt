use Rattle.std.proofs.Common.{◌≡◌, arith}
use Rattle.dcv_automaton_lines.proofs.WordSets.{dash_stuck, first_is, front_at}
use Rattle.dcv_automaton_lines.proofs.words.dash.Goals as goal
use Rattle.dcv_automaton_lines.proofs.words.dash.Goals.{then-text-eq1-via-then-text-eq1, then-text-eq1-via-else-text-eq1+then-text-end}

pub returns-then-text-eq1-clause-fault : goal.returns-then-text-eq1-clause-fault
returns-then-text-eq1-clause-fault c =
    dash_stuck c.args.text.now _ c.args.end c.requires.end (first_is 45 c.args.text.now c.requires.some c.requires.is)
    (front_at (λ b. b ≡ c.args.end → ⊥) c.args.text.now 1 (λ within same. elim c.then-text-eq1.branch [
      | then-text-eq1-via-then-text-eq1 w ↦ let one = w.if-text-eq1.true in omega arith
      | then-text-eq1-via-else-text-eq1+then-text-end w ↦ w.if-text-end.true same
    ]))
