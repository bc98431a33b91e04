use Rattle.std.proofs.Common.{arith}
use Rattle.dcv_automaton_lines.proofs.WordSets.{literal_stuck}
use Rattle.dcv_automaton_lines.proofs.words.literal.Goals as goal
use Rattle.dcv_automaton_lines.proofs.words.literal.Goals.{then-place-text-via-then-place-text, then-place-text-via-else-place-text+then-text-place}

pub returns-then-place-text-clause-fault : goal.returns-then-place-text-clause-fault
returns-then-place-text-clause-fault c =
    literal_stuck c.args.word.now c.args.text.now c.loop-place.place c.loop-place-test.true c.loop-place.invariant.same
    (λ within same. elim c.then-place-text.branch [
      | then-place-text-via-then-place-text w ↦ let end = w.if-place-text.true in omega arith
      | then-place-text-via-else-place-text+then-text-place w ↦ w.if-text-place.true same
    ])
