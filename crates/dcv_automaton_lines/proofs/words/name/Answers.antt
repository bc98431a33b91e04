use Rattle.std.proofs.Common.{inl, inr, take, ap, arith}
use Rattle.dcv_automaton_lines.proofs.WordSets.{name_stuck, front_at, cut_at}
use Rattle.dcv_automaton_lines.proofs.words.name.Goals as goal
use Rattle.dcv_automaton_lines.proofs.words.name.Goals.{then-size-eq0-via-then-size-eq0, then-size-eq0-via-else-size-eq0+then-size-text, then-size-eq0-via-else-size-eq0+else-size-text+then-text-size}

pub returns-then-size-eq0-clause-fault : goal.returns-then-size-eq0-clause-fault
returns-then-size-eq0-clause-fault c =
    name_stuck c.args.text.now (take c.visible_length-size.result c.args.text.now) _ c.args.end c.requires (cut_at c.args.text.now c.visible_length-size.result)
    c.visible_length-size.ensures.all
    (front_at _ c.args.text.now c.visible_length-size.result (λ within. (
      c.visible_length-size.ensures.ends within,
      elim c.then-size-eq0.branch [
        | then-size-eq0-via-then-size-eq0 w ↦ inl (ap (λ n. take n c.args.text.now) w.if-size-eq0.true)
        | then-size-eq0-via-else-size-eq0+then-size-text w ↦ let end = w.if-size-text.true in absurd (omega arith)
        | then-size-eq0-via-else-size-eq0+else-size-text+then-text-size w ↦ inr w.if-text-size.true
      ],
    )))
