use Rattle.std.proofs.Common.{inl, inr, take, ap, arith}
use Rattle.dcv_automaton_lines.proofs.WordSets.{front_at, cut_at}
use Rattle.dcv_automaton_lines.proofs.LineSets.{not_both}
use Rattle.dcv_automaton_lines.proofs.NameSets.{names_stuck}
use Rattle.dcv_automaton_lines.proofs.names.next_name.Goals as goal
use Rattle.dcv_automaton_lines.proofs.names.next_name.Goals.{then-size-eq0-via-then-size-eq0, then-size-eq0-via-else-size-eq0+then-size-text, then-size-eq0-via-else-size-eq0+else-size-text+then-not-is_end}

pub returns-then-size-eq0-clause-fault : goal.returns-then-size-eq0-clause-fault
returns-then-size-eq0-clause-fault c =
    names_stuck c.args.text.now (take c.visible_length-size.result c.args.text.now) _ (cut_at c.args.text.now c.visible_length-size.result) c.visible_length-size.ensures.all
    (front_at _ c.args.text.now c.visible_length-size.result (λ within. (
      c.visible_length-size.ensures.ends within,
      elim c.then-size-eq0.branch [
        | then-size-eq0-via-then-size-eq0 w ↦ inl (ap (λ n. take n c.args.text.now) w.if-size-eq0.true)
        | then-size-eq0-via-else-size-eq0+then-size-text w ↦ let end = w.if-size-text.true in absurd (omega arith)
        | then-size-eq0-via-else-size-eq0+else-size-text+then-not-is_end w ↦ inr (λ is. not_both w.if-not-is_end.true (w.is_end.ensures.1 is))
      ],
    )))
