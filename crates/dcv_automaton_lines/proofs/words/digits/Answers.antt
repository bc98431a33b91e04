use Rattle.std.proofs.Common.{◌≡◌, inl, inr, length, take, sym, ap, ◌∙◌, arith, slice_index_or}
use Rattle.std.proofs.lemmas.List.{length-take-le}
use Rattle.dcv_automaton_lines.proofs.WordSets.{letter_stuck, letter_is, front_at, cut_at}
use Rattle.dcv_automaton_lines.proofs.words.digits.Goals as goal
use Rattle.dcv_automaton_lines.proofs.words.digits.Goals.{then-size-eq0-via-then-size-eq0, then-size-eq0-via-else-size-eq0+then-size-text, then-size-eq0-via-else-size-eq0+else-size-text+then-text-size}

pub returns-then-size-eq0-clause-fault : goal.returns-then-size-eq0-clause-fault
returns-then-size-eq0-clause-fault c =
    let size : length (take c.binary_length-size.result c.args.text.now) ≡ c.binary_length-size.result = length-take-le c.binary_length-size.result c.args.text.now c.binary_length-size.ensures.within in
    letter_stuck c.args.text.now (take c.binary_length-size.result c.args.text.now) _ c.args.end c.requires.end (cut_at c.args.text.now c.binary_length-size.result)
    c.binary_length-size.ensures.all
    (front_at _ c.args.text.now c.binary_length-size.result (λ within. (
      c.binary_length-size.ensures.ends within,
      elim c.then-size-eq0.branch [
        | then-size-eq0-via-then-size-eq0 w ↦ inl (
          ap (λ n. take n c.args.text.now) w.if-size-eq0.true,
          λ same. c.requires.other (omega (arith, w.if-size-eq0.true)) (ap (λ n. slice_index_or c.args.text.now n 0) (sym w.if-size-eq0.true) ∙ same),
        )
        | then-size-eq0-via-else-size-eq0+then-size-text w ↦ let end = w.if-size-text.true in absurd (omega arith)
        | then-size-eq0-via-else-size-eq0+else-size-text+then-text-size w ↦ inr (let some = w.if-size-eq0.false in omega arith, w.if-text-size.true)
      ],
    )))

pub returns-clause-form : goal.returns-clause-form
returns-clause-form c =
    let size : length (take c.binary_length-size.result c.args.text.now) ≡ c.binary_length-size.result = length-take-le c.binary_length-size.result c.args.text.now c.binary_length-size.ensures.within in
    let some = c.if-size-eq0.false in
    sym (letter_is (take c.binary_length-size.result c.args.text.now) c.binary_length-size.ensures.all (omega arith))
