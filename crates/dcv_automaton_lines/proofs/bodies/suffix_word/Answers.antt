use Rattle.std.proofs.Common.{refl}
use Rattle.std.specs.Prelude.{codes}
use Rattle.dcv_automaton_lines.proofs.Pieces.{stuck_behind, stuck_in_first, stuck_in_second}
use Rattle.dcv_automaton_lines.proofs.LineSets.{within, some_last_number, letter_from, not_both, away_from_empty, away_from_then}
use Rattle.dcv_automaton_lines.proofs.WordSets.{passes, stuck_exactly, letter_words}
use Rattle.dcv_automaton_lines.proofs.bodies.suffix_word.Goals as goal

pub returns-in_err-rest-clause-fault : goal.returns-in_err-rest-clause-fault
returns-in_err-rest-clause-fault c =
    passes _ _ _ c.in_err-rest.field-0.0 c.from_residual.ensures.1
    (stuck_in_first (stuck_exactly (codes "empty\n") (codes "empty") 10 refl c.in_err-rest.ensures.fault) (away_from_then c.args.text.now (c.begins_with.ensures.0 c.if-begins_with.true)))

pub returns-in_err-first-clause-fault : goal.returns-in_err-first-clause-fault
returns-in_err-first-clause-fault c =
    passes _ _ _ c.in_err-first.field-0.0 c.from_residual-in_err-first.ensures.1
    (stuck_in_second (within some_last_number c.in_err-first.ensures.fault) (away_from_empty c.args.text.now (λ is. not_both c.if-begins_with.false (c.begins_with.ensures.1 is))))

pub returns-in_err-suffix-clause-fault : goal.returns-in_err-suffix-clause-fault
returns-in_err-suffix-clause-fault c =
    passes _ _ _ c.in_err-suffix.field-0.0 c.from_residual-in_err-suffix.ensures.1
    (stuck_in_second (stuck_behind letter_words 32 refl (letter_from _ _ c.in_ok-first.ensures.form) c.in_ok-first.ensures.spelled c.in_err-suffix.ensures.fault) (away_from_empty c.args.text.now (λ is. not_both c.if-begins_with.false (c.begins_with.ensures.1 is))))
