use Rattle.std.proofs.Common.{refl}
use Rattle.std.specs.Prelude.{codes}
use Rattle.dcv_automaton_lines.proofs.Pieces.{stuck_behind, stuck_in_first, stuck_in_second}
use Rattle.dcv_automaton_lines.proofs.LineSets.{within, some_last_letter, number_of, exactly, not_both, away_from_empty, away_from_start, away_behind_empty, away_from_after}
use Rattle.dcv_automaton_lines.proofs.WordSets.{passes, stuck_exactly, number_words, exact_words}
use Rattle.dcv_automaton_lines.proofs.bodies.access_word.Goals as goal

pub returns-in_err-rest-clause-fault : goal.returns-in_err-rest-clause-fault
returns-in_err-rest-clause-fault c =
    passes _ _ _ c.in_err-rest.field-0.0 c.from_residual.ensures.1
    (stuck_in_first (stuck_exactly (codes "empty\n") (codes "empty") 10 refl c.in_err-rest.ensures.fault) (away_behind_empty c.args.text.now (c.begins_with.ensures.0 c.if-begins_with.true)))

pub returns-in_err-spelled-clause-fault : goal.returns-in_err-spelled-clause-fault
returns-in_err-spelled-clause-fault c =
    passes _ _ _ c.in_err-spelled.field-0.0 c.from_residual-in_err-spelled.ensures.1
    (stuck_in_second (stuck_in_first (within some_last_letter (stuck_exactly (codes "start ") (codes "start") 32 refl c.in_err-spelled.ensures.fault)) (away_from_after c.args.text.now (c.begins_with-2.ensures.0 c.if-begins_with-2.true))) (away_from_empty c.args.text.now (λ is. not_both c.if-begins_with.false (c.begins_with.ensures.1 is))))

pub returns-in_err-only-clause-fault : goal.returns-in_err-only-clause-fault
returns-in_err-only-clause-fault c =
    passes _ _ _ c.in_err-only.field-0.0 c.from_residual-in_err-only.ensures.1
    (stuck_in_second (stuck_in_first (stuck_behind (exact_words (codes "start") refl) 32 refl (exactly (codes "start")) c.in_ok-spelled.ensures.ok c.in_err-only.ensures.fault) (away_from_after c.args.text.now (c.begins_with-2.ensures.0 c.if-begins_with-2.true))) (away_from_empty c.args.text.now (λ is. not_both c.if-begins_with.false (c.begins_with.ensures.1 is))))

pub returns-in_err-state-clause-fault : goal.returns-in_err-state-clause-fault
returns-in_err-state-clause-fault c =
    passes _ _ _ c.in_err-state.field-0.0 c.from_residual-in_err-state.ensures.1
    (stuck_in_second (stuck_in_second (within some_last_letter c.in_err-state.ensures.fault) (away_from_start c.args.text.now (λ is. not_both c.if-begins_with-2.false (c.begins_with-2.ensures.1 is)))) (away_from_empty c.args.text.now (λ is. not_both c.if-begins_with.false (c.begins_with.ensures.1 is))))

pub returns-in_err-last-clause-fault : goal.returns-in_err-last-clause-fault
returns-in_err-last-clause-fault c =
    passes _ _ _ c.in_err-last.field-0.0 c.from_residual-in_err-last.ensures.1
    (stuck_in_second (stuck_in_second (stuck_behind number_words 32 refl (number_of _ c.in_ok-state.ensures.small) c.in_ok-state.ensures.spelled c.in_err-last.ensures.fault) (away_from_start c.args.text.now (λ is. not_both c.if-begins_with-2.false (c.begins_with-2.ensures.1 is)))) (away_from_empty c.args.text.now (λ is. not_both c.if-begins_with.false (c.begins_with.ensures.1 is))))
