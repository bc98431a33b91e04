use Rattle.std.proofs.Common.{refl}
use Rattle.std.specs.Prelude.{codes}
use Rattle.dcv_automaton_lines.proofs.Pieces.{stuck_behind}
use Rattle.dcv_automaton_lines.proofs.LineSets.{within, some_last_number, some_step_nodes, some_step_states_number, some_step_states, some_step_place, some_step_at, number_of, exactly}
use Rattle.dcv_automaton_lines.proofs.WordSets.{passes, stuck_exactly, number_words, exact_words}
use Rattle.dcv_automaton_lines.proofs.steps.step_line.Goals as goal

pub returns-in_err-place-clause-fault : goal.returns-in_err-place-clause-fault
returns-in_err-place-clause-fault c =
    passes _ _ _ c.in_err-place.field-0.0 c.from_residual.ensures.1
    (within some_step_at c.in_err-place.ensures.fault)

pub returns-in_err-starting-clause-fault : goal.returns-in_err-starting-clause-fault
returns-in_err-starting-clause-fault c =
    passes _ _ _ c.in_err-starting.field-0.0 c.from_residual-in_err-starting.ensures.1
    (stuck_behind number_words 32 refl (number_of _ c.in_ok-place.ensures.small) c.in_ok-place.ensures.spelled (within some_step_place (stuck_exactly (codes "at ") (codes "at") 32 refl c.in_err-starting.ensures.fault)))

pub returns-in_err-at-clause-fault : goal.returns-in_err-at-clause-fault
returns-in_err-at-clause-fault c =
    passes _ _ _ c.in_err-at.field-0.0 c.from_residual-in_err-at.ensures.1
    (stuck_behind number_words 32 refl (number_of _ c.in_ok-place.ensures.small) c.in_ok-place.ensures.spelled (stuck_behind (exact_words (codes "at") refl) 32 refl (exactly (codes "at")) c.in_ok-starting.ensures.ok (within some_step_states c.in_err-at.ensures.fault)))

pub returns-in_err-sizing-clause-fault : goal.returns-in_err-sizing-clause-fault
returns-in_err-sizing-clause-fault c =
    passes _ _ _ c.in_err-sizing.field-0.0 c.from_residual-in_err-sizing.ensures.1
    (stuck_behind number_words 32 refl (number_of _ c.in_ok-place.ensures.small) c.in_ok-place.ensures.spelled (stuck_behind (exact_words (codes "at") refl) 32 refl (exactly (codes "at")) c.in_ok-starting.ensures.ok (stuck_behind number_words 32 refl (number_of _ c.in_ok-at.ensures.small) c.in_ok-at.ensures.spelled (within some_step_states_number (stuck_exactly (codes "states ") (codes "states") 32 refl c.in_err-sizing.ensures.fault)))))

pub returns-in_err-states-clause-fault : goal.returns-in_err-states-clause-fault
returns-in_err-states-clause-fault c =
    passes _ _ _ c.in_err-states.field-0.0 c.from_residual-in_err-states.ensures.1
    (stuck_behind number_words 32 refl (number_of _ c.in_ok-place.ensures.small) c.in_ok-place.ensures.spelled (stuck_behind (exact_words (codes "at") refl) 32 refl (exactly (codes "at")) c.in_ok-starting.ensures.ok (stuck_behind number_words 32 refl (number_of _ c.in_ok-at.ensures.small) c.in_ok-at.ensures.spelled (stuck_behind (exact_words (codes "states") refl) 32 refl (exactly (codes "states")) c.in_ok-sizing.ensures.ok (within some_step_nodes c.in_err-states.ensures.fault)))))

pub returns-in_err-sharing-clause-fault : goal.returns-in_err-sharing-clause-fault
returns-in_err-sharing-clause-fault c =
    passes _ _ _ c.in_err-sharing.field-0.0 c.from_residual-in_err-sharing.ensures.1
    (stuck_behind number_words 32 refl (number_of _ c.in_ok-place.ensures.small) c.in_ok-place.ensures.spelled (stuck_behind (exact_words (codes "at") refl) 32 refl (exactly (codes "at")) c.in_ok-starting.ensures.ok (stuck_behind number_words 32 refl (number_of _ c.in_ok-at.ensures.small) c.in_ok-at.ensures.spelled (stuck_behind (exact_words (codes "states") refl) 32 refl (exactly (codes "states")) c.in_ok-sizing.ensures.ok (stuck_behind number_words 32 refl (number_of _ c.in_ok-states.ensures.small) c.in_ok-states.ensures.spelled (within some_last_number (stuck_exactly (codes "nodes ") (codes "nodes") 32 refl c.in_err-sharing.ensures.fault)))))))

pub returns-in_err-nodes-clause-fault : goal.returns-in_err-nodes-clause-fault
returns-in_err-nodes-clause-fault c =
    passes _ _ _ c.in_err-nodes.field-0.0 c.from_residual-in_err-nodes.ensures.1
    (stuck_behind number_words 32 refl (number_of _ c.in_ok-place.ensures.small) c.in_ok-place.ensures.spelled (stuck_behind (exact_words (codes "at") refl) 32 refl (exactly (codes "at")) c.in_ok-starting.ensures.ok (stuck_behind number_words 32 refl (number_of _ c.in_ok-at.ensures.small) c.in_ok-at.ensures.spelled (stuck_behind (exact_words (codes "states") refl) 32 refl (exactly (codes "states")) c.in_ok-sizing.ensures.ok (stuck_behind number_words 32 refl (number_of _ c.in_ok-states.ensures.small) c.in_ok-states.ensures.spelled (stuck_behind (exact_words (codes "nodes") refl) 32 refl (exactly (codes "nodes")) c.in_ok-sharing.ensures.ok c.in_err-nodes.ensures.fault))))))
