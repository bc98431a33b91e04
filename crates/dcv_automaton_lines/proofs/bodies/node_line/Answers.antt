use Rattle.std.proofs.Common.{refl}
use Rattle.std.specs.Prelude.{codes}
use Rattle.dcv_automaton_lines.proofs.Pieces.{stuck_behind}
use Rattle.dcv_automaton_lines.proofs.LineSets.{within, some_name, some_mark, some_hi, some_colon, some_lo, node_of, target_of, name_of, exactly}
use Rattle.dcv_automaton_lines.proofs.WordSets.{passes, stuck_exactly, node_words, target_words, name_words, exact_words}
use Rattle.dcv_automaton_lines.proofs.bodies.node_line.Goals as goal

pub returns-in_err-number-clause-fault : goal.returns-in_err-number-clause-fault
returns-in_err-number-clause-fault c =
    passes _ _ _ c.in_err-number.field-0.0 c.from_residual.ensures.1
    (within some_name c.in_err-number.ensures.fault)

pub returns-in_err-name-clause-fault : goal.returns-in_err-name-clause-fault
returns-in_err-name-clause-fault c =
    passes _ _ _ c.in_err-name.field-0.0 c.from_residual-in_err-name.ensures.1
    (stuck_behind node_words 32 refl (node_of _ c.in_ok-number.ensures.small) c.in_ok-number.ensures.spelled (within some_mark c.in_err-name.ensures.fault))

pub returns-in_err-high-clause-fault : goal.returns-in_err-high-clause-fault
returns-in_err-high-clause-fault c =
    passes _ _ _ c.in_err-high.field-0.0 c.from_residual-in_err-high.ensures.1
    (stuck_behind node_words 32 refl (node_of _ c.in_ok-number.ensures.small) c.in_ok-number.ensures.spelled (stuck_behind name_words 32 refl (name_of _ c.in_ok-name.ensures.form) c.in_ok-name.ensures.spelled (within some_hi (stuck_exactly (codes "? ") (codes "?") 32 refl c.in_err-high.ensures.fault))))

pub returns-in_err-hi-clause-fault : goal.returns-in_err-hi-clause-fault
returns-in_err-hi-clause-fault c =
    passes _ _ _ c.in_err-hi.field-0.0 c.from_residual-in_err-hi.ensures.1
    (stuck_behind node_words 32 refl (node_of _ c.in_ok-number.ensures.small) c.in_ok-number.ensures.spelled (stuck_behind name_words 32 refl (name_of _ c.in_ok-name.ensures.form) c.in_ok-name.ensures.spelled (stuck_behind (exact_words (codes "?") refl) 32 refl (exactly (codes "?")) c.in_ok-high.ensures.ok (within some_colon c.in_err-hi.ensures.fault))))

pub returns-in_err-low-clause-fault : goal.returns-in_err-low-clause-fault
returns-in_err-low-clause-fault c =
    passes _ _ _ c.in_err-low.field-0.0 c.from_residual-in_err-low.ensures.1
    (stuck_behind node_words 32 refl (node_of _ c.in_ok-number.ensures.small) c.in_ok-number.ensures.spelled (stuck_behind name_words 32 refl (name_of _ c.in_ok-name.ensures.form) c.in_ok-name.ensures.spelled (stuck_behind (exact_words (codes "?") refl) 32 refl (exactly (codes "?")) c.in_ok-high.ensures.ok (stuck_behind target_words 32 refl (target_of _ c.in_ok-hi.ensures.small) c.in_ok-hi.ensures.spelled (within some_lo (stuck_exactly (codes ": ") (codes ":") 32 refl c.in_err-low.ensures.fault))))))

pub returns-in_err-lo-clause-fault : goal.returns-in_err-lo-clause-fault
returns-in_err-lo-clause-fault c =
    passes _ _ _ c.in_err-lo.field-0.0 c.from_residual-in_err-lo.ensures.1
    (stuck_behind node_words 32 refl (node_of _ c.in_ok-number.ensures.small) c.in_ok-number.ensures.spelled (stuck_behind name_words 32 refl (name_of _ c.in_ok-name.ensures.form) c.in_ok-name.ensures.spelled (stuck_behind (exact_words (codes "?") refl) 32 refl (exactly (codes "?")) c.in_ok-high.ensures.ok (stuck_behind target_words 32 refl (target_of _ c.in_ok-hi.ensures.small) c.in_ok-hi.ensures.spelled (stuck_behind (exact_words (codes ":") refl) 32 refl (exactly (codes ":")) c.in_ok-low.ensures.ok c.in_err-lo.ensures.fault)))))
