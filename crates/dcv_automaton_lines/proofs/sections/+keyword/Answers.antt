use Rattle.std.proofs.Common.{List, ℕ, subst, arith}
use Rattle.dcv_automaton_lines.specs.Pieces.{Exactly, IsStuckIn}
use Rattle.dcv_automaton_lines.proofs.KindSets.{stuck_in_this, stuck_in_next}
use Rattle.dcv_automaton_lines.proofs.sections.+keyword.Goals as goal

pub returns-in-Err-keyword-clause-fault : goal.returns-in-Err-keyword-clause-fault
returns-in-Err-keyword-clause-fault t c =
    stuck_in_next c.args.version c.args.first c.in-Some.next c.in-Some.ensures.some
    (subst (λ (word : List ℕ). IsStuckIn (Exactly word) c.args.text.now c.in-Err.stuck.left.now) c.word.ensures c.in-Err.ensures.fault)
    c.in-Err-keyword.ensures.fault (let less = c.if-other-stuck.true in omega arith)

pub returns-in-Err-2-clause-fault : goal.returns-in-Err-2-clause-fault
returns-in-Err-2-clause-fault t c =
    stuck_in_this c.args.version c.args.first c.in-Some.next c.in-Some.ensures.some
    (subst (λ (word : List ℕ). IsStuckIn (Exactly word) c.args.text.now c.in-Err.stuck.left.now) c.word.ensures c.in-Err.ensures.fault)
    c.in-Err-keyword.ensures.fault c.if-other-stuck.false
