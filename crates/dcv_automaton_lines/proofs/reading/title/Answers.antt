use Rattle.std.proofs.Common.{List, ℕ, subst, arith}
use Rattle.dcv_automaton_lines.specs.Pieces.{Exactly, IsStuckIn}
use Rattle.dcv_automaton_lines.proofs.WholeText.{stuck_in_first_title, stuck_in_second_title}
use Rattle.dcv_automaton_lines.proofs.reading.title.Goals as goal

pub returns-in-Err-literal-clause-fault : goal.returns-in-Err-literal-clause-fault
returns-in-Err-literal-clause-fault c =
    stuck_in_second_title (subst (λ (word : List ℕ). IsStuckIn (Exactly word) c.args.text.now c.in-Err.stuck.left.now) c.title.ensures c.in-Err.ensures.fault)
    (subst (λ (word : List ℕ). IsStuckIn (Exactly word) c.args.text.now c.in-Err-literal.other.left.now) c.title-2.ensures c.in-Err-literal.ensures.fault)
    (let less = c.if-other-stuck.true in omega arith)

pub returns-in-Err-2-clause-fault : goal.returns-in-Err-2-clause-fault
returns-in-Err-2-clause-fault c =
    stuck_in_first_title (subst (λ (word : List ℕ). IsStuckIn (Exactly word) c.args.text.now c.in-Err.stuck.left.now) c.title.ensures c.in-Err.ensures.fault)
    (subst (λ (word : List ℕ). IsStuckIn (Exactly word) c.args.text.now c.in-Err-literal.other.left.now) c.title-2.ensures c.in-Err-literal.ensures.fault)
    c.if-other-stuck.false
