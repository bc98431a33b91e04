use Rattle.std.proofs.Common.{sym, subst}
use Rattle.dcv_automaton_lines.specs.Pieces.{IsStuckIn}
use Rattle.dcv_automaton_lines.specs.Parts.{BodyOf}
use Rattle.dcv_automaton_lines.specs.declared.sections.Kind.{Kind}
use Rattle.dcv_automaton_lines.proofs.WordSets.{passes}
use Rattle.dcv_automaton_lines.proofs.KindSets.{stuck_in_keyword, stuck_in_body}
use Rattle.dcv_automaton_lines.proofs.sections.read_line.Goals as goal

pub returns-in_err-kind-clause-fault : goal.returns-in_err-kind-clause-fault
returns-in_err-kind-clause-fault c =
    passes _ _ _ c.in_err-kind.field-0.0 c.from_residual.ensures.1
    (stuck_in_keyword c.args.version c.args.first c.in_err-kind.ensures.fault)

pub returns-in_err-node-in-Node-clause-fault : goal.returns-in_err-node-in-Node-clause-fault
returns-in_err-node-in-Node-clause-fault c =
    passes _ _ _ c.in_err-node-in-Node.field-0.0 c.from_residual-in_err-node-in-Node.ensures.1
    (stuck_in_body c.args.version c.args.first c.in_ok-kind.kind c.in_ok-kind.ensures.later c.in_ok-kind.ensures.spelled
    (subst (λ (k : Kind). IsStuckIn (BodyOf k) c.in_ok-kind.body.now c.in_err-node-in-Node.field-0.0.left.now) (sym c.in-Node.is) c.in_err-node-in-Node.ensures.fault))

pub returns-in_err-state-in-State-clause-fault : goal.returns-in_err-state-in-State-clause-fault
returns-in_err-state-in-State-clause-fault c =
    passes _ _ _ c.in_err-state-in-State.field-0.0 c.from_residual-in_err-state-in-State.ensures.1
    (stuck_in_body c.args.version c.args.first c.in_ok-kind.kind c.in_ok-kind.ensures.later c.in_ok-kind.ensures.spelled
    (subst (λ (k : Kind). IsStuckIn (BodyOf k) c.in_ok-kind.body.now c.in_err-state-in-State.field-0.0.left.now) (sym c.in-State.is) c.in_err-state-in-State.ensures.fault))

pub returns-in_err-access-in-Access-clause-fault : goal.returns-in_err-access-in-Access-clause-fault
returns-in_err-access-in-Access-clause-fault c =
    passes _ _ _ c.in_err-access-in-Access.field-0.0 c.from_residual-in_err-access-in-Access.ensures.1
    (stuck_in_body c.args.version c.args.first c.in_ok-kind.kind c.in_ok-kind.ensures.later c.in_ok-kind.ensures.spelled
    (subst (λ (k : Kind). IsStuckIn (BodyOf k) c.in_ok-kind.body.now c.in_err-access-in-Access.field-0.0.left.now) (sym c.in-Access.is) c.in_err-access-in-Access.ensures.fault))

pub returns-in_err-suffix-in-Suffix-clause-fault : goal.returns-in_err-suffix-in-Suffix-clause-fault
returns-in_err-suffix-in-Suffix-clause-fault c =
    passes _ _ _ c.in_err-suffix-in-Suffix.field-0.0 c.from_residual-in_err-suffix-in-Suffix.ensures.1
    (stuck_in_body c.args.version c.args.first c.in_ok-kind.kind c.in_ok-kind.ensures.later c.in_ok-kind.ensures.spelled
    (subst (λ (k : Kind). IsStuckIn (BodyOf k) c.in_ok-kind.body.now c.in_err-suffix-in-Suffix.field-0.0.left.now) (sym c.in-Suffix.is) c.in_err-suffix-in-Suffix.ensures.fault))
