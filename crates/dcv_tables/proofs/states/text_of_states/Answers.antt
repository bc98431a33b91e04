use Rattle.std.proofs.Common.{codes, List, ℕ, ◌++◌, ap, ◌∙◌}
use Rattle.std.proofs.lemmas.List.{append_assoc, take_all}
use Rattle.std.specs.List.{join_by}
use Rattle.std.specs.String.{string_bytes}
use Rattle.dcv_tables.specs.Spelled.{state_text}
use Rattle.dcv_tables.specs.Tables.{table_state}
use Rattle.dcv_tables.specs.declared.states.State.{State}
use Rattle.dcv_tables.proofs.SpelledFacts.{text_goes_on, text_of_made}
use Rattle.dcv_tables.proofs.states.text_of_states.Goals as goal

pub loop-number-preserved : goal.loop-number-preserved
loop-number-preserved c =
    let own = state_text (table_state c.index-states-number.result) in
    text_goes_on (λ (state : State). state_text (table_state state)) (codes "; ") c.args.states.now c.loop-number.number c.index-states-number.result _ _ _
    c.loop-number-test.true c.index-states-number.is c.loop-number.invariant c.before-separator.ensures
    (c.in_ok-push_state.ensures ∙ ap (λ (text : List ℕ). text ++ own) c.in_ok-write.ensures.bytes
    ∙ append_assoc (string_bytes c.loop-number.text) c.before-separator.result.now own)

pub returns : goal.returns
returns c =
    c.loop-number.invariant
    ∙ ap (join_by (λ (state : State). state_text (table_state state)) (codes "; ")) (take_all c.loop-number.number c.args.states.now c.loop-number-test.false)
    ∙ text_of_made state_text table_state (codes "; ") c.args.states.now
