use Rattle.std.proofs.Common.{◌≡◌, ℕ, List, ◌++◌, map, subst}
use Rattle.std.specs.Prelude.{nat_lt}
use Rattle.dcv_automaton_lines.specs.Stops.{IsStuckBy}
use Rattle.dcv_tables_read.specs.Parts.{nodes_text, NodesSet, states_text, StatesSet, StepSet}
use Rattle.dcv_tables_read.specs.Seen.{seen_node, seen_state}
use Rattle.dcv_tables_read.specs.Values.{counts_of}
use Rattle.dcv_tables_read.proofs.Chain.{stops, stop_passes}
use Rattle.dcv_tables_read.proofs.WholeTexts.{in_counts, in_nodes, in_states, in_step, front_plain, front_spelled}
use Rattle.dcv_tables_read.proofs.form.front.Goals as goal

pub returns-in_err-counts-clause-fault : goal.returns-in_err-counts-clause-fault
returns-in_err-counts-clause-fault c = stops _ _ _ c.in_err-counts.field-0.0 c.from_residual.ensures.1 (in_counts c.in_err-counts.ensures.fault)

pub returns-in_err-nodes-clause-fault : goal.returns-in_err-nodes-clause-fault
returns-in_err-nodes-clause-fault c =
    let counts = c.in_ok-counts.counts in
    stop_passes _ _ _ _ _ c.in_err-nodes.field-0.0 c.from_residual-in_err-nodes.ensures.1
    (λ left stuck. in_nodes (counts_of counts) c.in_ok-counts.ensures.small _ _ c.in_ok-counts.ensures.spelled stuck)
    (subst (λ (integer : List ℕ). IsStuckBy (NodesSet integer counts.nodes) c.in_ok-counts.arrays.now c.in_err-nodes.field-0.0) c.integer-integer.ensures.is c.in_err-nodes.ensures.fault)

pub returns-in_err-states-clause-fault : goal.returns-in_err-states-clause-fault
returns-in_err-states-clause-fault c =
    let counts = c.in_ok-counts.counts in
    let nodes = map seen_node c.in_ok-nodes.nodes.items in
    stop_passes _ _ _ _ _ c.in_err-states.field-0.0 c.from_residual-in_err-states.ensures.1
    (λ left stuck. in_states (counts_of counts) c.in_ok-counts.ensures.small _ _ c.in_ok-counts.ensures.spelled nodes c.in_ok-nodes.ensures.small c.in_ok-nodes.behind.now
    (subst (λ (integer : List ℕ). c.in_ok-counts.arrays.now ≡ nodes_text integer nodes ++ c.in_ok-nodes.behind.now) c.integer-integer.ensures.is c.in_ok-nodes.ensures.spelled) stuck)
    (subst (λ (integer : List ℕ). IsStuckBy (StatesSet integer counts.states) c.in_ok-nodes.behind.now c.in_err-states.field-0.0) c.integer-integer.ensures.is c.in_err-states.ensures.fault)

pub returns-in_err-names-clause-fault : goal.returns-in_err-names-clause-fault
returns-in_err-names-clause-fault c =
    let counts = c.in_ok-counts.counts in
    let nodes = map seen_node c.in_ok-nodes.nodes.items in
    let states = map seen_state c.in_ok-states.states.items in
    stop_passes _ _ _ _ _ c.in_err-names.field-0.0 c.from_residual-in_err-names.ensures.1
    (λ left stuck. in_step (counts_of counts) c.in_ok-counts.ensures.small _ _ c.in_ok-counts.ensures.spelled nodes c.in_ok-nodes.ensures.small c.in_ok-nodes.behind.now
    (subst (λ (integer : List ℕ). c.in_ok-counts.arrays.now ≡ nodes_text integer nodes ++ c.in_ok-nodes.behind.now) c.integer-integer.ensures.is c.in_ok-nodes.ensures.spelled)
    states c.in_ok-states.ensures.small c.in_ok-states.functions.now
    (subst (λ (integer : List ℕ). c.in_ok-nodes.behind.now ≡ states_text integer states ++ c.in_ok-states.functions.now) c.integer-integer.ensures.is c.in_ok-states.ensures.spelled) stuck)
    (subst (λ (integer : List ℕ). IsStuckBy (StepSet integer (nat_lt 0 counts.nodes) counts.variables) c.in_ok-states.functions.now c.in_err-names.field-0.0) c.integer-integer.ensures.is c.in_err-names.ensures.fault)

pub returns-clause-plain : goal.returns-clause-plain
returns-clause-plain c =
    front_plain (counts_of c.in_ok-counts.counts) c.in_ok-names.names.items _ _
    (record { counts_are = c.in_ok-counts.ensures.small; names_are = c.in_ok-names.ensures.words; nodes_are = c.in_ok-nodes.ensures.small; states_are = c.in_ok-states.ensures.small })

pub returns-clause-spelled : goal.returns-clause-spelled
returns-clause-spelled c =
    front_spelled (counts_of c.in_ok-counts.counts) c.in_ok-names.names.items _ _
    (record { counts_are = c.in_ok-counts.ensures.small; names_are = c.in_ok-names.ensures.words; nodes_are = c.in_ok-nodes.ensures.small; states_are = c.in_ok-states.ensures.small })
    _ _ _ _ _ _ c.integer-integer.ensures.is c.in_ok-counts.ensures.spelled c.in_ok-nodes.ensures.spelled c.in_ok-states.ensures.spelled c.in_ok-names.ensures.spelled
