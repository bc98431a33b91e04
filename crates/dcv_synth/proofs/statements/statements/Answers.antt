use Rattle.std.proofs.Common.{◌≡◌, ℕ, ◌++◌, List, length, map, sym, ap, subst, ◌∙◌}
use Rattle.std.specs.List.{All}
use Rattle.dcv_language.specs.Limits.{number_bound}
use Rattle.dcv_dfa.specs.declared.node_lines.NodeLine.{NodeLine}
use Rattle.dcv_dfa.specs.NodeLines.{IsBelow}
use Rattle.dcv_automaton_file.specs.File.{Fits}
use Rattle.dcv_c.specs.Seen.{name_at, seen_statement}
use Rattle.dcv_c.specs.Observer.{next_name, node_name}
use Rattle.dcv_synth.specs.Units.{output_name, output_node_name, cleared, choices, all_state_choices, last_statement}
use Rattle.dcv_synth.specs.Placing.{StandAt}
use Rattle.dcv_synth.proofs.UnitMade.{in_turn}
use Rattle.dcv_synth.proofs.statements.statements.Goals as goal

pub returns : goal.returns
returns c = λ (all names : List (List ℕ)) has.
    let see = seen_statement all in
    let nexts = c.args.next.now.lines in
    let outputs = c.args.output.now.lines in
    let next_lines = c.lines.ensures in
    let output_lines = c.lines-2.ensures in
    let next_count : c.args.places.nexts ≡ length c.lines.result.now = sym c.requires.nexts ∙ ap length (sym next_lines) in
    let output_count : length outputs ≡ length c.lines-2.result.now = ap length (sym output_lines) in
    let next_stand : StandAt all c.next_nodes.result (length c.lines.result.now) node_name =
    subst (λ (at : ℕ × ℕ). StandAt all at.0 at.1 node_name) (λ i. (sym c.next_nodes.ensures i, next_count i)) has.next_nodes in
    let output_stand : StandAt all c.output_nodes.result (length c.lines-2.result.now) output_node_name =
    subst (λ (at : ℕ × ℕ). StandAt all at.0 at.1 output_node_name) (λ i. (sym c.output_nodes.ensures i, output_count i)) has.output_nodes in
    let next_fit : All (Fits (length names) (length c.lines.result.now)) c.lines.result.now =
    subst (λ (lines : List NodeLine). All (Fits (length names) (length lines)) lines) (sym next_lines)
    (subst (λ n. All (Fits n (length nexts)) nexts) (sym has.count) c.requires.next_fits.lines) in
    let output_fit : All (Fits (length names) (length c.lines-2.result.now)) c.lines-2.result.now =
    subst (λ (lines : List NodeLine). All (Fits (length names) (length lines)) lines) (sym output_lines)
    (subst (λ n. All (Fits n (length outputs)) outputs) (sym has.count) c.requires.output_fits.lines) in
    let third = c.in_ok-push_choices.ensures all names node_name has.inputs next_stand next_fit
    ∙ ap (λ lines. map see c.push-2.new.self.items ++ choices node_name names lines) next_lines in
    let fourth = c.in_ok-push_choices-2.ensures all names output_node_name has.inputs output_stand output_fit
    ∙ ap (λ lines. map see c.push_choices.new.statements.items ++ choices output_node_name names lines) output_lines in
    let next_rows : All (IsBelow number_bound c.args.places.nexts) c.rows.result.now =
    subst (All (IsBelow number_bound c.args.places.nexts)) (sym c.rows.ensures)
    (subst (λ n. All (IsBelow number_bound n) c.args.next.now.rows) c.requires.nexts c.requires.next_fits.rows) in
    let output_rows : All (IsBelow number_bound (length outputs)) c.rows-2.result.now = subst (All (IsBelow number_bound (length outputs))) (sym c.rows-2.ensures) c.requires.output_fits.rows in
    let fifth = c.in_ok-push_rows.ensures all names (length outputs) has next_rows output_rows
    ∙ (λ i. map see c.push_choices-2.new.statements.items ++ all_state_choices c.args.states.now (c.rows.ensures i) (c.rows-2.ensures i)) in
    in_turn see c.new-statements.result.items c.push.new.self.items c.push-2.new.self.items c.push_choices.new.statements.items
    c.push_choices-2.new.statements.items c.push_rows.new.statements.items c.push-3.new.self.items
    c.cleared.result c.cleared-2.result c.last.result (cleared next_name) (cleared output_name) last_statement
    (choices node_name names nexts) (choices output_node_name names outputs) (all_state_choices c.args.states.now c.args.next.now.rows c.args.output.now.rows)
    c.new-statements.ensures.items c.in_ok-push.ensures.items
    (c.cleared.ensures all ∙ ap cleared (ap (name_at all) c.next.ensures ∙ has.next)) c.in_ok-push-2.ensures.items
    (c.cleared-2.ensures all ∙ ap cleared (ap (name_at all) c.output.ensures ∙ has.output))
    third fourth fifth c.in_ok-push-3.ensures.items
    (c.last.ensures all names (length outputs) c.args.places c.next-2.ensures has)
