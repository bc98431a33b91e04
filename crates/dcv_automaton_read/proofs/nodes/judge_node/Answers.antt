use Rattle.std.proofs.Common.{◌≡◌, ℕ, List, length, ap, ◌∙◌, sym, subst, arith}
use Rattle.std.specs.Prelude.{nat_eq, nat_lt, not, ◌&&◌}
use Rattle.std.specs.Borrow.{Bor}
use Rattle.std.proofs.lemmas.List.{length-map}
use Rattle.std.proofs.lemmas.Result.{on_ok_weaker}
use Rattle.dcv_automaton_text.specs.Rules.{slot_of, is_same_target}
use Rattle.dcv_automaton_lines.specs.Seen.{file_of, node_line_of}
use Rattle.dcv_automaton_read.specs.declared.nodes.Node.{Node}
use Rattle.dcv_automaton_read.specs.Seen.{texts_of, node_of, child_kept, IsAdded}
use Rattle.dcv_automaton_read.proofs.NodeWords.{node_judged, next_nodes}
use Rattle.dcv_automaton_text.proofs.InWords.{listed_slot}
use Rattle.dcv_automaton_read.proofs.nodes.judge_node.Goals as goal
use Rattle.dcv_automaton_read.proofs.nodes.judge_node.Goals.{After-judge}

slot_is : (c : After-judge) → c.slot_of-slot.result ≡ slot_of (file_of c.args.lines.now).names c.args.line.now.name.now
slot_is c = c.slot_of-slot.ensures.slot ∙ ap (λ (names : List (Bor (List ℕ))). slot_of (texts_of names) c.args.line.now.name.now) c.deref.ensures.value

count_is : (c : After-judge) → c.len.result ≡ length (file_of c.args.lines.now).names
count_is c = omega (arith, c.len.ensures, length-map c.args.lines.now.names.items (λ (name : Bor (List ℕ)). name.now))

added_is : (c : After-judge) → IsAdded c.args.nodes.now.keys (node_of (file_of c.args.lines.now).names (node_line_of c.args.line.now)) c.in_ok-begins.begins c.add_node.new.nodes.keys
added_is c =
    let same : record { slot = c.slot_of-slot.result; hi = c.args.line.now.hi; lo = c.args.line.now.lo } ≡ node_of (file_of c.args.lines.now).names (node_line_of c.args.line.now) =
    λ i. record { slot = slot_is c i; hi = c.args.line.now.hi; lo = c.args.line.now.lo } in
    subst (λ (node : Node). IsAdded c.args.nodes.now.keys node c.in_ok-begins.begins c.add_node.new.nodes.keys) same c.in_ok-begins.ensures

pub returns-clause-judged : goal.returns-clause-judged
returns-clause-judged c =
    let file = file_of c.args.lines.now in
    let line = node_line_of c.args.line.now in
    let number = c.args.line.now.number in
    let slot = slot_is c in
    let count = count_is c in
    node_judged file line c.args.nodes.now.keys c.requires.nodes c.requires.there c.args.first
    c.in_ok-begins.begins (nat_eq number c.len-place.result) (nat_lt c.slot_of-slot.result c.len.result) c.keeps_child-keeps_hi.result c.keeps_other-keeps_lo.result c.judge.result c.add_node.new.nodes.keys
    (added_is c) (ap (nat_eq number) c.len-place.ensures.len) (λ i. nat_lt (slot i) (count i))
    (c.keeps_child-keeps_hi.ensures ∙ (λ i. child_kept file.states (c.as_slice.ensures.keys i) (slot i) line.hi))
    (c.keeps_other-keeps_lo.ensures
    ∙ (λ i. child_kept file.states (c.as_slice-2.ensures.keys i) (slot i) line.lo && not (is_same_target line.hi line.lo)))
    c.judge.ensures.judged

pub returns-clause-nodes : goal.returns-clause-nodes
returns-clause-nodes c =
    let file = file_of c.args.lines.now in
    let line = node_line_of c.args.line.now in
    let slot = slot_is c in
    let count = count_is c in
    on_ok_weaker c.judge.result (λ kept. next_nodes file line c.args.nodes.now.keys c.requires.nodes c.requires.there
    (listed_slot file.names line.name ∙ (λ i. nat_lt (sym slot i) (sym count i)) ∙ kept.1.1.0) c.add_node.new.nodes.keys ((added_is c).added kept.0)) c.judge.ensures.kept
