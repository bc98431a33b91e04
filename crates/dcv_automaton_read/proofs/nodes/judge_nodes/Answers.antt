use Rattle.std.proofs.Common.{◌≡◌, ℕ, ◌+◌, ◌<◌, List, [], length, map, slice_get, get_or, Some, Ok, Err, sym, ap, ◌∙◌, subst, arith}
use Rattle.std.specs.List.{zip}
use Rattle.std.proofs.lemmas.List.{get_or-map, length-map}
use Rattle.std.proofs.lemmas.Option.{slice_get-get_or}
use Rattle.dcv_automaton_lines.specs.declared.lines.NodeLine.{NodeLine}
use Rattle.dcv_language.specs.declared.child.Child.TheVariants.{State}
use Rattle.dcv_automaton_text.specs.File.{AutomatonFile}
use Rattle.dcv_automaton_text.specs.Rules.{keeps_node}
use Rattle.dcv_automaton_text.specs.Spelled.{node_words}
use Rattle.dcv_automaton_lines.specs.Seen.{file_of, node_line_of}
use Rattle.dcv_automaton_read.specs.declared.nodes.Node.{Node}
use Rattle.dcv_automaton_read.specs.Judged.{IsJudged, first_word}
use Rattle.dcv_automaton_read.specs.Parts.{judged_lines}
use Rattle.dcv_automaton_read.specs.Seen.{AreNodesOf}
use Rattle.dcv_automaton_read.proofs.Judging.{at_start, more_of, stop_of, all_of}
use Rattle.dcv_automaton_read.proofs.NodeWords.{nodes_count}
use Rattle.dcv_automaton_read.proofs.nodes.judge_nodes.Goals as goal

line_there : (items given : List NodeLine) (none : NodeLine) (index count : ℕ) → given ≡ items → index < length given → count ≡ index
    → slice_get (map node_line_of items) count ≡ Some (node_line_of (get_or given index none))
line_there items given none index count same below counted =
    let x = node_line_of (get_or given index none) in
    ap (slice_get (map node_line_of items)) counted
    ∙ ap (λ all. slice_get (map node_line_of all) index) (sym same)
    ∙ slice_get-get_or (map node_line_of given) index x (omega (arith, below, length-map given node_line_of))
    ∙ ap Some (get_or-map node_line_of given index none x below)

at_index : (file : AutomatonFile) (index count : ℕ) (nodes : List Node) → count ≡ index → AreNodesOf file index nodes → AreNodesOf file count nodes
at_index file index count nodes counted are = subst (λ n. AreNodesOf file n nodes) (sym counted) are

pub loop-line-init : goal.loop-line-init
loop-line-init c =
    let file = file_of c.args.lines.now in (
      at_start node_words (keeps_node file) file.node_lines c.args.first 0 0,
      omega arith,
      omega arith,
      record { same = c.requires.none; listed = λ k d below. absurd (omega arith) },
      ap length c.requires.none,
    )

pub judge_node-requires-clause-there : goal.judge_node-requires-clause-there
judge_node-requires-clause-there c =
    let none : NodeLine = record { number = 0; name = record { ref_ptr = (0, 0); now = [] }; hi = State 0; lo = State 0 } in
    line_there c.args.lines.now.node_lines.items c.deref-line-items.result.now none c.loop-line.line-index (length c.loop-line.nodes.keys) c.deref-line-items.ensures.value c.loop-line-test.true c.loop-line.invariant.4

pub judge_node-requires-clause-nodes : goal.judge_node-requires-clause-nodes
judge_node-requires-clause-nodes c =
    at_index (file_of c.args.lines.now) c.loop-line.line-index (length c.loop-line.nodes.keys) c.loop-line.nodes.keys c.loop-line.invariant.4 c.loop-line.invariant.3

pub judge_node-requires-clause-room : goal.judge_node-requires-clause-room
judge_node-requires-clause-room c = omega (arith, c.loop-line.invariant.1, c.loop-line.invariant.2, c.requires.room)

pub returns-in_err-number-clause-judged : goal.returns-in_err-number-clause-judged
returns-in_err-number-clause-judged c =
    let lines = c.args.lines.now in
    let file = file_of lines in
    let none : NodeLine = record { number = 0; name = record { ref_ptr = (0, 0); now = [] }; hi = State 0; lo = State 0 } in
    let line = node_line_of (get_or c.deref-line-items.result.now c.loop-line.line-index none) in
    let judged = subst (λ place. IsJudged (first_word c.loop-line.number (zip (node_words line) (keeps_node file place line))) (c.loop-line.number + 7) (Err c.in_err-number.field-0.0)) c.loop-line.invariant.4 c.in_err-number.ensures.judged in
    stop_of node_line_of node_words (keeps_node file) lines.node_lines.items c.deref-line-items.result.now none c.args.first c.loop-line.line-index c.loop-line.number c.deref-line-items.ensures.value
    (c.loop-line.number + 7) (c.args.first + length (judged_lines node_words (keeps_node file) 0 file.node_lines)) c.in_err-number.field-0.0 c.from_residual.result c.loop-line-test.true c.loop-line.invariant.0 c.from_residual.ensures.1 judged

pub loop-line-preserved : goal.loop-line-preserved
loop-line-preserved c =
    let lines = c.args.lines.now in
    let file = file_of lines in
    let none : NodeLine = record { number = 0; name = record { ref_ptr = (0, 0); now = [] }; hi = State 0; lo = State 0 } in
    let line = node_line_of (get_or c.deref-line-items.result.now c.loop-line.line-index none) in
    let index = c.loop-line.line-index in
    let judged = subst (λ place. IsJudged (first_word c.loop-line.number (zip (node_words line) (keeps_node file place line))) (c.loop-line.number + 7) (Ok c.in_ok-number.number)) c.loop-line.invariant.4 c.in_ok-number.ensures.judged in
    let keys = c.judge_node.new.nodes.keys in
    let are = subst (λ place. AreNodesOf file (place + 1) keys) c.loop-line.invariant.4 c.in_ok-number.ensures.nodes in
    let within : index < length file.node_lines = omega (arith, c.loop-line-test.true, length-map lines.node_lines.items node_line_of, ap length c.deref-line-items.ensures.value) in (
      more_of node_line_of node_words (keeps_node file) lines.node_lines.items c.deref-line-items.result.now none c.args.first index c.loop-line.number c.deref-line-items.ensures.value
          c.in_ok-number.number c.loop-line-test.true c.loop-line.invariant.0 judged,
      omega (arith, judged.1, c.loop-line.invariant.1),
      omega (arith, c.in_ok-number.ensures.few, c.loop-line.invariant.4),
      are,
      nodes_count file (index + 1) keys are (omega (arith, within)),
    )

pub returns-clause-judged : goal.returns-clause-judged
returns-clause-judged c =
    let lines = c.args.lines.now in
    let file = file_of lines in
    let none : NodeLine = record { number = 0; name = record { ref_ptr = (0, 0); now = [] }; hi = State 0; lo = State 0 } in
    all_of node_line_of node_words (keeps_node file) lines.node_lines.items c.deref-line-items.result.now none c.args.first c.loop-line.line-index c.loop-line.number c.deref-line-items.ensures.value
    c.loop-line-test.false c.loop-line.invariant.0

pub returns-clause-nodes : goal.returns-clause-nodes
returns-clause-nodes c =
    let lines = c.args.lines.now in
    let file = file_of lines in
    let whole : length file.node_lines ≡ c.loop-line.line-index =
    omega (arith, c.loop-line-test.false, c.loop-line.auto.line-index-end, length-map lines.node_lines.items node_line_of, ap length c.deref-line-items.ensures.value) in
    at_index file c.loop-line.line-index (length file.node_lines) c.loop-line.nodes.keys whole c.loop-line.invariant.3

pub returns-clause-bound : goal.returns-clause-bound
returns-clause-bound c = omega (arith, c.loop-line.invariant.1, c.loop-line.invariant.2)
