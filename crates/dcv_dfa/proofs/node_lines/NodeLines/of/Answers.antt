use Rattle.std.proofs.Common.{◌≡◌, ℕ, ◌≤◌, ◌<◌, length, map, ap, sym, subst, ◌∙◌}
use Rattle.std.specs.List.{All}
use Rattle.dcv_arena.specs.Arena.{ArenaValue}
use Rattle.dcv_dfa.specs.NodeLines.{NodeLinesValue, line_of, lines_and_rows, AreReducedRows}
use Rattle.dcv_dfa.proofs.Reduced.{HasLines, has_lines}
use Rattle.dcv_dfa.proofs.node_lines.NodeLines.of.Goals as goal
use Rattle.dcv_dfa.proofs.node_lines.NodeLines.of.Goals.{In_ok-numbering, In_ok-lines}

facts : (c : In_ok-numbering) → HasLines c.args.arena.now c.args.rows.now c.in_ok-numbering.numbering.places.keys
facts c = has_lines c.args.arena.now c.args.rows.now c.requires.arena c.requires.rows c.in_ok-numbering.numbering.places.keys c.in_ok-numbering.ensures.places

lines_are : (c : In_ok-lines) → c.in_ok-lines.lines.items ≡ map (line_of c.args.arena.now c.in_ok-numbering.numbering.places.keys) c.in_ok-numbering.numbering.places.keys
lines_are c =
    let keys = c.in_ok-numbering.numbering.places.keys in
    c.in_ok-lines.ensures ∙ ap (λ arena. map (line_of arena keys) keys) c.in_ok-numbering.ensures.arena

pub lines-requires-clause-within : goal.lines-requires-clause-within
lines-requires-clause-within c =
    let P : ArenaValue → Type 0 = λ arena. All (λ place. place < length arena.nodes) c.in_ok-numbering.numbering.places.keys in
    subst P (sym c.in_ok-numbering.ensures.arena) (facts ((goal.at.lines-requires-clause-within c).In_ok-numbering)).within

pub lines-requires-clause-few : goal.lines-requires-clause-few
lines-requires-clause-few c = (facts ((goal.at.lines-requires-clause-few c).In_ok-numbering)).few

pub children-requires : goal.children-requires
children-requires c = (facts ((goal.at.children-requires c).In_ok-numbering)).few

pub returns-clause-few : goal.returns-clause-few
returns-clause-few c =
    let P : ℕ → Type 0 = λ count. count ≤ length c.args.arena.now.nodes in
    subst P (sym (ap length (lines_are ((goal.at.returns-clause-few c).In_ok-lines)))) (facts ((goal.at.returns-clause-few c).In_ok-numbering)).fits

pub returns-clause-reduced : goal.returns-clause-reduced
returns-clause-reduced c = λ bound leads.
    let arena = c.args.arena.now in
    let keys = c.in_ok-numbering.numbering.places.keys in
    let lines = lines_are ((goal.at.returns-clause-reduced c).In_ok-lines) in
    let P : NodeLinesValue → Type 0 = AreReducedRows arena.slots bound (length c.args.rows.now) in
    subst P (λ i. lines_and_rows (sym lines i) (sym c.in_ok-rows.ensures i)) ((facts ((goal.at.returns-clause-reduced c).In_ok-numbering)).reduced bound leads)
