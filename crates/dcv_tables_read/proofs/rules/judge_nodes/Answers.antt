use Rattle.std.proofs.Common.{◌≡◌, ◌<◌, length, arith}
use Rattle.std.proofs.lemmas.List.{length-map}
use Rattle.dcv_tables_read.specs.Seen.{seen_node, seen_tables}
use Rattle.dcv_tables_read.proofs.RuleLemmas.{node_sizes, no_nodes, at_variables, at_highs, at_lows}
use Rattle.dcv_tables_read.proofs.rules.judge_nodes.Goals as goal
use Rattle.dcv_tables_read.proofs.rules.judge_nodes.Goals.{Else-is_empty}

pub returns-then-is_empty : goal.returns-then-is_empty
returns-then-is_empty c =
    no_nodes c.args.integer.now c.args.at (seen_tables c.args.unit.now)
    (let none : length (seen_tables c.args.unit.now).nodes ≡ 0 = grind (arith, length-map c.args.unit.now.nodes.items seen_node, c.is_empty.ensures, c.if-is_empty.true) in none)

some_there : (c : Else-is_empty) → 0 < length (seen_tables c.args.unit.now).nodes
some_there c = grind (arith, length-map c.args.unit.now.nodes.items seen_node, c.is_empty.ensures, c.if-is_empty.false)

pub judge_variables-requires : goal.judge_variables-requires
judge_variables-requires c =
    let sizes = node_sizes c.args.integer.now (seen_tables c.args.unit.now) (some_there c) in
    omega (arith, sizes, c.requires.room)

pub returns-in_err-highs : goal.returns-in_err-highs
returns-in_err-highs c = at_variables c.args.integer.now c.args.at (seen_tables c.args.unit.now) c.in_err-highs.field-0.0 c.from_residual.result c.from_residual.ensures.1 c.in_err-highs.ensures

pub judge_highs-requires-clause-room : goal.judge_highs-requires-clause-room
judge_highs-requires-clause-room c =
    let sizes = node_sizes c.args.integer.now (seen_tables c.args.unit.now) (some_there (goal.at.judge_highs-requires-clause-room c).Else-is_empty) in
    omega (arith, sizes, c.requires.room, c.in_ok-highs.ensures.1)

pub returns-in_err-lows : goal.returns-in_err-lows
returns-in_err-lows c =
    at_highs c.args.integer.now c.args.at (seen_tables c.args.unit.now) c.in_ok-highs.highs c.in_err-lows.field-0.0 c.from_residual-in_err-lows.result
    c.in_ok-highs.ensures.0 c.in_ok-highs.ensures.1 c.from_residual-in_err-lows.ensures.1 c.in_err-lows.ensures

pub judge_lows-requires-clause-room : goal.judge_lows-requires-clause-room
judge_lows-requires-clause-room c =
    let sizes = node_sizes c.args.integer.now (seen_tables c.args.unit.now) (some_there (goal.at.judge_lows-requires-clause-room c).Else-is_empty) in
    omega (arith, sizes, c.requires.room, c.in_ok-highs.ensures.1, c.in_ok-lows.ensures.1)

pub returns : goal.returns
returns c =
    at_lows c.args.integer.now c.args.at (seen_tables c.args.unit.now) c.in_ok-highs.highs c.in_ok-lows.lows c.judge_lows.result (some_there (goal.at.returns c).Else-is_empty)
    c.in_ok-highs.ensures.0 c.in_ok-highs.ensures.1 c.in_ok-lows.ensures.0 c.in_ok-lows.ensures.1 c.judge_lows.ensures
