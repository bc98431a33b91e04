use Rattle.dcv_tables.proofs.BelowFacts.{node_below, kept_below}
use Rattle.dcv_tables.proofs.diagrams.parities.Goals as goal

pub returns-clause-even : goal.returns-clause-even
returns-clause-even c =
    kept_below c.node.new.self c.node-2.new.self c.args.bound c.args.slot c.in_ok-new_even.new_even c.node-2.ensures.kept
    (node_below c.args.arena.now c.node.new.self c.args.bound c.args.slot c.args.even c.args.odd c.in_ok-new_even.new_even c.requires.even c.requires.odd
    c.in_ok-new_even.ensures.is_ref c.in_ok-new_even.ensures.level c.in_ok-new_even.ensures.value)

pub returns-clause-odd : goal.returns-clause-odd
returns-clause-odd c =
    node_below c.node.new.self c.node-2.new.self c.args.bound c.args.slot c.args.odd c.args.even c.in_ok-new_odd.new_odd
    (kept_below c.args.arena.now c.node.new.self c.args.bound _ c.args.odd c.node.ensures.kept c.requires.odd)
    (kept_below c.args.arena.now c.node.new.self c.args.bound _ c.args.even c.node.ensures.kept c.requires.even)
    c.in_ok-new_odd.ensures.is_ref c.in_ok-new_odd.ensures.level c.in_ok-new_odd.ensures.value
