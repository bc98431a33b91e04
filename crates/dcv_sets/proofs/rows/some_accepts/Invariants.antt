use Rattle.std.proofs.Common.{◌≡◌, drop}
use Rattle.std.specs.List.{list_any}
use Rattle.dcv_sets.proofs.rows.some_accepts.Given as goal

-- what is left decides
abbrev pub invariant-loop-state : goal.invariant-loop-state
invariant-loop-state g l = list_any (g.T.Table.automaton l.table).accepting (drop l.state-index l.states) ≡ list_any (g.T.Table.automaton l.table).accepting l.states
