use Rattle.std.proofs.Common.{◌≡◌, ◌++◌, map, take}
use Rattle.dcv_replay.specs.OfUnit.{statement_select}
use Rattle.dcv_replay.proofs.of_unit.push_statements.Given as goal

-- the statements so far have their selections
abbrev pub invariant-loop-statement : goal.invariant-loop-statement
invariant-loop-statement l = l.selects.items ≡ l.fn.selects.items ++ map statement_select (take l.statement-index l.step.statements.items)
