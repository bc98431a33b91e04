use Rattle.std.proofs.Common.{◌≡◌, take}
use Rattle.dcv_build.specs.Asked.{tables_at, AreThere}
use Rattle.dcv_build.proofs.building.move_on.Given as goal

-- the numbers so far have moved
abbrev pub invariant-loop-number : goal.invariant-loop-number
invariant-loop-number l = record {
  limits : l.new.limits ≡ l.known.limits;
  there : AreThere l.new.tables l.numbers.items;
  same : tables_at l.new.tables l.numbers.items ≡ tables_at l.known.tables (take l.number-index l.waiting);
}
