use Rattle.std.proofs.Common.{◌≡◌, ◌+◌, ℕ, List, fold, drop, length}
use Rattle.dcv_replay.specs.Program.{first_name}
use Rattle.dcv_replay.specs.Selecting.{IsFresh}
use Rattle.dcv_replay.specs.OfUnit.{after_assignment}
use Rattle.dcv_replay.proofs.of_unit.reset_store.Given as goal

-- making those that are left makes all
abbrev pub invariant-loop-assignment : goal.invariant-loop-assignment
invariant-loop-assignment l = record {
  fresh : List ℕ;
  is : IsFresh l.count fresh;
  rest : fold after_assignment l.store.items (drop l.assignment-index l.reset.assignments.items) ≡ fold after_assignment fresh l.reset.assignments.items;
  long : length l.store.items ≡ first_name + l.count + 1;
}
