use Rattle.std.proofs.Common.{◌≡◌, ◌+◌, ℕ, List, fold, drop, length}
use Rattle.dcv_replay.specs.Program.{first_name}
use Rattle.dcv_replay.specs.Selecting.{IsFresh}
use Rattle.dcv_replay.specs.OfNode.{after_cell, first_cell}
use Rattle.dcv_replay.proofs.of_node.store_of.Given as goal

-- setting the cells that are left sets all
abbrev pub invariant-loop-equation : goal.invariant-loop-equation
invariant-loop-equation l = record {
  fresh : List ℕ;
  is : IsFresh (l.count + l.count) fresh;
  rest : fold (after_cell first_cell l.count) l.store.items (drop l.equation-index l.equations) ≡ fold (after_cell first_cell l.count) fresh l.equations;
  long : length l.store.items ≡ first_name + (l.count + l.count) + 1;
}
