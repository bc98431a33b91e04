use Rattle.std.proofs.Common.{◌≡◌, fold, drop, length}
use Rattle.dcv_replay.specs.Program.{after_select}
use Rattle.dcv_replay.proofs.replay.select_all.Given as goal

-- making those that are left makes all
abbrev pub invariant-loop-select : goal.invariant-loop-select
invariant-loop-select l = record {
  rest : fold after_select l.store (drop l.select-index l.selects) ≡ fold after_select l.initial.store l.selects;
  long : length l.store ≡ length l.initial.store;
}
