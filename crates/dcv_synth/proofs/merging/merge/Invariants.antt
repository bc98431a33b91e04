use Rattle.std.proofs.Common.{◌≡◌, ◌≤◌, ◌-◌, length}
use Rattle.dcv_synth.specs.Merged.{AreMerged}
use Rattle.dcv_synth.proofs.merging.merge.Given as goal

abbrev pub invariant-loop-place : goal.invariant-loop-place
invariant-loop-place l = record {
  slots : l.arena.slots ≡ l.initial.arena.slots;
  limit : l.arena.limit ≡ l.initial.arena.limit;
  few : length l.arena.nodes ≤ l.place;
  count : length l.merged.items ≡ l.place;
  merged : AreMerged l.part (l.answers.arena.now.slots - l.initial.arena.slots) l.answers.arena.now l.answers.win.now l.arena l.merged.items;
}
