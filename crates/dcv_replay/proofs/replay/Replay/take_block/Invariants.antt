use Rattle.std.proofs.Common.{◌≡◌, ◌+◌, ◌≤◌, take}
use Rattle.dcv_replay.specs.Coming.{IsLines, budget}
use Rattle.dcv_replay.specs.Running.{going, Passes}
use Rattle.dcv_replay.proofs.replay.Replay.take_block.Given as goal

-- the bytes so far have been taken
abbrev pub invariant-loop-byte : goal.invariant-loop-byte
invariant-loop-byte g l =
    let written = g.S.Sink.written in
    record {
      passed : Passes (going l.initial.self l.initial.lines (written l.initial.sink) l.initial.answers) (take l.byte-index l.bytes) (going l.self l.lines (written l.sink) l.answers);
      are : IsLines l.lines;
      width : l.lines.width ≡ l.self.program.width;
      spent : budget l.lines + l.byte-index ≤ budget l.initial.lines;
      faults : g.S.Sink.faults l.sink ≡ g.S.Sink.faults l.initial.sink;
    }
