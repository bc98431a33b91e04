use Rattle.std.proofs.Common.{◌≡◌, ℕ, ◌+◌, ◌*◌, ◌≤◌, List, [], length}
use Rattle.dcv_io.specs.Disk.{held_of, WhereTold, Gives}
use Rattle.dcv_replay.specs.TraceText.{most_lines}
use Rattle.dcv_replay.specs.Coming.{IsLines, budget}
use Rattle.dcv_replay.specs.Running.{going, Passes}
use Rattle.dcv_replay.proofs.replay.Replay.run_over.Given as goal

-- what was read so far has been taken, nothing else has changed, and nothing has failed
abbrev pub invariant-loop-count : goal.invariant-loop-count
invariant-loop-count g l =
    let written = g.S.Sink.written in
    let told = g.F.Files.told in
    record {
      read : List ℕ;
      given : WhereTold (Gives read) (told l.fn.files) (told l.files);
      passed : Passes (going l.fn.self (record { width = l.fn.self.program.width; line = []; count = 0 }) (written l.fn.sink) l.fn.answers) read (going l.self l.lines (written l.sink) l.answers);
      are : IsLines l.lines;
      width : l.lines.width ≡ l.self.program.width;
      buffer : length l.block ≡ 4096;
      asked : g.F.Files.asked l.files ≡ g.F.Files.asked l.fn.files;
      calls : g.F.Files.calls l.files + budget l.lines ≤ g.F.Files.calls l.fn.files + 35 * most_lines + 34;
      held : held_of (told l.files) ≡ held_of (told l.fn.files);
      open_faults : g.F.Files.open_faults l.files ≡ g.F.Files.open_faults l.fn.files;
      read_faults : g.F.Files.read_faults l.files ≡ g.F.Files.read_faults l.fn.files;
      faults : g.S.Sink.faults l.sink ≡ g.S.Sink.faults l.fn.sink;
    }

abbrev pub decreases-loop-count : goal.decreases-loop-count
decreases-loop-count g l = budget l.lines
