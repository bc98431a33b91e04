use Rattle.std.proofs.Common.{◌≡◌, ◌+◌, ◌-◌, ◌≤◌, length}
use Rattle.dcv_io.specs.Disk.{held_of, WhereTold, Gives}
use Rattle.dcv_io.proofs.reading.read_to_end.Given as goal

-- what has come so far was given, nothing else has changed, and no read has failed
abbrev pub invariant-loop-buffer : goal.invariant-loop-buffer
invariant-loop-buffer g l =
    let told = g.F.Files.told in
    record {
      most : l.most ≡ l.limit;
      within : length l.bytes.items ≤ l.limit + 1;
      given : WhereTold (Gives l.bytes.items) (told l.fn.files) (told l.files);
      asked : g.F.Files.asked l.files ≡ g.F.Files.asked l.fn.files;
      calls : g.F.Files.calls l.files ≤ g.F.Files.calls l.fn.files + length l.bytes.items;
      held : held_of (told l.files) ≡ held_of (told l.fn.files);
      open_faults : g.F.Files.open_faults l.files ≡ g.F.Files.open_faults l.fn.files;
      read_faults : g.F.Files.read_faults l.files ≡ g.F.Files.read_faults l.fn.files;
      buffer : length l.buffer ≡ 4096;
    }

abbrev pub decreases-loop-buffer : goal.decreases-loop-buffer
decreases-loop-buffer g l = l.limit + 1 - length l.bytes.items
