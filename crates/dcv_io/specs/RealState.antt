-- What is seen of the files of a file system and of a stream.
use Rattle.std.specs.Prelude.{ℕ, Bool, List, Option, option_map, option_and_then}
use Rattle.dcv_io.specs.Disk.{Disk}

-- the file system and the open file; how many opens and how many reads have failed, and how many calls there have been
pub record RealState (S F : Type 0) : Type 0 where
  pub system : S
  pub file : Option F
  pub open_faults : ℕ
  pub read_faults : ℕ
  pub calls : ℕ

-- what is held, and what the open file has left, where the file system tells what it holds
abbrev pub told_of : {S F : Type 0} → (S → Option (List ℕ → Option (List ℕ))) → (S → F → Option (List ℕ)) → RealState S F → Option Disk
told_of held remaining files = option_map (λ names. record { held = names; «open» = option_and_then (remaining files.system) files.file }) (held files.system)

-- what was written, where the stream tells it; how many writes have failed, and whether the last one did
pub record StreamState : Type 0 where
  pub written : Option (List ℕ)
  pub faults : ℕ
  pub last_failed : Bool
