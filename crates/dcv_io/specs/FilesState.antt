-- Files in memory.
use Rattle.std.specs.Prelude.{ℕ, min, Bool, ◌||◌, List, [], ◌∷◌, ◌++◌, length, drop, Option, None, Some, is_none, option_map, unwrap_or, if◌then◌else◌}
use Rattle.std.specs.Str.{bytes_eq}
use Rattle.dcv_io.specs.Disk.{Disk}
use Rattle.dcv_io.specs.Faults.{raised}
use Rattle.dcv_io.specs.Plan.{Plan, fails_next, after_call, moved_by, after_move}

-- What is held, as names and bytes in the order in which they came; what is left to read of the open file; what comes
-- at which call; and how many opens and reads have failed.
pub record FilesState : Type 0 where
  pub held : List (List ℕ × List ℕ)
  pub unread : Option (List ℕ)
  pub plan : Plan
  pub open_faults : ℕ
  pub read_faults : ℕ

-- what is held under a name
abbrev pub held_under : List (List ℕ × List ℕ) → List ℕ → Option (List ℕ)
held_under [] name = None
held_under (file ∷ files) name = if bytes_eq file.0 name then Some file.1 else held_under files name

-- all of it is told
abbrev pub disk_of : FilesState → Disk
disk_of files = record { held = held_under files.held; «open» = files.unread }

-- An open of this name fails now: the call is one of those that fail, or nothing is held under the name.
abbrev pub refuses_open : FilesState → List ℕ → Bool
refuses_open files name = fails_next files.plan || is_none (held_under files.held name)

-- A read fails now: the call is one of those that fail, or no file is open.
abbrev pub refuses_read : FilesState → Bool
refuses_read files = fails_next files.plan || is_none files.unread

-- how many bytes come into so much room: the least of the size in turn, the room and what is left
abbrev pub given_into : FilesState → ℕ → ℕ
given_into files room = moved_by files.plan.sizes (min (length (unwrap_or files.unread [])) room)

-- once the file of this name has been opened
abbrev pub after_open : FilesState → List ℕ → FilesState
after_open files name = record files { unread = held_under files.held name; plan = after_call files.plan }

-- once an open has failed
abbrev pub after_failed_open : FilesState → FilesState
after_failed_open files = record files { unread = None; plan = after_call files.plan; open_faults = raised files.open_faults }

-- once so many bytes have been read
abbrev pub after_read : FilesState → ℕ → FilesState
after_read files count = record files { unread = option_map (drop count) files.unread; plan = after_move count (after_call files.plan) }

-- once a read has failed
abbrev pub after_failed_read : FilesState → FilesState
after_failed_read files = record files { plan = after_call files.plan; read_faults = raised files.read_faults }

-- once a file has been added
abbrev pub with_file : FilesState → List ℕ → List ℕ → FilesState
with_file files name bytes = record files { held = files.held ++ (name, bytes) ∷ [] }
