-- The files that are held in memory, and the place in one of them.
use Rattle.std.specs.Prelude.{ℕ, ◌<◌, ◌≤◌, List, [], map, length, drop, Option, None, Some, slice_index_or, string_bytes}
use Rattle.dcv_io.specs.declared.mem_files.HeldFile.{HeldFile}
use Rattle.dcv_io.specs.declared.mem_files.Place.{Place}

-- names and bytes
abbrev pub pairs_of : List HeldFile → List (List ℕ × List ℕ)
pairs_of files = map (λ file. (string_bytes file.name, file.bytes.items)) files

-- the bytes of the file at this index
abbrev pub bytes_at : List HeldFile → ℕ → List ℕ
bytes_at files index = slice_index_or (map (λ file. file.bytes.items) files) index []

-- the place is in one of the files
pub record IsWithin (files : List HeldFile) (place : Place) : Type 0 where
  pub file : place.file < length files
  pub at : place.at ≤ length (bytes_at files place.file)

-- what is left after the place, if there is one
abbrev pub unread_at : List HeldFile → Option Place → Option (List ℕ)
unread_at files None = None
unread_at files (Some place) = Some (drop place.at (bytes_at files place.file))
