-- The entries that are kept of places, of several rounds.
--     became_in round entry    what the place became in this round, if the entry is of it
--     IsUpTo round entry       the entry is of no later round
use Rattle.std.specs.Prelude.{◌≤◌, ◌==◌, if◌then◌else◌, ℕ, Option, Some, None}
use Rattle.dcv_arena.specs.declared.nodes.Ref.{Ref}
use Rattle.dcv_renumber.specs.declared.places.Became.{Became}

abbrev pub became_in : ℕ → Became → Option Ref
became_in round entry = if entry.round == round then Some entry.new else None

abbrev pub IsUpTo : ℕ → Became → Type 0
IsUpTo round entry = entry.round ≤ round
