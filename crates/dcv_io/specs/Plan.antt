-- What a fake in memory does at which call.
use Rattle.std.specs.Prelude.{ℕ, min, Bool, ◌==◌, if◌then◌else◌, List, [], ◌∷◌, drop}
use Rattle.std.specs.List.{list_any}
use Rattle.dcv_io.specs.Faults.{raised}

-- The sizes that are left to use, one for each call that moves bytes; the numbers of the calls that fail, from 1; and
-- how many calls there have been.
pub record Plan : Type 0 where
  pub sizes : List ℕ
  pub fails : List ℕ
  pub calls : ℕ

-- the number of the next call
abbrev pub next_call : Plan → ℕ
next_call plan = raised plan.calls

-- the next call is one of those that fail
abbrev pub fails_next : Plan → Bool
fails_next plan = list_any (λ n. n == next_call plan) plan.fails

-- once the next call has come
abbrev pub after_call : Plan → Plan
after_call plan = record plan { calls = next_call plan }

-- how many of the bytes at hand are moved: at most the size in turn, and all where no size is left
abbrev pub moved_by : List ℕ → ℕ → ℕ
moved_by [] available = available
moved_by (size ∷ sizes) available = min size available

-- once so many bytes have been moved: the size in turn is used up, if there were any
abbrev pub after_move : ℕ → Plan → Plan
after_move count plan = if count == 0 then plan else record plan { sizes = drop 1 plan.sizes }
