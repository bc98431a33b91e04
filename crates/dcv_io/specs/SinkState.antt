-- A sink in memory.
use Rattle.std.specs.Prelude.{ℕ, ◌-◌, min, Bool, true, false, ◌&&◌, ◌||◌, ◌==◌, nat_lt, List, ◌++◌, length, take}
use Rattle.dcv_io.specs.Faults.{raised}
use Rattle.dcv_io.specs.Plan.{Plan, fails_next, after_call, moved_by, after_move}

-- What has been written, for how many more bytes there is room, what comes at which call, how many writes failed, and
-- whether the last one did.
pub record SinkState : Type 0 where
  pub written : List ℕ
  pub room : ℕ
  pub plan : Plan
  pub faults : ℕ
  pub last_failed : Bool

-- A write of this piece fails now: the call is one of those that fail, or bytes meet no room.
abbrev pub refuses : SinkState → List ℕ → Bool
refuses sink piece = fails_next sink.plan || (nat_lt 0 (length piece) && sink.room == 0)

-- how many bytes of the piece are taken: the least of the size in turn, the piece's length and the room
abbrev pub taken_of : SinkState → List ℕ → ℕ
taken_of sink piece = moved_by sink.plan.sizes (min (length piece) sink.room)

-- once so many bytes of the piece have been taken
abbrev pub after_write : SinkState → List ℕ → ℕ → SinkState
after_write sink piece count = record {
  written = sink.written ++ take count piece;
  room = sink.room - count;
  plan = after_move count (after_call sink.plan);
  faults = sink.faults;
  last_failed = false;
}

-- once a write has failed
abbrev pub after_refusal : SinkState → SinkState
after_refusal sink = record sink { plan = after_call sink.plan; faults = raised sink.faults; last_failed = true }
