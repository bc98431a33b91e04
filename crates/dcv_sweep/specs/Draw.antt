-- Numbers that are drawn by a linear congruential generator: its state goes on from draw to draw, and the high bits of the state give
-- the number.
--     next_draw state        the state after a draw
--     drawn n state          the number below n that this state gives
use Rattle.std.specs.Prelude.{ℕ, ◌+◌, ◌*◌, ◌/◌, ◌%◌}

abbrev pub next_draw : ℕ → ℕ
next_draw state = (1103515245 * state + 12345) % 2147483648

abbrev pub drawn : ℕ → ℕ → ℕ
drawn n state = (state / 65536) % n
