use Rattle.std.proofs.Common.{◌≡◌, ◌≤◌, ◌+◌, ◌++◌, length, reverse}
use Rattle.std.specs.Vec.{vec_len, vec_capacity}
use Rattle.dcv_translation.proofs.body.Body.refill.Given as goal

-- what is left of the stack, what was taken, and the room for what is left
abbrev pub invariant-loop-self : goal.invariant-loop-self
invariant-loop-self g l =
    (l.first ≤ length l.stack.items) × (l.stack.items ++ reverse l.self-inside.parts.items ≡ l.fn.stack.items)
    × (vec_len l.self-inside.parts + vec_len l.stack ≤ vec_capacity l.self-inside.parts + l.first)

abbrev pub decreases-loop-self : goal.decreases-loop-self
decreases-loop-self g l = length l.stack.items
