use Rattle.std.proofs.Common.{◌≡◌, ◌++◌, not, map, take, drop}
use Rattle.dcv_dfa.proofs.raw.turn.Given as goal

abbrev pub invariant-loop-flag : goal.invariant-loop-flag
invariant-loop-flag l = l.flags ≡ map not (take l.flag-index l.fn.flags) ++ drop l.flag-index l.fn.flags
