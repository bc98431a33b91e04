use Rattle.dcv_certify.proofs.Landings.{LandedSoFar}
use Rattle.dcv_certify.proofs.words.landed.Given as goal

-- the words of the states before this place, but for that of state 0, lead to these
abbrev pub invariant-loop-place : goal.invariant-loop-place
invariant-loop-place l = LandedSoFar l.file l.states.items l.place
