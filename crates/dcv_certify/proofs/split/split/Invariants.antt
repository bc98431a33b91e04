use Rattle.dcv_certify.proofs.Splits.{SplitSoFar}
use Rattle.dcv_certify.proofs.split.split.Given as goal

-- the entries before this place have their numbers
abbrev pub invariant-loop-entry : goal.invariant-loop-entry
invariant-loop-entry l = SplitSoFar l.old l.column l.entry l.new.items l.moved.items
