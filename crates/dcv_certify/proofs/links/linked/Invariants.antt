use Rattle.dcv_certify.proofs.Linking.{LinkedSoFar}
use Rattle.dcv_certify.proofs.links.linked.Given as goal

-- the suffixes from this place on are linked
abbrev pub invariant-loop-place : goal.invariant-loop-place
invariant-loop-place l = LinkedSoFar l.file l.heaviest l.place l.first.items l.next.items
