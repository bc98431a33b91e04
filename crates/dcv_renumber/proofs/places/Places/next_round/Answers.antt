use Rattle.dcv_renumber.proofs.PlaceFacts.{spent}
use Rattle.dcv_renumber.proofs.places.Places.next_round.Goals as goal

pub returns-then-self-lt4294967295 : goal.returns-then-self-lt4294967295
returns-then-self-lt4294967295 c = spent c.self.inside.round c.self.inside.became.items c.self.invariant.1
