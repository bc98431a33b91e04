use Rattle.std.proofs.Common.{arith, sym}
use Rattle.std.proofs.lemmas.List.{drop-drop}
use Rattle.dcv_io.proofs.schedule.Schedule.advance.Goals as goal

pub returns-then-self-len : goal.returns-then-self-len
returns-then-self-len c =
    let further = sym (drop-drop 1 c.self.inside.turn c.self.inside.sizes.items) in
    grind arith
