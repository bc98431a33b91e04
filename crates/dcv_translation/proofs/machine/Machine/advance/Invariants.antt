use Rattle.std.proofs.Common.{◌≡◌, map, reverse}
use Rattle.dcv_translation.proofs.Running.{Keeps, steps_weight}
use Rattle.dcv_translation.proofs.machine.Machine.advance.Given as goal

-- whatever was made from the first steps on is made from these on
abbrev pub invariant-loop-step : goal.invariant-loop-step
invariant-loop-step g l =
    let meaning = g.T.Translation.meaning in
    (l.self.grammar ≡ l.fn.self.grammar)
    × Keeps g.T.Translation.scheme l.next (reverse l.fn.self.steps.items) (map meaning l.fn.self.parts.items)
    (reverse l.self.steps.items) (map meaning l.self.parts.items)

abbrev pub decreases-loop-step : goal.decreases-loop-step
decreases-loop-step g l = steps_weight g.T.Translation.scheme.grammar (reverse l.self.steps.items)
