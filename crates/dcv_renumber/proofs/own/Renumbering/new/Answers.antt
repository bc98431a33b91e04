use Rattle.std.proofs.Common.{sym, subst, ◌∙◌}
use Rattle.dcv_arena.specs.Arena.{IsArena}
use Rattle.dcv_renumber.proofs.OwnNodes.{no_more_yet}
use Rattle.dcv_renumber.proofs.own.Renumbering.new.Goals as goal

pub invariant_of-result : goal.invariant_of-result
invariant_of-result c =
    no_more_yet c.over.result c.new-own.result (subst IsArena (sym c.over.ensures.from) c.slots.ensures.arena) c.new-own.ensures.arena
    (c.new-own.ensures.slots ∙ c.slots.ensures.slots ∙ (λ i. (sym c.over.ensures.from i).slots)) c.new-own.ensures.limit c.new-own.ensures.empty (c.over.ensures.holds c.new-own.result)
