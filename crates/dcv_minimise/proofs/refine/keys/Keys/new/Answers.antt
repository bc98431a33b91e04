use Rattle.std.proofs.Common.{◌∙◌}
use Rattle.dcv_minimise.proofs.refine.keys.Keys.new.Goals as goal

pub returns : goal.returns
returns c =
    let arena = c.arena.ensures.arena in
    record {
      is_raw = c.arena.ensures.raw;
      each = c.requires;
      from = c.new.ensures.from ∙ arena;
      by = c.new.ensures.map;
      slots = c.new.ensures.slots ∙ (λ i. (arena i).slots);
      arena = c.new.ensures.arena;
    }
