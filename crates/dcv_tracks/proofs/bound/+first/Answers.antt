use Rattle.std.proofs.Common.{sym, ap, ◌∙◌}
use Rattle.dcv_core.proofs.TruthRows.{is_joined}
use Rattle.dcv_tracks.specs.Shifting.{bound_in}
use Rattle.dcv_tracks.proofs.bound.+first.Goals as goal

pub bound_within-returns-in-Joined : goal.bound_within-returns-in-Joined
bound_within-returns-in-Joined t c = c.first_bound_among.ensures ∙ ap (bound_in c.args.declared) (sym (is_joined _ _ c.in-Joined.is c.deref-in-Joined.ensures.value))
