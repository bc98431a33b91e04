use Rattle.std.proofs.Common.{sym, ap, ◌∙◌}
use Rattle.dcv_core.proofs.TruthRows.{is_joined}
use Rattle.dcv_tracks.specs.Shifting.{names_bound}
use Rattle.dcv_tracks.proofs.bound.+bound.Goals as goal

pub has_bound-returns-in-Joined : goal.has_bound-returns-in-Joined
has_bound-returns-in-Joined t c = c.has_bound_among.ensures ∙ ap (names_bound c.args.declared) (sym (is_joined _ _ c.in-Joined.is c.deref.ensures.value))
