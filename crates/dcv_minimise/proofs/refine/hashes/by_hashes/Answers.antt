use Rattle.std.proofs.Common.{length, ap, sym, subst, ◌∙◌}
use Rattle.dcv_minimise.specs.Rounds.{IsTold}
use Rattle.dcv_minimise.proofs.refine.hashes.by_hashes.Goals as goal

pub divided-requires-clause-each : goal.divided-requires-clause-each
divided-requires-clause-each c = ap length c.deref.ensures.value ∙ c.loop-round.invariant.witnessed.each

pub divided-requires-clause-told : goal.divided-requires-clause-told
divided-requires-clause-told c = subst (IsTold c.args.raw.now) (sym c.deref.ensures.value) c.loop-round.invariant.told
