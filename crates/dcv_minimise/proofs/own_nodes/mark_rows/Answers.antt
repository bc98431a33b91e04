use Rattle.std.proofs.Common.{inl, inr, subst, ◌∙◌}
use Rattle.std.specs.Prelude.{Contains}
use Rattle.std.proofs.lemmas.List.Elements.{Contains-get_or}
use Rattle.dcv_minimise.proofs.own_nodes.mark_rows.Goals as goal

pub loop-row-preserved : goal.loop-row-preserved
loop-row-preserved c = record {
  as_long = c.mark.ensures.length ∙ c.loop-row.invariant.as_long;
  marks = λ place is. elim (c.mark.ensures.marks place is) [
    | inl earlier ↦ c.loop-row.invariant.marks place earlier
    | inr same ↦ inr (subst (Contains c.args.rows.now) same (Contains-get_or c.args.rows.now c.loop-row.row-index _ c.loop-row-test.true))
  ];
}
