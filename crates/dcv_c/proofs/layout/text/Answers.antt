use Rattle.std.proofs.Common.{ℕ, List, sym, subst, ◌≡◌}
use Rattle.std.specs.Prelude.{IfOk}
use Rattle.std.proofs.lemmas.Result.{IfOk-weaker}
use Rattle.dcv_io.proofs.Putting.{text_taken}
use Rattle.dcv_c.specs.Layout.{text_of}
use Rattle.dcv_c.specs.Placed.{PlacedUnit, unit_of}
use Rattle.dcv_c.specs.Actions.{Spells}
use Rattle.dcv_c.proofs.layout.text.Goals as goal
use Rattle.dcv_c.proofs.layout.text.Goals.{After-finish}

module _ (c : After-finish) where
  pub taken : IfOk c.finish.result (λ text. text.items ≡ text_of c.args.unit.now)
  taken =
      text_taken _ _ c.put.new.target.bytes c.put.new.target.failed c.finish.result _ c.new-text.ensures.bytes c.new-text.ensures.failed c.put.ensures
      c.finish.ensures.failed c.finish.ensures.all

pub returns-clause-layout : goal.returns-clause-layout
returns-clause-layout c = taken c

pub returns-clause-spelled : goal.returns-clause-spelled
returns-clause-spelled c =
    let unit = c.args.unit.now in
    IfOk-weaker c.finish.result _ _
    (λ text is. subst (λ (bytes : List ℕ). (placed : PlacedUnit) × Spells bytes placed × (unit_of placed ≡ unit)) (sym is) (c.texts_spell_units.ensures.text unit c.keeps_the_rules.ensures.form))
    (taken c)
