use Rattle.std.proofs.Common.{ℕ, List, sym, subst, ◌≡◌}
use Rattle.std.specs.Prelude.{IfOk}
use Rattle.std.proofs.lemmas.Result.{IfOk-weaker}
use Rattle.dcv_io.proofs.Putting.{text_taken}
use Rattle.dcv_lustre.specs.Layout.{text_of}
use Rattle.dcv_lustre.specs.Placed.{PlacedNode, node_of}
use Rattle.dcv_lustre.specs.Actions.{Spells}
use Rattle.dcv_lustre.proofs.layout.text.Goals as goal
use Rattle.dcv_lustre.proofs.layout.text.Goals.{After-finish}

module _ (c : After-finish) where
  pub taken : IfOk c.finish.result (λ text. text.items ≡ text_of c.args.node.now)
  taken =
      text_taken _ _ c.put.new.target.bytes c.put.new.target.failed c.finish.result _ c.new-text.ensures.bytes c.new-text.ensures.failed c.put.ensures
      c.finish.ensures.failed c.finish.ensures.all

pub returns-clause-layout : goal.returns-clause-layout
returns-clause-layout c = taken c

pub returns-clause-spelled : goal.returns-clause-spelled
returns-clause-spelled c =
    let node = c.args.node.now in
    IfOk-weaker c.finish.result _ _
    (λ text is. subst (λ (bytes : List ℕ). (placed : PlacedNode) × Spells bytes placed × (node_of placed ≡ node)) (sym is) (c.texts_spell_nodes.ensures.text node c.keeps_the_rules.ensures.form))
    (taken c)
