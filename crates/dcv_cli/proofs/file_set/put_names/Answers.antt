use Rattle.dcv_cli.proofs.Common.{◌∷◌, ap, ◌∙◌, List, ℕ, arith, puts_same}
use Rattle.std.proofs.lemmas.Grind.{common_steps}
use Rattle.dcv_io.proofs.Putting.{puts_nothing, puts_one_more}
use Rattle.dcv_cli.proofs.SetTexts.{names_spaced}
use Rattle.dcv_cli.proofs.file_set.put_names.Goals as goal

pub loop-name-init : goal.loop-name-init
loop-name-init g c = puts_nothing _

pub loop-name-preserved : goal.loop-name-preserved
loop-name-preserved g c =
    puts_one_more (λ (name : List ℕ). 32 ∷ name) c.args.names.now c.loop-name.name-index c.name-item.result _ _ _ c.loop-name-test.true c.loop-name.invariant
    (puts_same _ _ _ _ c.put_name.ensures (ap (λ (text : List ℕ). 32 ∷ text) c.as_bytes.ensures ∙ ap (λ (name : List ℕ). 32 ∷ name) c.name-item.is))

pub returns : goal.returns
returns g c = puts_same _ _ _ _ c.loop-name.invariant (names_spaced c.args.names.now c.loop-name.name-index (grind (arith, common_steps)) (grind (arith, common_steps)))
