use Rattle.std.proofs.Common.{◌∷◌, ap, ◌∙◌, List, ℕ, arith}
use Rattle.std.proofs.lemmas.Grind.{common_steps}
use Rattle.dcv_syntax.specs.declared.names.Name.{Name}
use Rattle.dcv_print.proofs.Spellings.{names_spaced}
use Rattle.dcv_io.proofs.Putting.{puts_one_more, puts_nothing, puts_same}
use Rattle.dcv_print.proofs.automaton_lines.put_names.Goals as goal

pub loop-name-init : goal.loop-name-init
loop-name-init g c = puts_nothing _

pub loop-name-preserved : goal.loop-name-preserved
loop-name-preserved g c =
    puts_one_more (λ (name : Name). 32 ∷ name.text) c.args.names.now c.loop-name.name-index c.name-item.result _ _ _ c.loop-name-test.true c.loop-name.invariant
    (puts_same _ _ _ _ c.put_name.ensures (ap (λ (text : List ℕ). 32 ∷ text) c.as_bytes.ensures ∙ ap (λ (name : Name). 32 ∷ name.text) c.name-item.is))

pub returns : goal.returns
returns g c = puts_same _ _ _ _ c.loop-name.invariant (names_spaced c.args.names.now c.loop-name.name-index (grind (arith, common_steps)) (grind (arith, common_steps)))
