use Rattle.std.proofs.Common.{ap, arith}
use Rattle.std.proofs.lemmas.Grind.{common_steps}
use Rattle.dcv_io.proofs.Putting.{puts_one_more, puts_nothing, puts_same}
use Rattle.dcv_observer.proofs.Listing.{all_seen}
use Rattle.dcv_lustre.specs.declared.node.Equation.{Equation as CodeEquation}
use Rattle.dcv_lustre.specs.Tree.{Equation}
use Rattle.dcv_lustre.specs.Seen.{seen_equation}
use Rattle.dcv_lustre.specs.Layout.{text_in, equation_line}
use Rattle.dcv_lustre.proofs.layout.put_equations.Goals as goal

pub loop-equation-init : goal.loop-equation-init
loop-equation-init g c = puts_nothing _

pub loop-equation-preserved : goal.loop-equation-preserved
loop-equation-preserved g c =
    puts_one_more (λ (equation : CodeEquation). text_in (equation_line (seen_equation c.args.names.now equation))) c.args.equations.now c.loop-equation.equation-index c.equation-item.result
    _ _ _ c.loop-equation-test.true c.loop-equation.invariant
    (puts_same _ _ _ _ c.put_equation.ensures (ap (λ (equation : CodeEquation). text_in (equation_line (seen_equation c.args.names.now equation))) c.equation-item.is))

pub returns : goal.returns
returns g c =
    puts_same _ _ _ _ c.loop-equation.invariant (all_seen (λ (equation : Equation). text_in (equation_line equation)) (seen_equation c.args.names.now) c.args.equations.now c.loop-equation.equation-index (grind (arith, common_steps)))
