use Rattle.std.proofs.Common.{◌≡◌, ℕ, subst}
use Rattle.std.specs.Prelude.{◌≢◌}
use Rattle.dcv_lexer.specs.Lexicon.{lexicon_of}
use Rattle.dcv_observer.specs.declared.fault.ObsFault.TheVariants.{Syntax, Memory}
use Rattle.dcv_observer.specs.Items.{IsSyntaxFault}
use Rattle.dcv_observer.specs.Scheme.{written, over, StandsFor}
use Rattle.dcv_observer.proofs.Within.{handed_on}
use Rattle.dcv_lustre.specs.Classes.{lexicon}
use Rattle.dcv_lustre.specs.Language.{language}
use Rattle.dcv_lustre.specs.Actions.{scheme}
use Rattle.dcv_lustre_read.specs.Symbols.{seen_part}
use Rattle.dcv_lustre_read.proofs.Translated.{node_spelled, node_in}
use Rattle.dcv_lustre_read.proofs.reading.placed_node.Goals as goal

pub unreachable-requires : goal.unreachable-requires
unreachable-requires c =
    let part = seen_part c.in_ok-placed.field-0 in
    let stands = subst (λ lexicon. StandsFor (written lexicon (over scheme)) c.args.text.now part) c.written.ensures.lexicon c.in_ok-placed.ensures.part in
    let (placed, is, spelled) = node_spelled c.args.text.now part stands in
    node_in c.in_ok-placed.field-0 placed is c.in_default.not-Node

pub returns-in_err-placed-clause-fault : goal.returns-in_err-placed-clause-fault
returns-in_err-placed-clause-fault c =
    handed_on (λ lexicon fault. fault ≢ Memory → (at : ℕ) × (fault ≡ Syntax at) × IsSyntaxFault lexicon language c.args.text.now at)
    (lexicon_of c.written.result.now) lexicon c.written.ensures.lexicon c.in_err-placed.field-0.0 c.from_residual.result c.in_err-placed.ensures.fault c.from_residual.ensures.1
