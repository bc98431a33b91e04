use Rattle.std.proofs.Common.{ℕ, List, Bool, Option}
use Rattle.dcv_lexer.specs.Cuts.{Token}
use Rattle.dcv_observer.specs.Conditions.{Names}
use Rattle.dcv_c_read.specs.Seen.{seen_assignment}
use Rattle.dcv_c_read.specs.Scope.{Frame}
use Rattle.dcv_observer.proofs.Judging.{kept}
use Rattle.dcv_c_read.proofs.Known.{marked_then}
use Rattle.dcv_c_read.proofs.Loops.{named_with}
use Rattle.dcv_c_read.proofs.scope.Scope.assignment.Goals as goal

pub returns : goal.returns
returns c = λ (frame : Frame) knows (whole : Option ℕ) (words : List Token) (keeps : List Bool) left.
    let name = (seen_assignment c.args.assignment.now).name.bytes in
    let found = c.in_ok-name.ensures frame knows in (
      λ (more : Names) i. record { name = named_with frame.placed more name c.in_ok-name.name found.1 i; number = c.number_at.ensures i },
      marked_then frame _ _ _ knows name c.in_ok-name.name found.1 c.mark.ensures.functions c.mark.ensures.declared c.mark.ensures.names,
      kept found.0 left,
    )
