use Rattle.std.proofs.Common.{ℕ, List, Bool, Option}
use Rattle.dcv_lexer.specs.Cuts.{Token}
use Rattle.dcv_c.specs.Tree.{Assign}
use Rattle.dcv_c_read.specs.Scope.{Frame}
use Rattle.dcv_observer.proofs.Judging.{kept, leads_on}
use Rattle.dcv_c_read.proofs.Known.{marked_then}
use Rattle.dcv_c_read.proofs.scope.Scope.assign.Goals as goal

pub returns-in_err-right : goal.returns-in_err-right
returns-in_err-right c = λ (frame : Frame) knows (whole : Option ℕ) (words : List Token) (keeps : List Bool) left.
    leads_on whole _ c.from_residual-in_err-right.result c.in_err-right.field-0.0 c.from_residual-in_err-right.ensures.1
    (c.in_err-right.ensures frame knows whole words keeps (kept (c.in_ok-place.ensures frame knows).0 left))

pub returns : goal.returns
returns c = λ (frame : Frame) knows (whole : Option ℕ) (words : List Token) (keeps : List Bool) left.
    let name = c.args.left.now.bytes.now in
    let found = c.in_ok-place.ensures frame knows in
    let behind = c.in_ok-right.ensures frame knows whole words keeps (kept found.0 left) in (
      λ i. Assign (found.1.is i) (behind.0 i),
      marked_then frame _ _ _ knows name c.in_ok-place.place found.1 c.mark.ensures.functions c.mark.ensures.declared c.mark.ensures.names,
      behind.1,
    )
