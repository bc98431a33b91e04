use Rattle.std.proofs.Common.{ℕ, List, Bool, Option, map, ◌++◌, sym, subst}
use Rattle.dcv_lexer.specs.Cuts.{Token}
use Rattle.dcv_observer.specs.Conditions.{Names}
use Rattle.dcv_lustre.specs.Tree.{Kind, Node}
use Rattle.dcv_lustre.specs.Placed.{right_of}
use Rattle.dcv_lustre.specs.Rules.{words_of_right, keeps_right}
use Rattle.dcv_lustre_read.specs.Seen.{seen_equation}
use Rattle.dcv_lustre_read.specs.Scope.{seen_row}
use Rattle.dcv_observer.specs.Judged.{IsLeft}
use Rattle.dcv_observer.proofs.Judging.{kept, leads_on}
use Rattle.dcv_lustre_read.proofs.Lefts.{marked_then}
use Rattle.dcv_lustre_read.proofs.scope.Scope.equation.Goals as goal

pub returns-in_err-right : goal.returns-in_err-right
returns-in_err-right c = λ (node : Node) (earlier : Names) knows (whole : Option ℕ) (words : List Token) (keeps : List Bool) left.
    let placed = seen_equation c.args.equation.now in
    let first = c.in_ok-left.ensures node earlier knows in
    leads_on whole _ c.from_residual-in_err-right.result c.in_err-right.field-0.0 c.from_residual-in_err-right.ensures.1
    (c.in_err-right.ensures node earlier knows whole words keeps
    (subst (λ (k : Kind). IsLeft whole (words_of_right placed.right ++ words) (keeps_right node (node.inputs ++ earlier) k (right_of placed.right) ++ keeps)) (sym first.1.kind) (kept first.0 left)))

pub returns : goal.returns
returns c = λ (node : Node) (earlier : Names) knows (whole : Option ℕ) (words : List Token) (keeps : List Bool) left.
    let placed = seen_equation c.args.equation.now in
    let first = c.in_ok-left.ensures node earlier knows in
    let behind = c.in_ok-right.ensures node earlier knows whole words keeps
    (subst (λ (k : Kind). IsLeft whole (words_of_right placed.right ++ words) (keeps_right node (node.inputs ++ earlier) k (right_of placed.right) ++ keeps))
    (sym first.1.kind) (kept first.0 left)) in (
      λ i. record { left = first.1.is i; right = behind.0 i },
      marked_then node earlier placed.left.bytes c.args.self.now.declared (map seen_row c.args.self.now.names.items)
          (seen_row c.in_ok-left.left) knows first.1 c.mark.ensures.declared c.mark.ensures.names,
      behind.1,
    )
