use Rattle.std.proofs.Common.{ℕ, List, Bool, Option, ◌++◌}
use Rattle.dcv_lexer.specs.Cuts.{Token}
use Rattle.dcv_observer.specs.Conditions.{Names}
use Rattle.dcv_lustre.specs.Seen.{seen_kind}
use Rattle.dcv_lustre.specs.Tree.{Node}
use Rattle.dcv_lustre.specs.Meaning.{names_of}
use Rattle.dcv_observer.proofs.Judging.{kept, first_fault, leads_on}
use Rattle.dcv_lustre_read.proofs.RightSides.{chosen_left, chosen_is}
use Rattle.dcv_lustre_read.proofs.scope.Scope.right.Goals as goal

pub returns-in_err-arms-in-Chosen : goal.returns-in_err-arms-in-Chosen
returns-in_err-arms-in-Chosen c = λ (node : Node) (earlier : Names) knows (whole : Option ℕ) (words : List Token) (keeps : List Bool) left.
    leads_on whole _ c.from_residual-in_err-arms-in-Chosen.result c.in_err-arms-in-Chosen.field-0.0 c.from_residual-in_err-arms-in-Chosen.ensures.1
    (c.in_err-arms-in-Chosen.ensures node earlier knows whole _ _
    (chosen_left node (node.inputs ++ earlier)
    (seen_kind c.args.kind) whole words keeps c.args.right.now c.in-Chosen.arms c.in-Chosen.otherwise c.deref.result.now c.in-Chosen.is c.deref.ensures.value left))

pub returns-in_err-item-in-Chosen : goal.returns-in_err-item-in-Chosen
returns-in_err-item-in-Chosen c = λ (node : Node) (earlier : Names) knows (whole : Option ℕ) (words : List Token) (keeps : List Bool) left.
    let behind = c.in_ok-arms-in-Chosen.ensures node earlier knows whole _ _
    (chosen_left node (node.inputs ++ earlier)
    (seen_kind c.args.kind) whole words keeps c.args.right.now c.in-Chosen.arms c.in-Chosen.otherwise c.deref.result.now c.in-Chosen.is c.deref.ensures.value left) in
    leads_on whole _ c.from_residual-in_err-item-in-Chosen.result c.in_err-item-in-Chosen.field-0.0 c.from_residual-in_err-item-in-Chosen.ensures.1
    (first_fault c.in_err-item-in-Chosen.field-0.0 (c.in_err-item-in-Chosen.ensures node earlier knows) behind.1)

pub returns-in_ok-item-in-Chosen : goal.returns-in_ok-item-in-Chosen
returns-in_ok-item-in-Chosen c = λ (node : Node) (earlier : Names) knows (whole : Option ℕ) (words : List Token) (keeps : List Bool) left.
    let behind = c.in_ok-arms-in-Chosen.ensures node earlier knows whole _ _
    (chosen_left node (node.inputs ++ earlier)
    (seen_kind c.args.kind) whole words keeps c.args.right.now c.in-Chosen.arms c.in-Chosen.otherwise c.deref.result.now c.in-Chosen.is c.deref.ensures.value left) in
    let item = c.in_ok-item-in-Chosen.ensures node earlier knows in (
      chosen_is (names_of node) c.args.right.now c.in-Chosen.arms c.in-Chosen.otherwise c.deref.result.now c.in-Chosen.is c.deref.ensures.value
          c.in_ok-arms-in-Chosen.arms.items c.in_ok-item-in-Chosen.field-0 behind.0 item.1,
      kept item.0 behind.1,
    )
