use Rattle.std.proofs.Common.{◌≡◌, true, map, ◌∷◌, [], None, ap, sym, ◌∙◌}
use Rattle.dcv_observer.specs.Left.{seen}
use Rattle.dcv_observer.proofs.Judging.{kept, broken, leads_on, fault_is}
use Rattle.dcv_lustre.specs.Placed.{equation_of}
use Rattle.dcv_lustre.specs.Rules.{has_all_equations}
use Rattle.dcv_lustre.specs.Seen.{seen_node as node_seen}
use Rattle.dcv_lustre_read.specs.Seen.{seen_node, seen_equation}
use Rattle.dcv_lustre_read.proofs.Named.{node_is, is_node}
use Rattle.dcv_lustre_read.proofs.Declared.{node_at, whole_at, at_equations, at_tel}
use Rattle.dcv_lustre_read.proofs.scope.Scope.node.Goals as goal
use Rattle.dcv_lustre_read.proofs.scope.Scope.node.Goals.{After-has_all_equations}

pub returns-in_err-equations : goal.returns-in_err-equations
returns-in_err-equations c =
    let placed = c.args.placed.now in
    let declared = c.in_ok-declared.ensures in
    leads_on (whole_at placed) _ c.from_residual-in_err-equations.result c.in_err-equations.field-0.0 c.from_residual-in_err-equations.ensures.1
    (c.in_err-equations.ensures (node_at placed) declared.knows (whole_at placed) (seen placed.tel ∷ []) (has_all_equations (node_at placed) ∷ [])
    (at_equations placed c.deref.ensures.value declared.left))

pub returns-then-not-has_all_equations : goal.returns-then-not-has_all_equations
returns-then-not-has_all_equations c =
    let placed = c.args.placed.now in
    let node = node_at placed in
    let declared = c.in_ok-declared.ensures in
    let equations = c.in_ok-equations.ensures node declared.knows (whole_at placed) (seen placed.tel ∷ []) (has_all_equations node ∷ []) (at_equations placed c.deref.ensures.value declared.left) in
    let all = c.has_all_equations.ensures node (at_tel placed c.deref.ensures.value equations.1) in
    fault_is c.broken.ensures (broken (sym all ∙ c.if-not-has_all_equations.true) equations.2)

-- where each name has its equation
module _ (c : After-has_all_equations) (has_all : c.has_all_equations.result ≡ true) where
  whole : (node_seen c.in_ok-name.name c.in_ok-declared.declared.0.items c.in_ok-declared.declared.1.items c.in_ok-equations.equations.items ≡ node_at c.args.placed.now)
      × (whole_at c.args.placed.now ≡ None)
  whole =
      let placed = c.args.placed.now in
      let node = node_at placed in
      let declared = c.in_ok-declared.ensures in
      let equations = c.in_ok-equations.ensures node declared.knows (whole_at placed) (seen placed.tel ∷ []) (has_all_equations node ∷ []) (at_equations placed c.deref.ensures.value declared.left) in
      let all = c.has_all_equations.ensures node (at_tel placed c.deref.ensures.value equations.1) in (
        node_is (seen_node placed) c.in_ok-name.name c.in_ok-declared.declared.0.items c.in_ok-declared.declared.1.items c.in_ok-equations.equations.items c.in_ok-name.ensures
            declared.inputs_are declared.locals_are (equations.0 ∙ ap (λ items. map equation_of (map seen_equation items)) c.deref.ensures.value),
        sym (kept (sym all ∙ has_all) equations.2).first,
      )

pub new-requires : goal.new-requires
new-requires c =
    let here = whole (goal.at.new-requires c).After-has_all_equations c.if-not-has_all_equations.false in
    is_node (seen_node c.args.placed.now) c.in_ok-name.name c.in_ok-declared.declared.0.items c.in_ok-declared.declared.1.items c.in_ok-equations.equations.items c.requires.words here.1 here.0

pub returns : goal.returns
returns c = c.new.ensures ∙ (whole (goal.at.returns c).After-has_all_equations c.if-not-has_all_equations.false).0
