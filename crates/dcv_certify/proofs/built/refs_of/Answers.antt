use Rattle.std.proofs.Common.{◌+◌, ◌∙◌, false, if◌then◌else◌, get_or, sym, ap, subst}
use Rattle.dcv_arena.specs.Arena.{value_of}
use Rattle.dcv_certify.specs.Built.{ref_at, some_node, AreRefsOf}
use Rattle.dcv_certify.proofs.Building.{more_refs}
use Rattle.dcv_certify.proofs.built.refs_of.Goals as goal

pub loop-node-preserved : goal.loop-node-preserved
loop-node-preserved c =
    let nodes = c.args.nodes.now in
    let old = c.loop-node.arena in
    let node = get_or nodes c.loop-node.node-index some_node in
    let lo = c.ref_of-lo.ensures ∙ ap (λ refs. ref_at refs node.lo) c.deref.ensures.value in
    let hi = c.ref_of-hi.ensures ∙ ap (λ refs. ref_at refs node.hi) c.deref-in-loop-node.ensures.value in
    subst (AreRefsOf c.args.slots nodes (c.loop-node.node-index + 1) c.node.new.self) (sym c.in_ok-push.ensures.items)
    (more_refs c.args.slots nodes c.requires c.loop-node.node-index old c.node.new.self c.loop-node.refs.items c.in_ok-node.field-0 c.loop-node-test.true c.loop-node.invariant c.node.ensures.kept
    c.node.ensures.arena c.in_ok-node.ensures.is_ref c.in_ok-node.ensures.level
    (λ letter. c.in_ok-node.ensures.value letter ∙ (λ i. if get_or letter node.slot false then value_of old (hi i) letter else value_of old (lo i) letter)))
