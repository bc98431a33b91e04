use Rattle.std.proofs.Common.{Some, get_or, subst, ap, sym, ◌∙◌}
use Rattle.std.proofs.lemmas.Option.{slice_get-get_or}
use Rattle.dcv_arena.specs.Arena.{ArenaValue, IsArena}
use Rattle.dcv_arena.proofs.nodes.Arena.node_at.Goals as goal

pub returns-clause-node : goal.returns-clause-node
returns-clause-node c =
    let arena = subst IsArena c.self.view_is c.self.invariant in
    let keys = c.as_slice.ensures.keys ∙ ap (λ (arena : ArenaValue). arena.nodes) c.self.view_is in
    let seen = c.index-as_slice-place.result in
    arena.reduced.nodes c.args.place _
    (slice_get-get_or c.args.self.now.nodes c.args.place seen c.requires
    ∙ ap (λ nodes. Some (get_or nodes c.args.place seen)) (sym keys)
    ∙ ap Some (sym (c.node.ensures ∙ c.index-as_slice-place.is)))
