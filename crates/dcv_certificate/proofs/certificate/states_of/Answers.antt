use Rattle.std.proofs.Common.{◌<◌, Bool, false, List, [], ◌∷◌, ◌++◌, length, take, sym, ap, ◌∙◌, arith}
use Rattle.std.proofs.lemmas.List.{take_more}
use Rattle.std.proofs.lemmas.Option.{get_or_from_slice_get}
use Rattle.dcv_arena.specs.declared.nodes.Ref.{Ref}
use Rattle.dcv_arena.specs.declared.nodes.Ref.TheVariants.{Leaf}
use Rattle.dcv_certificate.proofs.certificate.states_of.Goals as goal

pub loop-state-preserved : goal.loop-state-preserved
loop-state-preserved c =
    let raw = c.args.auto.now in
    let state = c.loop-state.state in
    let was = c.loop-state.invariant in
    let below : state < length raw.rows = omega (arith, c.loop-state-test.true, c.states-state-end.ensures.states) in
    let flag : state < length raw.accepting = omega (arith, below, c.states-state-end.ensures.raw.flags) in
    record {
      rows = c.in_ok-push.ensures.items ∙ ap (λ (rows : List Ref). rows ++ c.row.result ∷ []) was.rows
          ∙ sym (take_more raw.rows state (Leaf 0) below ∙ ap (λ row. take state raw.rows ++ row ∷ []) (get_or_from_slice_get raw.rows state c.row.result (Leaf 0) c.row.ensures.row));
      flags = c.in_ok-push-2.ensures.items ∙ ap (λ (flags : List Bool). flags ++ c.accepting.result ∷ []) was.flags
          ∙ sym (take_more raw.accepting state false flag ∙ ap (λ flag. take state raw.accepting ++ flag ∷ []) (sym c.accepting.ensures));
    }
