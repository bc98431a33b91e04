use Rattle.std.proofs.Common.{[], ◌∷◌, ◌++◌, take, get_or, sym, subst, ap, ◌∙◌}
use Rattle.std.proofs.lemmas.List.{take_more}
use Rattle.indexmap.specs.IndexSet.{insert_key}
use Rattle.dcv_arena.specs.declared.nodes.Ref.TheVariants.{Leaf}
use Rattle.dcv_arena.specs.contracts.nodes.RefPartialEq.TheImpl.{eq-value as ref_eq}
use Rattle.dcv_build.specs.Bounds.{AreSplit}
use Rattle.dcv_build.proofs.RowParts.{sides_of_one_more}
use Rattle.dcv_build.proofs.bounds.split_all.Goals as goal

pub loop-part-preserved : goal.loop-part-preserved
loop-part-preserved c =
    let arena = c.args.arena.now in
    let slot = c.args.slot in
    let parts = c.args.parts.now in
    let at = c.loop-part.part-index in
    let part = get_or parts at (Leaf 0) in
    let new = c.insert-in-loop-part.new.self.keys in
    let split = c.split-lo.ensures in
    let sides = c.split-lo.result in
    let keys = c.in_ok-insert-2.ensures.keys ∙ ap (λ keys. insert_key ref_eq.it keys sides.1) c.in_ok-insert.ensures.keys in
    let more = sides_of_one_more arena slot (take at parts) c.loop-part.sides.keys part sides.0 sides.1 c.loop-part.invariant.split
    split.lo_is_ref split.hi_is_ref (split.lo_level c.requires.slot) (split.hi_level c.requires.slot) split.value in
    record {
      split = subst (λ taken. AreSplit arena slot taken new) (sym (take_more parts at (Leaf 0) c.loop-part-test.true))
          (subst (AreSplit arena slot (take at parts ++ part ∷ [])) (sym keys) more);
    }
