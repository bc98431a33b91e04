use Rattle.std.proofs.Common.{◌≡◌, false, get_or, subst, sym, ap, ◌∙◌}
use Rattle.dcv_refinement.specs.SparseSet.{has, is_at}
use Rattle.dcv_refinement.proofs.SetFacts.{absent}
use Rattle.dcv_refinement.proofs.sparse_set.SparseSet.place_of.Goals as goal

pub returns-else-stands : goal.returns-else-stands
returns-else-stands c =
    let numbers = c.self.inside.numbers.items in
    let places = c.self.inside.places.items in
    let noted = c.noted-place.ensures ∙ ap (λ list. get_or list c.args.number 0) c.deref.ensures.value in
    let other : is_at numbers (get_or places c.args.number 0) c.args.number ≡ false =
    ap (λ place. is_at numbers place c.args.number) (sym noted) ∙ ap (λ list. is_at list c.noted-place.result c.args.number) (sym c.deref-2.ensures.value) ∙ sym c.if-stands.ensures in
    subst (λ list. has list c.args.number ≡ false) c.self.view_is (absent numbers places c.self.invariant.0 c.args.number other)
