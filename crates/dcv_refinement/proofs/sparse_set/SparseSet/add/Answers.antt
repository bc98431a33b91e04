use Rattle.std.proofs.Common.{sym, ap, subst, ◌∙◌, ◌≡◌, length, ◌++◌, ◌∷◌, [], slice_get, false, set, eqb, arith}
use Rattle.std.specs.List.{IsDistinct}
use Rattle.dcv_refinement.specs.SparseSet.{has, StandAt}
use Rattle.dcv_refinement.proofs.SetFacts.{stand_more, once_more, last_is}
use Rattle.dcv_refinement.proofs.sparse_set.SparseSet.add.Goals as goal

pub invariant_of-self-2 : goal.invariant_of-self-2
invariant_of-self-2 c =
    let numbers = c.self.inside.numbers.items in
    let new : has numbers c.args.number ≡ false = subst (λ list. has list c.args.number ≡ false) (sym c.self.view_is) c.requires in
    let stored : length numbers ≡ c.in_ok-stored.stored = omega (arith, c.in_ok-stored.ensures, c.len-place.ensures) in
    let stand = stand_more numbers c.self.inside.places.items c.reach.new.places.items c.args.number c.self.invariant.0 new c.in_ok-reach.ensures.same c.in_ok-reach.ensures.room in
    let more = numbers ++ c.args.number ∷ [] in
    subst (λ list. StandAt list (set c.reach.new.places.items c.args.number c.in_ok-stored.stored) × IsDistinct eqb list) (sym c.in_ok-push.ensures.items)
    (subst (λ last. StandAt more (set c.reach.new.places.items c.args.number last)) stored stand, once_more numbers c.args.number c.self.invariant.1 new)

pub returns-clause-place : goal.returns-clause-place
returns-clause-place c =
    let numbers = c.self.inside.numbers.items in
    let place : c.len-place.result ≡ length numbers = omega (arith, c.len-place.ensures) in
    ap (λ list. slice_get list c.len-place.result) c.in_ok-push.ensures.items ∙ ap (λ place. slice_get (numbers ++ c.args.number ∷ []) place) place ∙ last_is numbers c.args.number

pub returns-clause-once : goal.returns-clause-once
returns-clause-once c =
    let new = subst (λ list. has list c.args.number ≡ false) (sym c.self.view_is) c.requires in
    subst (IsDistinct eqb) (sym c.in_ok-push.ensures.items) (once_more c.self.inside.numbers.items c.args.number c.self.invariant.1 new)
