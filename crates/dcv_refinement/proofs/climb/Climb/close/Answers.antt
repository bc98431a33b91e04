use Rattle.std.proofs.Common.{◌≡◌, ℕ, ◌<◌, List, length, Some, get_or, inl, inr, sym, ap, subst, ◌∙◌, arith}
use Rattle.std.proofs.lemmas.Bool.{cases_lt}
use Rattle.std.proofs.lemmas.Option.{slice_get-get_or}
use Rattle.dcv_arena.specs.declared.nodes.Ref.TheVariants.{Place}
use Rattle.dcv_refinement.specs.Leads.{index_of, LeadsInto}
use Rattle.dcv_refinement.specs.Index.{IsFollowed}
use Rattle.dcv_refinement.proofs.WayFacts.{few_marked}
use Rattle.dcv_refinement.proofs.MarkFacts.{followed_on, grows_in_turn, at_of_contains, stood_before}
use Rattle.dcv_refinement.proofs.climb.Climb.close.Goals as goal

pub places-smaller : goal.places-smaller
places-smaller c =
    let few = few_marked c.args.self.now.arena.now c.args.self.now.refs.now c.args.self.now.nodes.now c.args.self.now.rows.now c.requires.index c.args.self.now.leaves.now c.places.found.nodes c.places.found.rows.items c.places.invariant.marked in
    omega (arith, few, c.len.ensures)

pub follow-requires-clause-met : goal.follow-requires-clause-met
follow-requires-clause-met c =
    let index = index_of c.args.self.now.arena.now c.args.self.now.refs.now in
    let leaves = c.args.self.now.leaves.now in
    let keys = c.places.found.nodes in
    let count : c.places.next < length keys = omega (arith, c.len.ensures, c.places-test.true) in
    subst (λ (keys : List ℕ). LeadsInto index leaves (Place (get_or keys c.places.next 0))) (sym c.as_slice.ensures) (c.places.invariant.marked.nodes c.places.next 0 count)

pub places-preserved : goal.places-preserved
places-preserved c =
    let nodes = c.args.self.now.nodes.now in
    let rows = c.args.self.now.rows.now in
    let was = c.places.invariant in
    let all = c.in_ok-follow.ensures in
    let old = c.places.found in
    let new = c.follow.new.found in
    let count : c.places.next < length old.nodes = omega (arith, c.len.ensures, c.places-test.true) in
    let keys = c.as_slice.ensures in
    let here = subst (λ (keys : List ℕ). IsFollowed nodes rows (Place (get_or keys c.places.next 0)) new.nodes new.rows.items) keys all.followed in
    record {
      marked = all.marked;
      grows = grows_in_turn c.args.found.now.nodes c.args.found.now.rows.items old.nodes old.rows.items new.nodes new.rows.items was.grows all.grows;
      followed = λ at place within there. elim (cases_lt at c.places.next) [
        | inl before ↦
            let stood = stood_before old.nodes new.nodes all.grows.stay at place (omega arith) there in
            let at_old = slice_get-get_or old.nodes at 0 (omega arith) ∙ ap Some stood in
            followed_on nodes rows (Place place) old.nodes old.rows.items new.nodes new.rows.items all.grows (was.followed at place before at_old)
        | inr behind ↦
            let same : at ≡ c.places.next = omega arith in
            let stood = stood_before old.nodes new.nodes all.grows.stay at place (omega arith) there in
            let this : get_or old.nodes c.places.next 0 ≡ place = ap (λ at. get_or old.nodes at 0) (sym same) ∙ stood in
            subst (λ place. IsFollowed nodes rows (Place place) new.nodes new.rows.items) this here
      ];
    }

pub returns-clause-followed : goal.returns-clause-followed
returns-clause-followed c place there =
    c.places.invariant.followed there.0 place (omega (arith, there.1, c.places-test.false, c.len.ensures)) (at_of_contains c.places.found.nodes place there)
