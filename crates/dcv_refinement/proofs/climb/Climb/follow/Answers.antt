use Rattle.std.proofs.Common.{◌≡◌, ℕ, ◌⊎◌, ◌++◌, List, sym, subst, ap, ◌∙◌}
use Rattle.std.specs.List.{All, Contains}
use Rattle.dcv_refinement.specs.Lists.{chain, listed_at}
use Rattle.dcv_refinement.specs.Leads.{index_of}
use Rattle.dcv_refinement.specs.Index.{IsFollowed, IsMarked}
use Rattle.dcv_refinement.specs.declared.lists.Entry.{Entry}
use Rattle.dcv_refinement.proofs.MarkFacts.{followed_after}
use Rattle.dcv_refinement.proofs.WayFacts.{marked_after}
use Rattle.dcv_refinement.proofs.climb.Climb.follow.Goals as goal
use Rattle.dcv_refinement.proofs.climb.Climb.follow.Goals.{In_ok-mark}

looked : (c : In_ok-mark) → c.look.new.looked.items ≡ c.args.found.now.rows.items ++ listed_at c.args.self.now.rows.now c.args.at
looked c = c.in_ok-look.ensures ∙ ap (λ (list : List Entry × ℕ). c.args.found.now.rows.items ++ chain list.0 list.1) (λ i. (c.deref.ensures.value i, c.last.ensures i))

above : (c : In_ok-mark) → chain c.deref-2.result.now c.last-2.result ≡ listed_at c.args.self.now.nodes.now c.args.at
above c = ap (λ (list : List Entry × ℕ). chain list.0 list.1) (λ i. (c.deref-2.ensures.value i, c.last-2.ensures i))

pub returns-clause-followed : goal.returns-clause-followed
returns-clause-followed c =
    let nodes = c.args.self.now.nodes.now in
    let rows = c.args.self.now.rows.now in
    let all = subst (All (Contains c.mark.new.marked)) (above c) c.in_ok-mark.ensures.all in
    subst (IsFollowed nodes rows c.args.at c.mark.new.marked) (sym (looked c)) (followed_after nodes rows c.args.at c.args.found.now.rows.items c.mark.new.marked all)

pub returns-clause-marked : goal.returns-clause-marked
returns-clause-marked c =
    let nodes = c.args.self.now.nodes.now in
    let rows = c.args.self.now.rows.now in
    let old = c.args.found.now.nodes in
    let new = c.mark.new.marked in
    let only = subst (λ places. (place : ℕ) → Contains new place → Contains old place ⊎ Contains places place) (above c) c.in_ok-mark.ensures.only in
    subst (IsMarked (index_of c.args.self.now.arena.now c.args.self.now.refs.now) c.args.self.now.leaves.now new) (sym (looked c))
    (marked_after c.args.self.now.arena.now c.args.self.now.refs.now nodes rows c.requires.index c.args.self.now.leaves.now c.args.at c.requires.met old c.args.found.now.rows.items new c.requires.marked only c.mark.ensures.once)
