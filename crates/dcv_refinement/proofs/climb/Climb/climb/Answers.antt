use Rattle.std.proofs.Common.{take, subst, arith}
use Rattle.std.specs.List.{All}
use Rattle.std.proofs.lemmas.List.{take_all}
use Rattle.std.proofs.lemmas.List.Elements.{All-more, All-weaker, All-contains}
use Rattle.dcv_arena.specs.declared.nodes.Ref.TheVariants.{Leaf}
use Rattle.dcv_refinement.specs.Leads.{index_of}
use Rattle.dcv_refinement.specs.Index.{IsFollowed}
use Rattle.dcv_refinement.proofs.MarkFacts.{followed_on}
use Rattle.dcv_refinement.proofs.WayFacts.{none_marked}
use Rattle.dcv_refinement.proofs.climb.Climb.climb.Goals as goal

pub loop-leaf-init : goal.loop-leaf-init
loop-leaf-init c = record {
  marked = none_marked (index_of c.args.self.now.arena.now c.args.self.now.refs.now) c.args.self.now.leaves.now c.clear.new.self c.clear-2.new.self.items c.clear.ensures c.clear-2.ensures.items;
  followed = λ k d inside. absurd (omega (arith, inside));
}

pub loop-leaf-preserved : goal.loop-leaf-preserved
loop-leaf-preserved c =
    let nodes = c.args.self.now.nodes.now in
    let rows = c.args.self.now.rows.now in
    let leaves = c.args.self.now.leaves.now in
    let was = c.loop-leaf.invariant in
    let all = c.in_ok-follow.ensures in
    let old = c.loop-leaf.found in
    let new = c.follow.new.found in
    record {
      marked = all.marked;
      followed = All-more (λ leaf. IsFollowed nodes rows (Leaf leaf) new.nodes new.rows.items) leaves c.loop-leaf.leaf-index 0 c.loop-leaf-test.true
          (All-weaker (λ leaf. IsFollowed nodes rows (Leaf leaf) old.nodes old.rows.items) (λ leaf. IsFollowed nodes rows (Leaf leaf) new.nodes new.rows.items)
          (λ leaf one. followed_on nodes rows (Leaf leaf) old.nodes old.rows.items new.nodes new.rows.items all.grows one) (take c.loop-leaf.leaf-index leaves) was.followed)
          all.followed;
    }

pub returns-clause-closed : goal.returns-clause-closed
returns-clause-closed c =
    let nodes = c.args.self.now.nodes.now in
    let rows = c.args.self.now.rows.now in
    let leaves = c.args.self.now.leaves.now in
    let all = c.in_ok-close.ensures in
    let old = c.loop-leaf.found in
    let new = c.close.new.found in
    let each = subst (All (λ leaf. IsFollowed nodes rows (Leaf leaf) old.nodes old.rows.items)) (take_all c.loop-leaf.leaf-index leaves c.loop-leaf-test.false) c.loop-leaf.invariant.followed in
    record {
      at_leaves = λ leaf there. followed_on nodes rows (Leaf leaf) old.nodes old.rows.items new.nodes new.rows.items all.grows
          (All-contains (λ leaf. IsFollowed nodes rows (Leaf leaf) old.nodes old.rows.items) leaves leaf each there);
      places = all.followed;
    }
