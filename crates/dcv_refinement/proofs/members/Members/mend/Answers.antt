use Rattle.std.proofs.Common.{◌≡◌, ℕ, ◌<◌, List, Vec, Global, length, map, filter, set, sym, ap, subst, ◌∙◌, arith}
use Rattle.dcv_refinement.specs.NumberLists.{list_at}
use Rattle.dcv_refinement.specs.Members.{list_of, is_in, IsMended}
use Rattle.dcv_refinement.proofs.MemberFacts.{list_is, seen, mended}
use Rattle.dcv_refinement.proofs.members.Members.mend.Goals as goal

pub returns : goal.returns
returns c =
    let block = c.args.block in
    let blocks = c.args.blocks.now in
    let old = c.self.inside.lists in
    let own = c.keep.new.list in
    let within : block < length old.items = omega (arith, c.if-block-len.false, c.len.ensures, old.ok.0) in
    let was : list_of c.args.self.now ≡ list_at old.items = ap list_of (sym c.self.view_is) ∙ seen old.items in
    let kept : own.items ≡ filter (is_in blocks block) (list_at old.items block) =
    c.keep.ensures ∙ ap (filter (is_in blocks block)) (list_is old.items block c.index_mut.result.now within c.index_mut.ensures.value) in
    subst (λ (before : ℕ → List ℕ). IsMended blocks block before (list_of (map (λ (list : Vec ℕ Global). list.items) (set old.items block own)))) (sym was)
    (subst (λ (after : ℕ → List ℕ). IsMended blocks block (list_at old.items) after) (sym (seen (set old.items block own)))
    (mended blocks block old.items own within kept))
