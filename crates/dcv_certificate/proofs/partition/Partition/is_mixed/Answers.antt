use Rattle.std.proofs.Common.{◌≡◌, ◌<◌, ℕ, Bool, true, false, not, length, take, get_or, refl, sym, subst, ◌∙◌, arith}
use Rattle.std.proofs.lemmas.Bool.{true≢false}
use Rattle.std.proofs.lemmas.List.{take_more, take_all, get_or_default}
use Rattle.dcv_arena.specs.declared.nodes.Ref.{Ref}
use Rattle.dcv_arena.specs.declared.nodes.Ref.TheVariants.{Leaf}
use Rattle.dcv_refinement.specs.Members.{block_of}
use Rattle.dcv_certificate.specs.Tallies.{IsTally, IsAdded, tallied, was_met}
use Rattle.dcv_certificate.proofs.Tallying.{tally_more, alike_in_full}
use Rattle.dcv_certificate.proofs.partition.Partition.is_mixed.Goals as goal

pub loop-state-preserved : goal.loop-state-preserved
loop-state-preserved c =
    let blocks = c.args.self.now.blocks.items in
    let marks = c.args.marks.now in
    let i = c.loop-state.state-index in
    let none : ℕ × Ref = (0, Leaf 0) in
    let m = get_or marks i none in
    let old = c.loop-state.tally in
    let new = c.add.new.self in
    let below : m.0 < length blocks = c.requires.states i none c.loop-state-test.true in
    let added : IsAdded (tallied old) (was_met old) m.0 (block_of blocks m.0) m.1 (tallied new) (was_met new) =
    subst (λ block. IsAdded (tallied old) (was_met old) m.0 block m.1 (tallied new) (was_met new)) (c.index.ensures ∙ get_or_default blocks m.0 c.index.result.now 0 below)
    (c.in_ok-add.ensures c.if-not-branch.false) in
    subst (IsTally (length blocks) blocks (tallied new) (was_met new)) (sym (take_more marks i none c.loop-state-test.true))
    (tally_more (length blocks) blocks (tallied old) (tallied new) (was_met old) (was_met new) (take i marks) m.0 m.1 c.loop-state.invariant added below)

full_is : (b : Bool) → not b ≡ false → b ≡ true
full_is true e = refl
full_is false e = absurd (true≢false e)

pub returns : goal.returns
returns c = λ unmixed.
    let self = c.args.self.now in
    let marks = c.args.marks.now in
    let tally = c.loop-state.tally in
    let all = take_all c.loop-state.state-index marks (omega arith) in
    alike_in_full self.blocks.items self.count self.sizes.items (tallied tally) (was_met tally) marks
    (subst (IsTally (length self.blocks.items) self.blocks.items (tallied tally) (was_met tally)) all c.loop-state.invariant)
    c.requires.sizes c.requires.numbers (c.are_full.ensures (full_is c.are_full.result unmixed))
