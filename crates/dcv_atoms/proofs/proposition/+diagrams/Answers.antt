use Rattle.std.proofs.Common.{◌≡◌, ◌+◌, ℕ, List, [], map, drop, Err, refl, ap, sym, subst, ◌∙◌, arith}
use Rattle.std.proofs.lemmas.Result.{err_from_is_err_and}
use Rattle.std.specs.Result.{IfOk, OnOk}
use Rattle.dcv_core.specs.declared.truths.Truth.{Truth}
use Rattle.dcv_core.specs.Core.{PlainTruth, TruthNot, TruthJoined}
use Rattle.dcv_core.specs.Holds.{truth_holds}
use Rattle.dcv_core.specs.TruthViews.{plain_truth, truths_of}
use Rattle.dcv_core.proofs.TruthRows.{is_joined}
use Rattle.dcv_atoms.specs.Functions.{Means}
use Rattle.dcv_atoms.specs.declared.faults.AtomFault.TheVariants.{Nodes}
use Rattle.dcv_atoms.specs.Parts.{parts}
use Rattle.dcv_atoms.specs.Built.{Builds, Exceeds, OnTheWay}
use Rattle.dcv_atoms.proofs.FaultFacts.{same_fault}
use Rattle.dcv_atoms.proofs.ListSteps.{on_ok, if_ok, means_at, operand_exceeds, not_means, not_is, not_builds, not_exceeds, left_is, none_left}
use Rattle.dcv_atoms.proofs.ListSteps.{way_goes_on, way_exceeds, way_means, way_ends, way_ends_over}
use Rattle.dcv_atoms.proofs.proposition.+diagrams.Goals as goal

pub part-returns-in_err-root-in-Not-clause-exceeds : goal.part-returns-in_err-root-in-Not-clause-exceeds
part-returns-in_err-root-in-Not-clause-exceeds t c limit e =
    let p = err_from_is_err_and c.from_residual.result c.from_residual.ensures.1 in
    let more = c.part.ensures.exceeds limit (c.in_err-root-in-Not.was ∙ ap Err (same_fault _ _ _ (Nodes limit) p.1 p.2 e)) in
    let part = plain_truth c.deref.result.now in
    let same : TruthNot part ≡ plain_truth c.args.truth.now = ap (λ (truth : Truth). TruthNot (plain_truth truth)) c.deref.ensures ∙ sym (ap plain_truth c.in-Not.is) in
    subst (λ whole. Exceeds c.args.arena.now (parts whole) limit) same (operand_exceeds c.args.arena.now (parts part) (TruthNot part) limit refl more)

module _ (t : ℕ) (c : goal.part-After-opposite t) where
  abbrev operand : PlainTruth
  operand = plain_truth c.deref.result.now

  same_not : TruthNot operand ≡ plain_truth c.args.truth.now
  same_not = ap (λ (truth : Truth). TruthNot (plain_truth truth)) c.deref.ensures ∙ sym (ap plain_truth c.in-Not.is)

  operand_means : Means c.part.new.arena c.in_ok-root-in-Not.root c.part.new.arena.slots (truth_holds operand)
  operand_means =
      not_means c.args.arena.now c.part.new.arena c.in_ok-root-in-Not.root operand (plain_truth c.args.truth.now) same_not c.in_ok-root-in-Not.ensures.means c.in_ok-root-in-Not.ensures.builds

pub part-returns-in_ok-root-in-Not-clause-means : goal.part-returns-in_ok-root-in-Not-clause-means
part-returns-in_ok-root-in-Not-clause-means t c =
    let one = c.in_ok-root-in-Not.ensures in
    if_ok c.opposite.result (λ opposite means. not_is c.args.arena.now c.part.new.arena c.in_ok-root-in-Not.root (operand t c) (plain_truth c.args.truth.now) (same_not t c) one.means one.builds c.opposite.new.arena opposite means)
    (c.opposite.ensures.means (truth_holds (operand t c)) (operand_means t c))

pub part-returns-in_ok-root-in-Not-clause-builds : goal.part-returns-in_ok-root-in-Not-clause-builds
part-returns-in_ok-root-in-Not-clause-builds t c =
    let one = c.in_ok-root-in-Not.ensures in
    on_ok c.opposite.result (λ late. not_builds c.args.arena.now c.part.new.arena c.in_ok-root-in-Not.root (operand t c) (plain_truth c.args.truth.now) (same_not t c) one.means one.builds c.opposite.new.arena late)
    (c.opposite.ensures.builds (operand t c) (operand_means t c))

pub part-returns-in_ok-root-in-Not-clause-exceeds : goal.part-returns-in_ok-root-in-Not-clause-exceeds
part-returns-in_ok-root-in-Not-clause-exceeds t c limit e =
    let one = c.in_ok-root-in-Not.ensures in
    not_exceeds c.args.arena.now c.part.new.arena c.in_ok-root-in-Not.root (operand t c) (plain_truth c.args.truth.now) (same_not t c) one.means one.builds limit
    (c.opposite.ensures.exceeds limit (operand t c) e (operand_means t c))

-- ---- a list

module _ (t : ℕ) (c : goal.part-After-list t) where
  by_operands : (Holds : PlainTruth → Type 0) → Holds (TruthJoined c.in-Joined.connective (truths_of (map plain_truth c.deref-in-Joined.result.now))) → Holds (plain_truth c.args.truth.now)
  by_operands Holds = subst Holds (sym (is_joined _ _ c.in-Joined.is c.deref-in-Joined.ensures.value))

pub part-returns-in-Joined-clause-means : goal.part-returns-in-Joined-clause-means
part-returns-in-Joined-clause-means t c = by_operands t c (λ p. IfOk c.list.result (λ root. Means c.list.new.arena root c.args.arena.now.slots (truth_holds p))) c.list.ensures.means

pub part-returns-in-Joined-clause-builds : goal.part-returns-in-Joined-clause-builds
part-returns-in-Joined-clause-builds t c = by_operands t c (λ p. OnOk c.list.result (Builds c.args.arena.now c.list.new.arena (parts p))) c.list.ensures.builds

pub part-returns-in-Joined-clause-exceeds : goal.part-returns-in-Joined-clause-exceeds
part-returns-in-Joined-clause-exceeds t c limit e = by_operands t c (λ p. Exceeds c.args.arena.now (parts p) limit) (c.list.ensures.exceeds limit e)

-- ---- the operands of a list

pub list-returns-in_err-root-clause-exceeds : goal.list-returns-in_err-root-clause-exceeds
list-returns-in_err-root-clause-exceeds t c limit e =
    let p = err_from_is_err_and c.from_residual.result c.from_residual.ensures.1 in
    let more = c.part.ensures.exceeds limit (c.in_err-root.was ∙ ap Err (same_fault _ _ _ (Nodes limit) p.1 p.2 e)) in
    let operands = c.args.operands.now in
    let place = c.loop-operand.operand-index in
    let item = c.operand-item.result in
    let listed = map plain_truth operands in
    let old = c.args.arena.now in
    let here = c.loop-operand.arena in
    let all = c.loop-operand.all in
    let left = left_is operands place (place + 1) item c.loop-operand-test.true c.operand-item.is (omega arith) in
    let way = subst (λ (left : List PlainTruth). OnTheWay old here c.args.connective listed left all.arena all.root) left c.loop-operand.invariant in
    way_exceeds old here c.args.connective listed (map plain_truth (drop (place + 1) operands)) (plain_truth item) all.arena all.root limit way more

pub list-loop-operand-preserved : goal.list-loop-operand-preserved
list-loop-operand-preserved t c =
    let operands = c.args.operands.now in
    let place = c.loop-operand.operand-index in
    let item = c.operand-item.result in
    let listed = map plain_truth operands in
    let old = c.args.arena.now in
    let here = c.loop-operand.arena in
    let there = c.part.new.arena in
    let all = c.loop-operand.all in
    let next = c.in_ok-all.all in
    let one = c.in_ok-root.ensures in
    let left = left_is operands place (place + 1) item c.loop-operand-test.true c.operand-item.is (omega arith) in
    let way = subst (λ (left : List PlainTruth). OnTheWay old here c.args.connective listed left all.arena all.root) left c.loop-operand.invariant in
    way_goes_on old here there c.args.connective listed (map plain_truth (drop (place + 1) operands)) (plain_truth item) all.arena next.arena all.root c.in_ok-root.root next.root
    way one.arena one.builds one.means c.in_ok-all.ensures.joins

module _ (t : ℕ) (c : goal.list-After-drop-all-inside-5 t) where
  abbrev listed : List PlainTruth
  listed = map plain_truth c.args.operands.now

  abbrev whole : PlainTruth
  whole = TruthJoined c.args.connective (truths_of listed)

  way_end : OnTheWay c.args.arena.now c.loop-operand.arena c.args.connective listed [] c.loop-operand.all.arena c.loop-operand.all.root
  way_end =
      subst (λ (left : List PlainTruth). OnTheWay c.args.arena.now c.loop-operand.arena c.args.connective listed left c.loop-operand.all.arena c.loop-operand.all.root)
      (none_left c.args.operands.now c.loop-operand.operand-index c.loop-operand-test.false) c.loop-operand.invariant

pub list-returns-clause-means : goal.list-returns-clause-means
list-returns-clause-means t c =
    let old = c.args.arena.now in
    let here = c.loop-operand.arena in
    let all = c.loop-operand.all in
    let way = way_end t c in
    if_ok c.put.result (λ root means. means_at c.put.new.arena root here.slots old.slots (truth_holds (whole t c)) way.leads.kept.slots means)
    (c.put.ensures.means (truth_holds (whole t c)) (way_means old here c.args.connective (listed t c) all.arena all.root way))

pub list-returns-clause-builds : goal.list-returns-clause-builds
list-returns-clause-builds t c =
    let old = c.args.arena.now in
    let here = c.loop-operand.arena in
    let all = c.loop-operand.all in
    let way = way_end t c in
    way_ends old here c.args.connective (listed t c) all.arena all.root way c.put.new.arena c.put.result c.put.ensures.kept c.put.ensures.adds
    (c.put.ensures.means (truth_holds (whole t c)) (way_means old here c.args.connective (listed t c) all.arena all.root way))

pub list-returns-clause-exceeds : goal.list-returns-clause-exceeds
list-returns-clause-exceeds t c limit e =
    let old = c.args.arena.now in
    let here = c.loop-operand.arena in
    let all = c.loop-operand.all in
    let way = way_end t c in
    way_ends_over old here c.args.connective (listed t c) all.arena all.root way limit way.arena
    (c.put.ensures.full limit (truth_holds (whole t c)) e (way_means old here c.args.connective (listed t c) all.arena all.root way))
