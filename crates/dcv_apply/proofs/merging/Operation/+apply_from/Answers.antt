use Rattle.std.proofs.Common.{rules, ◌≤◌, true, false, set, Err, refl, sym, ap, subst, ◌∙◌, arith}
use Rattle.std.proofs.lemmas.List.{length-set}
use Rattle.std.proofs.lemmas.Result.{err_from_is_err_and}
use Rattle.dcv_arena.specs.Arena.{AddsOnlyNodesOfFunction}
use Rattle.dcv_arena.proofs.Roots.{kept_in_turn}
use Rattle.dcv_apply.specs.Sources.{merged_by}
use Rattle.dcv_arena.specs.Pointwise.{MeansMerged}
use Rattle.dcv_apply.specs.Remembered.{entry}
use Rattle.dcv_arena.proofs.Sides.{side_adds, side_full, adds_in_turn, merged_adds, node_full, sides_add, sides_full, sides_merged, agrees_at}
use Rattle.dcv_apply.proofs.Remembering.{holds_grown, holds_known, holds_less, holds_more, others_in_turn, others_less, others_more}
use Rattle.dcv_apply.proofs.Hits.{level_at_hit}
use Rattle.dcv_apply.proofs.FaultFacts.{full_from_arena}
use Rattle.dcv_apply.proofs.merging.Operation.+apply_from.Goals as goal

-- ---- a leaf, and what is remembered

pub apply_from-returns-then-slot-slots-clause-remembered : goal.apply_from-returns-then-slot-slots-clause-remembered
apply_from-returns-then-slot-slots-clause-remembered g t c = record {
  holds = holds_known (merged_by c.args.self.now) c.args.self.now.round (g.G.Merge.gives c.args.merge.now) (g.G.Merge.gives c.merge_numbers.new.merge) c.args.arena.now c.args.memo.now
      c.merge_numbers.ensures.goes_on.known c.requires.holds;
  others = λ one there other. there;
  capacity = refl;
}

pub apply_from-returns-in-Some-clause-is_ref : goal.apply_from-returns-in-Some-clause-is_ref
apply_from-returns-in-Some-clause-is_ref g t c =
    (c.requires.holds (entry (g.V.Visit.round c.args.visit) (g.V.Visit.operands c.args.visit) c.in-Some.root) c.in-Some.ensures.found c.requires.round).0

pub apply_from-returns-in-Some-clause-level : goal.apply_from-returns-in-Some-clause-level
apply_from-returns-in-Some-clause-level g t c =
    let held = c.requires.holds (entry (g.V.Visit.round c.args.visit) (g.V.Visit.operands c.args.visit) c.in-Some.root) c.in-Some.ensures.found c.requires.round in
    let slot = c.first_slot-slot.result in
    let from : c.args.from ≤ slot = c.first_slot-slot.ensures.last c.args.from (omega (arith, c.slots-slots.ensures.slots)) c.requires.operands in
    let level = level_at_hit c.args.self.now (g.V.Visit.operands c.args.visit) (g.G.Merge.gives c.args.merge.now) c.args.arena.now c.in-Some.root slot
    c.requires.sources c.first_slot-slot.ensures.from (omega (arith, c.slots-slots.ensures.slots)) (g.met.G.Merge.one_number c.args.merge.now) c.slots-slots.ensures.arena held.0 held.1 in
    omega (arith, level)

pub apply_from-returns-in-Some-clause-value : goal.apply_from-returns-in-Some-clause-value
apply_from-returns-in-Some-clause-value g t c =
    (c.requires.holds (entry (g.V.Visit.round c.args.visit) (g.V.Visit.operands c.args.visit) c.in-Some.root) c.in-Some.ensures.found c.requires.round).1

pub apply_from-returns-in-Some-clause-remembered : goal.apply_from-returns-in-Some-clause-remembered
apply_from-returns-in-Some-clause-remembered g t c = record {
  holds = holds_less (merged_by c.args.self.now) c.args.self.now.round (g.G.Merge.gives c.args.merge.now) c.args.arena.now c.args.memo.now c.remembered.new.memo c.remembered.ensures.kept
      c.requires.holds;
  others = others_less c.args.self.now.round c.args.memo.now c.remembered.new.memo c.remembered.ensures.kept;
  capacity = c.remembered.ensures.capacity;
}

-- ---- what is gone through, and remembered then

pub apply_from-merge_sides-requires : goal.apply_from-merge_sides-requires
apply_from-merge_sides-requires g t c κs within = (
  search rules,
  (
    search rules,
    (
      search rules,
      (
        c.requires.sources,
        (
          omega (arith, c.slots-slots.ensures.slots),
          (
            c.requires.round,
            (
              c.first_slot-slot.ensures.from,
              (
                c.requires.may,
                (
                  c.slots-slots.ensures.arena,
                  holds_less (merged_by c.args.self.now) c.args.self.now.round (g.G.Merge.gives c.args.merge.now) c.args.arena.now c.args.memo.now c.remembered.new.memo c.remembered.ensures.kept c.requires.holds,
                ),
              ),
            ),
          ),
        ),
      ),
    ),
  ),
)

pub apply_from-returns-in_err-root-in-None-clause-stray : goal.apply_from-returns-in_err-root-in-None-clause-stray
apply_from-returns-in_err-root-in-None-clause-stray g t c front function below agrees =
    let from : c.args.from ≤ c.first_slot-slot.result = c.first_slot-slot.ensures.last c.args.from (omega (arith, c.slots-slots.ensures.slots)) c.requires.operands in
    c.merge_sides.ensures.stray front function (omega arith) agrees

pub apply_from-returns-in_ok-root-in-None-clause-stray : goal.apply_from-returns-in_ok-root-in-None-clause-stray
apply_from-returns-in_ok-root-in-None-clause-stray g t c front function below agrees =
    let from : c.args.from ≤ c.first_slot-slot.result = c.first_slot-slot.ensures.last c.args.from (omega (arith, c.slots-slots.ensures.slots)) c.requires.operands in
    c.merge_sides.ensures.stray front function (omega arith) agrees

pub apply_from-returns-in_ok-root-in-None-clause-remembered : goal.apply_from-returns-in_ok-root-in-None-clause-remembered
apply_from-returns-in_ok-root-in-None-clause-remembered g t c =
    let round = c.args.self.now.round in
    let gives = g.G.Merge.gives c.merge_sides.new.merge in
    let own = entry (g.V.Visit.round c.args.visit) (g.V.Visit.operands c.args.visit) c.in_ok-root-in-None.root in
    let sides = c.merge_sides.ensures.remembered in
    let asked = others_less round c.args.memo.now c.remembered.new.memo c.remembered.ensures.kept in
    let added = others_more round c.merge_sides.new.memo c.remember.new.memo own c.remember.ensures.adds c.requires.round in
    record {
      holds = holds_more (merged_by c.args.self.now) round gives c.merge_sides.new.arena c.merge_sides.new.memo c.remember.new.memo
          own c.remember.ensures.adds c.in_ok-root-in-None.ensures.is_ref c.in_ok-root-in-None.ensures.value sides.holds;
      others = others_in_turn round c.args.memo.now c.merge_sides.new.memo c.remember.new.memo
          (others_in_turn round c.args.memo.now c.remembered.new.memo c.merge_sides.new.memo asked sides.others) added;
      capacity = c.remember.ensures.capacity ∙ sides.capacity ∙ c.remembered.ensures.capacity;
    }

-- ---- both sides, and then the node

pub merge_sides-apply_from-requires : goal.merge_sides-apply_from-requires
merge_sides-apply_from-requires g t c κs within =
    let slot = c.args.slot in
    let inner = c.requires.slot in
    let side = c.in_ok-when_false.ensures.when_false.fixed in (
      search rules,
      (
        search rules,
        (
          search rules,
          (
            c.requires.sources,
            (
              omega arith,
              (
                c.in_ok-when_false.ensures.when_false.round,
                (
                  c.in_ok-when_false.ensures.when_false.from,
                  (
                    λ letter size. subst (g.G.Merge.may c.args.merge.now) (sym (side.at letter (omega arith))) (c.requires.may (set letter slot false) (length-set letter slot false ∙ size)),
                    c.requires.holds,
                  ),
                ),
              ),
            ),
          ),
        ),
      ),
    )

pub merge_sides-returns-in_err-lo-clause-stray : goal.merge_sides-returns-in_err-lo-clause-stray
merge_sides-returns-in_err-lo-clause-stray g t c front function below agrees =
    let slot = c.args.slot in
    let inner = c.requires.slot in
    let side = c.in_ok-when_false.ensures.when_false.fixed in
    side_adds side (g.G.Merge.gives c.apply_from.new.merge) (g.G.Merge.gives c.apply_from.new.merge) c.args.arena.now c.apply_from.new.arena front function inner (omega arith)
    (λ _ _ given. given) c.apply_from.ensures.stray agrees

pub merge_sides-returns-in_err-lo-clause-full : goal.merge_sides-returns-in_err-lo-clause-full
merge_sides-returns-in_err-lo-clause-full g t c limit e front function below agrees =
    let slot = c.args.slot in
    let inner = c.requires.slot in
    let side = c.in_ok-when_false.ensures.when_false.fixed in
    let p = err_from_is_err_and c.from_residual-in_err-lo.result c.from_residual-in_err-lo.ensures.1 in
    let fault = c.in_err-lo.was ∙ ap Err (sym p.2) ∙ sym p.1 ∙ e in
    side_full side (g.G.Merge.gives c.apply_from.new.merge) (g.G.Merge.gives c.apply_from.new.merge) limit c.args.arena.now front function inner (omega arith)
    (λ _ _ given. given) (c.apply_from.ensures.full limit fault) agrees

pub merge_sides-returns-clause-kept : goal.merge_sides-returns-clause-kept
merge_sides-returns-clause-kept g t c =
    kept_in_turn c.args.arena.now c.apply_from.new.arena c.node.new.self c.apply_from.ensures.kept
    (kept_in_turn c.apply_from.new.arena c.apply_from-2.new.arena c.node.new.self c.apply_from-2.ensures.kept c.node.ensures.kept)

pub merge_sides-apply_from-requires-2 : goal.merge_sides-apply_from-requires-2
merge_sides-apply_from-requires-2 g t c κs within =
    let slot = c.args.slot in
    let same = c.apply_from.ensures.kept.slots in
    let inner = c.requires.slot in
    let side = c.in_ok-when_false.ensures.when_true.fixed in (
      search rules,
      (
        search rules,
        (
          search rules,
          (
            c.requires.sources,
            (
              omega (arith, same),
              (
                c.in_ok-when_false.ensures.when_true.round,
                (
                  c.in_ok-when_false.ensures.when_true.from,
                  (
                    λ letter size. subst (g.G.Merge.may c.apply_from.new.merge) (sym (side.at letter (omega (arith, same))))
                        (c.apply_from.ensures.goes_on.may_kept _ (c.requires.may (set letter slot true) (length-set letter slot true ∙ size ∙ same))),
                    c.apply_from.ensures.remembered.holds,
                  ),
                ),
              ),
            ),
          ),
        ),
      ),
    )

pub merge_sides-returns-in_err-hi-clause-stray : goal.merge_sides-returns-in_err-hi-clause-stray
merge_sides-returns-in_err-hi-clause-stray g t c front function below agrees =
    let slot = c.args.slot in
    let inner = c.requires.slot in
    let low = c.in_ok-when_false.ensures.when_false.fixed in
    let high = c.in_ok-when_false.ensures.when_true.fixed in
    sides_add low high (g.G.Merge.gives c.apply_from.new.merge) (g.G.Merge.gives c.apply_from-2.new.merge) c.apply_from-2.ensures.goes_on.known
    c.args.arena.now c.apply_from.new.arena c.apply_from-2.new.arena c.apply_from.ensures.kept c.apply_from-2.ensures.kept inner
    front function (omega arith) c.apply_from.ensures.stray c.apply_from-2.ensures.stray agrees

pub merge_sides-returns-in_err-hi-clause-full : goal.merge_sides-returns-in_err-hi-clause-full
merge_sides-returns-in_err-hi-clause-full g t c limit e front function below agrees =
    let slot = c.args.slot in
    let inner = c.requires.slot in
    let low = c.in_ok-when_false.ensures.when_false.fixed in
    let high = c.in_ok-when_false.ensures.when_true.fixed in
    let p = err_from_is_err_and c.from_residual-in_err-hi.result c.from_residual-in_err-hi.ensures.1 in
    let fault = c.in_err-hi.was ∙ ap Err (sym p.2) ∙ sym p.1 ∙ e in
    sides_full low high (g.G.Merge.gives c.apply_from.new.merge) (g.G.Merge.gives c.apply_from-2.new.merge) c.apply_from-2.ensures.goes_on.known
    c.args.arena.now c.apply_from.new.arena c.apply_from-2.new.arena c.apply_from.ensures.kept c.apply_from-2.ensures.kept inner
    limit front function c.requires.arena c.apply_from.ensures.arena (omega arith) c.apply_from.ensures.stray (c.apply_from-2.ensures.full limit fault) agrees

pub merge_sides-returns-clause-value : goal.merge_sides-returns-clause-value
merge_sides-returns-clause-value g t c letter size =
    let slot = c.args.slot in
    let inner = c.requires.slot in
    let low = c.in_ok-when_false.ensures.when_false.fixed in
    let high = c.in_ok-when_false.ensures.when_true.fixed in
    subst (g.G.Merge.gives c.apply_from-2.new.merge _) (sym (c.in_ok-root.ensures.value letter))
    (sides_merged low high (g.G.Merge.gives c.apply_from.new.merge) (g.G.Merge.gives c.apply_from-2.new.merge) c.apply_from-2.ensures.goes_on.known
    c.args.arena.now c.apply_from.new.arena c.apply_from-2.new.arena c.apply_from.ensures.kept c.apply_from-2.ensures.kept inner
    c.in_ok-lo.lo c.in_ok-hi.hi c.in_ok-lo.ensures.is_ref c.in_ok-lo.ensures.value c.in_ok-hi.ensures.value letter (size ∙ c.node.ensures.kept.slots))

pub merge_sides-returns-in_err-root-clause-stray : goal.merge_sides-returns-in_err-root-clause-stray
merge_sides-returns-in_err-root-clause-stray g t c front function below agrees =
    let slot = c.args.slot in
    let inner = c.requires.slot in
    let low = c.in_ok-when_false.ensures.when_false.fixed in
    let high = c.in_ok-when_false.ensures.when_true.fixed in
    subst (λ new. AddsOnlyNodesOfFunction c.args.arena.now new function) (sym c.in_err-root.ensures.err)
    (sides_add low high (g.G.Merge.gives c.apply_from.new.merge) (g.G.Merge.gives c.apply_from-2.new.merge) c.apply_from-2.ensures.goes_on.known
    c.args.arena.now c.apply_from.new.arena c.apply_from-2.new.arena c.apply_from.ensures.kept c.apply_from-2.ensures.kept inner
    front function (omega arith) c.apply_from.ensures.stray c.apply_from-2.ensures.stray agrees)

pub merge_sides-returns-in_err-root-clause-limit : goal.merge_sides-returns-in_err-root-clause-limit
merge_sides-returns-in_err-root-clause-limit g t c limit e =
    let p = err_from_is_err_and c.from_residual-in_err-root.result c.from_residual-in_err-root.ensures.1 in
    let fault = c.in_err-root.was ∙ ap Err (full_from_arena _ _ _ limit p.1 p.2 e) in
    ((c.node.ensures.full limit).0 fault).0 ∙ c.apply_from-2.ensures.kept.limit ∙ c.apply_from.ensures.kept.limit

pub merge_sides-returns-in_err-root-clause-full : goal.merge_sides-returns-in_err-root-clause-full
merge_sides-returns-in_err-root-clause-full g t c limit e front function below agrees =
    let slot = c.args.slot in
    let old = c.args.arena.now in
    let one = c.apply_from.new.arena in
    let two = c.apply_from-2.new.arena in
    let gives = g.G.Merge.gives c.apply_from-2.new.merge in
    let whole = merged_by c.args.self.now (g.V.Visit.operands c.args.visit.now) in
    let inner = c.requires.slot in
    let kept = kept_in_turn old one two c.apply_from.ensures.kept c.apply_from-2.ensures.kept in
    let low = c.in_ok-when_false.ensures.when_false.fixed in
    let high = c.in_ok-when_false.ensures.when_true.fixed in
    let p = err_from_is_err_and c.from_residual-in_err-root.result c.from_residual-in_err-root.ensures.1 in
    let fault = c.in_err-root.was ∙ ap Err (full_from_arena _ _ _ limit p.1 p.2 e) in
    let is_full = (c.node.ensures.full limit).0 fault in
    let adds = sides_add low high (g.G.Merge.gives c.apply_from.new.merge) gives c.apply_from-2.ensures.goes_on.known
    old one two c.apply_from.ensures.kept c.apply_from-2.ensures.kept inner
    front function (omega arith) c.apply_from.ensures.stray c.apply_from-2.ensures.stray agrees in
    let merged = sides_merged low high (g.G.Merge.gives c.apply_from.new.merge) gives c.apply_from-2.ensures.goes_on.known
    old one two c.apply_from.ensures.kept c.apply_from-2.ensures.kept inner
    c.in_ok-lo.lo c.in_ok-hi.hi c.in_ok-lo.ensures.is_ref c.in_ok-lo.ensures.value c.in_ok-hi.ensures.value in
    let lo_ref = c.apply_from-2.ensures.kept.refs c.in_ok-lo.lo c.in_ok-lo.ensures.is_ref in
    let lo_level = c.apply_from-2.ensures.kept.levels c.in_ok-lo.lo c.in_ok-lo.ensures.is_ref in
    let more = node_full gives whole front function old two slot c.in_ok-lo.lo c.in_ok-hi.hi
    c.requires.arena c.apply_from-2.ensures.arena kept adds lo_ref c.in_ok-hi.ensures.is_ref (omega (arith, kept.slots))
    (omega (arith, lo_level, c.in_ok-lo.ensures.level)) (omega (arith, c.in_ok-hi.ensures.level)) is_full.1 (omega arith) merged (agrees_at gives whole old.slots two.slots front function kept.slots agrees) in
    omega (arith, more, is_full.0, is_full.2)

pub merge_sides-returns-clause-stray : goal.merge_sides-returns-clause-stray
merge_sides-returns-clause-stray g t c front function below agrees =
    let slot = c.args.slot in
    let old = c.args.arena.now in
    let one = c.apply_from.new.arena in
    let two = c.apply_from-2.new.arena in
    let new = c.node.new.self in
    let gives = g.G.Merge.gives c.apply_from-2.new.merge in
    let whole = merged_by c.args.self.now (g.V.Visit.operands c.args.visit.now) in
    let inner = c.requires.slot in
    let low = c.in_ok-when_false.ensures.when_false.fixed in
    let high = c.in_ok-when_false.ensures.when_true.fixed in
    let adds = sides_add low high (g.G.Merge.gives c.apply_from.new.merge) gives c.apply_from-2.ensures.goes_on.known
    old one two c.apply_from.ensures.kept c.apply_from-2.ensures.kept inner
    front function (omega arith) c.apply_from.ensures.stray c.apply_from-2.ensures.stray agrees in
    let merged = sides_merged low high (g.G.Merge.gives c.apply_from.new.merge) gives c.apply_from-2.ensures.goes_on.known
    old one two c.apply_from.ensures.kept c.apply_from-2.ensures.kept inner
    c.in_ok-lo.lo c.in_ok-hi.hi c.in_ok-lo.ensures.is_ref c.in_ok-lo.ensures.value c.in_ok-hi.ensures.value in
    let means : MeansMerged gives whole new c.in_ok-root.root = λ letter size.
    subst (gives (whole letter)) (sym (c.in_ok-root.ensures.value letter)) (merged letter (size ∙ c.node.ensures.kept.slots)) in
    adds_in_turn old two new function c.node.ensures.kept.slots adds
    (merged_adds gives whole front function two new c.in_ok-root.root c.node.ensures.arena c.in_ok-root.ensures.is_ref (omega (arith, c.in_ok-root.ensures.level)) means
    (agrees_at gives whole old.slots new.slots front function (c.node.ensures.kept.slots ∙ c.apply_from-2.ensures.kept.slots ∙ c.apply_from.ensures.kept.slots) agrees) c.in_ok-root.ensures.adds)

-- ---- what the memo holds once the node is there

pub merge_sides-returns-in_err-root-clause-remembered : goal.merge_sides-returns-in_err-root-clause-remembered
merge_sides-returns-in_err-root-clause-remembered g t c =
    let gives = g.G.Merge.gives c.apply_from-2.new.merge in
    let first = c.apply_from.ensures.remembered in
    let second = c.apply_from-2.ensures.remembered in
    record {
      holds = holds_grown (merged_by c.args.self.now) c.args.self.now.round gives gives c.apply_from-2.new.arena c.node.new.self c.apply_from-2.new.memo
          (λ _ _ given. given) c.node.ensures.kept second.holds;
      others = others_in_turn c.args.self.now.round c.args.memo.now c.apply_from.new.memo c.apply_from-2.new.memo first.others second.others;
      capacity = second.capacity ∙ first.capacity;
    }

pub merge_sides-returns-clause-remembered : goal.merge_sides-returns-clause-remembered
merge_sides-returns-clause-remembered g t c =
    let gives = g.G.Merge.gives c.apply_from-2.new.merge in
    let first = c.apply_from.ensures.remembered in
    let second = c.apply_from-2.ensures.remembered in
    record {
      holds = holds_grown (merged_by c.args.self.now) c.args.self.now.round gives gives c.apply_from-2.new.arena c.node.new.self c.apply_from-2.new.memo
          (λ _ _ given. given) c.node.ensures.kept second.holds;
      others = others_in_turn c.args.self.now.round c.args.memo.now c.apply_from.new.memo c.apply_from-2.new.memo first.others second.others;
      capacity = second.capacity ∙ first.capacity;
    }
