use Rattle.std.proofs.Common.{rules, ◌≡◌, sym, ap, subst, ◌∙◌, arith}
use Rattle.dcv_apply.specs.Merged.{IsApplied}
use Rattle.dcv_apply.specs.Pairs.{pair_operands}
use Rattle.std.specs.List.{All}
use Rattle.dcv_apply.specs.Sources.{IsIn, merged_by}
use Rattle.dcv_apply.proofs.PlainOperands.{from_start, plain_in, plain_merged}
use Rattle.dcv_apply.proofs.Whole.{applied}
use Rattle.dcv_apply.proofs.merging.Operation.apply.Goals as goal

pub apply_from-requires : goal.apply_from-requires
apply_from-requires g c =
    let operation = c.args.self.now in
    let operands = c.args.operands.now in
    let items = pair_operands c.in-Some.pair in
    let inside : All (IsIn operation.sources) items = subst (All (IsIn operation.sources)) (sym c.in-Some.ensures.operands) (plain_in operation.sources operands c.requires.operands) in
    let same = ap (merged_by operation) c.in-Some.ensures.operands ∙ plain_merged operation operands in
    record {
      sources = record { first = c.slots.ensures.arena; second = c.slots-2.ensures.arena };
      from = omega arith;
      round = c.in-Some.ensures.round;
      operands = from_start operation.sources.first.now operation.sources.second.now items inside;
      may = λ letter size. subst (λ numbers. g.G.Merge.may c.args.merge.now (numbers letter)) (sym same) (c.requires.may letter size);
      holds = c.requires.holds;
    }

pub returns-in-Some-clause-merged : goal.returns-in-Some-clause-merged
returns-in-Some-clause-merged g c =
    let gives = g.G.Merge.gives c.apply_from.new.merge in
    let too_many = g.G.Merge.full c.apply_from.new.merge in
    let items = pair_operands c.in-Some.pair in
    let same = ap (merged_by c.args.self.now) c.in-Some.ensures.operands ∙ plain_merged c.args.self.now c.args.operands.now in
    let all = c.apply_from.ensures in
    subst (λ numbers. IsApplied gives too_many numbers c.args.arena.now c.apply_from.new.arena c.apply_from.result) same
    (applied gives (merged_by c.args.self.now items) c.args.arena.now c.apply_from.new.arena too_many c.apply_from.result (g.met.G.Merge.one_number c.apply_from.new.merge)
    all.is_ref all.value all.stray all.limit (λ limit front function e. all.full limit e front function) all.states all.kept all.arena)

pub returns-clause-merged : goal.returns-clause-merged
returns-clause-merged g c =
    let gives = g.G.Merge.gives c.apply_from-2.new.merge in
    let too_many = g.G.Merge.full c.apply_from-2.new.merge in
    let items = c.new-key.result.operands.items in
    let given : c.in_ok-operands.operands.items ≡ c.args.operands.now = search rules in
    let same : items ≡ c.args.operands.now = c.new-key.ensures.operands ∙ given in
    let all = c.apply_from-2.ensures in
    subst (λ items. IsApplied gives too_many (merged_by c.args.self.now items) c.args.arena.now c.apply_from-2.new.arena c.apply_from-2.result) same
    (applied gives (merged_by c.args.self.now items) c.args.arena.now c.apply_from-2.new.arena too_many c.apply_from-2.result (g.met.G.Merge.one_number c.apply_from-2.new.merge)
    all.is_ref all.value all.stray all.limit (λ limit front function e. all.full limit e front function) all.states all.kept all.arena)
