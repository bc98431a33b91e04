use Rattle.std.proofs.Common.{◌≡◌, ◌<◌, [], sym, subst, ◌∙◌, arith}
use Rattle.std.proofs.lemmas.Result.{IfOk-weaker}
use Rattle.dcv_arena.specs.Arena.{value_of, AddsOnlyNodesOfFunction, count_with}
use Rattle.dcv_arena.specs.Pointwise.{exactly}
use Rattle.dcv_arena.proofs.Sides.{adds_root}
use Rattle.dcv_renumber.specs.Renumbered.{RemappingValue, renumbered, HoldsNew}
use Rattle.dcv_renumber.proofs.renumbering.Remapping.remap.Goals as goal

pub returns-clause-adds : goal.returns-clause-adds
returns-clause-adds c =
    let given = renumbered c.self.inside.numbers.new.now c.self.inside.numbers.from.now c.args.root in
    IfOk-weaker c.renumber.result _ _ (λ result is_new.
    adds_root exactly given c.args.arena.now c.renumber.new.arena result (λ number first second one other. one ∙ sym other) c.renumber.ensures.kept.slots
    (λ function agrees. c.renumber.ensures.stray [] function (omega arith) (omega arith) agrees) is_new.value)
    c.renumber.ensures.new

pub returns-clause-stray : goal.returns-clause-stray
returns-clause-stray c =
    let given = renumbered c.self.inside.numbers.new.now c.self.inside.numbers.from.now c.args.root in
    subst (λ (it : RemappingValue). AddsOnlyNodesOfFunction c.args.arena.now c.renumber.new.arena (renumbered it.numbers it.from c.args.root)) c.self.view_is
    (c.renumber.ensures.stray [] given (omega arith) (omega arith) (λ values number size is. sym is))

pub returns-clause-full : goal.returns-clause-full
returns-clause-full c limit e =
    let given = renumbered c.self.inside.numbers.new.now c.self.inside.numbers.from.now c.args.root in (
      c.renumber.ensures.limit limit e,
      subst (λ (it : RemappingValue). limit < count_with c.args.arena.now (renumbered it.numbers it.from c.args.root)) c.self.view_is
          (c.renumber.ensures.full limit e [] given (omega arith) (omega arith) (λ values number size is. sym is)),
    )

pub returns-in_err-reach-clause-holds : goal.returns-in_err-reach-clause-holds
returns-in_err-reach-clause-holds c place result there =
    subst (λ (it : RemappingValue). HoldsNew it c.args.arena.now) (sym c.self.view_is) c.requires.holds place result (c.reach.ensures place result there)

pub renumber-requires-clause-holds : goal.renumber-requires-clause-holds
renumber-requires-clause-holds c place result there =
    subst (λ (it : RemappingValue). HoldsNew it c.args.arena.now) (sym c.self.view_is) c.requires.holds place result (c.reach.ensures place result there)

pub returns-clause-value : goal.returns-clause-value
returns-clause-value c =
    IfOk-weaker c.renumber.result _ _ (λ result is_new letter size.
    subst (λ (it : RemappingValue). value_of c.renumber.new.arena result letter ≡ renumbered it.numbers it.from c.args.root letter) c.self.view_is
    (is_new.value letter (size ∙ sym c.renumber.ensures.kept.slots)))
    c.renumber.ensures.new
