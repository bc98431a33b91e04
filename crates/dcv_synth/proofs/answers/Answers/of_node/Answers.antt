use Rattle.std.proofs.Common.{◌≡◌, length, Option, sym, ap, subst, ◌∙◌, refl, ◌-◌, ◌^◌}
use Rattle.dcv_arena.specs.Arena.{IsBefore}
use Rattle.dcv_arena.specs.declared.nodes.Ref.{Ref}
use Rattle.dcv_arena.specs.declared.nodes.Ref.TheVariants.{Place}
use Rattle.dcv_synth.specs.Answered.{IsAnswer, answer_at}
use Rattle.dcv_synth.specs.declared.answers.Answer.{Answer}
use Rattle.dcv_synth.proofs.Answering.{node_answer, ref_answer, answer_fits}
use Rattle.dcv_synth.proofs.Forced.{children_before}
use Rattle.dcv_synth.proofs.answers.Answers.of_node.Goals as goal
use Rattle.dcv_synth.proofs.answers.Answers.of_node.Goals.{After-of-2}

before : (c : After-of-2) → IsBefore (length c.args.self.now.answers.items) c.split-lo.result.0 × IsBefore (length c.args.self.now.answers.items) c.split-lo.result.1
before c =
    let split = c.split-lo.ensures in
    children_before c.args.self.now.arena.now c.args.place c.level-slot.result (length c.args.self.now.answers.items) c.split-lo.result.0 c.split-lo.result.1
    c.level-slot.ensures.arena.reduced c.requires.place c.requires.before
    (record { slot = c.level-slot.ensures.level; lo_is_ref = split.lo_is_ref; hi_is_ref = split.hi_is_ref; lo_value = split.lo_value; hi_value = split.hi_value })

-- a child's answer
child_is : (c : After-of-2) (child : Ref) (answer : Option Answer) → answer ≡ answer_at c.args.self.now.win.now c.args.self.now.answers.items child
    → IsBefore (length c.args.self.now.answers.items) child → IsAnswer c.args.self.now.arena.now c.args.self.now.win.now child answer
child_is c child answer is earlier =
    let self = c.args.self.now in
    subst (IsAnswer self.arena.now self.win.now child) (sym is) (ref_answer self.arena.now self.win.now self.answers.items child c.requires.answers earlier)

lo_is : (c : After-of-2) → IsAnswer c.args.self.now.arena.now c.args.self.now.win.now c.split-lo.result.0 c.of.result
lo_is c = child_is c c.split-lo.result.0 c.of.result c.of.ensures (before c).0

hi_is : (c : After-of-2) → IsAnswer c.args.self.now.arena.now c.args.self.now.win.now c.split-lo.result.1 c.of-2.result
hi_is c = child_is c c.split-lo.result.1 c.of-2.result c.of-2.ensures (before c).1

weighs : (c : After-of-2) → c.weight_of-weight.result ≡ 2 ^ (c.args.self.now.arena.now.slots - 1 - c.level-slot.result)
weighs c = c.weight_of-weight.ensures ∙ ap (λ slots. 2 ^ (slots - 1 - c.level-slot.result)) c.slots.ensures.slots

pub first_of_two-requires : goal.first_of_two-requires
first_of_two-requires c =
    let arena = c.args.self.now.arena.now in
    let inner = c.level-slot.ensures.node c.args.place refl in
    let here = (goal.at.first_of_two-requires c).After-of-2 in
    answer_fits arena c.args.self.now.win.now c.split-lo.result.1 c.level-slot.result c.of-2.result c.weight_of-weight.result c.level-slot.ensures.arena.slots inner
    (c.split-lo.ensures.hi_level inner) (weighs here) (hi_is here)

pub returns : goal.returns
returns c =
    let self = c.args.self.now in
    let arena = self.arena.now in
    let split = c.split-lo.ensures in
    let inner = c.level-slot.ensures.node c.args.place refl in
    let here = (goal.at.returns c).After-of-2 in
    subst (IsAnswer arena self.win.now (Place c.args.place)) (sym c.first_of_two.ensures)
    (node_answer arena self.win.now c.args.place c.level-slot.result c.split-lo.result.0 c.split-lo.result.1 c.of.result c.of-2.result c.weight_of-weight.result
    (record { slot_is = c.level-slot.ensures.level; inner = inner; lo_level = split.lo_level inner; hi_level = split.hi_level inner; value = split.value })
    (lo_is here) (hi_is here) (weighs here))
