use Rattle.std.proofs.Common.{◌≡◌, ◌+◌, ◌<◌, ℕ, List, [], ◌∷◌, Some, None, length, drop, map, arith, refl, sym, ap, ◌∙◌}
use Rattle.std.specs.Prelude.{slice_index_or}
use Rattle.dcv_syntax.specs.declared.formulas.FormulaOperand.{FormulaOperand}
use Rattle.dcv_syntax.specs.Spans.{covering}
use Rattle.dcv_syntax.specs.declared.names.Span.{Span}
use Rattle.dcv_syntax.specs.declared.formulas.FormulaKind.{FormulaKind}
use Rattle.dcv_syntax.specs.declared.propositions.Connective.TheVariants.{Or}
use Rattle.dcv_syntax.specs.Views.{plain_formula_kind}
use Rattle.dcv_logic.specs.Environment.{found}
use Rattle.dcv_scope.proofs.WorkLeft.{work, list_work, work-Joined, work-Chop, work_at, body_work, all_bodies, left_after_call}
use Rattle.dcv_core.specs.Core.{CoreTree, CoreNot}
use Rattle.dcv_scope.specs.CoreOf.{Sight, core_of, core_of_macro, joined, list_core}
use Rattle.dcv_core.specs.TruthViews.{plain_truth}
use Rattle.dcv_scope.specs.Expansions.{sight_of, truths_in, join_of, unit_of, operands_of}
use Rattle.dcv_scope.proofs.Calls.{core_inside}
use Rattle.dcv_core.proofs.MadeSteps.{then_ok, made_length, made_one, not_is_one, star_is_one, exists_is_one, made_two, joined_is_two, made_round, room_same}
use Rattle.dcv_core.proofs.MadeSteps.{made_same}
use Rattle.dcv_scope.proofs.ListSteps.{made_in, join_is_two, first_room, operand_room, join_room, pushed_as, drop_end}
use Rattle.dcv_scope.proofs.NameRows.{drop-more}
use Rattle.dcv_scope.proofs.TextRows.{listed, core-Call, core-Joined, core-Chop}
use Rattle.dcv_scope.proofs.expansion.Sight.+cores.Goals as goal

-- ---- calls

pub call-formula-requires : goal.call-formula-requires
call-formula-requires t c =
    let self = c.args.self.now in
    let called = c.in-Some.called in
    let inside = c.in_ok-inside-in-Formula.inside in
    let body : body_work called.defined.now.body ≡ work c.in-Formula.body.kind = ap body_work c.in-Formula.is in
    let left = left_after_call body_work self.macros.now c.args.name.now.text called.defined.now called.macros.now c.in-Some.ensures.newest in
    let macros : all_bodies body_work inside.macros.now ≡ all_bodies body_work called.macros.now = ap (all_bodies body_work) c.in_ok-inside-in-Formula.ensures.macros in
    let given = ap (map plain_truth) c.deref.ensures.value ∙ c.in_ok-arguments-in-Formula.ensures in
    let same = core_inside self inside called c.args.name.now.text c.args.arguments.now c.args.span c.in-Some.ensures c.deref.result.now given c.in_ok-inside-in-Formula.ensures.sight c.in-Formula.body c.in-Formula.is in
    (omega (arith, left, body, macros), (c.in_ok-inside-in-Formula.ensures.is_sight, room_same c.requires.room (sym same.slots) (sym same.core)))

pub call-returns-in_ok-inside-in-Formula : goal.call-returns-in_ok-inside-in-Formula
call-returns-in_ok-inside-in-Formula t c =
    let given = ap (map plain_truth) c.deref.ensures.value ∙ c.in_ok-arguments-in-Formula.ensures in
    let same = core_inside c.args.self.now c.in_ok-inside-in-Formula.inside c.in-Some.called c.args.name.now.text c.args.arguments.now c.args.span c.in-Some.ensures c.deref.result.now given
    c.in_ok-inside-in-Formula.ensures.sight c.in-Formula.body c.in-Formula.is in
    then_ok c.formula.result c.formula.ensures (λ last made. made_same made same.slots same.core)

-- ---- forms of one and two operands

pub everywhere-chop_round-requires : goal.everywhere-chop_round-requires
everywhere-chop_round-requires t c = omega (arith, c.requires.room.enough_steps, made_length c.in_ok-before.ensures, made_length c.in_ok-part.ensures)

pub everywhere-push-requires : goal.everywhere-push-requires
everywhere-push-requires t c =
    omega (arith, c.requires.room.enough_steps, made_length (made_round c.in_ok-before.ensures c.in_ok-part.ensures c.in_ok-somewhere.ensures))

pub everywhere-returns : goal.everywhere-returns
everywhere-returns t c =
    then_ok c.push.result c.push.ensures.ok (λ last. made_one not_is_one (made_round c.in_ok-before.ensures c.in_ok-part.ensures c.in_ok-somewhere.ensures))

pub implies-formula-requires : goal.implies-formula-requires
implies-formula-requires t c = (
  omega arith,
  (
    c.requires.is_sight,
    record {
      enough_steps = omega (arith, c.requires.room.enough_steps, made_length c.in_ok-first.ensures);
      enough_slots = omega (arith, c.requires.room.enough_slots);
    },
  ),
)

pub implies-push-requires : goal.implies-push-requires
implies-push-requires t c = omega (arith, c.requires.room.enough_steps, made_length c.in_ok-first.ensures, made_length c.in_ok-second.ensures)

pub implies-returns : goal.implies-returns
implies-returns t c = then_ok c.push.result c.push.ensures.ok (λ last. made_two (joined_is_two Or) c.in_ok-first.ensures c.in_ok-second.ensures)

pub not-push-requires : goal.not-push-requires
not-push-requires t c = omega (arith, c.requires.room.enough_steps, made_length c.in_ok-operand.ensures)

pub not-returns : goal.not-returns
not-returns t c = then_ok c.push.result c.push.ensures.ok (λ last. made_one not_is_one c.in_ok-operand.ensures)

pub somewhere-chop_round-requires : goal.somewhere-chop_round-requires
somewhere-chop_round-requires t c = omega (arith, c.requires.room.enough_steps, made_length c.in_ok-before.ensures, made_length c.in_ok-part.ensures)

pub somewhere-returns : goal.somewhere-returns
somewhere-returns t c = then_ok c.chop_round.result c.chop_round.ensures (λ last. made_round c.in_ok-before.ensures c.in_ok-part.ensures)

pub star-push-requires : goal.star-push-requires
star-push-requires t c = omega (arith, c.requires.room.enough_steps, made_length c.in_ok-operand.ensures)

pub star-returns : goal.star-returns
star-returns t c = then_ok c.push.result c.push.ensures.ok (λ last. made_one star_is_one c.in_ok-operand.ensures)

-- ---- quantifiers

pub exists-push-requires : goal.exists-push-requires
exists-push-requires t c =
    let core : Sight → CoreTree = λ s. core_of s (plain_formula_kind c.args.body.now.kind) c.args.body.now.span in
    omega (arith, c.requires.room.enough_steps, made_length (made_in core c.in_ok-bind.ensures.sight c.in_ok-operand.ensures))

pub exists-returns : goal.exists-returns
exists-returns t c =
    let core : Sight → CoreTree = λ s. core_of s (plain_formula_kind c.args.body.now.kind) c.args.body.now.span in
    then_ok c.push.result c.push.ensures.ok (λ last. made_one exists_is_one (made_in core c.in_ok-bind.ensures.sight c.in_ok-operand.ensures))

pub for_all-push-requires : goal.for_all-push-requires
for_all-push-requires t c =
    let core : Sight → CoreTree = λ s. CoreNot (core_of s (plain_formula_kind c.args.body.now.kind) c.args.body.now.span) c.args.span in
    omega (arith, c.requires.room.enough_steps, made_length (made_in core c.in_ok-bind.ensures.sight c.in_ok-operand.ensures))

pub for_all-push-requires-2 : goal.for_all-push-requires-2
for_all-push-requires-2 t c =
    let core : Sight → CoreTree = λ s. CoreNot (core_of s (plain_formula_kind c.args.body.now.kind) c.args.body.now.span) c.args.span in
    omega (arith, c.requires.room.enough_steps, made_length (made_one exists_is_one (made_in core c.in_ok-bind.ensures.sight c.in_ok-operand.ensures) c.in_ok-exists.ensures.ok))

pub for_all-returns : goal.for_all-returns
for_all-returns t c =
    let core : Sight → CoreTree = λ s. CoreNot (core_of s (plain_formula_kind c.args.body.now.kind) c.args.body.now.span) c.args.span in
    then_ok c.push-2.result c.push-2.ensures.ok
    (λ last. made_one not_is_one (made_one exists_is_one (made_in core c.in_ok-bind.ensures.sight c.in_ok-operand.ensures) c.in_ok-exists.ensures.ok))

-- ---- the forms that hold a vector

pub formula-call-requires : goal.formula-call-requires
formula-call-requires t c =
    let sight = sight_of c.args.self.now in
    let span = c.args.formula.now.span in
    let same = ap (λ (kind : FormulaKind). core_of sight (plain_formula_kind kind) span) c.in-Call.is
    ∙ core-Call sight span c.in-Call.name c.in-Call.arguments
    ∙ ap (λ arguments. core_of_macro (found sight.macros c.in-Call.name.text) sight.slots (truths_in sight arguments) span) (sym c.deref.ensures.value) in
    let one : work c.args.formula.now.kind ≡ 1 = ap work c.in-Call.is in
    (omega (arith, one), (c.requires.is_sight, room_same c.requires.room refl same))

pub formula-returns-in-Call : goal.formula-returns-in-Call
formula-returns-in-Call t c =
    let sight = sight_of c.args.self.now in
    let span = c.args.formula.now.span in
    let same = ap (λ (kind : FormulaKind). core_of sight (plain_formula_kind kind) span) c.in-Call.is
    ∙ core-Call sight span c.in-Call.name c.in-Call.arguments
    ∙ ap (λ arguments. core_of_macro (found sight.macros c.in-Call.name.text) sight.slots (truths_in sight arguments) span) (sym c.deref.ensures.value) in
    then_ok c.call.result c.call.ensures (λ last made. made_same made refl (sym same))

pub formula-list-requires : goal.formula-list-requires
formula-list-requires t c =
    let sight = sight_of c.args.self.now in
    let span = c.args.formula.now.span in
    let connective = c.in-Joined.connective in
    let same = ap (λ (kind : FormulaKind). core_of sight (plain_formula_kind kind) span) c.in-Joined.is
    ∙ core-Joined sight span connective c.in-Joined.operands
    ∙ ap (listed sight span (Some connective)) (sym c.deref-in-Joined.ensures.value) in
    let left : work c.args.formula.now.kind ≡ list_work c.deref-in-Joined.result.now + 1 =
    ap work c.in-Joined.is ∙ work-Joined connective c.in-Joined.operands ∙ ap (λ os. list_work os + 1) (sym c.deref-in-Joined.ensures.value) in
    (omega (arith, left), (c.requires.is_sight, room_same c.requires.room refl same))

pub formula-returns-in-Joined : goal.formula-returns-in-Joined
formula-returns-in-Joined t c =
    let sight = sight_of c.args.self.now in
    let span = c.args.formula.now.span in
    let connective = c.in-Joined.connective in
    let same = ap (λ (kind : FormulaKind). core_of sight (plain_formula_kind kind) span) c.in-Joined.is
    ∙ core-Joined sight span connective c.in-Joined.operands
    ∙ ap (listed sight span (Some connective)) (sym c.deref-in-Joined.ensures.value) in
    then_ok c.list.result c.list.ensures (λ last made. made_same made refl (sym same))

pub formula-list-requires-in-Chop : goal.formula-list-requires-in-Chop
formula-list-requires-in-Chop t c =
    let sight = sight_of c.args.self.now in
    let span = c.args.formula.now.span in
    let same = ap (λ (kind : FormulaKind). core_of sight (plain_formula_kind kind) span) c.in-Chop.is
    ∙ core-Chop sight span c.in-Chop.operands
    ∙ ap (listed sight span None) (sym c.deref-in-Chop.ensures.value) in
    let left : work c.args.formula.now.kind ≡ list_work c.deref-in-Chop.result.now + 1 =
    ap work c.in-Chop.is ∙ work-Chop c.in-Chop.operands ∙ ap (λ os. list_work os + 1) (sym c.deref-in-Chop.ensures.value) in
    (omega (arith, left), (c.requires.is_sight, room_same c.requires.room refl same))

-- ---- lists

pub list-formula-requires : goal.list-formula-requires
list-formula-requires t c =
    let self = c.args.self.now in
    let first = c.in-Some.first.now in
    let rest = c.in-Some.rest.now in
    let operands : c.args.operands.now ≡ first ∷ rest = c.in-Some.ensures.cases.0 in
    let work_is : list_work c.args.operands.now ≡ work first.formula.kind + 1 + list_work rest = ap list_work operands in
    (omega (arith, work_is), (c.requires.is_sight, first_room (join_is_two c.args.connective) (sight_of self) (unit_of c.args.connective) c.args.span c.args.operands.now first rest operands c.requires.room))

pub list-loop-operand-init : goal.list-loop-operand-init
list-loop-operand-init t c =
    let sight = sight_of c.args.self.now in
    let first = c.in-Some.first.now in
    let operands : c.args.operands.now ≡ first ∷ c.in-Some.rest.now = c.in-Some.ensures.cases.0 in (
      core_of sight (plain_formula_kind first.formula.kind) first.formula.span,
      c.in_ok-last.ensures,
      sym (ap (λ os. list_core sight (join_of c.args.connective) (unit_of c.args.connective) (operands_of os) c.args.span) operands),
    )

-- the operands to come begin with this one
rest_at : (rest : List FormulaOperand) (i : ℕ) (item : FormulaOperand) → i < length rest → item ≡ slice_index_or rest i item → drop i rest ≡ item ∷ drop (i + 1) rest
rest_at rest i item lt is = drop-more rest i item lt ∙ ap (λ o. o ∷ drop (i + 1) rest) (sym is)

-- so joining them goes on with it
goes_on : (sight : Sight) (join : CoreTree → CoreTree → Span → CoreTree) (first : Span) (rest : List FormulaOperand) (i : ℕ) (item : FormulaOperand) (x whole : CoreTree)
    → i < length rest → item ≡ slice_index_or rest i item → joined sight join first (operands_of (drop i rest)) x ≡ whole
    → joined sight join first (operands_of (drop (i + 1) rest)) (join x (core_of sight (plain_formula_kind item.formula.kind) item.formula.span) (covering first item.span)) ≡ whole
goes_on sight join first rest i item x whole lt is all = ap (λ os. joined sight join first (operands_of os) x) (sym (rest_at rest i item lt is)) ∙ all

pub list-formula-requires-in-loop-operand : goal.list-formula-requires-in-loop-operand
list-formula-requires-in-loop-operand t c =
    let sight = sight_of c.args.self.now in
    let first = c.in-Some.first.now in
    let rest = c.in-Some.rest.now in
    let i = c.loop-operand.operand-index in
    let item = c.operand-item.result in
    let far = c.loop-operand.invariant in
    let lt = c.loop-operand-test.true in
    let operands : c.args.operands.now ≡ first ∷ rest = c.in-Some.ensures.cases.0 in
    let work_is : list_work c.args.operands.now ≡ work first.formula.kind + 1 + list_work rest = ap list_work operands in
    let item_work : work item.formula.kind ≡ work (slice_index_or rest i item).formula.kind = ap (λ (o : FormulaOperand). work o.formula.kind) c.operand-item.is in
    let all = goes_on sight (join_of c.args.connective) first.span rest i item far.0 _ lt c.operand-item.is far.2 in (
      omega (arith, work_is, item_work, work_at rest i item lt),
      (
        c.requires.is_sight,
        operand_room (join_is_two c.args.connective) sight first.span c.requires.room far.1 (core_of sight (plain_formula_kind item.formula.kind) item.formula.span)
            (covering first.span item.span) (operands_of (drop (i + 1) rest)) all,
      ),
    )

pub list-push-requires : goal.list-push-requires
list-push-requires t c =
    let sight = sight_of c.args.self.now in
    let first = c.in-Some.first.now in
    let rest = c.in-Some.rest.now in
    let i = c.loop-operand.operand-index in
    let item = c.operand-item.result in
    let far = c.loop-operand.invariant in
    let all = goes_on sight (join_of c.args.connective) first.span rest i item far.0 _ c.loop-operand-test.true c.operand-item.is far.2 in
    join_room (join_is_two c.args.connective) sight first.span c.requires.room far.1 (core_of sight (plain_formula_kind item.formula.kind) item.formula.span)
    (covering first.span item.span) (operands_of (drop (i + 1) rest)) all c.in_ok-second.ensures

pub list-loop-operand-preserved : goal.list-loop-operand-preserved
list-loop-operand-preserved t c =
    let sight = sight_of c.args.self.now in
    let first = c.in-Some.first.now in
    let rest = c.in-Some.rest.now in
    let item = c.operand-item.result in
    let far = c.loop-operand.invariant in
    let core = core_of sight (plain_formula_kind item.formula.kind) item.formula.span in
    let all = goes_on sight (join_of c.args.connective) first.span rest c.loop-operand.operand-index item far.0 _ c.loop-operand-test.true c.operand-item.is far.2 in (
      join_of c.args.connective far.0 core (covering first.span item.span),
      made_two (join_is_two c.args.connective) far.1 c.in_ok-second.ensures (pushed_as c.in_ok-last-2.ensures.ok c.join.ensures c.reach-covered.ensures),
      all,
    )

pub list-returns : goal.list-returns
list-returns t c =
    let sight = sight_of c.args.self.now in
    let rest = c.in-Some.rest.now in
    let far = c.loop-operand.invariant in
    let done : drop c.loop-operand.operand-index rest ≡ [] = drop_end rest c.loop-operand.operand-index (omega (arith, c.loop-operand-test.false)) in
    made_same far.1 refl (ap (λ os. joined sight (join_of c.args.connective) c.in-Some.first.now.span (operands_of os) far.0) (sym done) ∙ far.2)
