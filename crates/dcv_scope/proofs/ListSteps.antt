-- The steps of a list are made operand by operand, from the left.
use Rattle.std.proofs.Common.{◌≡◌, ℕ, zero, suc, ◌+◌, ◌<◌, ◌≤◌, List, [], ◌∷◌, Option, Some, None, length, drop, refl, ap, subst, arith}
use Rattle.dcv_syntax.specs.declared.names.Span.{Span}
use Rattle.dcv_syntax.specs.declared.formulas.FormulaOperand.{FormulaOperand}
use Rattle.dcv_syntax.specs.Spans.{covering}
use Rattle.dcv_syntax.specs.Plain.{PlainFormulaOperands, no_formula_operands, formula_operand}
use Rattle.dcv_syntax.specs.Views.{plain_formula_kind}
use Rattle.dcv_syntax.specs.declared.propositions.Connective.{Connective}
use Rattle.dcv_core.specs.Core.{PlainBasic, CoreTree}
use Rattle.dcv_scope.specs.CoreOf.{Sight, core_of, joined, list_core}
use Rattle.dcv_core.specs.Steps.{PlainOp, steps_before, nesting, PlainCore, Pushed, Made, HasRoom}
use Rattle.dcv_scope.specs.Expansions.{join_of, join_op, operands_of}
use Rattle.dcv_core.proofs.MadeSteps.{IsTwo, joined_is_two, chop_is_two, made_length}

pub join_is_two : (connective : Option Connective) → IsTwo (join_of connective) (join_op connective)
join_is_two (Some connective) = joined_is_two connective
join_is_two None = chop_is_two

-- a part is no larger than the whole
record Grows (part whole : CoreTree) : Type 0 where
  steps : steps_before part ≤ steps_before whole
  depth : nesting part ≤ nesting whole

module _ {join : CoreTree → CoreTree → Span → CoreTree} {op : ℕ → ℕ → PlainOp} (is : IsTwo join op) (sight : Sight) (first : Span) where
  joined_grows : (operands : PlainFormulaOperands) (x : CoreTree) → Grows x (joined sight join first operands x)
  joined_grows no_formula_operands x = record { steps = omega arith; depth = omega arith }
  joined_grows (formula_operand d d_span outer operands) x =
      let core = core_of sight d d_span in
      let next = join x core (covering first outer) in
      let rest = joined_grows operands next in
      record { steps = omega (arith, rest.steps, is.before x core (covering first outer)); depth = omega (arith, rest.depth, is.nested x core (covering first outer)) }

  module _ {old middle : PlainCore} {k last : ℕ} {whole x : CoreTree} (room : HasRoom old k whole) (made : Made old k x middle last)
      (core : CoreTree) (reach : Span) (operands : PlainFormulaOperands) (all : joined sight join first operands (join x core reach) ≡ whole) where
    -- there are numbers enough for the next operand, and for its join
    pub operand_room : HasRoom middle k core
    operand_room =
        let grows = joined_grows operands (join x core reach) in
        record {
          enough_steps = omega (arith, room.enough_steps, made_length made, grows.steps, is.before x core reach, ap steps_before all);
          enough_slots = omega (arith, room.enough_slots, grows.depth, is.nested x core reach, ap nesting all);
        }

    pub join_room : {next : PlainCore} {second : ℕ} → Made middle k core next second → length next.steps + 1 < 4294967296
    join_room made_core =
        let grows = joined_grows operands (join x core reach) in
        omega (arith, room.enough_steps, made_length made, made_length made_core, grows.steps, is.before x core reach, ap steps_before all)

pub first_room : {join : CoreTree → CoreTree → Span → CoreTree} {op : ℕ → ℕ → PlainOp} (is : IsTwo join op) (sight : Sight) (unit : PlainBasic) (span : Span) {old : PlainCore} {k : ℕ}
    (operands : List FormulaOperand) (o : FormulaOperand) (rest : List FormulaOperand) → operands ≡ o ∷ rest → HasRoom old k (list_core sight join unit (operands_of operands) span)
    → HasRoom old k (core_of sight (plain_formula_kind o.formula.kind) o.formula.span)
first_room {join} is sight unit span operands o rest e room =
    let core = core_of sight (plain_formula_kind o.formula.kind) o.formula.span in
    let grows = joined_grows is sight o.span (operands_of rest) core in
    let same : list_core sight join unit (operands_of operands) span ≡ joined sight join o.span (operands_of rest) core = ap (λ os. list_core sight join unit (operands_of os) span) e in
    record {
      enough_steps = omega (arith, room.enough_steps, grows.steps, ap steps_before same);
      enough_slots = omega (arith, room.enough_slots, grows.depth, ap nesting same);
    }

pub pushed_as : {old new : PlainCore} {op other : PlainOp} {span reach : Span} {k number : ℕ} → Pushed old op span k new number → op ≡ other → span ≡ reach → Pushed old other reach k new number
pushed_as {old} {new} {op} {other} {span} {reach} {k} {number} pushed same_op same_span =
    subst (λ (s : Span). Pushed old other s k new number) same_span (subst (λ (o : PlainOp). Pushed old o span k new number) same_op pushed)

pub drop_end : {X : Type 0} (xs : List X) (i : ℕ) → length xs ≤ i → drop i xs ≡ []
drop_end [] zero le = refl
drop_end [] (suc i) le = refl
drop_end (x ∷ xs) zero le = absurd (omega (arith, le))
drop_end (x ∷ xs) (suc i) le = drop_end xs i (omega (arith, le))

-- the core of what is in sight, under another name
pub made_in : {old new : PlainCore} {last : ℕ} (core : Sight → CoreTree) {inner outer : Sight} → inner ≡ outer → Made old inner.slots (core inner) new last → Made old outer.slots (core outer) new last
made_in {old} {new} {last} core same = subst (λ (s : Sight). Made old s.slots (core s) new last) same
