-- Formulas that are drawn: each number picks what comes next, and the state of the generator goes on from part to part. Each step's span
-- is empty.
--     Drawn T                         what was made, and the state after it
--     drawn_literal slots state       one of these slots, negated or not
--     drawn_atom slots state          a form without a formula in it
--     drawn_core depth slots state    a formula over these slots whose operators nest no deeper than this
--     drawn_formula state             a formula over three declared variables whose operators nest three deep at most
--     drawn_formulas count state      so many of them, one after another
use Rattle.std.specs.Prelude.{ℕ, zero, suc, ◌+◌, ◌==◌, if◌then◌else◌, List, [], ◌∷◌}
use Rattle.dcv_syntax.specs.declared.names.Span.{Span}
use Rattle.dcv_syntax.specs.declared.formulas.Relation.TheVariants.{Less, AtLeast}
use Rattle.dcv_syntax.specs.declared.propositions.Connective.TheVariants.{And, Or, Iff}
use Rattle.dcv_syntax.specs.declared.formulas.Bracket.TheVariants.{Point, Run, Every, Unit as TwoInstants}
use Rattle.dcv_syntax.specs.declared.formulas.Count.TheVariants.{Scount, Sdur}
use Rattle.dcv_core.specs.Core.{PlainTruth, TruthSlot, TruthNot, PlainBasic, BasicBracketed, BasicCounted}
use Rattle.dcv_core.specs.Core.{CoreTree, CoreAtom, CoreNot, CoreJoined, CoreChop, CoreStar, CoreExists}
use Rattle.dcv_sweep.specs.Draw.{next_draw, drawn}

pub record Drawn (T : Type 0) : Type 0 where
  pub made : T
  pub after : ℕ

abbrev pub nowhere : Span
nowhere = record { start = 0; end = 0 }

-- ---- forms without a formula in them

abbrev pub drawn_literal : ℕ → ℕ → Drawn PlainTruth
drawn_literal slots state =
    let picked = next_draw state in
    let turned = next_draw picked in
    let slot = TruthSlot (drawn slots picked) in
    record { made = if drawn 2 turned == 1 then TruthNot slot else slot; after = turned }

abbrev pub plain_form : (PlainTruth → PlainBasic) → Drawn PlainTruth → Drawn PlainBasic
plain_form form literal = record { made = form literal.made; after = literal.after }

-- a count is compared with a number from 1 to 4, which is drawn last
abbrev pub counting_form : (PlainTruth → ℕ → PlainBasic) → Drawn PlainTruth → Drawn PlainBasic
counting_form form literal =
    let counted = next_draw literal.after in
    record { made = form literal.made (1 + drawn 4 counted); after = counted }

abbrev pub form_of : ℕ → Drawn PlainTruth → Drawn PlainBasic
form_of kind literal =
    if kind == 0 then plain_form (BasicBracketed Point) literal
    else (if kind == 1 then plain_form (BasicBracketed Run) literal
    else (if kind == 2 then plain_form (BasicBracketed Every) literal
    else (if kind == 3 then plain_form (BasicBracketed TwoInstants) literal
    else (if kind == 4 then counting_form (λ truth. BasicCounted Scount truth AtLeast) literal
    else counting_form (λ truth. BasicCounted Sdur truth Less) literal))))

-- its kind is drawn first, and then its literal
abbrev pub drawn_atom : ℕ → ℕ → Drawn PlainBasic
drawn_atom slots state =
    let picked = next_draw state in
    form_of (drawn 6 picked) (drawn_literal slots picked)

-- ---- formulas

abbrev pub over_none : Drawn PlainBasic → Drawn CoreTree
over_none atom = record { made = CoreAtom atom.made nowhere; after = atom.after }

abbrev pub over_one : (CoreTree → Span → CoreTree) → Drawn CoreTree → Drawn CoreTree
over_one operator operand = record { made = operator operand.made nowhere; after = operand.after }

-- the first operand is drawn first
abbrev pub over_two : (CoreTree → CoreTree → Span → CoreTree) → (ℕ → Drawn CoreTree) → ℕ → Drawn CoreTree
over_two operator operand state =
    let first = operand state in
    let second = operand first.after in
    record { made = operator first.made second.made nowhere; after = second.after }

-- the operator of this kind, whose operands are drawn over so many slots
abbrev pub operation_of : ℕ → (ℕ → ℕ → Drawn CoreTree) → ℕ → ℕ → Drawn CoreTree
operation_of kind operand slots state =
    if kind == 0 then over_none (drawn_atom slots state)
    else (if kind == 1 then over_one CoreNot (operand slots state)
    else (if kind == 2 then over_two (CoreJoined And) (operand slots) state
    else (if kind == 3 then over_two (CoreJoined Or) (operand slots) state
    else (if kind == 4 then over_two CoreChop (operand slots) state
    else (if kind == 5 then over_one CoreStar (operand slots state)
    else (if kind == 6 then over_one CoreExists (operand (slots + 1) state)
    else over_two (CoreJoined Iff) (operand slots) state))))))

abbrev pub drawn_core : ℕ → ℕ → ℕ → Drawn CoreTree
drawn_core zero slots state = over_none (drawn_atom slots state)
drawn_core (suc depth) slots state =
    let picked = next_draw state in
    operation_of (drawn 8 picked) (drawn_core depth) slots picked

unfoldable pub drawn_formula : ℕ → Drawn CoreTree
drawn_formula state = drawn_core 3 3 state

unfoldable pub drawn_formulas : ℕ → ℕ → Drawn (List CoreTree)
drawn_formulas zero state = record { made = []; after = state }
drawn_formulas (suc count) state =
    let first = drawn_formula state in
    let others = drawn_formulas count first.after in
    record { made = first.made ∷ others.made; after = others.after }
