-- The core of a formula: what is left when macros are replaced by their bodies and names by slots. Lists of formulas are
-- joined two by two, and each operator of the tree is a step.
--     PlainTruth       a proposition over slots
--     PlainBasic       the forms without a formula in them
--     truth_in         the proposition in such a form, where it has one
--     CoreTree         a formula over slots, each operator with its place in the source
use Rattle.std.specs.Prelude.{ℕ, Bool, Option, None, Some}
use Rattle.dcv_syntax.specs.declared.names.Span.{Span}
use Rattle.dcv_syntax.specs.declared.formulas.Relation.{Relation}
use Rattle.dcv_syntax.specs.declared.propositions.Connective.{Connective}
use Rattle.dcv_syntax.specs.declared.propositions.Direction.{Direction}
use Rattle.dcv_syntax.specs.declared.formulas.Bracket.{Bracket}
use Rattle.dcv_syntax.specs.declared.formulas.Count.{Count}

mutual
  pub data PlainTruth : Type 0 where
    TruthConstant : (truth : Bool) → PlainTruth
    TruthSlot : (slot : ℕ) → PlainTruth
    TruthNot : (operand : PlainTruth) → PlainTruth
    TruthJoined : (connective : Connective) → (operands : PlainTruths) → PlainTruth
    -- a proposition one instant earlier or later, with its place: of a goal whose shifts have no slots yet
    TruthShift : (direction : Direction) → (operand : PlainTruth) → (span : Span) → PlainTruth

  pub data PlainTruths : Type 0 where
    no_truths : PlainTruths
    truth_operand : (truth : PlainTruth) → (operands : PlainTruths) → PlainTruths

pub data PlainBasic : Type 0 where
  BasicConstant : (truth : Bool) → PlainBasic
  BasicBracketed : (bracket : Bracket) → (truth : PlainTruth) → PlainBasic
  -- the number of steps from instant to instant, and that of instants with P
  BasicSlen : (relation : Relation) → (number : ℕ) → PlainBasic
  BasicCounted : (count : Count) → (truth : PlainTruth) → (relation : Relation) → (number : ℕ) → PlainBasic
  -- at each instant the slot is what P is at the one before, or at the next, and false where there is none
  BasicTrack : (direction : Direction) → (truth : PlainTruth) → (slot : ℕ) → PlainBasic

-- the proposition in a form
abbrev pub truth_in : PlainBasic → Option PlainTruth
truth_in (BasicConstant truth) = None
truth_in (BasicBracketed bracket p) = Some p
truth_in (BasicSlen relation n) = None
truth_in (BasicCounted _ p relation n) = Some p
truth_in (BasicTrack direction p slot) = Some p

pub data CoreTree : Type 0 where
  CoreAtom : (basic : PlainBasic) → (span : Span) → CoreTree
  CoreNot : (operand : CoreTree) → (span : Span) → CoreTree
  CoreJoined : (connective : Connective) → (first : CoreTree) → (second : CoreTree) → (span : Span) → CoreTree
  CoreChop : (first : CoreTree) → (second : CoreTree) → (span : Span) → CoreTree
  CoreStar : (operand : CoreTree) → (span : Span) → CoreTree
  -- the operand is over one slot more, the last
  CoreExists : (operand : CoreTree) → (span : Span) → CoreTree
