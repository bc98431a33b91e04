-- The steps of a core: its operators in post-order, numbered from 0.
--     PlainOp          an operator; its operands are the numbers of earlier steps
--     PlainStep        a step: its operator, its place, the number of slots over which it is judged, and its core
--     steps_from       the steps of a core, where some steps are before them
--     PlainCore        what contracts see of a core: the number of declared variables, and the steps, without their cores
--     IsCoreOf         a core has the steps of this tree; it has those of some tree only where some call has made it so
--     Pushed           one step more
--     Made             the steps of a core more
--     HasRoom          there are numbers enough for these steps and their slots
--     IsChoppedRound   the last three steps of `true ^ D ^ true` more
use Rattle.std.specs.Prelude.{◌≡◌, ℕ, true, suc, ◌+◌, ◌^◌, ◌<◌, max, List, [], ◌∷◌, ◌++◌, length, map}
use Rattle.dcv_syntax.specs.declared.names.Span.{Span}
use Rattle.dcv_syntax.specs.declared.propositions.Connective.{Connective}
use Rattle.dcv_core.specs.Core.{PlainBasic, BasicConstant, CoreTree, CoreAtom, CoreNot, CoreJoined, CoreChop, CoreStar, CoreExists}

pub data PlainOp : Type 0 where
  OpAtom : (basic : PlainBasic) → PlainOp
  OpNot : (operand : ℕ) → PlainOp
  OpJoined : (connective : Connective) → (first : ℕ) → (second : ℕ) → PlainOp
  OpChop : (first : ℕ) → (second : ℕ) → PlainOp
  OpStar : (operand : ℕ) → PlainOp
  OpExists : (operand : ℕ) → PlainOp

pub record PlainStep : Type 0 where
  pub op : PlainOp
  pub span : Span
  pub slots : ℕ
  pub core : CoreTree

-- how many steps a core has before its own, the last
abbrev pub steps_before : CoreTree → ℕ
steps_before (CoreAtom basic span) = 0
steps_before (CoreNot d span) = suc (steps_before d)
steps_before (CoreJoined connective c d span) = suc (suc (steps_before c + steps_before d))
steps_before (CoreChop c d span) = suc (suc (steps_before c + steps_before d))
steps_before (CoreStar d span) = suc (steps_before d)
steps_before (CoreExists d span) = suc (steps_before d)

-- the step that ends a core
abbrev pub own_step : PlainOp → Span → ℕ → CoreTree → PlainStep
own_step op span slots core = record { op = op; span = span; slots = slots; core = core }

-- n steps are before these, and k slots are in use
abbrev pub steps_from : ℕ → ℕ → CoreTree → List PlainStep
steps_from n k (CoreAtom basic span) = own_step (OpAtom basic) span k (CoreAtom basic span) ∷ []
steps_from n k (CoreNot d span) = steps_from n k d ++ own_step (OpNot (n + steps_before d)) span k (CoreNot d span) ∷ []
steps_from n k (CoreJoined connective c d span) =
    let first = n + steps_before c in
    let second = suc first + steps_before d in
    (steps_from n k c ++ steps_from (suc first) k d) ++ own_step (OpJoined connective first second) span k (CoreJoined connective c d span) ∷ []
steps_from n k (CoreChop c d span) =
    let first = n + steps_before c in
    let second = suc first + steps_before d in
    (steps_from n k c ++ steps_from (suc first) k d) ++ own_step (OpChop first second) span k (CoreChop c d span) ∷ []
steps_from n k (CoreStar d span) = steps_from n k d ++ own_step (OpStar (n + steps_before d)) span k (CoreStar d span) ∷ []
steps_from n k (CoreExists d span) = steps_from n (k + 1) d ++ own_step (OpExists (n + steps_before d)) span k (CoreExists d span) ∷ []

-- the steps of a core over k slots
abbrev pub steps_of : ℕ → CoreTree → List PlainStep
steps_of k core = steps_from 0 k core

-- ---- cores that are made step by step

-- a step without its core
pub record CoreStep : Type 0 where
  pub op : PlainOp
  pub span : Span
  pub slots : ℕ

abbrev pub without_core : PlainStep → CoreStep
without_core step = record { op = step.op; span = step.span; slots = step.slots }

-- what contracts see of a core
pub record PlainCore : Type 0 where
  pub declared : ℕ
  pub steps : List CoreStep

-- the core has the steps of this tree, over its declared variables
abbrev pub IsCoreOf : CoreTree → PlainCore → Type 0
IsCoreOf tree core = core.steps ≡ map without_core (steps_of core.declared tree)

-- the new core has one step more, which has this number
pub record Pushed (old : PlainCore) (op : PlainOp) (span : Span) (slots : ℕ) (new : PlainCore) (number : ℕ) : Type 0 where
  pub added : new ≡ record old { steps = old.steps ++ record { op = op; span = span; slots = slots } ∷ [] }
  pub place : number ≡ length old.steps

-- the new core has the steps of a tree more, the last of which has this number
pub record Made (old : PlainCore) (slots : ℕ) (core : CoreTree) (new : PlainCore) (last : ℕ) : Type 0 where
  pub added : new ≡ record old { steps = old.steps ++ map without_core (steps_from (length old.steps) slots core) }
  pub place : last ≡ length old.steps + steps_before core

-- how deep the quantifiers of a core are
abbrev pub nesting : CoreTree → ℕ
nesting (CoreAtom basic span) = 0
nesting (CoreNot d span) = nesting d
nesting (CoreJoined connective c d span) = max (nesting c) (nesting d)
nesting (CoreChop c d span) = max (nesting c) (nesting d)
nesting (CoreStar d span) = nesting d
nesting (CoreExists d span) = suc (nesting d)

-- there are numbers enough for the steps and slots of this tree
pub record HasRoom (old : PlainCore) (slots : ℕ) (core : CoreTree) : Type 0 where
  pub enough_steps : suc (length old.steps + steps_before core) < 2 ^ 32
  pub enough_slots : slots + nesting core < 256

-- the new core has the last three steps of `true ^ D ^ true` more, after `true` and D, which have these numbers
pub record IsChoppedRound (old : PlainCore) (before part : ℕ) (span : Span) (slots : ℕ) (new : PlainCore) (last : ℕ) : Type 0 where
  pub added : new ≡ record old {
    steps = old.steps
        ++ record { op = OpChop before part; span = span; slots = slots }
        ∷ record { op = OpAtom (BasicConstant true); span = span; slots = slots }
        ∷ record { op = OpChop (length old.steps) (suc (length old.steps)); span = span; slots = slots }
        ∷ [];
  }
  pub place : last ≡ suc (suc (length old.steps))
