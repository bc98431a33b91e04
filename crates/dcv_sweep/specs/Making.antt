-- For the proofs alone: the steps of what is drawn, as they are made.
--     join_of, join_op             the operators of two operands, of trees and of steps
--     Adds old slots drawn new     the steps of what is drawn are made, and the generator has gone on
--     most_steps depth             how many steps a formula has at most whose operators nest so deep
use Rattle.std.specs.Prelude.{◌≡◌, ℕ, zero, suc, ◌*◌, Option, Some, None}
use Rattle.dcv_syntax.specs.declared.names.Span.{Span}
use Rattle.dcv_syntax.specs.declared.propositions.Connective.{Connective}
use Rattle.dcv_core.specs.Core.{CoreTree, CoreJoined, CoreChop}
use Rattle.dcv_core.specs.Steps.{PlainOp, OpJoined, OpChop, PlainCore, Made}
use Rattle.dcv_sweep.specs.DrawnCores.{Drawn}

-- a connective, or a chop where there is none
abbrev pub join_of : Option Connective → CoreTree → CoreTree → Span → CoreTree
join_of (Some connective) = CoreJoined connective
join_of None = CoreChop

abbrev pub join_op : Option Connective → ℕ → ℕ → PlainOp
join_op (Some connective) = OpJoined connective
join_op None = OpChop

-- the new core has the steps of the tree more, the last of which has this number, and this is the generator's state after it
pub record Adds (old : PlainCore) (slots : ℕ) (drawn : Drawn CoreTree) (new : PlainCore) (state last : ℕ) : Type 0 where
  pub made : Made old slots drawn.made new last
  pub state_is : state ≡ drawn.after

abbrev pub most_steps : ℕ → ℕ
most_steps zero = 1
most_steps (suc depth) = suc (2 * most_steps depth)
