-- For the proofs alone: what a step of a core is to give, over the numbers that wait last.
--     Here core n op              the core has this operator at step n
--     op_like asked c d           the operator that is asked for, over steps in place of numbers of the shelf
--     numbers_taken task          the numbers that it takes, the newest last
--     IsTask core n task          it is for the operator that the core has at step n
--     WaitFor core n numbers      these numbers wait before step n, on some shelf
--     TurnFrom core n             from step n on each step is a complement
--     IsNoComplement core n       step n is none
use Rattle.std.specs.Prelude.{◌≡◌, ℕ, ◌<◌, ◌≤◌, List, [], ◌∷◌, length, Some, slice_get}
use Rattle.std.specs.Option.{option_map}
use Rattle.dcv_language.specs.declared.count.Count.{Count}
use Rattle.dcv_core.specs.Core.{PlainBasic}
use Rattle.dcv_core.specs.Steps.{PlainOp, OpAtom, OpNot, OpJoined, OpChop, OpStar, OpExists, CoreStep, PlainCore}
use Rattle.dcv_explore.specs.declared.explorer.Limits.{Limits}
use Rattle.dcv_shelf.specs.Shelf.{ShelfTable}
use Rattle.dcv_build.specs.declared.asked.Asked.{Asked}
use Rattle.dcv_build.specs.declared.asked.Asked.TheVariants.{Joined, Chop, Star, Exists}
use Rattle.dcv_build.specs.declared.tasks.Task.{Task}
use Rattle.dcv_build.specs.declared.tasks.Task.TheVariants.{Atom, Complement, Operator}
use Rattle.dcv_build.specs.Asked.{tables_at}
use Rattle.dcv_build.specs.Building.{HasBuilt, ForTree}

abbrev pub Here : PlainCore → ℕ → PlainOp → Type 0
Here core n op = option_map (λ (s : CoreStep). s.op) (slice_get core.steps n) ≡ Some op

abbrev pub op_like : Asked → ℕ → ℕ → PlainOp
op_like (Joined connective a b) c d = OpJoined connective c d
op_like (Chop a b) c d = OpChop c d
op_like (Star a) c d = OpStar d
op_like (Exists a) c d = OpExists d

abbrev pub numbers_of : Asked → List ℕ
numbers_of (Joined connective a b) = a ∷ b ∷ []
numbers_of (Chop a b) = a ∷ b ∷ []
numbers_of (Star a) = a ∷ []
numbers_of (Exists a) = a ∷ []

abbrev pub numbers_taken : Task → List ℕ
numbers_taken Atom = []
numbers_taken (Complement a) = a ∷ []
numbers_taken (Operator asked) = numbers_of asked

abbrev pub IsTask : PlainCore → ℕ → Task → Type 0
IsTask core n Atom = (basic : PlainBasic) × Here core n (OpAtom basic)
IsTask core n (Complement a) = (d : ℕ) × Here core n (OpNot d)
IsTask core n (Operator asked) = (c : ℕ) × (d : ℕ) × Here core n (op_like asked c d)

pub record WaitFor (core : PlainCore) (n : ℕ) (waiting : List ℕ) : Type 0 where
  pub shelf : List ShelfTable
  pub limits : Limits
  pub counts : List Count
  pub built : ForTree core (λ steps. HasBuilt steps limits n (tables_at shelf waiting) counts)

abbrev pub TurnFrom : PlainCore → ℕ → Type 0
TurnFrom core n = (number : ℕ) → n ≤ number → number < length core.steps → (d : ℕ) × Here core number (OpNot d)

abbrev pub IsNoComplement : PlainCore → ℕ → Type 0
IsNoComplement core n = (d : ℕ) → ¬ Here core n (OpNot d)
