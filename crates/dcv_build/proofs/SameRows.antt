-- The row of a step reads the tables of its operands alone, which are earlier steps.
use Rattle.std.proofs.Common.{◌≡◌, ℕ, suc, ◌+◌, ◌<◌, List, [], slice_index_or, subst, arith}
use Rattle.dcv_language.specs.Table.{Table, automaton_of}
use Rattle.dcv_language.specs.OperationMachines.{not_machine, pair_machine, chop_machine, star_machine, exists_machine}
use Rattle.dcv_logic.specs.Connectives.{joins}
use Rattle.dcv_core.specs.Steps.{PlainOp, OpAtom, OpNot, OpJoined, OpChop, OpStar, OpExists, PlainStep, steps_before}
use Rattle.dcv_core.specs.StepWords.{IsOperation}
use Rattle.dcv_explore.specs.Budget.{Row}
use Rattle.dcv_build.specs.Rows.{number_row, pair_row, chop_row, star_row, set_row, row_of}

abbrev pub table_at : List Table → ℕ → Table
table_at tables number = slice_index_or tables number []

module _ (steps : List PlainStep) (n : ℕ) (step : PlainStep) (one other : List Table)
    (same : (number : ℕ) → number < n → table_at one number ≡ table_at other number) (P : Row → Type 0) where
  -- where a row is made of the table of one operand, or of two
  by_one : (row : Table → Row) (operand : ℕ) → suc operand ≡ n → P (row (table_at one operand)) → P (row (table_at other operand))
  by_one row operand before here = subst (λ (table : Table). P (row table)) (same operand (omega (arith, before))) here

  by_two : (row : Table → Table → Row) (first second between : ℕ) → suc first + between ≡ second → suc second ≡ n
      → P (row (table_at one first) (table_at one second)) → P (row (table_at other first) (table_at other second))
  by_two row first second between apart before here =
      subst (λ (table : Table). P (row table (table_at other second))) (same first (omega (arith, apart, before)))
      (subst (λ (table : Table). P (row (table_at one first) table)) (same second (omega (arith, before))) here)

  pub row_over : (op : PlainOp) → IsOperation steps n step op → P (row_of op step.slots one) → P (row_of op step.slots other)
  row_over (OpAtom basic) is here = here
  row_over (OpNot d) is here = by_one (λ table. number_row (not_machine step.slots (automaton_of table))) d is.is_before here
  row_over (OpJoined connective c d) is here =
      by_two (λ first second. pair_row (pair_machine step.slots (joins connective) (automaton_of first) (automaton_of second))) c d (steps_before is.second_step.core) is.first_is_before is.second_is_before here
  row_over (OpChop c d) is here =
      by_two (λ first second. chop_row (chop_machine step.slots (automaton_of first) (automaton_of second))) c d (steps_before is.second_step.core) is.first_is_before is.second_is_before here
  row_over (OpStar d) is here = by_one (λ table. star_row (star_machine step.slots (automaton_of table))) d is.is_before here
  row_over (OpExists d) is here = by_one (λ table. set_row (exists_machine step.slots (automaton_of table))) d is.is_before here
