-- For the proofs alone: a summary as it grows.
--     counted summary finding        one formula more, of which this is found
--     HasRoom summary                its numbers are within bounds, and there is room for one formula more
--     IsOneMore limits               one formula more is drawn and counted
--     IsSweptUpTo limits seed count  so many formulas are drawn and counted
use Rattle.std.specs.Prelude.{◌≡◌, ℕ, ◌+◌, ◌*◌, ◌^◌, ◌≤◌, ◌<◌, cond, List}
use Rattle.std.specs.List.{AllZip}
use Rattle.dcv_explore.specs.declared.explorer.Limits.{Limits}
use Rattle.dcv_sweep.specs.DrawnCores.{drawn_formula, drawn_formulas}
use Rattle.dcv_sweep.specs.declared.findings.Finding.{Finding}
use Rattle.dcv_sweep.specs.declared.summary.Summary.{Summary}
use Rattle.dcv_sweep.specs.Findings.{IsFinding, is_over, is_valid, is_satisfiable, states_of, summary_of}

abbrev pub counted : Summary → Finding → Summary
counted summary finding = record {
  formulas = summary.formulas + 1;
  valid = summary.valid + cond (is_valid finding) 1 0;
  satisfiable = summary.satisfiable + cond (is_satisfiable finding) 1 0;
  over = summary.over + cond (is_over finding) 1 0;
  states = summary.states + states_of finding;
}

pub record HasRoom (summary : Summary) : Type 0 where
  pub valid : summary.valid ≤ summary.formulas
  pub satisfiable : summary.satisfiable ≤ summary.formulas
  pub over : summary.over ≤ summary.formulas
  pub states : summary.states ≤ summary.formulas * 2 ^ 32
  pub one_more : summary.formulas + 1 < 2 ^ 32

-- the states of the generator before and after it, and the summaries
pub record IsOneMore (limits : Limits) (state : ℕ) (summary : Summary) (after : ℕ) (grown : Summary) : Type 0 where
  pub finding : Finding
  pub is : IsFinding limits 3 (drawn_formula state).made finding
  pub few : states_of finding < 2 ^ 32
  pub grows : grown ≡ counted summary finding
  pub goes_on : after ≡ (drawn_formula state).after

pub record IsSweptUpTo (limits : Limits) (seed count state : ℕ) (summary : Summary) : Type 0 where
  pub findings : List Finding
  pub found : AllZip (IsFinding limits 3) (drawn_formulas count seed).made findings
  pub counts : summary ≡ summary_of findings
  pub states : summary.states ≤ count * 2 ^ 32
  pub goes_on : state ≡ (drawn_formulas count seed).after
