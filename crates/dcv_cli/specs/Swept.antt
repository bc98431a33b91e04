-- What is right where it is asked what holds of formulas that are drawn.
--     default_limits                the limits within which each of them is built
--     IsSwept seed count outcome    the outcome says the counts over so many formulas, drawn one after another from the seed
use Rattle.std.specs.Prelude.{◌≡◌, ℕ, []}
use Rattle.dcv_cli.specs.Common.{Limits, Done}
use Rattle.dcv_command.specs.Listed.{limits_by_default}
use Rattle.dcv_sweep.specs.Findings.{IsSummary}
use Rattle.dcv_sweep.specs.SummaryText.{summary_text}
use Rattle.dcv_sweep.specs.declared.summary.Summary.{Summary}
use Rattle.dcv_cli.specs.Outcome.{Outcome}

-- those of a command without options
abbrev pub default_limits : Limits
default_limits = limits_by_default

pub record IsSwept (seed count : ℕ) (outcome : Outcome) : Type 0 where
  pub summary : Summary
  pub is : IsSummary default_limits seed count summary
  pub status : outcome.status ≡ Done
  pub says : outcome.out ≡ summary_text summary
  pub no_message : outcome.err ≡ []
