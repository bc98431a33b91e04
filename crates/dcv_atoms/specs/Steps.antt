-- Which form a step of a core is.
--     IsAtom core step basic slots     the step is this form, over so many slots
use Rattle.std.specs.Prelude.{◌≡◌, ℕ, Some, slice_get}
use Rattle.dcv_core.specs.Core.{PlainBasic}
use Rattle.dcv_core.specs.Steps.{PlainCore, CoreStep, OpAtom}

pub record IsAtom (core : PlainCore) (step : ℕ) (basic : PlainBasic) (slots : ℕ) : Type 0 where
  pub own : CoreStep
  pub there : slice_get core.steps step ≡ Some own
  pub form : own.op ≡ OpAtom basic
  pub width : own.slots ≡ slots
