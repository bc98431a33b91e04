-- The laws that `src/laws.rt` proves: the numbers and the formula with which seed 0 begins, and that there is one summary.
use Rattle.std.specs.Prelude.{◌≡◌, ℕ, zero, suc, ◌/◌, List, [], ◌∷◌}
use Rattle.dcv_syntax.specs.declared.formulas.Bracket.TheVariants.{Point}
use Rattle.dcv_core.specs.Core.{TruthSlot, TruthNot, BasicBracketed, CoreAtom}
use Rattle.dcv_sweep.specs.Draw.{next_draw}
use Rattle.dcv_sweep.specs.DrawnCores.{nowhere, drawn_formulas}
use Rattle.dcv_explore.specs.declared.explorer.Limits.{Limits}
use Rattle.dcv_sweep.specs.declared.summary.Summary.{Summary}
use Rattle.dcv_sweep.specs.Findings.{IsSummary}

-- the high bits of so many states in turn
abbrev pub first_numbers : ℕ → ℕ → List ℕ
first_numbers zero state = []
first_numbers (suc count) state = let next = next_draw state in next / 65536 ∷ first_numbers count next

abbrev pub NumbersOfSeed0 : Type 0
NumbersOfSeed0 = first_numbers 4 0 ≡ 0 ∷ 21468 ∷ 9988 ∷ 22117 ∷ []

-- `<!y>`, where the variables are x, y and z
abbrev pub FormulaOfSeed0 : Type 0
FormulaOfSeed0 = (drawn_formulas 1 0).made ≡ CoreAtom (BasicBracketed Point (TruthNot (TruthSlot 1))) nowhere ∷ []

abbrev pub OneSummary : Type 0
OneSummary = (limits : Limits) (seed count : ℕ) (one other : Summary) → IsSummary limits seed count one → IsSummary limits seed count other → one ≡ other
