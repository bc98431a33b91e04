-- The laws that `src/laws.rt` proves: the machine of a shift accepts exactly the nonempty words of the shift's set.
use Rattle.std.specs.Prelude.{ℕ, Bool, List}
use Rattle.dcv_language.specs.MachineLaws.{AcceptsWordsOf}
use Rattle.dcv_shifts.specs.Machines.{back_machine, fore_machine}
use Rattle.dcv_shifts.specs.Shifts.{back, fore}

abbrev pub BackMachineAccepts : Type 0
BackMachineAccepts = (slots : ℕ) (P T : List Bool → Bool) → AcceptsWordsOf (back_machine slots P T).automaton (back P T)

abbrev pub ForeMachineAccepts : Type 0
ForeMachineAccepts = (slots : ℕ) (P T : List Bool → Bool) → AcceptsWordsOf (fore_machine slots P T).automaton (fore P T)
