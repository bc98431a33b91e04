use Rattle.std.proofs.Common.{◌≡◌, codes, take}
use Rattle.std.specs.List.{join_by}
use Rattle.std.specs.String.{string_bytes}
use Rattle.dcv_tables.specs.Spelled.{state_text}
use Rattle.dcv_tables.specs.Tables.{table_state}
use Rattle.dcv_tables.specs.declared.states.State.{State}
use Rattle.dcv_tables.proofs.states.text_of_states.Given as goal

abbrev pub invariant-loop-number : goal.invariant-loop-number
invariant-loop-number l = string_bytes l.text ≡ join_by (λ (state : State). state_text (table_state state)) (codes "; ") (take l.number l.states)
