-- What a view is to a machine.
use Rattle.std.proofs.Common.{◌≡◌, ℕ, Bool, List, length, map, get_or, Some, slice_get, sym, ap, ◌∙◌}
use Rattle.std.specs.Option.{option_map}
use Rattle.std.proofs.lemmas.Option.{get_or_from_slice_get, slice_get-map}
use Rattle.dcv_word.specs.Letter.{bits_of}
use Rattle.dcv_arena.specs.Arena.{ArenaValue, value_of, table_of}
use Rattle.dcv_arena.specs.Diagram.{as_table}
use Rattle.dcv_arena.proofs.Tables.{table_of-at}
use Rattle.dcv_language.specs.Table.{TableState, no_state, next_in}
use Rattle.dcv_shelf.specs.Stored.{stored_state, stored_table}
use Rattle.dcv_shelf.specs.declared.stored.State.{State}
use Rattle.dcv_shelf.specs.declared.stored.Stored.{Stored}

-- the state at a place
state_there : (arena : ArenaValue) (stored : Stored) (place : ℕ) (state : State) → slice_get stored.states.items place ≡ Some state
    → get_or (stored_table arena stored).table place no_state ≡ stored_state arena stored.slots state
state_there arena stored place state there =
    let form = stored_state arena stored.slots in
    get_or_from_slice_get (map form stored.states.items) place (form state) no_state (slice_get-map form stored.states.items place ∙ ap (option_map form) there)

pub row_steps : (arena : ArenaValue) (stored : Stored) (place : ℕ) (state : State) → slice_get stored.states.items place ≡ Some state
    → (letter : List Bool) → length letter ≡ stored.slots → value_of arena state.row letter ≡ next_in (stored_table arena stored).table place letter
unfolding table_of
row_steps arena stored place state there letter size =
    let f = value_of arena state.row in
    sym (ap (λ (one : TableState). get_or one.row (bits_of letter) 0) (state_there arena stored place state there)
    ∙ get_or_from_slice_get (as_table stored.slots f) (bits_of letter) (f letter) 0 (table_of-at (record arena { slots = stored.slots }) state.row letter size))
