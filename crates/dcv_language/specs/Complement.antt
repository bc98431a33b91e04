-- The complement of a canonical table: flags change, but that of a start which stands alone.
--     stands_alone      the access word of state 0 is empty
--     complement        the table of the words that are not in the set
use Rattle.std.specs.Prelude.{Bool, true, false, not, List, [], ◌∷◌, map, if◌then◌else◌}
use Rattle.dcv_word.specs.Behaviour.{Word}
use Rattle.dcv_language.specs.Table.{TableState, Table}

abbrev pub stands_alone : List Word → Bool
stands_alone [] = false
stands_alone ([] ∷ words) = true
stands_alone ((letter ∷ letters) ∷ words) = false

abbrev pub flipped : TableState → TableState
flipped state = record { accepting = not state.accepting; row = state.row }

abbrev pub complement : List Word → Table → Table
complement access [] = []
complement access (start ∷ others) = (if stands_alone access then start else flipped start) ∷ map flipped others
