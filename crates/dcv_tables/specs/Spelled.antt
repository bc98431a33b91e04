-- The texts of tables.
--     state_text state    whether it accepts, and the numbers of its row, each after a blank
--     table_text table    its states, with a semicolon and a blank between two
use Rattle.std.specs.Prelude.{ℕ, codes, if◌then◌else◌, List, ◌++◌}
use Rattle.std.specs.Fmt.{decimal}
use Rattle.std.specs.List.{flat_map, join_by}
use Rattle.dcv_language.specs.Table.{TableState, Table}

abbrev pub state_text : TableState → List ℕ
state_text state = (if state.accepting then codes "accept" else codes "reject") ++ flat_map (λ number. codes " " ++ decimal number) state.row

abbrev pub table_text : Table → List ℕ
table_text = join_by state_text (codes "; ")
