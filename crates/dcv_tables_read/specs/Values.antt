-- How clauses within the crate see what was read.
--     counts_of counts        the counts as plain data
--     words_in names          names as lists of bytes
use Rattle.std.specs.Prelude.{List, ℕ, map}
use Rattle.std.specs.Borrow.{Bor}
use Rattle.dcv_tables_read.specs.Parts.{CountsValue}
use Rattle.dcv_tables_read.specs.declared.counts.Counts.{Counts}

abbrev pub counts_of : Counts → CountsValue
counts_of counts = record { states = counts.states; nodes = counts.nodes; variables = counts.variables }

abbrev pub words_in : List (Bor (List ℕ)) → List (List ℕ)
words_in names = map (λ name. name.now) names
