-- How words are judged in turn.
--     variable_numbers, high_numbers, low_numbers, row_numbers    the numbers of an array
--     node_words integer at tables, keeps_nodes tables    those of the arrays of nodes, where these begin at an offset
--     IsJudged words keeps next result        each keeps its rule, and this offset comes next; or the first that breaks one begins at the offset
--     IsJudgedWhole words keeps result        the same of the last words, after which none comes
--     judged_from keeps place elements        whether each element keeps a rule, where the first has this place
--     lines_of number elements                a line with a number for each
--     texts_of names                          names that the code has at hand
--     parameters_of names                     their parameters
--     parameters_size parameters                   the bytes of the parameters, with a comma and a space after each
use Rattle.std.specs.Prelude.{◌≡◌, ℕ, ◌+◌, Bool, List, [], ◌∷◌, ◌++◌, length, map, None, Some, Result, Ok, Err}
use Rattle.std.specs.Borrow.{Bor}
use Rattle.dcv_lexer.specs.Cuts.{Token}
use Rattle.dcv_observer.specs.Subsets.{first_broken}
use Rattle.dcv_observer.specs.Layouts.{Layout, Each}
use Rattle.dcv_c_tables.specs.Unit.{TableNode, TableState, Tables}
use Rattle.dcv_c_tables.specs.Layout.{number_line, char_type, variable_head, high_head, low_head}
use Rattle.dcv_c_tables.specs.Observer.{parameter_name}
use Rattle.dcv_tables_read.specs.Reading.{array_size, array_words, keeps_variables, keeps_children}

abbrev pub IsJudged : List Token → List Bool → ℕ → Result ℕ ℕ → Type 0
IsJudged words keeps next (Ok at) = (first_broken words keeps ≡ None) × (at ≡ next)
IsJudged words keeps next (Err at) = first_broken words keeps ≡ Some at

abbrev pub IsJudgedWhole : {Whole : Type 0} → List Token → List Bool → Result Whole ℕ → Type 0
IsJudgedWhole words keeps (Ok whole) = first_broken words keeps ≡ None
IsJudgedWhole words keeps (Err at) = first_broken words keeps ≡ Some at

abbrev pub judged_from : {X : Type 0} → (ℕ → X → Bool) → ℕ → List X → List Bool
judged_from keeps place [] = []
judged_from keeps place (x ∷ xs) = keeps place x ∷ judged_from keeps (place + 1) xs

abbrev pub lines_of : {X : Type 0} → (X → ℕ) → List X → Layout
lines_of number elements = Each (λ element. number_line (number element)) elements

abbrev pub parameters_size : List (List ℕ) → ℕ
parameters_size [] = 0
parameters_size (name ∷ names) = 4 + (length name + 2) + parameters_size names

abbrev pub variable_numbers : Tables → List ℕ
variable_numbers tables = map (λ (node : TableNode). node.variable) tables.nodes

abbrev pub high_numbers : Tables → List ℕ
high_numbers tables = map (λ (node : TableNode). node.high) tables.nodes

abbrev pub low_numbers : Tables → List ℕ
low_numbers tables = map (λ (node : TableNode). node.low) tables.nodes

abbrev pub row_numbers : Tables → List ℕ
row_numbers tables = map (λ (state : TableState). state.row) tables.states

abbrev pub node_words : List ℕ → ℕ → Tables → List Token
node_words integer at tables =
    let after_variables = at + array_size char_type variable_head (variable_numbers tables) in
    let after_highs = after_variables + array_size integer high_head (high_numbers tables) in
    array_words at char_type variable_head (variable_numbers tables)
    ++ (array_words after_variables integer high_head (high_numbers tables) ++ array_words after_highs integer low_head (low_numbers tables))

abbrev pub keeps_highs : Tables → List Bool
keeps_highs tables = keeps_children tables (λ node. node.high) (length tables.states) tables.nodes

abbrev pub keeps_lows : Tables → List Bool
keeps_lows tables = keeps_children tables (λ node. node.low) (length tables.states) tables.nodes

abbrev pub keeps_nodes : Tables → List Bool
keeps_nodes tables = keeps_variables tables ++ (keeps_highs tables ++ keeps_lows tables)

abbrev pub texts_of : List (Bor (List ℕ)) → List (List ℕ)
texts_of names = map (λ (name : Bor (List ℕ)). name.now) names

abbrev pub parameters_of : List (Bor (List ℕ)) → List (List ℕ)
parameters_of names = map (λ (name : Bor (List ℕ)). parameter_name name.now) names
