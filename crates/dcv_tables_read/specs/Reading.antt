-- What is wrong with a text that is no unit of tables.
--     judged tables               whether each number keeps the rules, in the order of the text, and then each parameter
--     words_of tables             where these stand, and how they are spelled
--     HasFault text fault         the text has not the form, or a number or a parameter breaks a rule: the first, by its offset
--     IsReadAs text tables        neither
use Rattle.std.specs.Prelude.{◌≡◌, ℕ, ◌+◌, Bool, not, ◌&&◌, ◌||◌, nat_lt, nat_le, IsTrue, List, [], ◌∷◌, ◌++◌, Some, length, map, drop, codes}
use Rattle.std.specs.Fmt.{decimal}
use Rattle.std.specs.List.{list_all}
use Rattle.dcv_tokens.specs.Tokens.{is_name}
use Rattle.dcv_tokens.specs.Limits.{longest_word}
use Rattle.dcv_language.specs.Limits.{most_variables, most_states, most_nodes}
use Rattle.dcv_lexer.specs.Cuts.{Token}
use Rattle.dcv_observer.specs.Naming.{is_among}
use Rattle.dcv_observer.specs.Subsets.{first_broken}
use Rattle.dcv_observer.specs.Layouts.{Each}
use Rattle.dcv_observer.specs.declared.fault.ObsFault.{ObsFault}
use Rattle.dcv_observer.specs.declared.fault.ObsFault.TheVariants.{Syntax, Names, Memory}
use Rattle.dcv_c_tables.specs.Unit.{TableNode, TableState, Tables}
use Rattle.dcv_c_tables.specs.Rules.{variable_at}
use Rattle.dcv_c_tables.specs.Layout.{text_in, type_of, counts_line, number_line, opening, char_type, variable_head, high_head, low_head, row_head}
use Rattle.dcv_c_tables.specs.Layout.{array_lines, node_arrays, state_arrays, reset_lines}
use Rattle.dcv_tables_read.specs.Form.{HasForm, IsSyntaxFault}

-- ---- the rules

-- some states, and not too many of anything
abbrev pub keeps_counts : Tables → List Bool
keeps_counts tables =
    (nat_lt 0 (length tables.states) && nat_le (length tables.states) most_states)
    ∷ nat_le (length tables.nodes) most_nodes ∷ nat_le (length tables.parameters) most_variables ∷ []

abbrev pub keeps_variables : Tables → List Bool
keeps_variables tables = map (λ (node : TableNode). nat_lt node.variable (length tables.parameters)) tables.nodes

-- a place before the node's own: a state, or a node with a later parameter
abbrev pub keeps_child : Tables → ℕ → ℕ → ℕ → Bool
keeps_child tables own variable child = nat_lt child own && (nat_lt child (length tables.states) || nat_lt variable (variable_at tables child))

-- of nodes of which the first has this place
abbrev pub keeps_children : Tables → (TableNode → ℕ) → ℕ → List TableNode → List Bool
keeps_children tables child own [] = []
keeps_children tables child own (node ∷ nodes) = keeps_child tables own node.variable (child node) ∷ keeps_children tables child (own + 1) nodes

abbrev pub keeps_rows : Tables → List Bool
keeps_rows tables = map (λ (state : TableState). nat_lt state.row (length tables.states + length tables.nodes)) tables.states

-- what stands behind `v_` is a name of a variable
abbrev pub is_named : List ℕ → Bool
is_named parameter = is_name (drop 2 parameter) && nat_le (length (drop 2 parameter)) longest_word

-- and no parameter stands twice
abbrev pub keeps_parameters : List (List ℕ) → List (List ℕ) → List Bool
keeps_parameters earlier [] = []
keeps_parameters earlier (name ∷ names) = (is_named name && not (is_among earlier name)) ∷ keeps_parameters (earlier ++ name ∷ []) names

unfoldable pub judged : Tables → List Bool
judged tables =
    let states = length tables.states in
    keeps_counts tables
    ++ (keeps_variables tables
    ++ (keeps_children tables (λ node. node.high) states tables.nodes
    ++ (keeps_children tables (λ node. node.low) states tables.nodes
    ++ (keeps_rows tables
    ++ keeps_parameters [] tables.parameters))))

-- ---- where they stand

-- the numbers of an array's lines, of which the first begins two bytes behind this offset
abbrev pub entries : ℕ → List ℕ → List Token
entries at [] = []
entries at (number ∷ numbers) = record { bytes = decimal number; start = at + 2 } ∷ entries (at + length (text_in (number_line number))) numbers

-- behind `int `, and before a comma and a space
abbrev pub parameter_words : ℕ → List (List ℕ) → List Token
parameter_words at [] = []
parameter_words at (name ∷ names) = record { bytes = name; start = at + 4 } ∷ parameter_words (at + 4 + length name + 2) names

abbrev pub array_size : List ℕ → List ℕ → List ℕ → ℕ
array_size integer head numbers = length (text_in (array_lines integer head (Each number_line numbers)))

abbrev pub array_words : ℕ → List ℕ → List ℕ → List ℕ → List Token
array_words at integer head numbers = entries (at + length (text_in (opening integer head))) numbers

abbrev pub count_words : ℕ → ℕ → ℕ → List Token
count_words states nodes parameters =
    let first = length (codes "enum { states = ") in
    let second = first + length (decimal states) + length (codes ", nodes = ") in
    let third = second + length (decimal nodes) + length (codes ", variables = ") in
    record { bytes = decimal states; start = first } ∷ record { bytes = decimal nodes; start = second }
    ∷ record { bytes = decimal parameters; start = third } ∷ []

unfoldable pub words_of : Tables → List Token
words_of tables =
    let integer = type_of tables in
    let states = length tables.states in
    let nodes = length tables.nodes in
    let parameters = length tables.parameters in
    let variables = map (λ (node : TableNode). node.variable) tables.nodes in
    let highs = map (λ (node : TableNode). node.high) tables.nodes in
    let lows = map (λ (node : TableNode). node.low) tables.nodes in
    let rows = map (λ (state : TableState). state.row) tables.states in
    let arrays = length (text_in (counts_line states nodes parameters)) in
    let after_variables = arrays + array_size char_type variable_head variables in
    let after_highs = after_variables + array_size integer high_head highs in
    let after_nodes = arrays + length (text_in (node_arrays integer tables.nodes)) in
    let functions = after_nodes + length (text_in (state_arrays integer tables.states)) in
    count_words states nodes parameters
    ++ (array_words arrays char_type variable_head variables
    ++ (array_words after_variables integer high_head highs
    ++ (array_words after_highs integer low_head lows
    ++ (array_words after_nodes integer row_head rows
    ++ parameter_words (functions + length (text_in (reset_lines integer))) tables.parameters))))

-- ---- faults

abbrev pub IsNamesFault : Tables → ℕ → Type 0
IsNamesFault tables at = first_broken (words_of tables) (judged tables) ≡ Some at

abbrev pub HasFault : List ℕ → ObsFault → Type 0
HasFault text (Syntax at) = IsSyntaxFault text at
HasFault text (Names at) = (tables : Tables) × HasForm text tables × IsNamesFault tables at
HasFault text Memory = ⊥

pub record IsReadAs (text : List ℕ) (tables : Tables) : Type 0 where
  pub form : HasForm text tables
  pub keeps : IsTrue (list_all (λ keeps. keeps) (judged tables))
