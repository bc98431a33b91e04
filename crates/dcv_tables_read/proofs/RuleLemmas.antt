-- The words of a whole unit are judged in turn.
use Rattle.std.proofs.Common.{◌≡◌, ℕ, suc, ◌+◌, ◌<◌, nat_lt, List, [], ◌∷◌, ◌++◌, length, map, None, Some, Result, Ok, refl, sym, ap, ◌∙◌, subst, arith}
use Rattle.std.proofs.lemmas.List.{length-append, length-map}
use Rattle.std.specs.Result.{IsErrAnd}
use Rattle.dcv_lexer.specs.Cuts.{Token}
use Rattle.dcv_observer.specs.Subsets.{first_broken}
use Rattle.dcv_c_tables.specs.Unit.{TableNode, TableState, Tables}
use Rattle.dcv_c_tables.specs.Layout.{text_in, number_line, opening, closing, array_lines, char_type, variable_head, high_head, low_head, node_arrays}
use Rattle.dcv_tables_read.specs.Reading.{keeps_variables, keeps_children, keeps_rows, entries, array_size, array_words}
use Rattle.dcv_tables_read.specs.Judged.{IsJudged, lines_of, variable_numbers, high_numbers, low_numbers, row_numbers, keeps_highs, keeps_lows, node_words, keeps_nodes}
use Rattle.dcv_tables_read.proofs.NumberLemmas.{lines_of_numbers}
use Rattle.dcv_tables_read.proofs.JudgedWords.{stops, stopped, stopped_later, in_turn}

-- ---- nodes

pub array_same : {X : Type 0} (integer head : List ℕ) (number : X → ℕ) (xs : List X) → length (text_in (array_lines integer head (lines_of number xs))) ≡ array_size integer head (map number xs)
array_same integer head number xs = ap (λ lines. length (text_in (opening integer head) ++ (lines ++ text_in closing))) (lines_of_numbers number xs)

-- how many bytes the arrays of nodes have, where there is a node
sizes_of : (integer : List ℕ) (nodes : List TableNode) → 0 < length nodes → length (text_in (node_arrays integer nodes))
    ≡ array_size char_type variable_head (map (λ (node : TableNode). node.variable) nodes)
    + (array_size integer high_head (map (λ (node : TableNode). node.high) nodes) + array_size integer low_head (map (λ (node : TableNode). node.low) nodes))
sizes_of integer [] some = absurd (omega (arith, some))
sizes_of integer (node ∷ nodes) some =
    let all = node ∷ nodes in
    let variables = text_in (array_lines char_type variable_head (lines_of (λ (node : TableNode). node.variable) all)) in
    let highs = text_in (array_lines integer high_head (lines_of (λ (node : TableNode). node.high) all)) in
    let lows = text_in (array_lines integer low_head (lines_of (λ (node : TableNode). node.low) all)) in
    omega (
      arith,
      length-append variables (highs ++ lows),
      length-append highs lows,
      array_same char_type variable_head (λ (node : TableNode). node.variable) all,
      array_same integer high_head (λ (node : TableNode). node.high) all,
      array_same integer low_head (λ (node : TableNode). node.low) all,
    )

pub node_sizes : (integer : List ℕ) (tables : Tables) → 0 < length tables.nodes → length (text_in (node_arrays integer tables.nodes))
    ≡ array_size char_type variable_head (variable_numbers tables) + (array_size integer high_head (high_numbers tables) + array_size integer low_head (low_numbers tables))
node_sizes integer tables some = sizes_of integer tables.nodes some

pub no_nodes : (integer : List ℕ) (at : ℕ) (tables : Tables) → length tables.nodes ≡ 0
    → IsJudged (node_words integer at tables) (keeps_nodes tables) (at + length (text_in (node_arrays integer tables.nodes))) (Ok at)
no_nodes integer at tables none = by tables.nodes none refl
  where
    by : (nodes : List TableNode) → length nodes ≡ 0 → tables.nodes ≡ nodes
        → IsJudged (node_words integer at tables) (keeps_nodes tables) (at + length (text_in (node_arrays integer tables.nodes))) (Ok at)
    by (node ∷ nodes) none is = absurd (omega (arith, none))
    by [] none is =
        let bare : Tables = record { parameters = tables.parameters; nodes = []; states = tables.states } in
        let same : tables ≡ bare = λ i. record { parameters = tables.parameters; nodes = is i; states = tables.states } in
        let here : IsJudged (node_words integer at bare) (keeps_nodes bare) (at + length (text_in (node_arrays integer bare.nodes))) (Ok at) = (refl, omega arith) in
        subst (λ (tables : Tables). IsJudged (node_words integer at tables) (keeps_nodes tables) (at + length (text_in (node_arrays integer tables.nodes))) (Ok at)) (sym same) here

-- ---- as many words as are judged

pub many_entries : (at : ℕ) (numbers : List ℕ) → length (entries at numbers) ≡ length numbers
many_entries at [] = refl
many_entries at (number ∷ numbers) = ap suc (many_entries (at + length (text_in (number_line number))) numbers)

many_children : (tables : Tables) (child : TableNode → ℕ) (own : ℕ) (nodes : List TableNode) → length (keeps_children tables child own nodes) ≡ length nodes
many_children tables child own [] = refl
many_children tables child own (node ∷ nodes) = ap suc (many_children tables child (own + 1) nodes)

module _ (tables : Tables) (integer head : List ℕ) (at : ℕ) where
  pub many_variables : length (array_words at integer head (variable_numbers tables)) ≡ length (keeps_variables tables)
  many_variables =
      many_entries (at + length (text_in (opening integer head))) (variable_numbers tables)
      ∙ length-map tables.nodes (λ (node : TableNode). node.variable) ∙ sym (length-map tables.nodes (λ (node : TableNode). nat_lt node.variable (length tables.parameters)))

  pub many_highs : length (array_words at integer head (high_numbers tables)) ≡ length (keeps_highs tables)
  many_highs =
      many_entries (at + length (text_in (opening integer head))) (high_numbers tables)
      ∙ length-map tables.nodes (λ (node : TableNode). node.high) ∙ sym (many_children tables (λ node. node.high) (length tables.states) tables.nodes)

  pub many_lows : length (array_words at integer head (low_numbers tables)) ≡ length (keeps_lows tables)
  many_lows =
      many_entries (at + length (text_in (opening integer head))) (low_numbers tables)
      ∙ length-map tables.nodes (λ (node : TableNode). node.low) ∙ sym (many_children tables (λ node. node.low) (length tables.states) tables.nodes)

  pub many_rows : length (array_words at integer head (row_numbers tables)) ≡ length (keeps_rows tables)
  many_rows =
      many_entries (at + length (text_in (opening integer head))) (row_numbers tables)
      ∙ length-map tables.states (λ (state : TableState). state.row)
      ∙ sym (length-map tables.states (λ (state : TableState). nat_lt state.row (length tables.states + length tables.nodes)))

-- ---- the arrays of nodes in turn

module _ (integer : List ℕ) (at : ℕ) (tables : Tables) where
  abbrev after_variables : ℕ
  after_variables = at + array_size char_type variable_head (variable_numbers tables)

  abbrev after_highs : ℕ
  after_highs = after_variables + array_size integer high_head (high_numbers tables)

  abbrev variables : List Token
  variables = array_words at char_type variable_head (variable_numbers tables)

  abbrev highs : List Token
  highs = array_words after_variables integer high_head (high_numbers tables)

  abbrev lows : List Token
  lows = array_words after_highs integer low_head (low_numbers tables)

  abbrev end : ℕ
  end = at + length (text_in (node_arrays integer tables.nodes))

  pub at_variables : (fault : ℕ) (result : Result ℕ ℕ) → IsErrAnd result (λ e. e ≡ fault) → first_broken variables (keeps_variables tables) ≡ Some fault
      → IsJudged (node_words integer at tables) (keeps_nodes tables) end result
  at_variables fault result exits some = stopped variables (highs ++ lows) (keeps_variables tables) (keeps_highs tables ++ keeps_lows tables) at end fault result exits some

  pub at_highs : (next fault : ℕ) (result : Result ℕ ℕ) → first_broken variables (keeps_variables tables) ≡ None → next ≡ after_variables
      → IsErrAnd result (λ e. e ≡ fault) → first_broken (array_words next integer high_head (high_numbers tables)) (keeps_highs tables) ≡ Some fault
      → IsJudged (node_words integer at tables) (keeps_nodes tables) end result
  at_highs next fault result none is exits some =
      let here : first_broken highs (keeps_highs tables) ≡ Some fault =
      subst (λ next. first_broken (array_words next integer high_head (high_numbers tables)) (keeps_highs tables) ≡ Some fault) is some in
      stopped_later variables (highs ++ lows) (keeps_variables tables) (keeps_highs tables ++ keeps_lows tables) end fault result
      (many_variables tables char_type variable_head at) none exits
      (stops highs lows (keeps_highs tables) (keeps_lows tables) at end fault here)

  pub at_lows : (next last : ℕ) (result : Result ℕ ℕ) → 0 < length tables.nodes → first_broken variables (keeps_variables tables) ≡ None → next ≡ after_variables
      → first_broken (array_words next integer high_head (high_numbers tables)) (keeps_highs tables) ≡ None → last ≡ next + array_size integer high_head (high_numbers tables)
      → IsJudged (array_words last integer low_head (low_numbers tables)) (keeps_lows tables) (last + array_size integer low_head (low_numbers tables)) result
      → IsJudged (node_words integer at tables) (keeps_nodes tables) end result
  at_lows next last result some none is also then_is judged =
      let further : first_broken highs (keeps_highs tables) ≡ None =
      subst (λ next. first_broken (array_words next integer high_head (high_numbers tables)) (keeps_highs tables) ≡ None) is also in
      let place : last ≡ after_highs = omega (arith, is, then_is) in
      let ends : last + array_size integer low_head (low_numbers tables) ≡ end = omega (arith, place, node_sizes integer tables some) in
      let here : IsJudged lows (keeps_lows tables) end result =
      subst (λ (t : ℕ × ℕ). IsJudged (array_words t.0 integer low_head (low_numbers tables)) (keeps_lows tables) t.1 result) (λ i. (place i, ends i)) judged in
      in_turn variables (highs ++ lows) (keeps_variables tables) (keeps_highs tables ++ keeps_lows tables) end result (many_variables tables char_type variable_head at) none
      (in_turn highs lows (keeps_highs tables) (keeps_lows tables) end result (many_highs tables integer high_head after_variables) further here)

  pub many_nodes : length (node_words integer at tables) ≡ length (keeps_nodes tables)
  many_nodes =
      omega (
        arith,
        many_variables tables char_type variable_head at,
        many_highs tables integer high_head after_variables,
        many_lows tables integer low_head after_highs,
        length-append variables (highs ++ lows),
        length-append highs lows,
        length-append (keeps_variables tables) (keeps_highs tables ++ keeps_lows tables),
        length-append (keeps_highs tables) (keeps_lows tables),
      )
