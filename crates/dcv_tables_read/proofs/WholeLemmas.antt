-- The words of a whole unit are judged part by part, and its text has room for all of them.
use Rattle.std.proofs.Common.{◌≡◌, ℕ, suc, ◌+◌, ◌*◌, ◌≤◌, Bool, true, false, List, [], ◌∷◌, ◌++◌, length, None, Some, Result, refl, sym, ap, ◌∙◌, subst, arith, codes, append_assoc}
use Rattle.std.specs.List.{flat_map}
use Rattle.std.specs.Fmt.{digits}
use Rattle.std.proofs.lemmas.List.{length-append}
use Rattle.std.specs.Result.{IsErrAnd}
use Rattle.dcv_lexer.specs.Cuts.{Token}
use Rattle.dcv_observer.specs.Subsets.{first_broken}
use Rattle.dcv_observer.specs.Layouts.{Each}
use Rattle.dcv_c_tables.specs.Unit.{TableState, Tables}
use Rattle.dcv_c_tables.specs.Layout.{text_in, type_of, counts_line, char_type, variable_head, high_head, low_head, row_head, accept_head, number_line, closing, accept_number, row_line, accept_line, array_lines, node_arrays, state_arrays, reset_lines, declaration, parameters_layout, body_lines, has_nodes, layout_of, text_of}
use Rattle.dcv_tables_read.specs.Reading.{keeps_counts, keeps_variables, keeps_rows, keeps_parameters, parameter_words, array_size, array_words, count_words, words_of, judged}
use Rattle.dcv_tables_read.specs.Judged.{IsJudgedWhole, variable_numbers, high_numbers, low_numbers, row_numbers, keeps_highs, keeps_lows, keeps_nodes, node_words, parameters_size}
use Rattle.dcv_tables_read.proofs.JudgedWords.{whole_stopped, whole_later}
use Rattle.dcv_tables_read.proofs.RuleLemmas.{array_same, many_rows, many_nodes}

many_parameters : (at : ℕ) (earlier parameters : List (List ℕ)) → length (parameter_words at parameters) ≡ length (keeps_parameters earlier parameters)
many_parameters at earlier [] = refl
many_parameters at earlier (name ∷ parameters) = ap suc (many_parameters (at + 4 + length name + 2) (earlier ++ name ∷ []) parameters)

nested : {X : Type 0} (a b c d : List X) → a ++ (b ++ (c ++ d)) ≡ (a ++ (b ++ c)) ++ d
nested a b c d = sym (append_assoc a (b ++ c) d ∙ ap (λ rest. a ++ rest) (append_assoc b c d))

-- ---- room

five_more : (n : ℕ) → suc (suc (suc (suc (suc n)))) ≡ 5 + n
five_more n = omega arith

answer_size : (accepts : Bool) (rest : List ℕ) → length (text_in (number_line (accept_number accepts)) ++ rest) ≡ 5 + length rest
unfolding digits
answer_size true rest = five_more (length rest)
answer_size false rest = five_more (length rest)

answers_size : (states : List TableState) → length (text_in (Each accept_line states)) ≡ 5 * length states
answers_size [] = refl
answers_size (state ∷ states) = omega (arith, answer_size state.accepts (text_in (Each accept_line states)), answers_size states)

after_first : (names : List (List ℕ)) → length (flat_map (λ name. codes ", " ++ text_in (declaration name)) names) ≡ parameters_size names
after_first [] = refl
after_first (name ∷ names) =
    omega (arith, after_first names, length-append name (flat_map (λ name. codes ", " ++ text_in (declaration name)) names))

parameters_fit : (parameters : List (List ℕ)) → parameters_size parameters ≤ length (text_in (parameters_layout parameters)) + 2
parameters_fit [] = omega arith
parameters_fit (name ∷ names) = omega (arith, joined)
  where
    joined : length (text_in (parameters_layout (name ∷ names))) ≡ 4 + length name + parameters_size names
    joined = omega (arith, length-append name (flat_map (λ name. codes ", " ++ text_in (declaration name)) names), after_first names)

module _ (tables : Tables) (integer : List ℕ) (is : integer ≡ type_of tables) where
  abbrev states : ℕ
  states = length tables.states

  abbrev counts : List ℕ
  counts = text_in (counts_line states (length tables.nodes) (length tables.parameters))

  abbrev arrays : ℕ
  arrays = length counts

  abbrev after_nodes : ℕ
  after_nodes = arrays + length (text_in (node_arrays integer tables.nodes))

  abbrev after_rows : ℕ
  after_rows = after_nodes + array_size integer row_head (row_numbers tables)

  -- where the first parameter is declared
  abbrev pub names_at : ℕ
  names_at = after_nodes + length (text_in (state_arrays integer tables.states)) + length (text_in (reset_lines integer))

  pub names_begin : names_at ≡ after_rows + 5 * states + length integer + 122
  names_begin =
      let rows = text_in (array_lines integer row_head (Each row_line tables.states)) in
      let answers = text_in (Each accept_line tables.states) in
      let all = text_in (array_lines char_type accept_head (Each accept_line tables.states)) in
      omega (
        arith,
        length-append rows all,
        array_same integer row_head (λ (state : TableState). state.row) tables.states,
        length-append answers (text_in closing),
        answers_size tables.states,
        length-append integer (codes " st;\n\nvoid observer_reset(void)\n{\n  st = 0;\n}\n\nint observer_step("),
      )

  -- the whole text has room for all of it
  pub text_size : names_at + parameters_size tables.parameters ≤ length (text_of tables)
  unfolding layout_of text_of
  text_size =
      let nodes = text_in (node_arrays (type_of tables) tables.nodes) in
      let arrays_of_states = text_in (state_arrays (type_of tables) tables.states) in
      let reset = text_in (reset_lines (type_of tables)) in
      let parameters = text_in (parameters_layout tables.parameters) in
      let body = text_in (body_lines (type_of tables) tables.parameters (has_nodes tables.nodes)) in
      let step = parameters ++ (codes ")\n{\n" ++ body) in
      let at = ap (λ integer. length (text_in (node_arrays integer tables.nodes)) + length (text_in (state_arrays integer tables.states)) + length (text_in (reset_lines integer))) is in
      omega (
        arith,
        at,
        length-append counts (nodes ++ (arrays_of_states ++ (reset ++ step))),
        length-append nodes (arrays_of_states ++ (reset ++ step)),
        length-append arrays_of_states (reset ++ step),
        length-append reset step,
        length-append parameters (codes ")\n{\n" ++ body),
        parameters_fit tables.parameters,
      )

  -- ---- parts

  abbrev rows : List Token
  rows = array_words after_nodes integer row_head (row_numbers tables)

  abbrev names : List Token
  names = parameter_words names_at tables.parameters

  abbrev count : List Token
  count = count_words states (length tables.nodes) (length tables.parameters)

  -- all of them, one array after another, by the type of a place
  abbrev in_line : List ℕ → List Token
  in_line integer =
      let after_variables = arrays + array_size char_type variable_head (variable_numbers tables) in
      let after_highs = after_variables + array_size integer high_head (high_numbers tables) in
      let after_nodes = arrays + length (text_in (node_arrays integer tables.nodes)) in
      let names_at = after_nodes + length (text_in (state_arrays integer tables.states)) + length (text_in (reset_lines integer)) in
      count ++ (array_words arrays char_type variable_head (variable_numbers tables) ++ (array_words after_variables integer high_head (high_numbers tables)
      ++ (array_words after_highs integer low_head (low_numbers tables) ++ (array_words after_nodes integer row_head (row_numbers tables) ++ parameter_words names_at tables.parameters))))

  words_in_line : words_of tables ≡ in_line (type_of tables)
  unfolding words_of
  words_in_line = refl

  words_are : words_of tables ≡ count ++ (node_words integer arrays tables ++ (rows ++ names))
  words_are =
      let after_variables = arrays + array_size char_type variable_head (variable_numbers tables) in
      words_in_line ∙ ap in_line (sym is)
      ∙ ap (λ words. count ++ words) (nested (array_words arrays char_type variable_head (variable_numbers tables)) (array_words after_variables integer high_head (high_numbers tables))
      (array_words (after_variables + array_size integer high_head (high_numbers tables)) integer low_head (low_numbers tables)) (rows ++ names))

  judged_are : judged tables ≡ keeps_counts tables ++ (keeps_nodes tables ++ (keeps_rows tables ++ keeps_parameters [] tables.parameters))
  unfolding judged
  judged_are =
      ap (λ keeps. keeps_counts tables ++ keeps) (nested (keeps_variables tables) (keeps_highs tables) (keeps_lows tables) (keeps_rows tables ++ keeps_parameters [] tables.parameters))

  pub many_words : length (words_of tables) ≡ length (judged tables)
  many_words =
      omega (
        arith,
        ap length words_are,
        ap length judged_are,
        length-append count (node_words integer arrays tables ++ (rows ++ names)),
        length-append (node_words integer arrays tables) (rows ++ names),
        length-append rows names,
        length-append (keeps_counts tables) (keeps_nodes tables ++ (keeps_rows tables ++ keeps_parameters [] tables.parameters)),
        length-append (keeps_nodes tables) (keeps_rows tables ++ keeps_parameters [] tables.parameters),
        length-append (keeps_rows tables) (keeps_parameters [] tables.parameters),
        many_nodes integer arrays tables,
        many_rows tables integer row_head after_nodes,
        many_parameters names_at [] tables.parameters,
      )

  module _ {Whole : Type 0} (result : Result Whole ℕ) where
    whole_is : IsJudgedWhole (count ++ (node_words integer arrays tables ++ (rows ++ names))) (keeps_counts tables ++ (keeps_nodes tables ++ (keeps_rows tables ++ keeps_parameters [] tables.parameters))) result
        → IsJudgedWhole (words_of tables) (judged tables) result
    whole_is = subst (λ (t : List Token × List Bool). IsJudgedWhole t.0 t.1 result) (λ i. (sym words_are i, sym judged_are i))

    pub at_counts : (fault : ℕ) → IsErrAnd result (λ e. e ≡ fault) → first_broken count (keeps_counts tables) ≡ Some fault → IsJudgedWhole (words_of tables) (judged tables) result
    at_counts fault exits some =
        whole_is (whole_stopped count (node_words integer arrays tables ++ (rows ++ names)) (keeps_counts tables) (keeps_nodes tables ++ (keeps_rows tables ++ keeps_parameters [] tables.parameters)) fault result exits some)

    module _ (none : first_broken count (keeps_counts tables) ≡ None) where
      after_counts : IsJudgedWhole (node_words integer arrays tables ++ (rows ++ names)) (keeps_nodes tables ++ (keeps_rows tables ++ keeps_parameters [] tables.parameters)) result
          → IsJudgedWhole (words_of tables) (judged tables) result
      after_counts judged =
          whole_is (whole_later count (node_words integer arrays tables ++ (rows ++ names)) (keeps_counts tables) (keeps_nodes tables ++ (keeps_rows tables ++ keeps_parameters [] tables.parameters)) result refl none judged)

      module _ (next : ℕ) (next_is : next ≡ arrays) where
        pub at_nodes : (fault : ℕ) → IsErrAnd result (λ e. e ≡ fault) → first_broken (node_words integer next tables) (keeps_nodes tables) ≡ Some fault
            → IsJudgedWhole (words_of tables) (judged tables) result
        at_nodes fault exits some =
            after_counts (whole_stopped (node_words integer arrays tables) (rows ++ names) (keeps_nodes tables) (keeps_rows tables ++ keeps_parameters [] tables.parameters) fault result exits
            (subst (λ next. first_broken (node_words integer next tables) (keeps_nodes tables) ≡ Some fault) next_is some))

        module _ (nodes_kept : first_broken (node_words integer next tables) (keeps_nodes tables) ≡ None) (then : ℕ) (then_is : then ≡ next + length (text_in (node_arrays integer tables.nodes))) where
          after_all : IsJudgedWhole (rows ++ names) (keeps_rows tables ++ keeps_parameters [] tables.parameters) result → IsJudgedWhole (words_of tables) (judged tables) result
          after_all judged =
              after_counts (whole_later (node_words integer arrays tables) (rows ++ names) (keeps_nodes tables) (keeps_rows tables ++ keeps_parameters [] tables.parameters) result
              (many_nodes integer arrays tables) (subst (λ next. first_broken (node_words integer next tables) (keeps_nodes tables) ≡ None) next_is nodes_kept) judged)

          pub at_rows : (fault : ℕ) → IsErrAnd result (λ e. e ≡ fault) → first_broken (array_words then integer row_head (row_numbers tables)) (keeps_rows tables) ≡ Some fault
              → IsJudgedWhole (words_of tables) (judged tables) result
          at_rows fault exits some =
              let place : then ≡ after_nodes = omega (arith, next_is, then_is) in
              after_all (whole_stopped rows names (keeps_rows tables) (keeps_parameters [] tables.parameters) fault result exits
              (subst (λ then. first_broken (array_words then integer row_head (row_numbers tables)) (keeps_rows tables) ≡ Some fault) place some))

          pub at_names : first_broken (array_words then integer row_head (row_numbers tables)) (keeps_rows tables) ≡ None → (first : ℕ) → first ≡ names_at
              → IsJudgedWhole (parameter_words first tables.parameters) (keeps_parameters [] tables.parameters) result → IsJudgedWhole (words_of tables) (judged tables) result
          at_names rows_kept first first_is judged =
              let place : then ≡ after_nodes = omega (arith, next_is, then_is) in
              after_all (whole_later rows names (keeps_rows tables) (keeps_parameters [] tables.parameters) result (many_rows tables integer row_head after_nodes)
              (subst (λ then. first_broken (array_words then integer row_head (row_numbers tables)) (keeps_rows tables) ≡ None) place rows_kept)
              (subst (λ first. IsJudgedWhole (parameter_words first tables.parameters) (keeps_parameters [] tables.parameters) result) first_is judged))
