-- The table of a file that keeps the table rules is a table: a row has a state of the file for each letter.
use Rattle.std.proofs.Common.{◌≡◌, ℕ, suc, ◌^◌, ◌<◌, Bool, true, false, cond, List, [], ◌∷◌, ◌++◌, length, fold, get_or, inl, inr, sym, ◌∙◌, subst, arith}
use Rattle.std.specs.List.{All}
use Rattle.std.proofs.lemmas.Bool.{cases_lt, ltb-true}
use Rattle.std.proofs.lemmas.List.{length-map, get_or-map, get_or_past}
use Rattle.std.proofs.lemmas.List.Elements.{All-push}
use Rattle.dcv_word.specs.Laws.{LettersAreTwoToTheWidth}
use Rattle.dcv_word.specs.Letter.{letters_of_width}
use Rattle.dcv_language.specs.Table.{TableState}
use Rattle.dcv_language.specs.declared.child.Child.{Child}
use Rattle.dcv_language.specs.declared.child.Child.TheVariants.{State, Node}
use Rattle.dcv_automaton_text.specs.File.{NodeLine, StateLine, AutomatonFile}
use Rattle.dcv_automaton_text.specs.Laws.{GoodFilesAreTables, TableHasTheFilesStates}
use Rattle.dcv_automaton_text.specs.Meaning.{state_at, states_at, state_of, table_of}
use Rattle.dcv_automaton_text.specs.Rules.{slot_of, keeps_child, keeps_row}
use Rattle.dcv_automaton_text.proofs.GoodFiles.{IsGoodFile, good_file}

-- ---- the states that targets stand for

-- a target that is a state is one of so many
abbrev pub IsStateBelow : ℕ → Child → Type 0
IsStateBelow count (State number) = number < count
IsStateBelow count (Node number) = Unit {0}

pub child_is_below : (file : AutomatonFile) (place : ℕ) (target : Child) → keeps_child file place target ≡ true → IsStateBelow file.states target
child_is_below file place (State number) kept = ltb-true number file.states kept
child_is_below file place (Node number) kept = tt

pub row_is_below : (file : AutomatonFile) (target : Child) → keeps_row file target ≡ true → IsStateBelow file.states target
row_is_below file (State number) kept = ltb-true number file.states kept
row_is_below file (Node number) kept = tt

pub stands_below : (count : ℕ) (states : List ℕ) (target : Child) → 0 < count → All (λ state. state < count) states → IsStateBelow count target → state_at states target < count
stands_below count states (State number) some all below = below
stands_below count states (Node number) some all below =
    elim (cases_lt number (length states)) [
      | inl within ↦ all number 0 within
      | inr past ↦ subst (λ state. state < count) (sym (get_or_past states number 0 past)) some
    ]

module _ (names : List (List ℕ)) (letter : List Bool) (count : ℕ) (some : 0 < count) where
  abbrev step : List ℕ → NodeLine → List ℕ
  step states line = states ++ state_at states (cond (get_or letter (slot_of names line.name) false) line.hi line.lo) ∷ []

  chosen : (side : Bool) (line : NodeLine) → IsStateBelow count line.hi → IsStateBelow count line.lo → IsStateBelow count (cond side line.hi line.lo)
  chosen true line hi lo = hi
  chosen false line hi lo = lo

  stand_from : (lines : List NodeLine) (states : List ℕ) → ((k : ℕ) (d : NodeLine) → k < length lines → IsStateBelow count (get_or lines k d).hi × IsStateBelow count (get_or lines k d).lo)
      → All (λ state. state < count) states → All (λ state. state < count) (fold step states lines)
  stand_from [] states each all = all
  stand_from (line ∷ lines) states each all =
      let children = each 0 line (omega arith) in
      let next = cond (get_or letter (slot_of names line.name) false) line.hi line.lo in
      let below = stands_below count states next some all (chosen (get_or letter (slot_of names line.name) false) line children.0 children.1) in
      stand_from lines (step states line) (λ k d within. each (suc k) d (omega arith)) (All-push (λ state. state < count) states (state_at states next) all below)

pub nodes_stand_below : (file : AutomatonFile) → IsGoodFile file → (letter : List Bool) → All (λ state. state < file.states) (states_at file.names letter file.node_lines)
unfolding states_at
nodes_stand_below file is letter =
    stand_from file.names letter file.states is.some file.node_lines []
    (λ k d within.
    let line = is.node k d within in
    (child_is_below file k (get_or file.node_lines k d).hi line.hi, child_is_below file k (get_or file.node_lines k d).lo line.lo))
    (λ k d within. absurd (omega arith))

-- the state to which a letter leads in a row
pub row_stands_below : (file : AutomatonFile) → IsGoodFile file → (letter : List Bool) (target : Child) → keeps_row file target ≡ true
    → state_at (states_at file.names letter file.node_lines) target < file.states
row_stands_below file is letter target kept =
    stands_below file.states (states_at file.names letter file.node_lines) target is.some (nodes_stand_below file is letter) (row_is_below file target kept)

-- ---- the table

pub length-table_of : (file : AutomatonFile) → length (table_of file) ≡ length file.state_lines
unfolding table_of
length-table_of file = length-map file.state_lines (state_of file)

pub no_line : StateLine
no_line = record { number = 0; accepting = false; row = State 0 }

pub state-at : (file : AutomatonFile) (k : ℕ) (d : TableState) → k < length file.state_lines → get_or (table_of file) k d ≡ state_of file (get_or file.state_lines k no_line)
unfolding table_of
state-at file k d within = get_or-map (state_of file) file.state_lines k no_line d within

pub table_has_the_files_states : TableHasTheFilesStates
table_has_the_files_states file is = let size = (good_file file is).states in omega (arith, length-table_of file)

pub good_files_are_tables : LettersAreTwoToTheWidth → GoodFilesAreTables
good_files_are_tables letters file is =
    let good = good_file file is in
    let size = length-table_of file in
    let count = good.states in
    let some = good.some in
    let all = letters_of_width (length file.names) in
    record {
      nonempty = omega arith;
      rows = λ k d within.
          let line = get_or file.state_lines k no_line in
          let row = λ (letter : List Bool). state_at (states_at file.names letter file.node_lines) line.row in
          subst (λ (state : TableState). length state.row ≡ 2 ^ length file.names) (sym (state-at file k d (omega arith))) (length-map all row ∙ letters (length file.names));
      numbers = λ k d within.
          let line = get_or file.state_lines k no_line in
          let row = λ (letter : List Bool). state_at (states_at file.names letter file.node_lines) line.row in
          let kept = (good.state k no_line (omega arith)).row in
          subst (λ (state : TableState). All (λ number. number < length (table_of file)) state.row) (sym (state-at file k d (omega arith)))
          (λ i e below.
          let here : i < length all = omega (arith, length-map all row) in
          let below_states = row_stands_below file good (get_or all i []) line.row kept in
          subst (λ number. number < length (table_of file)) (sym (get_or-map row all i [] e here)) (omega arith));
    }
