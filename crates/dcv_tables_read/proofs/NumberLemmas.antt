-- The numbers of an array's lines are judged in turn.
use Rattle.std.proofs.Common.{◌≡◌, ℕ, suc, ◌+◌, ◌<◌, ◌≤◌, Bool, true, false, nat_lt, List, [], ◌∷◌, ◌++◌, length, map, drop, get_or, Option, Some, Result, Ok, refl, sym, ap, ◌∙◌, subst, arith, codes}
use Rattle.std.specs.Fmt.{decimal}
use Rattle.std.proofs.lemmas.List.{length-append, length-map, drop_all}
use Rattle.std.proofs.Math.Seq.{drop-cons}
use Rattle.dcv_lexer.specs.Cuts.{Token}
use Rattle.dcv_observer.specs.Layouts.{Each}
use Rattle.dcv_observer.specs.Subsets.{first_broken}
use Rattle.dcv_c_tables.specs.Unit.{TableNode, TableState, Tables}
use Rattle.dcv_c_tables.specs.Layout.{text_in, number_line, opening, closing}
use Rattle.dcv_c_tables.specs.Observer.{parameter_name}
use Rattle.dcv_tables_read.specs.Reading.{keeps_child, keeps_variables, keeps_children, keeps_rows, entries, array_size, array_words}
use Rattle.dcv_tables_read.specs.declared.unit.TableNode.{TableNode as CodeNode}
use Rattle.dcv_tables_read.specs.declared.unit.TableState.{TableState as CodeState}
use Rattle.dcv_tables_read.specs.declared.unit.TableUnit.{TableUnit}
use Rattle.dcv_tables_read.specs.Seen.{seen_node, seen_state, seen_tables}
use Rattle.dcv_tables_read.specs.Judged.{IsJudged, judged_from, lines_of}

-- ---- the first word

module _ (word : Token) (keeps : Bool) (words : List Token) (also : List Bool) where
  pub kept_first : keeps ≡ true → first_broken (word ∷ words) (keeps ∷ also) ≡ first_broken words also
  kept_first kept = ap (λ b. first_broken (word ∷ words) (b ∷ also)) kept

  pub broken_first : keeps ≡ false → first_broken (word ∷ words) (keeps ∷ also) ≡ Some word.start
  broken_first fails = ap (λ b. first_broken (word ∷ words) (b ∷ also)) fails

-- ---- the lines that are left

module _ {X : Type 0} (number : X → ℕ) (keeps : ℕ → X → Bool) (xs : List X) (first : ℕ) where
  abbrev broken : ℕ → ℕ → List X → Option ℕ
  broken place at rest = first_broken (entries at (map number rest)) (judged_from keeps place rest)

  abbrev size : List X → ℕ
  size rest = length (text_in (lines_of number rest))

  -- they decide, and end where the lines do
  pub record IsLeft (place at : ℕ) : Type 0 where
    pub same : broken 0 first xs ≡ broken place at (drop place xs)
    pub counted : first + size xs ≡ at + size (drop place xs)

  pub at_start : IsLeft 0 first
  at_start = record { same = refl; counted = refl }

  module _ (place at : ℕ) (x : X) (below : place < length xs) (is : get_or xs place x ≡ x) (left : IsLeft place at) where
    rest_is : drop place xs ≡ x ∷ drop (suc place) xs
    rest_is = drop-cons xs place x below ∙ ap (λ y. y ∷ drop (suc place) xs) is

    size_is : size (drop place xs) ≡ length (text_in (number_line (number x))) + size (drop (suc place) xs)
    size_is = ap size rest_is ∙ length-append (text_in (number_line (number x))) (text_in (lines_of number (drop (suc place) xs)))

    pub room : at + length (text_in (number_line (number x))) ≤ first + size xs
    room = omega (arith, left.counted, size_is)

    pub one_more : (next : ℕ) → keeps place x ≡ true → next ≡ at + length (text_in (number_line (number x))) → IsLeft (place + 1) next
    one_more next kept counted =
        let rest = drop (suc place) xs in
        let further : suc place ≡ place + 1 = omega arith in
        let decides : broken place at (x ∷ rest) ≡ broken (place + 1) next (drop (place + 1) xs) =
        kept_first (record { bytes = decimal (number x); start = at + 2 }) (keeps place x) (entries (at + length (text_in (number_line (number x)))) (map number rest)) (judged_from keeps (place + 1) rest) kept
        ∙ (λ i. broken (place + 1) (sym counted i) (drop (further i) xs)) in
        record { same = left.same ∙ ap (broken place at) rest_is ∙ decides; counted = omega (arith, left.counted, size_is, counted, ap (λ n. size (drop n xs)) further) }

    pub stops_here : keeps place x ≡ false → broken 0 first xs ≡ Some (at + 2)
    stops_here fails = left.same ∙ ap (broken place at) rest_is
        ∙ broken_first (record { bytes = decimal (number x); start = at + 2 }) (keeps place x) (entries (at + length (text_in (number_line (number x)))) (map number (drop (suc place) xs))) (judged_from keeps (place + 1) (drop (suc place) xs)) fails

  pub all_kept : (place at : ℕ) → length xs ≤ place → IsLeft place at → IsJudged (entries first (map number xs)) (judged_from keeps 0 xs) (first + size xs) (Ok at)
  all_kept place at all left =
      let none = drop_all place xs all in
      (left.same ∙ ap (broken place at) none, omega (arith, left.counted, ap size none))

-- ---- arrays

pub lines_of_numbers : {X : Type 0} (number : X → ℕ) (xs : List X) → text_in (lines_of number xs) ≡ text_in (Each number_line (map number xs))
lines_of_numbers number [] = refl
lines_of_numbers number (x ∷ xs) = ap (λ rest. text_in (number_line (number x)) ++ rest) (lines_of_numbers number xs)

module _ {X Y : Type 0} (seen : X → Y) (number : Y → ℕ) where
  numbers_same : (xs : List X) → map (λ x. number (seen x)) xs ≡ map number (map seen xs)
  numbers_same [] = refl
  numbers_same (x ∷ xs) = ap (λ rest. number (seen x) ∷ rest) (numbers_same xs)

  lines_same : (xs : List X) → text_in (lines_of (λ x. number (seen x)) xs) ≡ text_in (Each number_line (map number (map seen xs)))
  lines_same xs = lines_of_numbers (λ x. number (seen x)) xs ∙ ap (λ numbers. text_in (Each number_line numbers)) (numbers_same xs)

  -- an array of these items, which the code has at hand as a slice
  module _ (integer head : List ℕ) (xs items : List X) (at before : ℕ) (are : xs ≡ items) (begins : before ≡ length (text_in (opening integer head))) where
    abbrev numbers : List ℕ
    numbers = map number (map seen items)

    pub array_end : at + before + length (text_in (lines_of (λ x. number (seen x)) xs)) + 4 ≡ at + array_size integer head numbers
    array_end =
        let lines = text_in (Each number_line numbers) in
        let same = ap (λ xs. length (text_in (lines_of (λ x. number (seen x)) xs))) are in
        omega (arith, begins, same, ap length (lines_same items), length-append (text_in (opening integer head)) (lines ++ text_in closing), length-append lines (text_in closing))

    pub array_judged : (keeps : ℕ → X → Bool) (all : List Bool) (result : Result ℕ ℕ) → judged_from keeps 0 items ≡ all
        → IsJudged (entries (at + before) (map (λ x. number (seen x)) xs)) (judged_from keeps 0 xs) (at + before + length (text_in (lines_of (λ x. number (seen x)) xs)) + 4) result
        → IsJudged (array_words at integer head numbers) all (at + array_size integer head numbers) result
    array_judged keeps all result same judged =
        let words : entries (at + before) (map (λ x. number (seen x)) xs) ≡ array_words at integer head numbers =
        λ i. entries (at + begins i) ((ap (map (λ x. number (seen x))) are ∙ numbers_same items) i) in
        let kept : judged_from keeps 0 xs ≡ all = ap (judged_from keeps 0) are ∙ same in
        subst (λ (t : List Token × (List Bool × ℕ)). IsJudged t.0 t.1.0 t.1.1 result) (λ i. (words i, (kept i, array_end i))) judged

-- ---- what is kept

variables_kept : (width : ℕ) (nodes : List CodeNode) (place : ℕ)
    → judged_from (λ place (node : CodeNode). nat_lt node.variable width) place nodes ≡ map (λ (node : TableNode). nat_lt node.variable width) (map seen_node nodes)
variables_kept width [] place = refl
variables_kept width (node ∷ nodes) place = ap (λ rest. nat_lt node.variable width ∷ rest) (variables_kept width nodes (place + 1))

rows_kept : (places : ℕ) (states : List CodeState) (place : ℕ)
    → judged_from (λ place (state : CodeState). nat_lt state.row places) place states ≡ map (λ (state : TableState). nat_lt state.row places) (map seen_state states)
rows_kept places [] place = refl
rows_kept places (state ∷ states) place = ap (λ rest. nat_lt state.row places ∷ rest) (rows_kept places states (place + 1))

children_kept : (tables : Tables) (child : TableNode → ℕ) (states : ℕ) (nodes : List CodeNode) (place : ℕ)
    → judged_from (λ place (node : CodeNode). keeps_child tables (states + place) node.variable (child (seen_node node))) place nodes
    ≡ keeps_children tables child (states + place) (map seen_node nodes)
children_kept tables child states [] place = refl
children_kept tables child states (node ∷ nodes) place =
    let further : states + (place + 1) ≡ states + place + 1 = omega arith in
    ap (λ rest. keeps_child tables (states + place) node.variable (child (seen_node node)) ∷ rest)
    (children_kept tables child states nodes (place + 1) ∙ ap (λ own. keeps_children tables child own (map seen_node nodes)) further)

module _ (unit : TableUnit) where
  abbrev tables : Tables
  tables = seen_tables unit

  pub variables_of : (width : ℕ) → width ≡ length unit.names.items → judged_from (λ place (node : CodeNode). nat_lt node.variable width) 0 unit.nodes.items ≡ keeps_variables tables
  variables_of width is =
      variables_kept width unit.nodes.items 0
      ∙ ap (λ width. map (λ (node : TableNode). nat_lt node.variable width) tables.nodes) (is ∙ sym (length-map unit.names.items (λ name. parameter_name name.now)))

  pub rows_of : (places : ℕ) → places ≡ length unit.states.items + length unit.nodes.items
      → judged_from (λ place (state : CodeState). nat_lt state.row places) 0 unit.states.items ≡ keeps_rows tables
  rows_of places is =
      let count : places ≡ length tables.states + length tables.nodes = omega (arith, is, length-map unit.states.items seen_state, length-map unit.nodes.items seen_node) in
      rows_kept places unit.states.items 0 ∙ ap (λ places. map (λ (state : TableState). nat_lt state.row places) tables.states) count

  pub children_of : (child : TableNode → ℕ)
      → judged_from (λ place (node : CodeNode). keeps_child tables (length unit.states.items + place) node.variable (child (seen_node node))) 0 unit.nodes.items
      ≡ keeps_children tables child (length tables.states) tables.nodes
  children_of child =
      let first : length unit.states.items + 0 ≡ length tables.states = omega (arith, length-map unit.states.items seen_state) in
      children_kept tables child (length unit.states.items) unit.nodes.items 0 ∙ ap (λ own. keeps_children tables child own tables.nodes) first
