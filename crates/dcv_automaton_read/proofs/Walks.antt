-- The way through a row ends at the state that the row stands for.
use Rattle.std.proofs.Common.{◌≡◌, ℕ, zero, suc, ◌+◌, ◌<◌, ◌≤◌, Bool, true, false, List, [], ◌∷◌, ◌++◌, length, map, fold, get_or, Some, slice_get, refl, sym, ap, ◌∙◌, subst, arith}
use Rattle.std.specs.Prelude.{if◌then◌else◌, slice_index_or}
use Rattle.std.specs.List.{enumerate_from, zip}
use Rattle.std.proofs.lemmas.Bool.{and_parts, ltb-true}
use Rattle.std.proofs.lemmas.List.{get_or-map, length-map, length-append}
use Rattle.std.proofs.lemmas.List.FromFn.{length-enumerate_from}
use Rattle.std.proofs.lemmas.Option.{get_or_from_slice_get}
use Rattle.dcv_word.specs.Letter.{bits_of, letters_of_width}
use Rattle.dcv_word.specs.Laws.{LetterStandsAtItsBits}
use Rattle.dcv_language.specs.Table.{TableState, next_in}
use Rattle.dcv_automaton_text.specs.File.{NodeLine, StateLine, AutomatonFile}
use Rattle.dcv_automaton_text.specs.Meaning.{state_at, states_at, table_of}
use Rattle.dcv_automaton_text.specs.Rules.{slot_of, keeps_node, keeps_state, keeps_child, keeps_row}
use Rattle.dcv_automaton_text.specs.Spelled.{node_words, state_words}
use Rattle.dcv_language.specs.declared.child.Child.{Child}
use Rattle.dcv_language.specs.declared.child.Child.TheVariants.{State, Node as AtNode}
use Rattle.dcv_automaton_read.specs.declared.nodes.Node.{Node}
use Rattle.dcv_automaton_read.specs.declared.file.Row.{Row}
use Rattle.dcv_automaton_read.specs.File.{state_line, IsRead}
use Rattle.dcv_automaton_read.specs.Seen.{node_of}
use Rattle.dcv_automaton_read.specs.Walk.{child_at, leaves_of, IsEarlier, AreOrdered}
use Rattle.dcv_automaton_read.proofs.Kept.{AreKept, kept_at, good_parts}
use Rattle.dcv_automaton_text.proofs.InWords.{listed_slot}
use Rattle.dcv_automaton_read.proofs.ReadFiles.{row_there, state_there}

-- ---- the states of nodes, one after another

abbrev further : List Bool → List ℕ → List Node → List ℕ
further letter leaves nodes = fold (λ leaves node. leaves ++ state_at leaves (child_at letter node) ∷ []) leaves nodes

at_front : (leaves more : List ℕ) (place : ℕ) → place < length leaves → get_or (leaves ++ more) place 0 ≡ get_or leaves place 0
at_front [] more place below = absurd (omega arith)
at_front (x ∷ leaves) more zero below = refl
at_front (x ∷ leaves) more (suc place) below = at_front leaves more place (omega arith)

at_seam : (leaves : List ℕ) (x : ℕ) → get_or (leaves ++ x ∷ []) (length leaves) 0 ≡ x
at_seam [] x = refl
at_seam (y ∷ leaves) x = at_seam leaves x

-- what stands there stays
stays : (letter : List Bool) (leaves : List ℕ) (nodes : List Node) (place : ℕ) → place < length leaves → get_or (further letter leaves nodes) place 0 ≡ get_or leaves place 0
stays letter leaves [] place below = refl
stays letter leaves (node ∷ nodes) place below =
    let one = state_at leaves (child_at letter node) ∷ [] in
    stays letter (leaves ++ one) nodes place (omega (arith, below, length-append leaves one)) ∙ at_front leaves one place below

leaf_stays : (letter : List Bool) (leaves : List ℕ) (nodes : List Node) (child : Child) → IsEarlier (length leaves) child → state_at leaves child ≡ state_at (further letter leaves nodes) child
leaf_stays letter leaves nodes (State number) earlier = refl
leaf_stays letter leaves nodes (AtNode number) earlier = sym (stays letter leaves nodes number earlier)

-- a node stands for what its child does
leaf_of_node : (letter : List Bool) (leaves : List ℕ) (nodes : List Node) (k place : ℕ) (d : Node) → k < length nodes → place ≡ length leaves + k → IsEarlier place (child_at letter (get_or nodes k d))
    → get_or (further letter leaves nodes) place 0 ≡ state_at (further letter leaves nodes) (child_at letter (get_or nodes k d))
leaf_of_node letter leaves [] k place d below is earlier = absurd (omega arith)
leaf_of_node letter leaves (node ∷ nodes) zero place d below is earlier =
    let child = child_at letter node in
    let one = state_at leaves child ∷ [] in
    let here : place ≡ length leaves = omega (arith, is) in
    stays letter (leaves ++ one) nodes place (omega (arith, here, length-append leaves one))
    ∙ ap (λ at. get_or (leaves ++ one) at 0) here ∙ at_seam leaves (state_at leaves child)
    ∙ leaf_stays letter leaves (node ∷ nodes) child (subst (λ count. IsEarlier count child) here earlier)
leaf_of_node letter leaves (node ∷ nodes) (suc k) place d below is earlier =
    let one = state_at leaves (child_at letter node) ∷ [] in
    leaf_of_node letter (leaves ++ one) nodes k place d (omega arith) (omega (arith, is, length-append leaves one)) earlier

pub next_leaf : (letter : List Bool) (nodes : List Node) (place : ℕ) (d : Node) → place < length nodes → IsEarlier place (child_at letter (get_or nodes place d))
    → state_at (leaves_of letter nodes) (child_at letter (get_or nodes place d)) ≡ state_at (leaves_of letter nodes) (AtNode place)
unfolding leaves_of
next_leaf letter nodes place d below earlier = sym (leaf_of_node letter [] nodes place place d below (omega arith) earlier)

pub earlier_child : (letter : List Bool) (width place : ℕ) (nodes : List Node) (d : Node) → AreOrdered width nodes → place < length nodes → IsEarlier place (child_at letter (get_or nodes place d))
earlier_child letter width place nodes d ordered below =
    let node = get_or nodes place d in
    elim (get_or letter node.slot false) as (λ value. IsEarlier place (if value then node.hi else node.lo)) [ true ↦ ordered.his place d below | false ↦ ordered.los place d below ]

pub earlier_than_all : (place count : ℕ) (child : Child) → place ≤ count → IsEarlier place child → IsEarlier count child
earlier_than_all place count (State number) few earlier = tt
earlier_than_all place count (AtNode number) few earlier = omega (arith, few, earlier)

-- ---- the nodes of a file

abbrev states_further : List (List ℕ) → List Bool → List ℕ → List NodeLine → List ℕ
states_further names letter states lines =
    fold (λ states line. states ++ state_at states (if slice_index_or letter (slot_of names line.name) false then line.hi else line.lo) ∷ []) states lines

both_walks : (names : List (List ℕ)) (letter : List Bool) (leaves : List ℕ) (lines : List NodeLine) → further letter leaves (map (node_of names) lines) ≡ states_further names letter leaves lines
both_walks names letter leaves [] = refl
both_walks names letter leaves (line ∷ lines) =
    let value = slice_index_or letter (slot_of names line.name) false in
    both_walks names letter (leaves ++ state_at leaves (if value then line.hi else line.lo) ∷ []) lines

same_leaves : (names : List (List ℕ)) (letter : List Bool) (lines : List NodeLine) → leaves_of letter (map (node_of names) lines) ≡ states_at names letter lines
unfolding leaves_of states_at
same_leaves names letter lines = both_walks names letter [] lines

earlier_target : (file : AutomatonFile) (place : ℕ) (target : Child) → keeps_child file place target ≡ true → IsEarlier place target
earlier_target file place (State number) kept = tt
earlier_target file place (AtNode number) kept = ltb-true number place (and_parts _ _ kept).0

there_row : (file : AutomatonFile) (child : Child) → keeps_row file child ≡ true → IsEarlier (length file.node_lines) child
there_row file (State number) kept = tt
there_row file (AtNode number) kept = ltb-true number (length file.node_lines) kept

some_below : (letters : List (List Bool)) (place : ℕ) (letter : List Bool) → slice_get letters place ≡ Some letter → place < length letters
some_below [] place letter is = absurd cc
some_below (one ∷ letters) zero letter is = omega arith
some_below (one ∷ letters) (suc place) letter is = omega (arith, some_below letters place letter is)

module _ (file : AutomatonFile) (nodes : List Node) (read : IsRead file nodes) where
  line_kept : (place : ℕ) (d : NodeLine) → place < length file.node_lines → AreKept (zip (node_words (get_or file.node_lines place d)) (keeps_node file place (get_or file.node_lines place d)))
  line_kept place d below = kept_at node_words (keeps_node file) file.node_lines 0 place place d (good_parts file read.good).nodes below (omega arith)

  some_line : NodeLine
  some_line = record { number = 0; name = []; hi = State 0; lo = State 0 }

  within : (place : ℕ) → place < length nodes → place < length file.node_lines
  within place below = omega (arith, below, ap length read.nodes_are, length-map file.node_lines (node_of file.names))

  node_at : (place : ℕ) (d : Node) → place < length nodes → get_or nodes place d ≡ node_of file.names (get_or file.node_lines place some_line)
  node_at place d below =
      ap (λ (all : List Node). get_or all place d) read.nodes_are ∙ get_or-map (node_of file.names) file.node_lines place some_line d (within place below)

  pub ordered : AreOrdered (length file.names) nodes
  ordered = record {
    slots = λ place d below.
        let line = get_or file.node_lines place some_line in
        let kept = line_kept place some_line (within place below) in
        let slot = ltb-true (slot_of file.names line.name) (length file.names) (sym (listed_slot file.names line.name) ∙ kept.1.1.0) in
        subst (λ (node : Node). node.slot < length file.names) (sym (node_at place d below)) slot;
    his = λ place d below.
        let line = get_or file.node_lines place some_line in
        let kept = line_kept place some_line (within place below) in
        subst (λ (node : Node). IsEarlier place node.hi) (sym (node_at place d below)) (earlier_target file place line.hi kept.1.1.1.1.0);
    los = λ place d below.
        let line = get_or file.node_lines place some_line in
        let kept = line_kept place some_line (within place below) in
        subst (λ (node : Node). IsEarlier place node.lo) (sym (node_at place d below)) (earlier_target file place line.lo (and_parts _ _ kept.1.1.1.1.1.1.0).0);
  }

  module _ (rows : List Row) (state : ℕ) (d : Row) (lines : file.state_lines ≡ map state_line (enumerate_from 0 rows)) (below : state < length rows) where
    some_state : StateLine
    some_state = record { number = 0; accepting = false; row = State 0 }

    pub row_within : IsEarlier (length nodes) (get_or rows state d).next
    row_within =
        let line = get_or file.state_lines state some_state in
        let size = ap length lines ∙ length-map (enumerate_from 0 rows) state_line ∙ length-enumerate_from 0 rows in
        let kept = kept_at state_words (keeps_state file) file.state_lines 0 state state some_state (good_parts file read.good).states (omega (arith, below, size)) (omega arith) in
        let row = subst (λ (one : StateLine). keeps_row file one.row ≡ true) (row_there file rows state d some_state lines below) kept.1.1.1.0 in
        let count = ap length read.nodes_are ∙ length-map file.node_lines (node_of file.names) in
        subst (λ size. IsEarlier size (get_or rows state d).next) (sym count) (there_row file (get_or rows state d).next row)

    pub leads : LetterStandsAtItsBits → (letter : List Bool) → length letter ≡ length file.names
        → state_at (leaves_of letter nodes) (get_or rows state d).next ≡ next_in (table_of file) state letter
    leads stands letter width =
        let next = (get_or rows state d).next in
        let value = λ (one : List Bool). state_at (states_at file.names one file.node_lines) next in
        let letters = letters_of_width (length file.names) in
        let there = subst (λ size. slice_get (letters_of_width size) (bits_of letter) ≡ Some letter) width (stands letter) in
        let row = get_or-map value letters (bits_of letter) letter 0 (some_below letters (bits_of letter) letter there) ∙ ap value (get_or_from_slice_get letters (bits_of letter) letter letter there) in
        ap (λ leaves. state_at leaves next) (ap (leaves_of letter) read.nodes_are ∙ same_leaves file.names letter file.node_lines)
        ∙ sym row
        ∙ sym (ap (λ (one : TableState). get_or one.row (bits_of letter) 0) (state_there file rows state d lines below))
