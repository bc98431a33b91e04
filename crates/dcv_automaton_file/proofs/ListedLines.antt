-- Lines of nodes and rows that are a reduced diagram, as an arena of the nodes in the order of their lines. Its refs have the numbers for which the
-- lines stand, and the walk that numbers the lines is the walk over it. So listed lines are those of rows: two with the same numbers are the same
-- lines, and the lines of rows are listed.
--     one_listing               listed lines with the same numbers are the same
--     rows_are_listed           the lines of rows are listed
use Rattle.std.proofs.Common.{◌≡◌, ℕ, zero, suc, ◌^◌, ◌<◌, ◌≤◌, Bool, true, false, cond, List, [], ◌∷◌, ◌++◌, length, map, fold, get_or, slice_get, Some, inl, inr, refl, sym, ap, ◌∙◌, subst, arith, ◌+◌}
use Rattle.std.specs.List.{All, range_with_len}
use Rattle.std.specs.Option.{option_map_or}
use Rattle.std.proofs.lemmas.Bool.{cases_order}
use Rattle.std.proofs.lemmas.List.{length-map, get_or-map, map-append, get_or_default, same_lists}
use Rattle.std.proofs.lemmas.List.Elements.{All-map, Contains-get_or}
use Rattle.std.proofs.lemmas.Option.{slice_get_within, slice_get-get_or, get_or_from_slice_get}
use Rattle.dcv_language.specs.declared.child.Child.{Child}
use Rattle.dcv_language.specs.declared.child.Child.TheVariants.{State, Node}
use Rattle.dcv_arena.specs.Arena.{ArenaValue, IsArena, IsBefore, IsNodeAt, IsReduced, IsRef, function_at, function_of, functions_of, level_of, value_of, node_of}
use Rattle.dcv_arena.specs.declared.nodes.Ref.{Ref}
use Rattle.dcv_arena.specs.declared.nodes.Ref.TheVariants.{Leaf, Place}
use Rattle.dcv_dfa.specs.declared.node_lines.NodeLine.{NodeLine}
use Rattle.dcv_dfa.specs.NodeLines.{NodeLinesValue, IsBelow, ComesAfter, IsLine, AreReducedRows, state_at, states_at, children_of, lo_of, hi_of, is_numbered, numbered, number_of, child_of, line_of, lines_of_rows, visit_by as arena_visit_by, visit_node as arena_visit_node, visits_of as arena_visits_of, lines_and_rows}
use Rattle.std.proofs.lemmas.List.FromFn.{length-range_with_len, get_or-range_with_len}
use Rattle.std.proofs.lemmas.List.Folds.{fold-map}
use Rattle.dcv_arena.proofs.Members.{Contains-range}
use Rattle.dcv_language.specs.Limits.{most_nodes}
use Rattle.dcv_dfa.specs.Raw.{LeadsBelow}
use Rattle.dcv_dfa.proofs.LineStates.{lines_have_the_numbers_of_the_rows}
use Rattle.dcv_dfa.proofs.Numberings.{HasNumber, IsNumbering, has_child, rows_numbered}
use Rattle.dcv_dfa.proofs.Reduced.{number_within, number_at, has_lines}
use Rattle.dcv_dfa.proofs.SameLines.{same_rows_have_one_list_of_lines}
use Rattle.dcv_automaton_text.specs.Numbering.{visit_by}
use Rattle.dcv_automaton_file.proofs.Rows.{below_more}
use Rattle.dcv_automaton_file.specs.Listed.{visit_node, visits_of, numbered_lines, AreNumbered, AreListed, number_in}

abbrev ref_of : Child → Ref
ref_of (State number) = Leaf number
ref_of (Node number) = Place number

-- the type of an arena's nodes, which its crate keeps to itself
abbrev result_of : {X : Type 0} → (ℕ → Ref → Ref → X) → Type 0
result_of {X} make = X

abbrev ArenaNode : Type 0
ArenaNode = result_of node_of

abbrev node_of_line : NodeLine → ArenaNode
node_of_line line = node_of line.slot (ref_of line.lo) (ref_of line.hi)

abbrev arena_of : ℕ → List NodeLine → ArenaValue
arena_of slots lines = record { slots = slots; limit = length lines; nodes = map node_of_line lines }

no_line : NodeLine
no_line = record { slot = 0; hi = State 0; lo = State 0 }

abbrev line_at : List NodeLine → ℕ → NodeLine
line_at lines place = get_or lines place no_line

-- ---- functions

at_letter : (functions : List (List Bool → ℕ)) (letter : List Bool) (n : ℕ) → get_or functions n (λ letter. 0) letter ≡ get_or (map (λ function. function letter) functions) n 0
at_letter [] letter n = refl
at_letter (function ∷ functions) letter zero = refl
at_letter (function ∷ functions) letter (suc n) = at_letter functions letter n

target_stands : (functions : List (List Bool → ℕ)) (letter : List Bool) (target : Child) → function_at functions (ref_of target) letter ≡ state_at (map (λ function. function letter) functions) target
target_stands functions letter (State number) = refl
target_stands functions letter (Node number) = at_letter functions letter number

module _ (letter : List Bool) where
  abbrev step : List ℕ → NodeLine → List ℕ
  step states line = states ++ state_at states (cond (get_or letter line.slot false) line.hi line.lo) ∷ []

  abbrev at : List (List Bool → ℕ) → List ℕ
  at functions = map (λ (function : List Bool → ℕ). function letter) functions

  side_stands : (functions : List (List Bool → ℕ)) (side : Bool) (hi lo : Child) → cond side (function_at functions (ref_of hi) letter) (function_at functions (ref_of lo) letter) ≡ state_at (at functions) (cond side hi lo)
  side_stands functions true hi lo = target_stands functions letter hi
  side_stands functions false hi lo = target_stands functions letter lo

  stand_from : (lines : List NodeLine) (functions : List (List Bool → ℕ))
      → at (fold (λ functions node. functions ++ function_of functions node ∷ []) functions (map node_of_line lines)) ≡ fold step (at functions) lines
  stand_from [] functions = refl
  stand_from (line ∷ lines) functions =
      let next = function_of functions (node_of_line line) in
      stand_from lines (functions ++ next ∷ [])
      ∙ ap (λ states. fold step states lines)
      (map-append (λ (function : List Bool → ℕ). function letter) functions (next ∷ [])
      ∙ ap (λ state. at functions ++ state ∷ []) (side_stands functions (get_or letter line.slot false) line.hi line.lo))

-- a target has the value at a letter that it stands for
value_stands : (slots : ℕ) (lines : List NodeLine) (letter : List Bool) (target : Child) → value_of (arena_of slots lines) (ref_of target) letter ≡ state_at (states_at letter lines) target
unfolding functions_of states_at
value_stands slots lines letter target =
    target_stands (functions_of (map node_of_line lines)) letter target
    ∙ ap (λ states. state_at states target) (stand_from letter lines [])

-- ---- nodes

same_ref_of : (one other : Child) → ref_of one ≡ ref_of other → one ≡ other
same_ref_of (State a) (State b) same = ap State (let equal : a ≡ b = cc in equal)
same_ref_of (State a) (Node b) same = absurd cc
same_ref_of (Node a) (State b) same = absurd cc
same_ref_of (Node a) (Node b) same = ap Node (let equal : a ≡ b = cc in equal)

same_line : (one other : NodeLine) → node_of_line one ≡ node_of_line other → one ≡ other
same_line one other same =
    let slots = ap (λ (node : ArenaNode). node.slot) same in
    let his = same_ref_of one.hi other.hi (ap (λ (node : ArenaNode). node.hi) same) in
    let los = same_ref_of one.lo other.lo (ap (λ (node : ArenaNode). node.lo) same) in
    λ i. record { slot = slots i; hi = his i; lo = los i }

-- ---- the walk

abbrev Visit : Type 0
Visit = List ℕ → List ℕ

same_visit : (visits : List Visit) (nodes : List ℕ) (target : Child) → arena_visit_by visits nodes (ref_of target) ≡ visit_by visits nodes target
same_visit visits nodes (State number) = refl
same_visit visits nodes (Node number) = refl

same_node_visit : (visits : List Visit) (node : ℕ) (line : NodeLine) → arena_visit_node visits node (ref_of line.lo, ref_of line.hi) ≡ visit_node visits node line
same_node_visit visits node line =
    λ i nodes. cond (is_numbered nodes node) nodes
    ((ap (λ nodes. arena_visit_by visits nodes (ref_of line.hi)) (same_visit visits nodes line.lo) ∙ same_visit visits (visit_by visits nodes line.lo) line.hi) i ++ node ∷ [])

abbrev arena_step : List Visit → Ref × Ref → List Visit
arena_step visits pair = visits ++ arena_visit_node visits (length visits) pair ∷ []

same_visits : (slots : ℕ) (lines : List NodeLine) → arena_visits_of (children_of (arena_of slots lines)) ≡ visits_of lines
unfolding arena_visits_of visits_of
same_visits slots lines =
    fold-map arena_step (λ node. (node.lo, node.hi)) [] (map node_of_line lines)
    ∙ fold-map (λ visits node. arena_step visits (node.lo, node.hi)) node_of_line [] lines
    ∙ (λ i. fold (λ visits line. visits ++ same_node_visit visits (length visits) line i ∷ []) [] lines)

same_walk : (slots : ℕ) (all : NodeLinesValue) → numbered (arena_of slots all.lines) (map ref_of all.rows) ≡ numbered_lines all
same_walk slots all =
    (λ i. fold (arena_visit_by (same_visits slots all.lines i)) [] (map ref_of all.rows))
    ∙ fold-map (arena_visit_by (visits_of all.lines)) ref_of [] all.rows
    ∙ (λ i. fold (λ nodes row. same_visit (visits_of all.lines) nodes row i) [] all.rows)

-- ---- lines as the arena has them

-- in the list of all numbers each stands at its own place
number_in_range : (count place : ℕ) → place < count → number_of (range_with_len 0 count) place ≡ place
number_in_range count place below =
    let all = range_with_len 0 count in
    let there = Contains-range count place below in
    let within = number_within all place there in
    omega (arith, number_at all place there, get_or-range_with_len 0 count (number_of all place) 0 (omega (arith, within, length-range_with_len 0 count)))

child_in_range : (count bound before : ℕ) (target : Child) → before ≤ count → IsBelow bound before target → child_of (range_with_len 0 count) (ref_of target) ≡ target
child_in_range count bound before (State number) le below = refl
child_in_range count bound before (Node number) le below = ap Node (number_in_range count number (omega (arith, le, below)))

-- ---- the arena

module _ (slots bound size : ℕ) (all : NodeLinesValue) (is : AreReducedRows slots bound size all) where
  abbrev lines : List NodeLine
  lines = all.lines

  abbrev arena : ArenaValue
  arena = arena_of slots lines

  line-is : (place : ℕ) → place < length lines → IsLine slots bound lines place (line_at lines place)
  line-is place within = is.lines place (line_at lines place) (slice_get-get_or lines place no_line within)

  node-at : (place : ℕ) → place < length lines → slice_get arena.nodes place ≡ Some (node_of_line (line_at lines place))
  node-at place within =
      slice_get-get_or arena.nodes place (node_of_line no_line) (omega (arith, length-map lines node_of_line))
      ∙ ap Some (get_or-map node_of_line lines place no_line (node_of_line no_line) within)

  level-at : (place : ℕ) → place < length lines → level_of arena (Place place) ≡ (line_at lines place).slot
  level-at place within = ap (λ found. option_map_or (λ node. node.slot) found slots) (node-at place within)

  child_before : (place : ℕ) (target : Child) → IsBelow bound place target → IsBefore place (ref_of target)
  child_before place (State number) below = tt
  child_before place (Node number) below = below

  child_later : (slot : ℕ) (target : Child) → slot < slots → IsBelow bound (length lines) target → ComesAfter lines slot target → slot < level_of arena (ref_of target)
  child_later slot (State number) within below after = within
  child_later slot (Node number) within below after =
      omega (arith, after (line_at lines number) (slice_get-get_or lines number no_line below), level-at number below)

  is_node : (place : ℕ) → place < length lines → IsNodeAt arena place (node_of_line (line_at lines place))
  is_node place within =
      let line = line_at lines place in
      let good = line-is place within in
      record {
        slot = good.slot;
        lo_before = child_before place line.lo good.lo_below;
        hi_before = child_before place line.hi good.hi_below;
        lo_level = child_later line.slot line.lo good.slot (below_more bound place bound (length lines) line.lo (omega arith) (omega arith) good.lo_below) good.lo_after;
        hi_level = child_later line.slot line.hi good.slot (below_more bound place bound (length lines) line.hi (omega arith) (omega arith) good.hi_below) good.hi_after;
        differ = λ same. good.differ (same_ref_of line.lo line.hi same);
      }

  count_of_places : length arena.nodes ≡ length lines
  count_of_places = length-map lines node_of_line

  -- two places do not have one node
  not_twice : (first second : ℕ) → first < second → second < length lines → node_of_line (line_at lines first) ≡ node_of_line (line_at lines second) → ⊥
  not_twice first second before within same = is.once first second no_line before within (same_line (line_at lines first) (line_at lines second) same)

  not_both : (first second : ℕ) → first < second → second < length lines → slice_get arena.nodes first ≡ slice_get arena.nodes second → ⊥
  not_both first second before within same =
      let equal = sym (node-at first (omega arith)) ∙ same ∙ node-at second within in
      not_twice first second before within (ap (λ found. option_map_or (λ node. node) found (node_of_line no_line)) equal)

  is_reduced : IsReduced arena
  is_reduced = record {
    nodes = λ place node e.
        let within : place < length lines = omega (arith, slice_get_within arena.nodes place node e, count_of_places) in
        let same = sym (get_or_from_slice_get arena.nodes place _ node (node-at place within)) ∙ get_or_from_slice_get arena.nodes place node node e in
        subst (IsNodeAt arena place) same (is_node place within);
    once = λ first second node e other_e.
        let within : first < length lines = omega (arith, slice_get_within arena.nodes first node e, count_of_places) in
        let other_within : second < length lines = omega (arith, slice_get_within arena.nodes second node other_e, count_of_places) in
        elim (cases_order first second) [
          | inl equal ↦ equal
          | inr (inl before) ↦ absurd (not_both first second before other_within (e ∙ sym other_e))
          | inr (inr after) ↦ absurd (not_both second first after within (other_e ∙ sym e))
        ];
  }

  is_arena : slots ≤ 32 → length lines < 2 ^ 32 → IsArena arena
  is_arena narrow few = record { slots = narrow; limit = few; within = omega (arith, count_of_places); reduced = is_reduced }

  is_ref : (target : Child) → IsBelow bound (length lines) target → IsRef arena (ref_of target)
  is_ref (State number) below = tt
  is_ref (Node number) below = omega (arith, below, count_of_places)

  are_refs : All (IsRef arena) (map ref_of all.rows)
  are_refs = All-map (IsRef arena) ref_of all.rows (λ k d within. is_ref (get_or all.rows k d) (is.rows k d within))

  -- ---- its children

  abbrev refs : List Ref
  refs = map ref_of all.rows

  abbrev count : ℕ
  count = length lines

  abbrev range : List ℕ
  range = range_with_len 0 count

  pair-at : (place : ℕ) → place < count → get_or (children_of arena) place (Leaf 0, Leaf 0) ≡ (ref_of (line_at lines place).lo, ref_of (line_at lines place).hi)
  pair-at place within =
      get_or-map (λ node. (node.lo, node.hi)) arena.nodes place (node_of_line no_line) (Leaf 0, Leaf 0) (omega (arith, count_of_places))
      ∙ ap (λ node. (node.lo, node.hi)) (get_or-map node_of_line lines place no_line (node_of_line no_line) within)

  lo-at : (place : ℕ) → place < count → lo_of arena place ≡ ref_of (line_at lines place).lo
  lo-at place within = ap (λ (pair : Ref × Ref). pair.0) (pair-at place within)

  hi-at : (place : ℕ) → place < count → hi_of arena place ≡ ref_of (line_at lines place).hi
  hi-at place within = ap (λ (pair : Ref × Ref). pair.1) (pair-at place within)

  -- ---- where the nodes are numbered by the walk

  line_in_range : (place : ℕ) → place < count → line_of arena range place ≡ line_at lines place
  line_in_range place within =
      let line = line_at lines place in
      let good = line-is place within in
      let slot = level-at place within in
      let lo = ap (child_of range) (lo-at place within) ∙ child_in_range count bound place line.lo (omega arith) good.lo_below in
      let hi = ap (child_of range) (hi-at place within) ∙ child_in_range count bound place line.hi (omega arith) good.hi_below in
      λ i. record { slot = slot i; hi = hi i; lo = lo i }

  lines_in_range : map (line_of arena range) range ≡ lines
  lines_in_range =
      let sized = length-map range (line_of arena range) in
      let size_of_range = length-range_with_len 0 count in
      same_lists (map (line_of arena range) range) lines (omega arith) (λ k d below.
      let within : k < count = omega arith in
      let here : get_or range k 0 ≡ k = get_or-range_with_len 0 count k 0 within ∙ (let same : 0 + k ≡ k = omega arith in same) in
      get_or-map (line_of arena range) range k 0 d (omega arith)
      ∙ ap (line_of arena range) here
      ∙ line_in_range k within
      ∙ get_or_default lines k no_line d within)

  rows_in_range : map (child_of range) refs ≡ all.rows
  rows_in_range =
      let sized = length-map refs (child_of range) in
      let size_of_rows = length-map all.rows ref_of in
      same_lists (map (child_of range) refs) all.rows (omega arith) (λ k d below.
      let within : k < length all.rows = omega arith in
      get_or-map (child_of range) refs k (ref_of d) d (omega arith)
      ∙ ap (child_of range) (get_or-map ref_of all.rows k d (ref_of d) within)
      ∙ child_in_range count bound count (get_or all.rows k d) (omega arith) (is.rows k d within))

  lines_back : AreNumbered all → lines_of_rows arena refs ≡ all
  lines_back by_walk =
      ap (λ places. lines_and_rows (map (line_of arena places) places) (map (child_of places) refs)) (same_walk slots all ∙ by_walk)
      ∙ (λ i. lines_and_rows (lines_in_range i) (rows_in_range i))

  -- ---- where the arena has the lines

  module _ (same : (lines_of_rows arena refs).lines ≡ lines) where
    abbrev places : List ℕ
    places = numbered arena refs

    numbering : IsNumbering arena places
    numbering = (rows_numbered arena is_reduced refs are_refs).0

    count_of_numbered : length places ≡ count
    count_of_numbered = sym (length-map places (line_of arena places)) ∙ ap length same

    line_of_number : (k : ℕ) → k < count → line_of arena places (get_or places k 0) ≡ line_at lines k
    line_of_number k within =
        sym (get_or-map (line_of arena places) places k 0 no_line (omega (arith, count_of_numbered)))
        ∙ ap (λ lines. get_or lines k no_line) same

    -- a child that was visited before is the line's
    same_child : (k : ℕ) (ref : Ref) (target : Child) → HasNumber places ref → child_of places ref ≡ target → IsBefore k (ref_of target)
        → ((j : ℕ) → j < k → get_or places j 0 ≡ j) → ref ≡ ref_of target
    same_child k (Leaf a) (State b) has equal before earlier = ap Leaf (let number : a ≡ b = cc in number)
    same_child k (Leaf a) (Node b) has equal before earlier = absurd cc
    same_child k (Place a) (State b) has equal before earlier = absurd cc
    same_child k (Place a) (Node b) has equal before earlier =
        let number : number_of places a ≡ b = cc in
        ap Place (sym (number_at places a has) ∙ ap (λ at. get_or places at 0) number ∙ earlier b before)

    place_is : (k : ℕ) → k < count → ((j : ℕ) → j < k → get_or places j 0 ≡ j) → get_or places k 0 ≡ k
    place_is k within earlier =
        let place = get_or places k 0 in
        let here : k < length places = omega (arith, count_of_numbered) in
        let place_within : place < count = omega (arith, numbering.within k 0 here, count_of_places) in
        let line = line_at lines k in
        let good = line-is k within in
        let there = line_of_number k within in
        let has = has_child arena places numbering place (Contains-get_or places k 0 here) in
        let lo = same_child k (lo_of arena place) line.lo has.0 (ap (λ (line : NodeLine). line.lo) there) (child_before k line.lo good.lo_below) earlier in
        let hi = same_child k (hi_of arena place) line.hi has.1 (ap (λ (line : NodeLine). line.hi) there) (child_before k line.hi good.hi_below) earlier in
        let slot = sym (level-at place place_within) ∙ ap (λ (line : NodeLine). line.slot) there in
        let los = sym (lo-at place place_within) ∙ lo in
        let his = sym (hi-at place place_within) ∙ hi in
        let node : node_of_line (line_at lines place) ≡ node_of_line line = λ i. record { slot = slot i; lo = los i; hi = his i } in
        elim (cases_order place k) [
          | inl equal ↦ equal
          | inr (inl before) ↦ absurd (not_twice place k before within node)
          | inr (inr after) ↦ absurd (not_twice k place after place_within (sym node))
        ]

    places_are : (bound k : ℕ) → k < bound → k < count → get_or places k 0 ≡ k
    places_are zero k below within = absurd (omega arith)
    places_are (suc bound) k below within = place_is k within (λ j before. places_are bound j (omega arith) (omega arith))

    numbered_by_lines : AreNumbered all
    numbered_by_lines =
        sym (same_walk slots all)
        ∙ same_lists places range (omega (arith, count_of_numbered, length-range_with_len 0 count)) (λ k d below.
        let within : k < count = omega (arith, count_of_numbered) in
        omega (arith, get_or_default places k d 0 below, places_are count k within within, get_or-range_with_len 0 count k d within))

  -- ---- numbers

  row_value : (place : ℕ) (letter : List Bool) → place < length all.rows → value_of arena (get_or refs place (Leaf 0)) letter ≡ number_in all place letter
  row_value place letter within =
      ap (λ ref. value_of arena ref letter) (get_or-map ref_of all.rows place (State 0) (Leaf 0) within)
      ∙ value_stands slots lines letter (get_or all.rows place (State 0))

-- ---- one listing

pub one_listing : (slots bound size : ℕ) (one other : NodeLinesValue) → slots ≤ 32 → AreListed slots bound size one → AreListed slots bound size other
    → ((place : ℕ) (letter : List Bool) → place < size → length letter ≡ slots → number_in one place letter ≡ number_in other place letter) → one ≡ other
one_listing slots bound size one other narrow a b same =
    let few = a.few in
    let few' = b.few in
    let count = a.reduced.count in
    let count' = b.reduced.count in
    let rows = length-map one.rows ref_of in
    let rows' = length-map other.rows ref_of in
    sym (lines_back slots bound size one a.reduced a.numbered)
    ∙ same_rows_have_one_list_of_lines (arena_of slots one.lines) (arena_of slots other.lines) (map ref_of one.rows) (map ref_of other.rows)
    (is_arena slots bound size one a.reduced narrow (omega arith)) (is_arena slots bound size other b.reduced narrow (omega arith))
    (are_refs slots bound size one a.reduced) (are_refs slots bound size other b.reduced) refl (omega arith) (λ place letter within width.
    row_value slots bound size one a.reduced place letter (omega arith) ∙ same place letter (omega arith) width
    ∙ sym (row_value slots bound size other b.reduced place letter (omega arith)))
    ∙ lines_back slots bound size other b.reduced b.numbered

-- the lines of rows are numbered as they are visited
pub rows_are_listed : (arena : ArenaValue) (rows : List Ref) (bound : ℕ) → IsArena arena → All (IsRef arena) rows → All (LeadsBelow arena bound) rows
    → length (lines_of_rows arena rows).lines ≤ most_nodes → AreListed arena.slots bound (length rows) (lines_of_rows arena rows)
rows_are_listed arena rows bound is ones leads few =
    let all = lines_of_rows arena rows in
    let reduced = (has_lines arena rows is ones (numbered arena rows) refl).reduced bound leads in
    let slots = arena.slots in
    let size = length rows in
    let count = reduced.count in
    let count' = length-map all.rows ref_of in
    let same = same_rows_have_one_list_of_lines (arena_of slots all.lines) arena (map ref_of all.rows) rows
    (is_arena slots bound size all reduced is.slots (omega arith)) is (are_refs slots bound size all reduced) ones refl (omega arith) (λ place letter within width.
    row_value slots bound size all reduced place letter (omega arith) ∙ lines_have_the_numbers_of_the_rows arena rows place letter is ones (omega arith)) in
    record {
      reduced = reduced;
      numbered = numbered_by_lines slots bound size all reduced (ap (λ (lines : NodeLinesValue). lines.lines) same);
      few = few;
    }
