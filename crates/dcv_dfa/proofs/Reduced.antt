-- The lines are a reduced diagram: children differ, come before their nodes and have later variables, and no line stands twice.
use Rattle.std.proofs.Common.{◌≡◌, ◌≢◌, ℕ, zero, suc, ◌+◌, ◌^◌, ◌<◌, ◌≤◌, Bool, true, false, cond, not, ◌||◌, nat_eq, List, [], ◌∷◌, length, map, take, set, replicate, Some, slice_get, get_or, Contains, sym, ap, subst, ◌∙◌, arith}
use Rattle.std.specs.Cmp.{unsigned_Decides}
use Rattle.std.specs.List.{All, AllPairs}
use Rattle.std.proofs.lemmas.Bool.{false≢true}
use Rattle.std.proofs.lemmas.List.{length-map, length-set, length-replicate, get_or-map, take_all}
use Rattle.std.proofs.lemmas.List.Elements.{All-map, All-contains, Contains-get_or}
use Rattle.std.proofs.lemmas.List.Sums.{passes_at_first}
use Rattle.std.proofs.lemmas.Option.{slice_get_within, slice_get-get_or, get_or_from_slice_get}
use Rattle.dcv_arena.specs.Arena.{ArenaValue, IsArena, IsReduced, IsRef, level_of, value_of, HasOnlyNodesOf}
use Rattle.dcv_arena.specs.declared.nodes.Ref.{Ref}
use Rattle.dcv_arena.specs.declared.nodes.Ref.TheVariants.{Leaf, Place}
use Rattle.dcv_arena.proofs.Refs.{value_of-leaf, same_ref}
use Rattle.dcv_dfa.specs.declared.node_lines.NodeLine.{NodeLine}
use Rattle.dcv_dfa.specs.Raw.{RawValue, IsRaw, LeadsBelow}
use Rattle.dcv_dfa.specs.Auto.{count_of_nodes}
use Rattle.dcv_dfa.specs.NodeLines.{lo_of, hi_of, is_numbered, numbered, number_of, child_of, line_of, lines_and_rows, node_lines_of, IsBelow, ComesAfter, IsLine, AreReducedRows, AreReduced}
use Rattle.dcv_dfa.proofs.NodeCounts.{few_numbered, count_numbered}
use Rattle.dcv_dfa.proofs.Numberings.{HasNumber, IsNumbering, has_child, there_numbered, rows_numbered, numbered_hold}
use Rattle.dcv_dfa.proofs.Visits.{has_children}

-- ---- numbers

-- a place that stands early has a small number
number_first : (places : List ℕ) (number place : ℕ) (same : Bool) → (is_numbered (take number places) place ≡ true → number_of places place < number)
    → (same || is_numbered (take number places) place) ≡ true → cond (not same) (1 + number_of places place) 0 < suc number
number_first places number place true rest e = omega arith
number_first places number place false rest e = omega (arith, rest e)

pub number_below : (places : List ℕ) (number place : ℕ) → is_numbered (take number places) place ≡ true → number_of places place < number
number_below places zero place e = absurd (false≢true e)
number_below [] (suc number) place e = absurd (false≢true e)
number_below (first ∷ places) (suc number) place e = number_first places number place (nat_eq place first) (number_below places number place) e

pub number_within : (places : List ℕ) (place : ℕ) → Contains places place → number_of places place < length places
number_within places place there =
    number_below places (length places) place
    (subst (λ all. is_numbered all place ≡ true) (sym (take_all (length places) places (omega arith))) (there_numbered places place there))

-- and stands at its number
pub number_at : (places : List ℕ) (place : ℕ) → Contains places place → get_or places (number_of places place) 0 ≡ place
number_at places place there =
    sym ((unsigned_Decides place (get_or places (number_of places place) 0)).0 (passes_at_first (nat_eq place) places 0 (number_within places place there)))

-- so different refs are different children
same_child : (places : List ℕ) (first second : Ref) → HasNumber places first → HasNumber places second → child_of places first ≡ child_of places second → first ≡ second
same_child places (Leaf one) (Leaf other) has its e =
    let same : one ≡ other = cc in
    ap Leaf same
same_child places (Leaf one) (Place other) has its e = cc
same_child places (Place one) (Leaf other) has its e = cc
same_child places (Place one) (Place other) has its e =
    let same : number_of places one ≡ number_of places other = cc in
    ap Place (sym (number_at places one has) ∙ ap (λ number. get_or places number 0) same ∙ number_at places other its)

-- ---- states

module _ (arena : ArenaValue) (is : IsReduced arena) (states : ℕ) where
  -- children lead where their nodes lead
  children_lead : (place : ℕ) → place < length arena.nodes → LeadsBelow arena states (Place place) → LeadsBelow arena states (lo_of arena place) × LeadsBelow arena states (hi_of arena place)
  children_lead place below leads =
      let facts = has_children arena is place below in
      let level = level_of arena (Place place) in (
        λ letter size. omega (arith, facts.lo_value letter size, leads (set letter level false) (length-set letter level false ∙ size)),
        λ letter size. omega (arith, facts.hi_value letter size, leads (set letter level true) (length-set letter level true ∙ size)),
      )

  child_below : (places : List ℕ) (number : ℕ) (ref : Ref) → LeadsBelow arena states ref → HasNumber (take number places) ref → IsBelow states number (child_of places ref)
  child_below places number (Leaf state) leads has =
      let letter = replicate arena.slots false in
      omega (arith, value_of-leaf arena is state letter, leads letter (length-replicate arena.slots false))
  child_below places number (Place place) leads has = number_below places number place (there_numbered (take number places) place has)

  -- ---- lines

  module _ (places : List ℕ) (numbering : IsNumbering arena places) (lead : All (λ place. LeadsBelow arena states (Place place)) places) where
    abbrev lines : List NodeLine
    lines = map (line_of arena places) places

    -- the place whose line this is
    line_at : (number : ℕ) (line : NodeLine) → slice_get lines number ≡ Some line → (number < length places) × (line ≡ line_of arena places (get_or places number 0))
    line_at number line e =
        let within : number < length places = omega (arith, slice_get_within lines number line e, length-map places (line_of arena places)) in
        (within, sym (get_or_from_slice_get lines number line line e) ∙ get_or-map (line_of arena places) places number 0 line within)

    child_after : (slot : ℕ) (ref : Ref) → HasNumber places ref → slot < level_of arena ref → ComesAfter lines slot (child_of places ref)
    child_after slot (Leaf state) has later = tt
    child_after slot (Place place) has later = λ line e.
        let at = line_at (number_of places place) line e in
        omega (arith, later, ap (λ (line : NodeLine). line.slot) at.1, ap (λ place. level_of arena (Place place)) (number_at places place has))

    line_of_place : (number place : ℕ) → slice_get places number ≡ Some place → IsLine arena.slots states lines number (line_of arena places place)
    line_of_place number place e =
        let there : Contains places place = (number, slice_get_within places number place e, get_or_from_slice_get places number place place e) in
        let below = All-contains (λ place. place < length arena.nodes) places place numbering.within there in
        let facts = has_children arena is place below in
        let has = has_child arena places numbering place there in
        let leads = children_lead place below (All-contains (λ place. LeadsBelow arena states (Place place)) places place lead there) in
        record {
          slot = facts.slot;
          differ = λ same. facts.differ (same_child places (lo_of arena place) (hi_of arena place) has.0 has.1 same);
          lo_below = child_below places number (lo_of arena place) leads.0 (numbering.lo_first number place e);
          hi_below = child_below places number (hi_of arena place) leads.1 (numbering.hi_first number place e);
          lo_after = child_after (level_of arena (Place place)) (lo_of arena place) has.0 facts.lo_later;
          hi_after = child_after (level_of arena (Place place)) (hi_of arena place) has.1 facts.hi_later;
        }

    each_line : (number : ℕ) (line : NodeLine) → slice_get lines number ≡ Some line → IsLine arena.slots states lines number line
    each_line number line e =
        let at = line_at number line e in
        subst (IsLine arena.slots states lines number) (sym at.1) (line_of_place number (get_or places number 0) (slice_get-get_or places number 0 at.0))

    -- one line for one place
    same_line : (first second : ℕ) → Contains places first → Contains places second → line_of arena places first ≡ line_of arena places second → first ≡ second
    same_line first second there there' same =
        let below = All-contains (λ place. place < length arena.nodes) places first numbering.within there in
        let below' = All-contains (λ place. place < length arena.nodes) places second numbering.within there' in
        let facts = has_children arena is first below in
        let facts' = has_children arena is second below' in
        let has = has_child arena places numbering first there in
        let has' = has_child arena places numbering second there' in
        let slot : level_of arena (Place first) ≡ level_of arena (Place second) = ap (λ (line : NodeLine). line.slot) same in
        let lo = same_child places (lo_of arena first) (lo_of arena second) has.0 has'.0 (ap (λ (line : NodeLine). line.lo) same) in
        let hi = same_child places (hi_of arena first) (hi_of arena second) has.1 has'.1 (ap (λ (line : NodeLine). line.hi) same) in
        let one : Place first ≡ Place second = same_ref arena is (Place first) (Place second) below below' (λ letter size.
        facts.value letter
        ∙ (λ i. cond (get_or letter (slot i) false) (value_of arena (hi i) letter) (value_of arena (lo i) letter))
        ∙ sym (facts'.value letter)) in
        cc

    each_once : AllPairs (λ first second. first ≢ second) lines
    each_once i j d before within same =
        let later : j < length places = omega (arith, length-map places (line_of arena places)) in
        let first = get_or places i 0 in
        let second = get_or places j 0 in
        let equal = same_line first second (Contains-get_or places i 0 (omega arith)) (Contains-get_or places j 0 later)
        (sym (get_or-map (line_of arena places) places i 0 d (omega arith)) ∙ same ∙ get_or-map (line_of arena places) places j 0 d later) in
        numbering.once i j 0 before later equal

    -- the rows name states and numbers that there are
    rows_below : (count : ℕ) (rows : List Ref) → count ≡ length places → All (LeadsBelow arena states) rows → All (HasNumber places) rows → All (IsBelow states count) (map (child_of places) rows)
    rows_below count rows size leads has =
        All-map (IsBelow states count) (child_of places) rows (λ i d below.
        child_below places count (get_or rows i d) (leads i d below)
        (subst (λ front. HasNumber front (get_or rows i d)) (sym (take_all count places (omega (arith, size)))) (has i d below)))

-- ---- all lines

-- what is true of the places and of what is made of them
pub record HasLines (arena : ArenaValue) (rows : List Ref) (places : List ℕ) : Type 0 where
  pub within : All (λ place. place < length arena.nodes) places
  pub few : length places < 2 ^ 32
  pub fits : length (map (line_of arena places) places) ≤ length arena.nodes
  pub reduced : (bound : ℕ) → All (LeadsBelow arena bound) rows
      → AreReducedRows arena.slots bound (length rows) (lines_and_rows (map (line_of arena places) places) (map (child_of places) rows))

pub has_lines : (arena : ArenaValue) (rows : List Ref) → IsArena arena → All (IsRef arena) rows → (places : List ℕ) → places ≡ numbered arena rows → HasLines arena rows places
has_lines arena rows is ones places same =
    let reduced = is.reduced in
    let all = numbered arena rows in
    let facts = rows_numbered arena reduced rows ones in
    let numbering = facts.0 in
    let has = facts.1 in
    let size = length-map all (line_of arena all) in
    let few = few_numbered arena reduced all numbering in
    subst (HasLines arena rows) (sym same) (record {
      within = numbering.within;
      few = omega (arith, few, is.within, is.limit);
      fits = omega (arith, few, size);
      reduced = λ bound leads.
          let lead = numbered_hold arena reduced (LeadsBelow arena bound) (children_lead arena reduced bound) rows ones leads in
          record {
            lines = each_line arena reduced bound all numbering lead;
            once = each_once arena reduced bound all numbering lead;
            count = length-map rows (child_of all);
            rows = rows_below arena reduced bound all numbering lead (length (map (line_of arena all) all)) rows size leads has;
          };
    })

-- ---- an automaton's

-- each of its nodes has a line
pub count_of_lines : (raw : RawValue) → IsRaw raw → HasOnlyNodesOf raw.arena raw.rows → length (node_lines_of raw).lines ≡ count_of_nodes raw
count_of_lines raw is only =
    let arena = raw.arena in
    let reduced = is.arena.reduced in
    let all = numbered arena raw.rows in
    let facts = rows_numbered arena reduced raw.rows is.rows in
    length-map all (line_of arena all) ∙ count_numbered arena reduced all facts.0 raw.rows is.rows facts.1 only

pub record HasNodeLines (raw : RawValue) (places : List ℕ) : Type 0 where
  pub within : All (λ place. place < length raw.arena.nodes) places
  pub few : length places < 2 ^ 32
  pub count : length (map (line_of raw.arena places) places) ≡ count_of_nodes raw
  pub reduced : AreReduced raw.arena.slots (length raw.rows) (lines_and_rows (map (line_of raw.arena places) places) (map (child_of places) raw.rows))

pub has_node_lines : (raw : RawValue) → IsRaw raw → HasOnlyNodesOf raw.arena raw.rows → (places : List ℕ) → places ≡ numbered raw.arena raw.rows → HasNodeLines raw places
has_node_lines raw is only places same =
    let facts = has_lines raw.arena raw.rows is.arena is.rows places same in
    record {
      within = facts.within;
      few = facts.few;
      count = (λ i. length (map (line_of raw.arena (same i)) (same i))) ∙ count_of_lines raw is only;
      reduced = facts.reduced (length raw.rows) is.numbers;
    }
