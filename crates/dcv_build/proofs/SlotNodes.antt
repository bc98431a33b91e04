-- How many nodes the rows of a product have, slot by slot.
--     nodes_of_one_more_slot     at one more slot there are no more than pairs of parts of which one at least is a node of this slot
--     joined_no_more             once all slots are done, the rows of the product have no more nodes than were counted
-- At a node of a row of the product stands what the rows of both operands have there, entry by entry. Each of the two goes on as a part of its
-- operand; and where the halves of what stands there differ, those of one of the two do, so that this one is a node of the slot itself.
use Rattle.std.proofs.Common.{◌≡◌, ◌≢◌, inl, inr, ℕ, zero, suc, ◌+◌, ◌-◌, ◌*◌, ◌<◌, ◌≤◌, Bool, true, false, not, List, [], ◌∷◌, ◌++◌, length, length-append, map, filter, replicate, Contains, refl, sym, ap, subst, ◌∙◌, arith}
use Rattle.std.specs.Cmp.{unsigned_Decides}
use Rattle.std.specs.Set.{unique_keys}
use Rattle.std.proofs.lemmas.Bool.{cases_lt, true≢false}
use Rattle.std.proofs.lemmas.List.{length-replicate}
use Rattle.std.proofs.lemmas.List.Elements.{Contains-append_left, Contains-append_right}
use Rattle.std.proofs.lemmas.Map.Made.{is_member-Decides}
use Rattle.dcv_word.specs.Letter.{letters_of_width}
use Rattle.dcv_arena.specs.Arena.{IsArena, level_of, value_of}
use Rattle.dcv_arena.specs.Diagram.{nodes_of, nodes_of_all, is_same_node, node_count}
use Rattle.dcv_arena.specs.declared.nodes.Ref.{Ref}
use Rattle.dcv_arena.proofs.Blocks.{IsNodeOf, part_of, nodes_of-is}
use Rattle.dcv_arena.proofs.Fewer.{same_node, each_once}
use Rattle.dcv_arena.proofs.Listed.{agree_behind}
use Rattle.dcv_arena.proofs.Members.{Contains-filter, Contains-flat_map_cases}
use Rattle.dcv_arena.proofs.Refs.{AgreeFrom, ignores_earlier}
use Rattle.dcv_arena.proofs.Tables.{same_table}
use Rattle.dcv_shelf.specs.Stored.{ViewValue}
use Rattle.dcv_build.specs.Bounds.{AreParts, GoesOn, ArePartsAt, HasNodesBefore, is_node_at, is_later, joined_row, next_of, states_of}
use Rattle.dcv_build.specs.Numbers.{number_of_pair}
use Rattle.dcv_build.proofs.ProductNodes.{products, length-products, Contains-products, no_more}

-- ---- one operand

-- the value in the slot after a front does not matter further on
agree_past : (front : List Bool) (a b : Bool) (back : List Bool) → AgreeFrom (suc (length front)) (front ++ a ∷ back) (front ++ b ∷ back)
agree_past [] a b back zero from = absurd (omega arith)
agree_past [] a b back (suc slot) from = refl
agree_past (value ∷ front) a b back zero from = absurd (omega arith)
agree_past (value ∷ front) a b back (suc slot) from = agree_past front a b back slot (omega arith)

abbrev blank : ℕ → List Bool
blank slot = replicate slot false

module _ (view : ViewValue) (arena : IsArena view.arena) (slot : ℕ) (parts : List Ref) (are : AreParts view.arena slot parts)
    (state : ℕ) (front : List Bool) (size : length front ≡ slot) (on : GoesOn view state front parts) where
  -- a part has the numbers that come next, after any front
  as_next : (values : List Bool) → length front + length values ≡ view.stored.slots → value_of view.arena on.part (blank slot ++ values) ≡ next_of view state (front ++ values)
  as_next values whole =
      let one = are on.part on.among in
      let plain : length (blank slot) ≡ slot = length-replicate slot false in
      ignores_earlier view.arena arena.reduced slot on.part one.0 one.1 (blank slot ++ values) (front ++ values)
      (λ later from. agree_behind (blank slot) front values (plain ∙ sym size) later (omega arith))
      ∙ on.numbers values whole

  -- a part that is no node of the slot has the same numbers on both of its sides
  same_sides : is_node_at view.arena slot on.part ≡ false → (values : List Bool) → suc (length front + length values) ≡ view.stored.slots
      → next_of view state (front ++ false ∷ values) ≡ next_of view state (front ++ true ∷ values)
  same_sides none values whole =
      let one = are on.part on.among in
      let other : level_of view.arena on.part ≢ slot = λ e. true≢false (sym ((unsigned_Decides (level_of view.arena on.part) slot).1 e) ∙ none) in
      let later : slot < level_of view.arena on.part = elim (cases_lt slot (level_of view.arena on.part)) [ inl later ↦ later | inr earlier ↦ absurd (other (omega (arith, one.1))) ] in
      sym (on.numbers (false ∷ values) (omega (arith, whole)))
      ∙ ignores_earlier view.arena arena.reduced (suc (length front)) on.part one.0 (omega arith) (front ++ false ∷ values) (front ++ true ∷ values) (agree_past front false true values)
      ∙ on.numbers (true ∷ values) (omega (arith, whole))

-- ---- two operands side by side

module _ (one other : ViewValue) (slots : one.stored.slots ≡ other.stored.slots) where
  pub no_more_than : (slot most more : ℕ) → HasNodesBefore one other slot most → most ≤ more → HasNodesBefore one other slot more
  no_more_than slot most more has within = record { nodes = has.nodes; few = omega (arith, has.few); all = has.all }

  abbrev joined : ℕ → ℕ → List Bool → ℕ
  joined state another letter = number_of_pair (next_of one state letter) (next_of other another letter)

  module _ (arena : IsArena one.arena) (beside : IsArena other.arena) (slot : ℕ) (ones others : List Ref) (parts : ArePartsAt one slot ones) (seconds : ArePartsAt other slot others) where
    pair : Ref → Ref → ℕ × List ℕ
    pair a b = (slot, map (λ values. number_of_pair (value_of one.arena a (blank slot ++ values)) (value_of other.arena b (blank slot ++ values))) (letters_of_width (one.stored.slots - slot)))

    abbrev nodes_at : List Ref
    nodes_at = filter (is_node_at one.arena slot) ones

    abbrev later_ones : List Ref
    later_ones = filter (is_later one.arena slot) ones

    abbrev other_nodes_at : List Ref
    other_nodes_at = filter (is_node_at other.arena slot) others

    abbrev later_others : List Ref
    later_others = filter (is_later other.arena slot) others

    abbrev both : List (ℕ × List ℕ)
    both = products pair nodes_at other_nodes_at

    abbrev firsts : List (ℕ × List ℕ)
    firsts = products pair nodes_at later_others

    abbrev lasts : List (ℕ × List ℕ)
    lasts = products pair later_ones other_nodes_at

    abbrev pairs : List (ℕ × List ℕ)
    pairs = both ++ (firsts ++ lasts)

    module _ (state another : ℕ) (node : ℕ × List ℕ) (below : state < states_of one) (second : another < states_of other)
        (split : IsNodeOf one.stored.slots (joined state another) node) (at : node.0 ≡ slot) where
      size : length split.front ≡ slot
      size = split.level ∙ at

      on : GoesOn one state split.front ones
      on = parts.behind state split.front below size

      with : GoesOn other another split.front others
      with = seconds.behind another split.front second size

      is_pair : pair on.part with.part ≡ node
      unfolding pair
      is_pair =
          let rest : one.stored.slots - slot ≡ suc split.rest = omega (arith, split.size, size) in
          let whole : (values : List Bool) → length values ≡ suc split.rest → length split.front + length values ≡ one.stored.slots = λ values long. omega (arith, split.size) in
          let numbers : part_of (joined state another) split.front (suc split.rest) ≡ node.1 = sym split.numbers in
          let alike = same_table (suc split.rest) (λ values. number_of_pair (value_of one.arena on.part (blank slot ++ values)) (value_of other.arena with.part (blank slot ++ values)))
          (λ values. joined state another (split.front ++ values))
          (λ values long. λ i. number_of_pair (as_next one arena slot ones parts.refs state split.front size on values (whole values long) i)
          (as_next other beside slot others seconds.refs another split.front size with values (whole values long ∙ slots) i)) in
          let second = ap (λ width. map (λ values. number_of_pair (value_of one.arena on.part (blank slot ++ values)) (value_of other.arena with.part (blank slot ++ values))) (letters_of_width width)) rest
          ∙ alike ∙ numbers in
          λ i. (sym at i, second i)

      -- one of the two is a node of the slot
      one_is : is_node_at one.arena slot on.part ≡ false → is_node_at other.arena slot with.part ≡ false → ⊥
      one_is none neither = split.differ (
          same_table split.rest (λ values. joined state another (split.front ++ false ∷ values)) (λ values. joined state another (split.front ++ true ∷ values))
          (λ values long. λ i. number_of_pair (same_sides one arena slot ones parts.refs state split.front size on none values (omega (arith, split.size)) i)
          (same_sides other beside slot others seconds.refs another split.front size with neither values (omega (arith, split.size, slots)) i)))

      pair_there : Contains pairs (pair on.part with.part)
      pair_there = by (is_node_at one.arena slot on.part) (is_node_at other.arena slot with.part) refl refl
        where
          by : (first last : Bool) → is_node_at one.arena slot on.part ≡ first → is_node_at other.arena slot with.part ≡ last → Contains pairs (pair on.part with.part)
          by true true is also = Contains-append_left both (firsts ++ lasts) (pair on.part with.part)
              (Contains-products pair nodes_at other_nodes_at on.part with.part (Contains-filter (is_node_at one.arena slot) ones on.part on.among is) (Contains-filter (is_node_at other.arena slot) others with.part with.among also))
          by true false is also = Contains-append_right both (firsts ++ lasts) (pair on.part with.part) (Contains-append_left firsts lasts (pair on.part with.part)
              (Contains-products pair nodes_at later_others on.part with.part (Contains-filter (is_node_at one.arena slot) ones on.part on.among is) (Contains-filter (is_later other.arena slot) others with.part with.among (ap not also))))
          by false true is also = Contains-append_right both (firsts ++ lasts) (pair on.part with.part) (Contains-append_right firsts lasts (pair on.part with.part)
              (Contains-products pair later_ones other_nodes_at on.part with.part (Contains-filter (is_later one.arena slot) ones on.part on.among (ap not is)) (Contains-filter (is_node_at other.arena slot) others with.part with.among also)))
          by false false is also = absurd (one_is is also)

      there : Contains pairs node
      there = subst (Contains pairs) is_pair pair_there

    pub nodes_of_one_more_slot : (most : ℕ) → HasNodesBefore one other slot most
        → HasNodesBefore one other (slot + 1) (most + length nodes_at * length other_nodes_at + length nodes_at * length later_others + length later_ones * length other_nodes_at)
    nodes_of_one_more_slot most has = record {
      nodes = has.nodes ++ pairs;
      few = omega (
        arith,
        has.few,
        length-append has.nodes pairs,
        length-append both (firsts ++ lasts),
        length-append firsts lasts,
        length-products pair nodes_at other_nodes_at,
        length-products pair nodes_at later_others,
        length-products pair later_ones other_nodes_at,
      );
      all = λ state another node below second listed before. elim (cases_lt node.0 slot) [
        | inl earlier ↦ Contains-append_left has.nodes pairs node (has.all state another node below second listed earlier)
        | inr here ↦ Contains-append_right has.nodes pairs node
            (there state another node below second (nodes_of-is one.stored.slots (joined state another) node listed) (omega arith))
      ];
    }

  -- a row of the product
  pub record IsJoined (row : List ℕ) : Type 0 where
    pub state : ℕ
    pub another : ℕ
    pub below : state < states_of one
    pub second : another < states_of other
    pub numbers : joined_row one other state another ≡ row

  pub joined_no_more : (most : ℕ) → HasNodesBefore one other one.stored.slots most → (rows : List (List ℕ)) → ((row : List ℕ) → Contains rows row → IsJoined row)
      → node_count one.stored.slots rows ≤ most
  joined_no_more most has rows each =
      let all = nodes_of_all one.stored.slots rows in
      let once = each_once all in
      let few : length (unique_keys is_same_node all) ≤ length has.nodes = no_more same_node (unique_keys is_same_node all) has.nodes once.apart (λ node there.
      let listed = (is_member-Decides same_node all node).0 (sym (once.members node) ∙ (is_member-Decides same_node (unique_keys is_same_node all) node).1 there) in
      let by_row = Contains-flat_map_cases (nodes_of one.stored.slots) rows node listed in
      let row = each by_row.0 by_row.1 in
      let own = subst (λ numbers. Contains (nodes_of one.stored.slots numbers) node) (sym row.numbers) by_row.2 in
      let split = nodes_of-is one.stored.slots (joined row.state row.another) node own in
      has.all row.state row.another node row.below row.second own (omega (arith, split.level, split.size))) in
      omega (arith, few, has.few)
