-- Functions have decision diagrams: for each list of tables there is an arena with a ref for each of them, and no other nodes. A function after
-- a front has a ref, by recursion on the slots that are left: the one of both sides where they are the same, or a node.
--     reading table                     the function that a table is of
--     some_diagrams                     there are diagrams of each list of tables
use Rattle.std.proofs.Common.{◌≡◌, ◌≢◌, ◌⊎◌, inl, inr, ℕ, zero, suc, ◌+◌, ◌^◌, ◌<◌, ◌≤◌, Bool, true, false, cond, List, [], ◌∷◌, ◌++◌, length, map, Some, slice_get, get_or, Contains, All, refl, sym, ap, ◌∙◌, subst, arith, append-nil}
use Rattle.std.specs.Bool.{Decides}
use Rattle.std.proofs.lemmas.Bool.{false≢true}
use Rattle.std.proofs.lemmas.List.{append_assoc, get_or_default, length-append, length-map, get_or-map, same_lists}
use Rattle.std.proofs.lemmas.List.Elements.{All-nil, All-cons, All-tail, All-weaker, Contains-append_left, Contains-append_right, Contains-append_cases}
use Rattle.std.proofs.lemmas.List.FromFn.{get_or-map-range_with_len}
use Rattle.std.proofs.lemmas.Option.{same_Some}
use Rattle.dcv_word.specs.Letter.{bits_of, letter_of, letters_of_width}
use Rattle.dcv_word.specs.LetterFacts.{bits_of-letter_of}
use Rattle.dcv_word.proofs.AllLetters.{length-letters_of_width, letters_of_width-numbers}
use Rattle.dcv_arena.specs.Arena.{ArenaValue, IsReduced, IsNodeAt, IsRef, level_of, value_of, table_of, node_of, KeepsRefs, HasOnlyNodesOf, AddsOnlyNodesOf}
use Rattle.dcv_arena.specs.Diagram.{as_table, nodes_of, node_count}
use Rattle.dcv_arena.specs.Laws.{MeansBehind}
use Rattle.dcv_arena.specs.declared.nodes.Ref.{Ref}
use Rattle.dcv_arena.specs.declared.nodes.Ref.TheVariants.{Leaf, Place}
use Rattle.dcv_quotient.specs.Diagrams.{AreDiagramsOf}
use Rattle.dcv_arena.proofs.Counts.{count_exact}
use Rattle.dcv_arena.proofs.Growth.{grown, is_reduced_grown, keeps_grown, keeps_all, adds_grown, includes_itself, slice_get-push_last}
use Rattle.dcv_arena.proofs.Growth.{ref_meant, level_meant, value_meant, lo_nodes_meant, hi_nodes_meant}
use Rattle.dcv_arena.proofs.Members.{Contains-map_cases, Contains-flat_map_cases}
use Rattle.dcv_arena.proofs.Roots.{of_root, kept_in_turn, no_nodes, one_more, parts_in_turn, parts_kept}
use Rattle.dcv_arena.proofs.Same.{same_refs, same_nodes}
use Rattle.dcv_arena.proofs.Tables.{same_table}

-- ---- whether something stands in a list

-- a test that decides is right or not
right_or_not : {test : Bool} {P : Type 0} → Decides test P → P ⊎ (P → ⊥)
right_or_not {test} {P} decides = by test refl
  where
    by : (answer : Bool) → test ≡ answer → P ⊎ (P → ⊥)
    by true e = inl (decides.0 e)
    by false e = inr (λ right. false≢true (sym e ∙ decides.1 right))

equal_or_not : (first second : Ref) → (first ≡ second) ⊎ (first ≢ second)
equal_or_not first second = right_or_not (same_refs first second)

abbrev Stands : {X : Type 0} → List X → X → Type 0
Stands xs x = (place : ℕ) × (slice_get xs place ≡ Some x)

abbrev Misses : {X : Type 0} → List X → X → Type 0
Misses xs x = (place : ℕ) → slice_get xs place ≢ Some x

-- what can be told apart stands in a list, or does not
stands_or_not : {X : Type 0} → ((first second : X) → (first ≡ second) ⊎ (first ≢ second)) → (xs : List X) (x : X) → Stands xs x ⊎ Misses xs x
stands_or_not equal [] x = inr (λ place e. absurd cc)
stands_or_not {X} equal (first ∷ xs) x = by (equal first x) (stands_or_not equal xs x)
  where
    misses : first ≢ x → Misses xs x → Misses (first ∷ xs) x
    misses other none zero there = other (same_Some first x there)
    misses other none (suc place) there = none place there

    by : (first ≡ x) ⊎ (first ≢ x) → Stands xs x ⊎ Misses xs x → Stands (first ∷ xs) x ⊎ Misses (first ∷ xs) x
    by (inl same) rest = inl (0, ap Some same)
    by (inr other) (inl later) = inl (suc later.0, later.1)
    by (inr other) (inr none) = inr (misses other none)

-- ---- a node that is there, or is added

record Placed (old : ArenaValue) (slot : ℕ) (lo hi : Ref) : Type 0 where
  new : ArenaValue
  place : ℕ
  is : IsReduced new
  kept : KeepsRefs old new
  there : slice_get new.nodes place ≡ Some (node_of slot lo hi)
  adds : AddsOnlyNodesOf old new (Place place)

some_place : (old : ArenaValue) (slot : ℕ) (lo hi : Ref) → IsReduced old → IsNodeAt old (length old.nodes) (node_of slot lo hi) → Placed old slot lo hi
some_place old slot lo hi is right =
    let node = node_of slot lo hi in
    elim (stands_or_not (λ first second. right_or_not (same_nodes first second)) old.nodes node) [
      | inl found ↦ record { new = old; place = found.0; is = is; kept = keeps_all old; there = found.1; adds = λ node c. inl c }
      | inr absent ↦ record {
        new = grown old node;
        place = length old.nodes;
        is = is_reduced_grown old node is right absent;
        kept = keeps_grown old node;
        there = slice_get-push_last old.nodes node (length old.nodes) refl;
        adds = adds_grown old node is right absent;
      }
    ]

-- ---- a function after a front

record Behind (old : ArenaValue) (front : List Bool) (function : List Bool → ℕ) : Type 0 where
  new : ArenaValue
  ref : Ref
  is : IsReduced new
  kept : KeepsRefs old new
  one : IsRef new ref
  later : length front ≤ level_of new ref
  means : MeansBehind new ref front function
  adds : AddsOnlyNodesOf old new ref

abbrev on : List Bool → Bool → List Bool
on front value = front ++ value ∷ []

length-on : (front : List Bool) (value : Bool) → length (on front value) ≡ length front + 1
length-on front value = length-append front (value ∷ [])

-- after a front that is one longer
on-values : (front : List Bool) (value : Bool) (values : List Bool) → on front value ++ values ≡ front ++ value ∷ values
on-values front value values = append_assoc front (value ∷ []) values

means_on : (arena : ArenaValue) (ref : Ref) (front : List Bool) (function : List Bool → ℕ) (value : Bool) → MeansBehind arena ref (on front value) function
    → (values : List Bool) → length front + suc (length values) ≡ arena.slots → value_of arena ref (front ++ value ∷ values) ≡ function (front ++ value ∷ values)
means_on arena ref front function value means values size =
    ap (value_of arena ref) (sym (on-values front value values))
    ∙ means values (omega (arith, length-on front value))
    ∙ ap function (on-values front value values)

value_behind : (front values : List Bool) (value : Bool) → get_or (front ++ value ∷ values) (length front) false ≡ value
value_behind [] values value = refl
value_behind (first ∷ front) values value = value_behind front values value

module _ (old : ArenaValue) (front : List Bool) (function : List Bool → ℕ) (low : Behind old (on front false) function) (high : Behind low.new (on front true) function)
    (inner : length front < old.slots) where
  slots_high : high.new.slots ≡ old.slots
  slots_high = high.kept.slots ∙ low.kept.slots

  abbrev kept_high : KeepsRefs old high.new
  kept_high = kept_in_turn old low.new high.new low.kept high.kept

  low_one : IsRef high.new low.ref
  low_one = high.kept.refs low.ref low.one

  low_later : length front < level_of high.new low.ref
  low_later = omega (arith, high.kept.levels low.ref low.one, low.later, length-on front false)

  high_later : length front < level_of high.new high.ref
  high_later = omega (arith, high.later, length-on front true)

  low_means : (values : List Bool) → length front + suc (length values) ≡ high.new.slots
      → value_of high.new low.ref (front ++ false ∷ values) ≡ function (front ++ false ∷ values)
  low_means values size =
      high.kept.values low.ref (front ++ false ∷ values) low.one
      ∙ means_on low.new low.ref front function false low.means values (size ∙ high.kept.slots)

  high_means : (values : List Bool) → length front + suc (length values) ≡ high.new.slots
      → value_of high.new high.ref (front ++ true ∷ values) ≡ function (front ++ true ∷ values)
  high_means values size = means_on high.new high.ref front function true high.means values size

  -- the same on both sides
  equal_sides : low.ref ≡ high.ref → Behind old front function
  equal_sides same = record {
    new = high.new;
    ref = high.ref;
    is = high.is;
    kept = kept_high;
    one = high.one;
    later = omega (arith, high_later);
    means = means;
    adds = parts_in_turn old low.new high.new low.ref high.ref low.adds high.adds
        (parts_kept low.new high.new high.new low.ref high.ref high.kept low.one (includes_itself high.new low.ref high.ref same));
  }
    where
      means : MeansBehind high.new high.ref front function
      means [] size = absurd (omega (arith, slots_high))
      means (false ∷ values) size = ap (λ ref. value_of high.new ref (front ++ false ∷ values)) (sym same) ∙ low_means values size
      means (true ∷ values) size = high_means values size

  -- a node
  two_sides : low.ref ≢ high.ref → Behind old front function
  two_sides differ =
      let slot = length front in
      let right : IsNodeAt high.new (length high.new.nodes) (node_of slot low.ref high.ref) = record {
        slot = omega (arith, slots_high);
        lo_before = low_one;
        hi_before = high.one;
        lo_level = low_later;
        hi_level = high_later;
        differ = differ;
      } in
      two_placed (some_place high.new slot low.ref high.ref high.is right)
    where
      two_placed : Placed high.new (length front) low.ref high.ref → Behind old front function
      two_placed placed = record {
        new = placed.new;
        ref = Place placed.place;
        is = placed.is;
        kept = kept_in_turn old high.new placed.new kept_high placed.kept;
        one = ref_meant high.new placed.new placed.is placed.kept placed.place (length front) low.ref high.ref placed.there low_one high.one;
        later = omega (arith, level_meant high.new placed.new placed.is placed.kept placed.place (length front) low.ref high.ref placed.there low_one high.one);
        means = means;
        adds = parts_in_turn old low.new placed.new low.ref (Place placed.place) low.adds
            (parts_in_turn low.new high.new placed.new high.ref (Place placed.place) high.adds placed.adds
            (hi_nodes_meant high.new placed.new placed.is placed.kept placed.place (length front) low.ref high.ref placed.there low_one high.one))
            (parts_kept low.new high.new placed.new low.ref (Place placed.place) high.kept low.one
            (lo_nodes_meant high.new placed.new placed.is placed.kept placed.place (length front) low.ref high.ref placed.there low_one high.one));
      }
        where
          goes : (value : Bool) (values : List Bool) → value_of placed.new (Place placed.place) (front ++ value ∷ values)
              ≡ cond value (value_of high.new high.ref (front ++ value ∷ values)) (value_of high.new low.ref (front ++ value ∷ values))
          goes value values =
              value_meant high.new placed.new placed.is placed.kept placed.place (length front) low.ref high.ref placed.there low_one high.one (front ++ value ∷ values)
              ∙ ap (λ side. cond side (value_of high.new high.ref (front ++ value ∷ values)) (value_of high.new low.ref (front ++ value ∷ values)))
              (value_behind front values value)

          means : MeansBehind placed.new (Place placed.place) front function
          means [] size = absurd (omega (arith, slots_high, placed.kept.slots))
          means (false ∷ values) size = goes false values ∙ low_means values (size ∙ placed.kept.slots)
          means (true ∷ values) size = goes true values ∙ high_means values (size ∙ placed.kept.slots)

-- by the number of slots that are left
some_diagram : (rest : ℕ) (old : ArenaValue) (front : List Bool) (function : List Bool → ℕ)
    → IsReduced old → length front + rest ≡ old.slots → Behind old front function
some_diagram zero old front function is size = record {
  new = old;
  ref = Leaf (function front);
  is = is;
  kept = keeps_all old;
  one = tt;
  later = omega arith;
  means = means;
  adds = λ node c. inl c;
}
  where
    means : MeansBehind old (Leaf (function front)) front function
    means [] whole = ap function (sym (append-nil front))
    means (value ∷ values) whole = absurd (omega arith)
some_diagram (suc rest) old front function is size =
    let low = some_diagram rest old (on front false) function is (omega (arith, length-on front false)) in
    let high = some_diagram rest low.new (on front true) function low.is (omega (arith, length-on front true, low.kept.slots)) in
    elim (equal_or_not low.ref high.ref) [
      | inl same ↦ equal_sides old front function low high (omega arith) same
      | inr differ ↦ two_sides old front function low high (omega arith) differ
    ]

-- ---- tables

-- a table is that of the function that reads it
abbrev pub reading : List ℕ → List Bool → ℕ
reading table letter = get_or table (bits_of letter) 0

pub as_table-reading : (slots : ℕ) (table : List ℕ) → length table ≡ 2 ^ slots → as_table slots (reading table) ≡ table
as_table-reading slots table size =
    let letters = letters_of_width slots in
    let count = length-letters_of_width slots in
    same_lists (as_table slots (reading table)) table (length-map letters (reading table) ∙ count ∙ sym size) (λ place d within.
    let below : place < 2 ^ slots = omega (arith, length-map letters (reading table), count) in
    let letter : get_or letters place [] ≡ letter_of slots place =
    ap (λ all. get_or all place []) (letters_of_width-numbers slots) ∙ get_or-map-range_with_len (letter_of slots) 0 (2 ^ slots) place place [] below (omega arith) in
    get_or-map (reading table) letters place [] d (omega arith)
    ∙ ap (reading table) letter
    ∙ ap (λ at. get_or table at 0) (bits_of-letter_of slots place below)
    ∙ get_or_default table place 0 d (omega arith))

record Drawn (slots limit : ℕ) (tables : List (List ℕ)) : Type 0 where
  arena : ArenaValue
  refs : List Ref
  same_slots : arena.slots ≡ slots
  same_limit : arena.limit ≡ limit
  is : IsReduced arena
  ones : All (IsRef arena) refs
  mean : map (table_of arena) refs ≡ tables
  only : HasOnlyNodesOf arena refs

-- the tables of refs that are kept
tables_kept : (old new : ArenaValue) (refs : List Ref) → KeepsRefs old new → All (IsRef old) refs → map (table_of new) refs ≡ map (table_of old) refs
tables_kept old new refs kept ones =
    same_lists (map (table_of new) refs) (map (table_of old) refs) (length-map refs (table_of new) ∙ sym (length-map refs (table_of old))) (λ place d within.
    let below : place < length refs = omega (arith, length-map refs (table_of new)) in
    get_or-map (table_of new) refs place (Leaf 0) d below
    ∙ kept.tables (get_or refs place (Leaf 0)) (ones place (Leaf 0) below)
    ∙ sym (get_or-map (table_of old) refs place (Leaf 0) d below))

-- a root more at the end or in front: the nodes are the same
root_in_front : (arena : ArenaValue) (roots : List Ref) (root : Ref) → HasOnlyNodesOf arena (roots ++ root ∷ []) → HasOnlyNodesOf arena (root ∷ roots)
root_in_front arena roots root only node c =
    let by_table = Contains-flat_map_cases (nodes_of arena.slots) (map (table_of arena) (roots ++ root ∷ [])) node (only node c) in
    let by_ref = Contains-map_cases (table_of arena) (roots ++ root ∷ []) by_table.0 by_table.1 in
    of_root arena (root ∷ roots) by_ref.0 node
    (elim (Contains-append_cases roots (root ∷ []) by_ref.0 by_ref.1) [
      | inl before ↦ Contains-append_right (root ∷ []) roots by_ref.0 before
      | inr last ↦ Contains-append_left (root ∷ []) roots by_ref.0 last
    ])
    (subst (λ table. Contains (nodes_of arena.slots table) node) (sym by_ref.2) by_table.2)

-- a ref that means the function after no front has its table
table_meant : (slots : ℕ) (table : List ℕ) (arena : ArenaValue) (ref : Ref) → length table ≡ 2 ^ slots → arena.slots ≡ slots → MeansBehind arena ref [] (reading table)
    → table_of arena ref ≡ table
unfolding table_of
table_meant slots table arena ref size same means =
    same_table arena.slots (value_of arena ref) (reading table) (λ letter whole. means letter (omega arith))
    ∙ ap (λ slots. as_table slots (reading table)) same
    ∙ as_table-reading slots table size

-- one table more
one_drawn : (slots limit : ℕ) (table : List ℕ) (tables : List (List ℕ)) → length table ≡ 2 ^ slots → Drawn slots limit tables → Drawn slots limit (table ∷ tables)
one_drawn slots limit table tables size drawn =
    let arena = drawn.arena in
    let made = some_diagram slots arena [] (reading table) drawn.is (omega (arith, drawn.same_slots)) in
    let means : table_of made.new made.ref ≡ table = table_meant slots table made.new made.ref size (made.kept.slots ∙ drawn.same_slots) made.means in
    record {
      arena = made.new;
      refs = made.ref ∷ drawn.refs;
      same_slots = made.kept.slots ∙ drawn.same_slots;
      same_limit = made.kept.limit ∙ drawn.same_limit;
      is = made.is;
      ones = All-cons (IsRef made.new) made.ref drawn.refs made.one (All-weaker (IsRef arena) (IsRef made.new) made.kept.refs drawn.refs drawn.ones);
      mean = λ i. means i ∷ (tables_kept arena made.new drawn.refs made.kept drawn.ones ∙ drawn.mean) i;
      only = root_in_front made.new drawn.refs made.ref (one_more arena made.new drawn.refs made.ref made.kept drawn.ones drawn.only made.adds);
    }

all_drawn : (slots limit : ℕ) (tables : List (List ℕ)) → All (λ table. length table ≡ 2 ^ slots) tables → Drawn slots limit tables
all_drawn slots limit [] sizes = record {
  arena = record { slots = slots; limit = limit; nodes = [] };
  refs = [];
  same_slots = refl;
  same_limit = refl;
  is = record { nodes = λ place node e. absurd cc; once = λ first second node e e'. absurd cc };
  ones = All-nil (IsRef (record { slots = slots; limit = limit; nodes = [] }));
  mean = refl;
  only = no_nodes (record { slots = slots; limit = limit; nodes = [] }) refl;
}
all_drawn slots limit (table ∷ tables) sizes =
    let rest = All-tail (λ table. length table ≡ 2 ^ slots) table tables sizes in
    one_drawn slots limit table tables (sizes 0 [] (omega arith)) (all_drawn slots limit tables rest)

-- ---- the whole

pub some_diagrams : (slots : ℕ) (tables : List (List ℕ)) → slots ≤ 32 → All (λ table. length table ≡ 2 ^ slots) tables → node_count slots tables < 2 ^ 32
    → (arena : ArenaValue) × (refs : List Ref) × AreDiagramsOf slots tables arena refs
some_diagrams slots tables narrow sizes few =
    let drawn = all_drawn slots (node_count slots tables) tables sizes in
    let count : length drawn.arena.nodes ≡ node_count slots tables =
    count_exact drawn.arena drawn.is drawn.refs drawn.ones drawn.only ∙ (λ i. node_count (drawn.same_slots i) (drawn.mean i)) in (
      drawn.arena,
      drawn.refs,
      record {
        same_slots = drawn.same_slots;
        count = count;
        is = record {
          slots = omega (arith, drawn.same_slots);
          limit = omega (arith, drawn.same_limit);
          within = omega (arith, drawn.same_limit);
          reduced = drawn.is;
        };
        ones = drawn.ones;
        mean = drawn.mean;
        only = drawn.only;
      },
    )
