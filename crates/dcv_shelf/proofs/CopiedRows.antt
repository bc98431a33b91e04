-- Rows that leave the arena of a shelf, one after another.
use Rattle.std.proofs.Common.{◌≡◌, ℕ, ◌+◌, ◌<◌, ◌≤◌, Bool, List, [], ◌∷◌, ◌++◌, length, get_or, ◌⊎◌, inl, inr, false, ap, sym, ◌∙◌, subst, arith}
use Rattle.std.specs.List.{range_with_len}
use Rattle.std.proofs.lemmas.Bool.{cases_lt}
use Rattle.std.proofs.lemmas.List.{length-map, map-id, length_push, get_or_append_left, get_or_push}
use Rattle.std.proofs.lemmas.List.Elements.{All-nil, All-push, All-weaker}
use Rattle.std.proofs.lemmas.List.FromFn.{length-range_with_len, get_or-range_with_len, map-range_with_len_more}
use Rattle.std.proofs.lemmas.Option.{slice_get-get_or}
use Rattle.dcv_arena.specs.Arena.{ArenaValue, IsArena, IsRef, value_of, KeepsRefs, AddsOnlyNodesOf}
use Rattle.dcv_arena.specs.declared.nodes.Ref.{Ref}
use Rattle.dcv_arena.specs.declared.nodes.Ref.TheVariants.{Leaf}
use Rattle.dcv_arena.proofs.Roots.{no_nodes, one_more}
use Rattle.dcv_language.proofs.Bounds.{next-below}
use Rattle.dcv_renumber.specs.Renumbered.{renumbered}
use Rattle.dcv_shelf.specs.Stored.{row_at, stored_state, stored_table, IsStored, HasRows}
use Rattle.dcv_shelf.specs.declared.stored.State.{State}
use Rattle.dcv_shelf.specs.declared.stored.Stored.{Stored}
use Rattle.dcv_shelf.proofs.Views.{row_steps}

-- ---- where rows lead

abbrev pub no_state : State
no_state = record { accepting = false; row = Leaf 0 }

module _ (from : ArenaValue) (stored : Stored) (is : IsStored from stored) where
  pub leads_below : (place : ℕ) (letter : List Bool) → place < length stored.states.items → length letter ≡ stored.slots → value_of from (row_at stored place) letter < length stored.states.items
  leads_below place letter within size =
      let one = stored_table from stored in
      let state = get_or stored.states.items place no_state in
      let count = length-map stored.states.items (stored_state from stored.slots) in
      let below = next-below stored.slots one.table is.canonical.canonical.states place letter (omega (arith, within, count)) in
      let same = row_steps from stored place state (slice_get-get_or stored.states.items place no_state within) letter size in
      omega (arith, below, same, count)

pub one_number_more : (count : ℕ) → range_with_len 0 (count + 1) ≡ range_with_len 0 count ++ count ∷ []
one_number_more count =
    sym (map-id (range_with_len 0 (count + 1)))
    ∙ map-range_with_len_more (λ number. number) 0 count count (omega arith)
    ∙ ap (λ numbers. numbers ++ count ∷ []) (map-id (range_with_len 0 count))

-- a number that is renumbered by the list of the numbers is itself
renumbered_by_itself : (count number : ℕ) → number < count → get_or (range_with_len 0 count) number 0 ≡ number
renumbered_by_itself count number below = omega (arith, get_or-range_with_len 0 count number 0 below)

-- a row that was renumbered, in the words of the one who did it
module _ (from : ArenaValue) (stored : Stored) (is : IsStored from stored) (numbers given_numbers : List ℕ) (given_from : ArenaValue)
    (all : numbers ≡ range_with_len 0 (length stored.states.items)) (is_numbers : given_numbers ≡ numbers) (is_from : given_from ≡ from)
    (states : List State) (are : states ≡ stored.states.items) (place : ℕ) (within : place < length states) where
  abbrev root : Ref
  root = (get_or states place no_state).row

  inside : place < length stored.states.items
  inside = omega (arith, within, ap length are)

  -- each number of the row is in the list
  pub leads_inside : (slots : ℕ) → slots ≡ stored.slots → (letter : List Bool) → length letter ≡ slots → value_of given_from root letter < length given_numbers
  leads_inside slots same letter size =
      let leads = leads_below from stored is place letter inside (size ∙ same) in
      let value : value_of given_from root letter ≡ value_of from (row_at stored place) letter = (λ i. value_of (is_from i) (get_or (are i) place no_state).row letter) in
      omega (arith, leads, value, ap length is_numbers, ap length all, length-range_with_len 0 (length stored.states.items))

  pub renumbered_here : (slots : ℕ) → slots ≡ stored.slots → (letter : List Bool) → length letter ≡ slots
      → renumbered given_numbers given_from root letter ≡ value_of from (row_at stored place) letter
  renumbered_here slots same letter size =
      (λ i. renumbered (is_numbers i) (is_from i) (get_or (are i) place no_state).row letter)
      ∙ ap (λ list. renumbered list from (row_at stored place) letter) all
      ∙ renumbered_by_itself (length stored.states.items) (value_of from (row_at stored place) letter) (leads_below from stored is place letter inside (size ∙ same))

  pub value_by : (slots : ℕ) → slots ≡ stored.slots → (after : ArenaValue) (row : Ref)
      → ((letter : List Bool) → length letter ≡ slots → value_of after row letter ≡ renumbered given_numbers given_from root letter)
      → (count : ℕ) → count ≡ place → (letter : List Bool) → length letter ≡ slots → value_of after row letter ≡ value_of from (row_at stored count) letter
  value_by slots same after row value count here letter size =
      value letter size ∙ renumbered_here slots same letter size ∙ ap (λ place. value_of from (row_at stored place) letter) (sym here)

-- ---- one row more

module _ (from : ArenaValue) (stored : Stored) where
  pub no_rows : (arena : ArenaValue) (rows : List Ref) → IsArena arena → arena.slots ≡ stored.slots → arena.nodes ≡ [] → rows ≡ [] → HasRows from stored arena rows
  no_rows arena rows is slots none are = subst (HasRows from stored arena) (sym are) (record {
    arena_is = is;
    slots = slots;
    refs = All-nil (IsRef arena);
    values = λ place letter within size. absurd (omega arith);
    nodes = no_nodes arena none;
  })

  module _ (before after : ArenaValue) (rows : List Ref) (row : Ref) (has : HasRows from stored before rows) (is : IsArena after) (kept : KeepsRefs before after) (is_ref : IsRef after row)
      (value : (letter : List Bool) → length letter ≡ before.slots → value_of after row letter ≡ value_of from (row_at stored (length rows)) letter) where
    value_at : (place : ℕ) (letter : List Bool) → length letter ≡ stored.slots → (place < length rows) ⊎ (length rows ≤ place) → place < length (rows ++ row ∷ [])
        → value_of after (get_or (rows ++ row ∷ []) place (Leaf 0)) letter ≡ value_of from (row_at stored place) letter
    value_at place letter size (inl earlier) within =
        ap (λ r. value_of after r letter) (get_or_append_left rows (row ∷ []) (Leaf 0) place earlier)
        ∙ kept.values (get_or rows place (Leaf 0)) letter (has.refs place (Leaf 0) earlier) ∙ has.values place letter earlier size
    value_at place letter size (inr last) within =
        let here : length rows ≡ place = omega (arith, length_push rows row) in
        ap (λ r. value_of after r letter) (get_or_push rows row (Leaf 0) place here)
        ∙ value letter (size ∙ sym has.slots) ∙ ap (λ p. value_of from (row_at stored p) letter) here

    pub more_rows : AddsOnlyNodesOf before after row → HasRows from stored after (rows ++ row ∷ [])
    more_rows adds = record {
      arena_is = is;
      slots = kept.slots ∙ has.slots;
      refs = All-push (IsRef after) rows row (All-weaker (IsRef before) (IsRef after) (λ ref one. kept.refs ref one) rows has.refs) is_ref;
      values = λ place letter within size. value_at place letter size (cases_lt place (length rows)) within;
      nodes = one_more before after rows row kept has.refs has.nodes adds;
    }
