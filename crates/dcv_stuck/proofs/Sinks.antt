-- Rows with the sink's number in place of states that reject, one after another, and the automaton that they make.
use Rattle.std.proofs.Common.{◌≡◌, ℕ, ◌+◌, ◌^◌, ◌<◌, ◌≤◌, Bool, true, false, List, [], ◌∷◌, ◌++◌, length, get_or, All, ◌⊎◌, inl, inr, refl, sym, ap, ◌∙◌, subst, arith}
use Rattle.std.proofs.lemmas.Bool.{cases_lt}
use Rattle.std.proofs.lemmas.List.{length_push, get_or_push, get_or_append_left, get_or_default}
use Rattle.std.proofs.lemmas.List.Elements.{All-nil, All-push, All-weaker}
use Rattle.std.proofs.lemmas.List.FromFn.{length-map-range_with_len, get_or-map-range_with_len}
use Rattle.dcv_arena.specs.Arena.{ArenaValue, IsArena, IsRef, value_of, KeepsRefs}
use Rattle.dcv_arena.specs.declared.nodes.Ref.{Ref}
use Rattle.dcv_arena.specs.declared.nodes.Ref.TheVariants.{Leaf}
use Rattle.dcv_arena.proofs.Refs.{same_ref}
use Rattle.dcv_renumber.specs.Renumbered.{renumbered}
use Rattle.dcv_dfa.specs.Raw.{RawValue, IsRaw, LeadsBelow, raw_value, row_of, is_accepting, next_in, automaton_of}
use Rattle.dcv_dfa.proofs.States.{leads_below}
use Rattle.dcv_stuck.specs.Sink.{number_in, numbers_of, HasRows, LeadTo, IsOfStuckWords}
use Rattle.dcv_stuck.proofs.StuckWords.{number_below}

-- ---- rows, one after another

module _ (raw : RawValue) where
  pub no_rows : (arena : ArenaValue) (rows : List Ref) → IsArena arena → arena.slots ≡ raw.arena.slots → rows ≡ [] → HasRows raw arena rows
  no_rows arena rows is slots are = subst (HasRows raw arena) (sym are) (record {
    arena_is = is;
    slots = slots;
    refs = All-nil (IsRef arena);
    values = λ state letter within width. absurd (omega arith);
  })

  module _ (before after : ArenaValue) (rows : List Ref) (row : Ref) (has : HasRows raw before rows) (is : IsArena after) (kept : KeepsRefs before after) (is_ref : IsRef after row)
      (value : (letter : List Bool) → length letter ≡ before.slots → value_of after row letter ≡ number_in raw (next_in raw (length rows) letter)) where
    value_at : (state : ℕ) (letter : List Bool) → length letter ≡ raw.arena.slots → (state < length rows) ⊎ (length rows ≤ state) → state < length (rows ++ row ∷ [])
        → value_of after (get_or (rows ++ row ∷ []) state (Leaf 0)) letter ≡ number_in raw (next_in raw state letter)
    value_at state letter width (inl earlier) within =
        ap (λ r. value_of after r letter) (get_or_append_left rows (row ∷ []) (Leaf 0) state earlier)
        ∙ kept.values (get_or rows state (Leaf 0)) letter (has.refs state (Leaf 0) earlier) ∙ has.values state letter earlier width
    value_at state letter width (inr last) within =
        let here : length rows ≡ state = omega (arith, length_push rows row) in
        ap (λ r. value_of after r letter) (get_or_push rows row (Leaf 0) state here)
        ∙ value letter (width ∙ sym has.slots) ∙ ap (λ state. number_in raw (next_in raw state letter)) here

    pub more_rows : HasRows raw after (rows ++ row ∷ [])
    more_rows = record {
      arena_is = is;
      slots = kept.slots ∙ has.slots;
      refs = All-push (IsRef after) rows row (All-weaker (IsRef before) (IsRef after) (λ ref one. kept.refs ref one) rows has.refs) is_ref;
      values = λ state letter within width. value_at state letter width (cases_lt state (length rows)) within;
    }

-- a row in the words of the one who exchanges the numbers
module _ (raw : RawValue) (is : IsRaw raw) (numbers : List ℕ) (from : ArenaValue) (state : ℕ) (root : Ref) (is_numbers : numbers ≡ numbers_of raw (length raw.rows))
    (is_from : from ≡ raw.arena) (is_root : row_of raw state ≡ root) (below : state < length raw.rows) (slots : ℕ) (is_slots : slots ≡ raw.arena.slots) where
  leads : (letter : List Bool) → length letter ≡ slots → next_in raw state letter < length raw.rows
  leads letter width = leads_below raw is state below letter (width ∙ is_slots)

  pub leads_inside : (letter : List Bool) → length letter ≡ slots → value_of from root letter < length numbers
  leads_inside letter width =
      let value : value_of from root letter ≡ next_in raw state letter = λ i. value_of (is_from i) (sym is_root i) letter in
      let many : length numbers ≡ length raw.rows = ap length is_numbers ∙ length-map-range_with_len (number_in raw) 0 (length raw.rows) in
      omega (arith, leads letter width, value, many)

  pub value_by : (after : ArenaValue) (row : Ref) (place : ℕ) → state ≡ place
      → ((letter : List Bool) → length letter ≡ slots → value_of after row letter ≡ renumbered numbers from root letter)
      → (letter : List Bool) → length letter ≡ slots → value_of after row letter ≡ number_in raw (next_in raw place letter)
  value_by after row place is_place value letter width =
      let next = next_in raw state letter in
      value letter width ∙ (λ i. renumbered (is_numbers i) (is_from i) (sym is_root i) letter)
      ∙ get_or-map-range_with_len (number_in raw) 0 (length raw.rows) next next 0 (leads letter width) (omega arith)
      ∙ ap (λ state. number_in raw (next_in raw state letter)) is_place

-- ---- the automaton with the sink

abbrev pub made : RawValue → ArenaValue → List Ref → List Bool → RawValue
made raw arena rows flags = raw_value arena (rows ++ Leaf (length raw.rows) ∷ []) (flags ++ false ∷ []) raw.start

module _ (raw : RawValue) (is : IsRaw raw) (arena : ArenaValue) (rows : List Ref) (flags : List Bool) (has : HasRows raw arena rows) (count : length rows ≡ length raw.rows)
    (lead : LeadTo (Leaf (length raw.rows)) rows flags) (each : length flags ≡ length rows) (few : length raw.rows + 1 < 2 ^ 32) where
  abbrev all_rows : List Ref
  all_rows = rows ++ Leaf (length raw.rows) ∷ []

  abbrev new : RawValue
  new = made raw arena rows flags

  row_there : (state : ℕ) → state < length raw.rows → row_of new state ≡ get_or rows state (Leaf 0)
  row_there state below = get_or_append_left rows (Leaf (length raw.rows) ∷ []) (Leaf 0) state (omega (arith, count))

  last_row : row_of new (length raw.rows) ≡ Leaf (length raw.rows)
  last_row = get_or_push rows (Leaf (length raw.rows)) (Leaf 0) (length raw.rows) count

  steps : (state : ℕ) (letter : List Bool) → state < length raw.rows → length letter ≡ raw.arena.slots → next_in new state letter ≡ number_in raw (next_in raw state letter)
  steps state letter below width = ap (λ row. value_of arena row letter) (row_there state below) ∙ has.values state letter (omega (arith, count)) width

  rows_lead : All (LeadsBelow arena (length all_rows)) rows
  rows_lead state d within letter width =
      let below : state < length raw.rows = omega (arith, count) in
      let value : value_of arena (get_or rows state d) letter ≡ number_in raw (next_in raw state letter) =
      ap (λ row. value_of arena row letter) (get_or_default rows state d (Leaf 0) within) ∙ has.values state letter within (width ∙ has.slots) in
      omega (arith, value, number_below (automaton_of raw) (length raw.rows) (next_in raw state letter) (leads_below raw is state below letter (width ∙ has.slots)), length_push rows (Leaf (length raw.rows)), count)

  pub made_is_raw : IsRaw new
  made_is_raw = record {
    arena = has.arena_is;
    rows = All-push (IsRef arena) rows (Leaf (length raw.rows)) has.refs tt;
    flags = omega (arith, each, length_push flags false, length_push rows (Leaf (length raw.rows)));
    start = omega (arith, is.start, count, length_push rows (Leaf (length raw.rows)));
    numbers = All-push (LeadsBelow arena (length all_rows)) rows (Leaf (length raw.rows)) rows_lead (λ letter width. omega (arith, count, length_push rows (Leaf (length raw.rows))));
    states = omega (arith, few, count, length_push rows (Leaf (length raw.rows)));
  }

  flag_there : (state : ℕ) → state < length raw.rows → is_accepting new state ≡ get_or flags state false
  flag_there state below = get_or_append_left flags (false ∷ []) false state (omega (arith, count, each))

  to_sink : (state : ℕ) → state < length raw.rows → is_accepting new state ≡ true → (letter : List Bool) → next_in new state letter ≡ length raw.rows
  to_sink state below accepts letter =
      let row = (lead state (omega (arith, count, each))).0 (sym (flag_there state below) ∙ accepts) in
      ap (λ row. value_of arena row letter) (row_there state below ∙ row)

  from_sink : (state : ℕ) → state < length raw.rows → ((letter : List Bool) → length letter ≡ raw.arena.slots → next_in new state letter ≡ length raw.rows) → is_accepting new state ≡ true
  from_sink state below all =
      let within : state < length rows = omega (arith, count) in
      let row : get_or rows state (Leaf 0) ≡ Leaf (length raw.rows) =
      same_ref arena has.arena_is.reduced (get_or rows state (Leaf 0)) (Leaf (length raw.rows)) (has.refs state (Leaf 0) within) tt
      (λ letter width. ap (λ row. value_of arena row letter) (sym (row_there state below)) ∙ all letter (width ∙ has.slots)) in
      flag_there state below ∙ (lead state (omega (arith, count, each))).1 row

  pub of_stuck_words : IsOfStuckWords raw new
  of_stuck_words = record {
    slots = has.slots;
    has = record {
      states = record { start = is.start; steps = λ state letter below width. leads_below raw is state below letter width };
      start = refl;
      steps = steps;
      stays = λ letter width. ap (λ row. value_of arena row letter) last_row;
      flags = λ state below. (λ accepts letter width. to_sink state below accepts letter, λ all. from_sink state below all);
      rejects = get_or_push flags false false (length raw.rows) (each ∙ count);
    };
  }
