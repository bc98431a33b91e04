-- An automaton with the rows and flags of a stored table has its table, and is canonical.
use Rattle.std.proofs.Common.{◌≡◌, ℕ, ◌<◌, Bool, false, List, length, map, get_or, refl, ap, sym, ◌∙◌, subst, arith}
use Rattle.std.proofs.lemmas.List.{length-map, get_or-map, get_or_default, ext_get_or}
use Rattle.dcv_arena.specs.Arena.{ArenaValue, value_of, table_of}
use Rattle.dcv_arena.specs.Diagram.{as_table}
use Rattle.dcv_arena.specs.declared.nodes.Ref.{Ref}
use Rattle.dcv_arena.specs.declared.nodes.Ref.TheVariants.{Leaf}
use Rattle.dcv_arena.proofs.Tables.{same_table}
use Rattle.dcv_language.specs.Canonical.{IsCanonical}
use Rattle.dcv_language.specs.Language.{HaveSameBehaviours}
use Rattle.dcv_language.specs.Table.{Table, no_state as no_table_state, table_accepts}
use Rattle.dcv_language.proofs.Canonicals.{canonical_for_same_behaviours}
use Rattle.dcv_dfa.specs.Raw.{RawValue, raw_value, IsRaw, raw_accepts}
use Rattle.dcv_dfa.specs.Auto.{IsAutoWith, state_of, table_of_states}
use Rattle.dcv_dfa.proofs.States.{table_has_the_states, state-at, table_accepts_as_the_states}
use Rattle.dcv_shelf.specs.Shelf.{ShelfTable, table_of_auto}
use Rattle.dcv_shelf.specs.Stored.{row_at, stored_state, stored_table, IsStored, HasRows}
use Rattle.dcv_shelf.specs.declared.stored.State.{State}
use Rattle.dcv_shelf.specs.declared.stored.Stored.{Stored}
use Rattle.dcv_shelf.proofs.CopiedRows.{no_state, leads_below}

module _ (from : ArenaValue) (stored : Stored) (is : IsStored from stored) (arena : ArenaValue) (rows : List Ref) (has : HasRows from stored arena rows)
    (count : length rows ≡ length stored.states.items) where
  abbrev states : List State
  states = stored.states.items

  abbrev flags : List Bool
  flags = map (λ (state : State). state.accepting) states

  abbrev new : RawValue
  new = raw_value arena rows flags 0

  abbrev one : Table
  one = (stored_table from stored).table

  size : length one ≡ length states
  size = length-map states (stored_state from stored.slots)

  -- ---- the table

  row_same : (place : ℕ) → place < length rows → table_of arena (get_or rows place (Leaf 0)) ≡ as_table stored.slots (value_of from (row_at stored place))
  unfolding table_of
  row_same place within =
      (λ i. as_table (has.slots i) (value_of arena (get_or rows place (Leaf 0))))
      ∙ same_table stored.slots (value_of arena (get_or rows place (Leaf 0))) (value_of from (row_at stored place)) (λ letter wide. has.values place letter within wide)

  state_same : (place : ℕ) → place < length rows → state_of new place ≡ stored_state from stored.slots (get_or states place no_state)
  state_same place within =
      let flag = get_or-map (λ (state : State). state.accepting) states place no_state false (omega (arith, within, count)) in
      λ i. record { accepting = flag i; row = row_same place within i }

  same_states : table_of_states new ≡ one
  same_states =
      let many = table_has_the_states new in
      ext_get_or no_table_state (table_of_states new) one (omega (arith, many, count, size)) (λ place within.
      let below : place < length rows = omega (arith, within, many) in
      state-at new place no_table_state below
      ∙ state_same place below
      ∙ sym (get_or-map (stored_state from stored.slots) states place no_state no_table_state (omega (arith, below, count))))

  same_shelf_table : table_of_auto new ≡ stored_table from stored
  same_shelf_table = λ i. record { slots = has.slots i; table = same_states i }

  -- ---- the automaton

  raw_is : IsRaw new
  raw_is = record {
    arena = has.arena_is;
    rows = has.refs;
    flags = length-map states (λ (state : State). state.accepting) ∙ sym count;
    start = omega (arith, is.canonical.canonical.states.nonempty, size, count);
    numbers = λ place d within letter wide.
        let leads = leads_below from stored is place letter (omega (arith, within, count)) (wide ∙ has.slots) in
        let value = has.values place letter within (wide ∙ has.slots) in
        let same = get_or_default rows place d (Leaf 0) within in
        omega (arith, leads, value, ap (λ r. value_of arena r letter) same, count);
    states = omega (arith, is.states, count);
  }

  auto_is : IsAutoWith new stored.alone
  auto_is = record {
    auto = record {
      start = refl;
      access = is.canonical.access;
      canonical = subst (λ (t : ShelfTable). IsCanonical t.slots (raw_accepts new) t.table is.canonical.access) (sym same_shelf_table)
          (canonical_for_same_behaviours stored.slots (table_accepts one) (raw_accepts new) one is.canonical.access
          (subst (λ (t : ShelfTable). HaveSameBehaviours t.slots (table_accepts t.table) (raw_accepts new)) same_shelf_table (table_accepts_as_the_states new raw_is refl))
          is.canonical.canonical);
      nodes = has.nodes;
    };
    alone = is.canonical.alone_is;
  }

-- what leaves is an automaton, and has the table
pub record IsDeparted (from : ArenaValue) (stored : Stored) (new : RawValue) : Type 0 where
  pub raw : IsRaw new
  pub canonical : IsAutoWith new stored.alone
  pub table : table_of_auto new ≡ stored_table from stored

pub departed : (from : ArenaValue) (stored : Stored) → IsStored from stored → (arena : ArenaValue) (rows : List Ref) → HasRows from stored arena rows → length rows ≡ length stored.states.items
    → (accepting : List Bool) (given : List State) → given ≡ stored.states.items → accepting ≡ map (λ (state : State). state.accepting) given
    → IsDeparted from stored (raw_value arena rows accepting 0)
departed from stored is arena rows has count accepting given same are =
    subst (λ (list : List Bool). IsDeparted from stored (raw_value arena rows list 0)) (sym (are ∙ ap (map (λ (state : State). state.accepting)) same))
    (record {
      raw = raw_is from stored is arena rows has count;
      canonical = auto_is from stored is arena rows has count;
      table = same_shelf_table from stored is arena rows has count;
    })
