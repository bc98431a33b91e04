-- The complement of a stored table is stored as what it stands for.
use Rattle.std.proofs.Common.{◌≡◌, ℕ, ◌<◌, Bool, true, false, List, [], ◌∷◌, length, map, get_or, Some, slice_get, Result, Ok, Err, IfOk, All, refl, ap, sym, subst, ◌∙◌, arith}
use Rattle.std.proofs.lemmas.List.{length-map}
use Rattle.std.proofs.lemmas.List.Elements.{All-head, All-tail, All-map, All-cons}
use Rattle.std.specs.Option.{option_map}
use Rattle.std.proofs.lemmas.Option.{same_Some, slice_get-map, slice_get-get_or}
use Rattle.std.proofs.lemmas.Simd.{map-map}
use Rattle.dcv_word.specs.Behaviour.{Word}
use Rattle.dcv_arena.specs.Arena.{ArenaValue, IsRef}
use Rattle.dcv_arena.specs.Diagram.{node_count}
use Rattle.dcv_arena.specs.declared.nodes.Ref.{Ref}
use Rattle.dcv_language.specs.Table.{TableState, table_accepts}
use Rattle.dcv_language.specs.Canonical.{IsCanonical}
use Rattle.dcv_language.specs.Language.{outside}
use Rattle.dcv_language.specs.Complement.{stands_alone, flipped, complement}
use Rattle.dcv_language.specs.Laws.{ComplementIsCanonical}
use Rattle.dcv_language.proofs.Canonicals.{canonical_for_same_behaviours}
use Rattle.dcv_shelf.specs.Copies.{DependsOnFirst}
use Rattle.dcv_shelf.specs.Shelf.{ShelfTable, nodes_of_table, IsCanonicalTable, IsComplement, HasNumber, HasComplement}
use Rattle.dcv_shelf.specs.Stored.{stored_state, stored_table, IsStored, flipped_state, turned_states, IsTurned}
use Rattle.dcv_shelf.specs.declared.stored.State.{State}
use Rattle.dcv_shelf.specs.declared.stored.Stored.{Stored}

module _ (arena : ArenaValue) (slots : ℕ) where
  abbrev form : State → TableState
  form = stored_state arena slots

  flips : (states : List State) → map form (map flipped_state states) ≡ map flipped (map form states)
  flips states = map-map form flipped_state states ∙ sym (map-map flipped form states)

  turned_table : (access : List Word) (states : List State) → map form (turned_states (stands_alone access) states) ≡ complement access (map form states)
  turned_table access [] = refl
  turned_table [] (start ∷ others) = λ i. flipped (form start) ∷ flips others i
  turned_table ([] ∷ words) (start ∷ others) = λ i. form start ∷ flips others i
  turned_table ((letter ∷ letters) ∷ words) (start ∷ others) = λ i. flipped (form start) ∷ flips others i

  flipped_rows : (states : List State) → map (λ (s : TableState). s.row) (map form (map flipped_state states)) ≡ map (λ (s : TableState). s.row) (map form states)
  flipped_rows [] = refl
  flipped_rows (state ∷ states) = λ i. (form state).row ∷ flipped_rows states i

  same_rows : (alone : Bool) (states : List State) → map (λ (s : TableState). s.row) (map form (turned_states alone states)) ≡ map (λ (s : TableState). s.row) (map form states)
  same_rows alone [] = refl
  same_rows true (start ∷ others) = λ i. (form start).row ∷ flipped_rows others i
  same_rows false (start ∷ others) = λ i. (form start).row ∷ flipped_rows others i

all_turned : (P : Ref → Type 0) (alone : Bool) (states : List State) → All (λ (s : State). P s.row) states → All (λ (s : State). P s.row) (turned_states alone states)
all_turned P alone [] all = all
all_turned P true (start ∷ others) all =
    All-cons (λ (s : State). P s.row) start (map flipped_state others) (All-head (λ (s : State). P s.row) start others all)
    (All-map (λ (s : State). P s.row) flipped_state others (All-tail (λ (s : State). P s.row) start others all))
all_turned P false (start ∷ others) all =
    All-cons (λ (s : State). P s.row) (flipped_state start) (map flipped_state others) (All-head (λ (s : State). P s.row) start others all)
    (All-map (λ (s : State). P s.row) flipped_state others (All-tail (λ (s : State). P s.row) start others all))

turned_count : (alone : Bool) (states : List State) → length (turned_states alone states) ≡ length states
turned_count alone [] = refl
turned_count alone (start ∷ others) = omega (arith, length-map others flipped_state)

module _ (law : ComplementIsCanonical) (arena : ArenaValue) (old new : Stored) (is : IsStored arena old) (turned : IsTurned old new) where
  abbrev access : List Word
  access = is.canonical.access

  shared_new : stored_table arena new ≡ record { slots = old.slots; table = complement access (stored_table arena old).table }
  shared_new =
      (λ i. record { slots = turned.slots i; table = map (stored_state arena (turned.slots i)) (turned.states i) })
      ∙ (λ i. record { slots = old.slots; table = map (stored_state arena old.slots) (turned_states (is.canonical.alone_is i) old.states.items) })
      ∙ (λ i. record { slots = old.slots; table = turned_table arena old.slots access old.states.items i })

  outside_is : IsCanonical old.slots (outside (table_accepts (stored_table arena old).table)) (complement access (stored_table arena old).table) access
  outside_is = law old.slots (table_accepts (stored_table arena old).table) (stored_table arena old).table access is.canonical.canonical

  nodes_same : nodes_of_table (stored_table arena new) ≡ nodes_of_table (stored_table arena old)
  nodes_same =
      (λ i. node_count (turned.slots i) (map (λ (s : TableState). s.row) (map (stored_state arena (turned.slots i)) (turned.states i))))
      ∙ ap (node_count old.slots) (same_rows arena old.slots old.alone old.states.items)

  pub turned_is_stored : IsStored arena new
  turned_is_stored = record {
    slots = omega (arith, turned.slots, is.slots);
    refs = subst (All (λ (s : State). IsRef arena s.row)) (sym turned.states) (all_turned (IsRef arena) old.alone old.states.items is.refs);
    first = subst (λ n. All (λ (s : State). DependsOnFirst arena n s.row) new.states.items) (sym turned.slots)
        (subst (All (λ (s : State). DependsOnFirst arena old.slots s.row)) (sym turned.states) (all_turned (DependsOnFirst arena old.slots) old.alone old.states.items is.first));
    canonical = subst (λ (s : ShelfTable). IsCanonicalTable s new.alone) (sym shared_new) (record {
      access = access;
      canonical = canonical_for_same_behaviours old.slots (outside (table_accepts (stored_table arena old).table)) (table_accepts (complement access (stored_table arena old).table)) (complement access (stored_table arena old).table) access
          (λ word b. sym (outside_is.exact word b)) outside_is;
      alone_is = turned.alone ∙ is.canonical.alone_is;
    });
    nodes = turned.nodes ∙ is.nodes ∙ sym nodes_same;
    states = omega (arith, ap length turned.states, turned_count old.alone old.states.items, is.states);
  }

  pub turned_is_complement : IsComplement (stored_table arena old) (stored_table arena new)
  turned_is_complement = record {
    slots = turned.slots;
    access = access;
    canonical = subst (λ (s : ShelfTable). IsCanonical old.slots (outside (table_accepts (stored_table arena old).table)) s.table access) (sym shared_new) outside_is;
    states =
        omega (arith, length-map new.states.items (stored_state arena new.slots), length-map old.states.items (stored_state arena old.slots), ap length turned.states, turned_count old.alone old.states.items);
    nodes = nodes_same;
  }

-- ---- at a number

module _ (arena : ArenaValue) (keys : List Stored) (tables : List ShelfTable) (same : map (stored_table arena) keys ≡ tables) (number : ℕ) (within : number < length tables)
    (old : Stored) (at : old ≡ get_or keys number old) where
  inside : number < length keys
  inside = omega (arith, within, ap length same, length-map keys (stored_table arena))

  pub stored_there : All (IsStored arena) keys → IsStored arena old
  stored_there each = subst (IsStored arena) (sym at) (each number old inside)

  pub table_there : slice_get tables number ≡ Some (stored_table arena old)
  table_there =
      ap (λ (list : List ShelfTable). slice_get list number) (sym same)
      ∙ slice_get-map (stored_table arena) keys number
      ∙ ap (option_map (stored_table arena)) (slice_get-get_or keys number old inside ∙ ap Some (sym at))

  pub complement_there : (new : Stored) → IsComplement (stored_table arena old) (stored_table arena new) → (one : ShelfTable) → slice_get tables number ≡ Some one
      → (more : List ShelfTable) (place : ℕ) → HasNumber tables (stored_table arena new) more place → HasComplement tables one more place
  complement_there new is one there more place numbered = record {
    turned = stored_table arena new;
    complement = subst (λ (one : ShelfTable). IsComplement one (stored_table arena new)) (same_Some (stored_table arena old) one (sym table_there ∙ there)) is;
    numbered = numbered;
  }

pub each_ok : {A E : Type 0} {P Q : A → Type 0} (result : Result A E) → ((a : A) → P a → Q a) → IfOk result P → IfOk result Q
each_ok (Ok a) goes here = goes a here
each_ok (Err e) goes here = tt
