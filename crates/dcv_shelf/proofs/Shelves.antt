-- One number for one table.
use Rattle.std.proofs.Common.{◌≡◌, ◌≢◌, ℕ, zero, suc, ◌<◌, ◌≤◌, Bool, true, false, if◌then◌else◌, List, [], ◌∷◌, ◌++◌, length, map, get_or, Some, slice_get, ◌⊎◌, inl, inr, Result, Ok, Err, OnErr, refl, sym, ap, subst, ◌∙◌, arith}
use Rattle.std.specs.Bool.{Decides}
use Rattle.std.specs.List.{All, list_any}
use Rattle.std.specs.Option.{option_map}
use Rattle.std.specs.Cmp.{unsigned_Decides, booleans_Decides}
use Rattle.std.specs.Cmp.Lexicographic.{pointwise_decides}
use Rattle.std.proofs.lemmas.Bool.{true≢false}
use Rattle.std.proofs.lemmas.Bool.Decides.{Decides-and}
use Rattle.std.proofs.lemmas.List.{length-map, map-append, get_or_default}
use Rattle.std.proofs.lemmas.List.Elements.{All-head, All-tail, All-push, All-weaker}
use Rattle.std.proofs.lemmas.List.Folds.{list_any-from_Any}
use Rattle.std.proofs.lemmas.Option.{same_Some, slice_get-map, slice_get-get_or, slice_get_within}
use Rattle.indexmap.specs.IndexSet.{insert_key}
use Rattle.dcv_arena.specs.Arena.{ArenaValue, IsArena, IsRef, KeepsRefs}
use Rattle.dcv_arena.specs.Diagram.{as_table}
use Rattle.dcv_shelf.proofs.FirstSlots.{one_by_first}
use Rattle.dcv_arena.proofs.Same.{same_refs}
use Rattle.dcv_language.specs.Table.{TableState, table_accepts}
use Rattle.dcv_language.specs.Complement.{stands_alone}
use Rattle.dcv_language.specs.Laws.{OneCanonicalTable}
use Rattle.dcv_shelf.specs.Copies.{DependsOnFirst}
use Rattle.dcv_shelf.specs.Shelf.{ShelfTable, nodes_of_table, IsCanonicalTable, HaveOneNumberEach, KeepsNumbers}
use Rattle.dcv_shelf.specs.Stored.{stored_state, stored_table, IsStored, IsShelf}
use Rattle.dcv_shelf.specs.declared.stored.State.{State}
use Rattle.dcv_shelf.specs.declared.stored.Stored.{Stored}
use Rattle.dcv_shelf.specs.contracts.stored.StatePartialEq.TheImpl.{eq-value as state_eq}
use Rattle.dcv_shelf.specs.contracts.stored.StoredPartialEq.TheImpl.{eq-value as stored_eq}

-- ---- equal forms, equal tables

same_state : (a b : State) → Decides (state_eq.it a b) (a ≡ b)
same_state a b =
    let parts = Decides-and _ _ (booleans_Decides a.accepting b.accepting) (same_refs a.row b.row) in
    (λ t. let p = parts.0 t in λ i. record { accepting = p.0 i; row = p.1 i }, λ e. parts.1 (ap (λ (s : State). s.accepting) e, ap (λ (s : State). s.row) e))

same_form : (a b : Stored) → Decides (stored_eq.it a b) ((a.slots ≡ b.slots) × ((a.alone ≡ b.alone) × ((a.nodes ≡ b.nodes) × (a.states.items ≡ b.states.items))))
same_form a b =
    let items = pointwise_decides same_state a.states.items b.states.items in
    let nodes = Decides-and _ _ (unsigned_Decides a.nodes b.nodes) items in
    let alone = Decides-and _ _ (booleans_Decides a.alone b.alone) nodes in
    Decides-and _ _ (unsigned_Decides a.slots b.slots) alone

module _ (arena : ArenaValue) where
  form_is_table : (a b : Stored) → stored_eq.it a b ≡ true → stored_table arena a ≡ stored_table arena b
  form_is_table a b t =
      let (slots, (alone, (nodes, items))) = (same_form a b).0 t in
      λ i. record { slots = slots i; table = map (stored_state arena (slots i)) (items i) }

  module _ (is : IsArena arena) where
    same_states : (slots : ℕ) → slots ≤ arena.slots → (xs ys : List State)
        → All (λ (state : State). IsRef arena state.row) xs → All (λ (state : State). DependsOnFirst arena slots state.row) xs
        → All (λ (state : State). IsRef arena state.row) ys → All (λ (state : State). DependsOnFirst arena slots state.row) ys
        → map (stored_state arena slots) xs ≡ map (stored_state arena slots) ys → xs ≡ ys
    same_states slots few [] [] one first other second same = refl
    same_states slots few [] (y ∷ ys) one first other second same = absurd cc
    same_states slots few (x ∷ xs) [] one first other second same = absurd cc
    same_states slots few (x ∷ xs) (y ∷ ys) one first other second same =
        let head : stored_state arena slots x ≡ stored_state arena slots y = cc in
        let tail : map (stored_state arena slots) xs ≡ map (stored_state arena slots) ys = cc in
        let refs : State → Type 0 = λ (state : State). IsRef arena state.row in
        let firsts : State → Type 0 = λ (state : State). DependsOnFirst arena slots state.row in
        let row = one_by_first arena slots x.row y.row is few (All-head refs x xs one) (All-head refs y ys other) (All-head firsts x xs first) (All-head firsts y ys second)
        (ap (λ (state : TableState). state.row) head) in
        let flag = ap (λ (state : TableState). state.accepting) head in
        let rest = same_states slots few xs ys (All-tail refs x xs one) (All-tail firsts x xs first) (All-tail refs y ys other) (All-tail firsts y ys second) tail in
        λ i. record { accepting = flag i; row = row i } ∷ rest i

    table_is_form : OneCanonicalTable → (a b : Stored) → IsStored arena a → IsStored arena b → stored_table arena a ≡ stored_table arena b → stored_eq.it a b ≡ true
    table_is_form law a b one other same =
        let slots = ap (λ (s : ShelfTable). s.slots) same in
        let there = subst (λ (s : ShelfTable). IsCanonicalTable s a.alone) same one.canonical in
        let words = (law b.slots (table_accepts (stored_table arena b).table) (stored_table arena b).table (stored_table arena b).table there.access other.canonical.access there.canonical other.canonical.canonical).1 in
        let alone = there.alone_is ∙ ap stands_alone words ∙ sym other.canonical.alone_is in
        let nodes = one.nodes ∙ ap nodes_of_table same ∙ sym other.nodes in
        let tables : map (stored_state arena b.slots) a.states.items ≡ map (stored_state arena b.slots) b.states.items =
        (λ i. map (stored_state arena (sym slots i)) a.states.items) ∙ ap (λ (s : ShelfTable). s.table) same in
        let items = same_states b.slots other.slots a.states.items b.states.items one.refs
        (subst (λ n. All (λ (state : State). DependsOnFirst arena n state.row) a.states.items) slots one.first) other.refs other.first tables in
        (same_form a b).1 (slots, (alone, (nodes, items)))

-- ---- one table more

in_front : (tables : List ShelfTable) (more : ShelfTable) → KeepsNumbers tables (tables ++ more ∷ [])
in_front [] more number one at = absurd cc
in_front (first ∷ tables) more zero one at = at
in_front (first ∷ tables) more (suc number) one at = in_front tables more number one at

-- what stands in the longer list stood there, or is the one that came
where_it_is : (tables : List ShelfTable) (more : ShelfTable) (number : ℕ) (one : ShelfTable) → slice_get (tables ++ more ∷ []) number ≡ Some one
    → (slice_get tables number ≡ Some one) ⊎ ((number ≡ length tables) × (more ≡ one))
where_it_is [] more zero one at = inr (refl, same_Some more one at)
where_it_is [] more (suc number) one at = absurd cc
where_it_is (first ∷ tables) more zero one at = inl at
where_it_is (first ∷ tables) more (suc number) one at = elim (where_it_is tables more number one at) [
  | inl before ↦ inl before
  | inr last ↦ inr (ap suc last.0, last.1)
]

once_more : (tables : List ShelfTable) (more : ShelfTable) → HaveOneNumberEach tables → ((number : ℕ) → slice_get tables number ≢ Some more) → HaveOneNumberEach (tables ++ more ∷ [])
once_more tables more once fresh first second one at also =
    elim (where_it_is tables more first one at) [
      | inl before ↦ elim (where_it_is tables more second one also) [
        | inl other ↦ once first second one before other
        | inr last ↦ absurd (fresh first (before ∙ ap Some (sym last.1)))
      ]
      | inr last ↦ elim (where_it_is tables more second one also) [
        | inl other ↦ absurd (fresh second (other ∙ ap Some (sym last.1)))
        | inr other ↦ last.0 ∙ sym other.0
      ]
    ]

pub record IsPut (arena : ArenaValue) (keys : List Stored) (value : Stored) (new : List Stored) : Type 0 where
  pub each : All (IsStored arena) new
  pub once : HaveOneNumberEach (map (stored_table arena) new)
  pub kept : KeepsNumbers (map (stored_table arena) keys) (map (stored_table arena) new)
  pub no_other : (map (stored_table arena) new ≡ map (stored_table arena) keys) ⊎ (map (stored_table arena) new ≡ map (stored_table arena) keys ++ stored_table arena value ∷ [])

module _ (law : OneCanonicalTable) (arena : ArenaValue) (is : IsArena arena) (keys : List Stored) (all : All (IsStored arena) keys)
    (once : HaveOneNumberEach (map (stored_table arena) keys)) (value : Stored) (right : IsStored arena value) where
  fresh : list_any (stored_eq.it value) keys ≡ false → (number : ℕ) → slice_get (map (stored_table arena) keys) number ≢ Some (stored_table arena value)
  fresh none number at =
      let within = slice_get_within (map (stored_table arena) keys) number (stored_table arena value) at in
      let inside : number < length keys = omega (arith, within, length-map keys (stored_table arena)) in
      let key = get_or keys number value in
      let there = slice_get-map (stored_table arena) keys number ∙ ap (option_map (stored_table arena)) (slice_get-get_or keys number value inside) in
      let same = same_Some (stored_table arena value) (stored_table arena key) (sym at ∙ there) in
      let alike = table_is_form arena is law value key right (all number value inside) same in
      true≢false (sym (list_any-from_Any (stored_eq.it value) keys (number, key, inside, get_or_default keys number key value inside, alike)) ∙ none)

  by : (found : Bool) → list_any (stored_eq.it value) keys ≡ found → IsPut arena keys value (if found then keys else keys ++ value ∷ [])
  by true there = record { each = all; once = once; kept = λ number one at. at; no_other = inl refl }
  by false none =
      let pushed = map-append (stored_table arena) keys (value ∷ []) in
      record {
        each = All-push (IsStored arena) keys value all right;
        once = subst HaveOneNumberEach (sym pushed) (once_more (map (stored_table arena) keys) (stored_table arena value) once (fresh none));
        kept = subst (KeepsNumbers (map (stored_table arena) keys)) (sym pushed) (in_front (map (stored_table arena) keys) (stored_table arena value));
        no_other = inr pushed;
      }

  pub is_put : (new : List Stored) → new ≡ insert_key stored_eq.it keys value → IsPut arena keys value new
  is_put new same = subst (IsPut arena keys value) (sym same) (by (list_any (stored_eq.it value) keys) refl)

pub at_its_number : (arena : ArenaValue) (new : List Stored) (value : Stored) (place : ℕ) → (k : Stored) × (slice_get new place ≡ Some k) × (stored_eq.it value k ≡ true)
    → slice_get (map (stored_table arena) new) place ≡ Some (stored_table arena value)
at_its_number arena new value place found =
    slice_get-map (stored_table arena) new place ∙ ap (option_map (stored_table arena)) found.1 ∙ ap Some (sym (form_is_table arena value found.0 found.2))

-- ---- an arena that grows

module _ (old new : ArenaValue) (kept : KeepsRefs old new) where
  table_kept : (stored : Stored) → IsStored old stored → stored_table new stored ≡ stored_table old stored
  table_kept stored is = λ i. record { slots = stored.slots; table = states_kept stored.states.items is.refs i }
    where
      states_kept : (states : List State) → All (λ (state : State). IsRef old state.row) states → map (stored_state new stored.slots) states ≡ map (stored_state old stored.slots) states
      states_kept [] all = refl
      states_kept (state ∷ states) all =
          let refs : State → Type 0 = λ (state : State). IsRef old state.row in
          let one = All-head refs state states all in
          let rest = states_kept states (All-tail refs state states all) in
          λ i. record { accepting = state.accepting; row = as_table stored.slots (λ letter. kept.values state.row letter one i) } ∷ rest i

  stored_kept : (stored : Stored) → IsStored old stored → IsStored new stored
  stored_kept stored is =
      let same = table_kept stored is in
      record {
        slots = omega (arith, is.slots, kept.slots);
        refs = All-weaker (λ (state : State). IsRef old state.row) (λ (state : State). IsRef new state.row) (λ (state : State) one. kept.refs state.row one) stored.states.items is.refs;
        first = λ i d below first second alike.
            let row = (get_or stored.states.items i d).row in
            kept.values row first (is.refs i d below) ∙ is.first i d below first second alike ∙ sym (kept.values row second (is.refs i d below));
        canonical = subst (λ (s : ShelfTable). IsCanonicalTable s stored.alone) (sym same) is.canonical;
        nodes = is.nodes ∙ ap nodes_of_table (sym same);
        states = is.states;
      }

  pub all_kept : (keys : List Stored) → All (IsStored old) keys → All (IsStored new) keys
  all_kept keys each = All-weaker (IsStored old) (IsStored new) stored_kept keys each

  pub tables_kept : (keys : List Stored) → All (IsStored old) keys → map (stored_table new) keys ≡ map (stored_table old) keys
  tables_kept [] each = refl
  tables_kept (key ∷ keys) each =
      let first = table_kept key (All-head (IsStored old) key keys each) in
      let rest = tables_kept keys (All-tail (IsStored old) key keys each) in
      λ i. first i ∷ rest i

  pub shelf_kept : (keys : List Stored) → IsShelf old keys → IsShelf new keys
  shelf_kept keys is = record {
    limit = kept.limit ∙ is.limit;
    each = all_kept keys is.each;
    once = subst HaveOneNumberEach (sym (tables_kept keys is.each)) is.once;
  }

-- ---- refusals

pub at_err : {A E P : Type 0} (result : Result A E) → P → OnErr result P
at_err (Ok a) here = tt
at_err (Err e) here = here

pub each_err : {A E P Q : Type 0} (result : Result A E) → (P → Q) → OnErr result P → OnErr result Q
each_err (Ok a) goes here = tt
each_err (Err e) goes here = goes here
