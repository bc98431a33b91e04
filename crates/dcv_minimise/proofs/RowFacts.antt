-- Rows with new numbers, one after another; and that two are one ref exactly where the functions are one.
use Rattle.std.proofs.Common.{◌≡◌, ℕ, suc, ◌<◌, ◌≤◌, Bool, List, [], ◌∷◌, ◌++◌, length, get_or, drop, ◌⊎◌, inl, inr, ap, sym, ◌∙◌, subst, arith}
use Rattle.std.proofs.lemmas.Bool.{cases_lt}
use Rattle.std.proofs.lemmas.List.{length_push, get_or_append_left, get_or_push}
use Rattle.std.specs.List.{All}
use Rattle.std.proofs.lemmas.List.Elements.{All-nil, All-push, All-weaker}
use Rattle.dcv_arena.specs.Arena.{ArenaValue, IsArena, IsRef, value_of, KeepsRefs, AddsOnlyNodesOf}
use Rattle.dcv_arena.specs.declared.nodes.Ref.{Ref}
use Rattle.dcv_arena.specs.declared.nodes.Ref.TheVariants.{Leaf}
use Rattle.dcv_arena.proofs.Roots.{no_nodes, one_more}
use Rattle.dcv_renumber.specs.Renumbered.{renumbered}
use Rattle.dcv_dfa.specs.Raw.{RawValue, IsRaw, row_of, next_in}
use Rattle.dcv_dfa.proofs.States.{leads_below}
use Rattle.dcv_minimise.specs.Folded.{HasRows}

module _ (raw : RawValue) (states numbers : List ℕ) where
  pub no_rows : (arena : ArenaValue) (rows : List Ref) → IsArena arena → arena.slots ≡ raw.arena.slots → arena.nodes ≡ [] → rows ≡ [] → HasRows raw states numbers arena rows
  no_rows arena rows is slots none are = subst (HasRows raw states numbers arena) (sym are) (record {
    arena_is = is;
    slots = slots;
    refs = All-nil (IsRef arena);
    values = λ place letter within size. absurd (omega arith);
    nodes = no_nodes arena none;
  })

  module _ (before after : ArenaValue) (rows : List Ref) (row : Ref) (has : HasRows raw states numbers before rows) (is : IsArena after) (kept : KeepsRefs before after) (is_ref : IsRef after row)
      (value : (letter : List Bool) → length letter ≡ before.slots
      → value_of after row letter ≡ get_or numbers (next_in raw (get_or states (length rows) 0) letter) 0) where
    value_at : (place : ℕ) (letter : List Bool) → length letter ≡ raw.arena.slots → (place < length rows) ⊎ (length rows ≤ place) → place < length (rows ++ row ∷ [])
        → value_of after (get_or (rows ++ row ∷ []) place (Leaf 0)) letter ≡ get_or numbers (next_in raw (get_or states place 0) letter) 0
    value_at place letter size (inl earlier) within =
        ap (λ r. value_of after r letter) (get_or_append_left rows (row ∷ []) (Leaf 0) place earlier)
        ∙ kept.values (get_or rows place (Leaf 0)) letter (has.refs place (Leaf 0) earlier) ∙ has.values place letter earlier size
    value_at place letter size (inr last) within =
        let here : length rows ≡ place = omega (arith, length_push rows row) in
        ap (λ r. value_of after r letter) (get_or_push rows row (Leaf 0) place here)
        ∙ value letter (size ∙ sym has.slots) ∙ ap (λ p. get_or numbers (next_in raw (get_or states p 0) letter) 0) here

    pub more_rows : AddsOnlyNodesOf before after row → HasRows raw states numbers after (rows ++ row ∷ [])
    more_rows adds = record {
      arena_is = is;
      slots = kept.slots ∙ has.slots;
      refs = All-push (IsRef after) rows row (All-weaker (IsRef before) (IsRef after) (λ ref one. kept.refs ref one) rows has.refs) is_ref;
      values = λ place letter within size. value_at place letter size (cases_lt place (length rows)) within;
      nodes = one_more before after rows row kept has.refs has.nodes adds;
    }

-- a row that was renumbered, in the words of the one who did it
pub value_by : (raw : RawValue) (states numbers given_numbers : List ℕ) (from after : ArenaValue) (place state : ℕ) (root row : Ref) → given_numbers ≡ numbers → from ≡ raw.arena
    → get_or states place 0 ≡ state → row_of raw state ≡ root → (slots : ℕ)
    → ((letter : List Bool) → length letter ≡ slots → value_of after row letter ≡ renumbered given_numbers from root letter)
    → (letter : List Bool) → length letter ≡ slots → value_of after row letter ≡ get_or numbers (next_in raw (get_or states place 0) letter) 0
value_by raw states numbers given_numbers from after place state root row is_numbers is_from is_state is_root slots value letter size =
    value letter size
    ∙ (λ i. renumbered (is_numbers i) (is_from i) root letter)
    ∙ ap (λ r. renumbered numbers raw.arena r letter) (sym is_root)
    ∙ ap (λ s. renumbered numbers raw.arena (row_of raw s) letter) (sym is_state)

-- a row leads to numbers that are in the list
pub leads_inside : (raw : RawValue) (is : IsRaw raw) (numbers given_numbers : List ℕ) (from : ArenaValue) (state : ℕ) (root : Ref) → given_numbers ≡ numbers → from ≡ raw.arena
    → row_of raw state ≡ root → state < length raw.rows → length numbers ≡ length raw.rows → (slots : ℕ) → slots ≡ raw.arena.slots
    → (letter : List Bool) → length letter ≡ slots → value_of from root letter < length given_numbers
leads_inside raw is numbers given_numbers from state root is_numbers is_from is_root below many slots is_slots letter size =
    let leads : value_of raw.arena (row_of raw state) letter < length raw.rows = leads_below raw is state below letter (size ∙ is_slots) in
    let value : value_of from root letter ≡ value_of raw.arena (row_of raw state) letter = (λ i. value_of (is_from i) (sym is_root i) letter) in
    omega (arith, leads, value, many, ap length is_numbers)

-- ---- the states after the start

pub behind : (P : ℕ → Type 0) (states : List ℕ) → All P states → All P (drop 1 states)
behind P [] all = all
behind P (start ∷ firsts) all = λ place d within. all (suc place) d (omega (arith, within))
