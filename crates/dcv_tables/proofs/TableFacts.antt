-- The table of an automaton that was made of written states has these states.
use Rattle.std.proofs.Common.{◌≡◌, ℕ, ◌+◌, ◌<◌, false, List, [], ◌∷◌, ◌++◌, length, map, take, get_or, refl, sym, ap, ◌∙◌, arith}
use Rattle.std.specs.List.{All, range_with_len}
use Rattle.std.proofs.lemmas.List.{length-map, map-append, get_or-map, same_lists, take_more}
use Rattle.std.proofs.lemmas.List.Elements.{All-head, All-tail}
use Rattle.std.proofs.lemmas.List.FromFn.{map-range_with_len_more}
use Rattle.std.proofs.lemmas.Simd.{map-map}
use Rattle.dcv_arena.specs.Arena.{ArenaValue, table_of, KeepsRefs}
use Rattle.dcv_arena.specs.declared.nodes.Ref.{Ref}
use Rattle.dcv_arena.specs.declared.nodes.Ref.TheVariants.{Leaf}
use Rattle.dcv_language.specs.Table.{TableState}
use Rattle.dcv_dfa.specs.Raw.{RawValue}
use Rattle.dcv_dfa.specs.Auto.{table_of_states}
use Rattle.dcv_dfa.proofs.States.{table_has_the_states, state-at}
use Rattle.dcv_tables.specs.Below.{IsBelow}
use Rattle.dcv_tables.specs.Tables.{table_state}
use Rattle.dcv_tables.specs.declared.states.State.{State}

-- an arena that grows keeps the numbers of rows
kept_tables : (old new : ArenaValue) (bound : ℕ) (rows : List Ref) → KeepsRefs old new → All (IsBelow old bound 0) rows → map (table_of new) rows ≡ map (table_of old) rows
kept_tables old new bound [] kept each = refl
kept_tables old new bound (row ∷ rows) kept each =
    let first = kept.tables row (All-head (IsBelow old bound 0) row rows each).is_ref in
    let others = kept_tables old new bound rows kept (All-tail (IsBelow old bound 0) row rows each) in
    λ i. first i ∷ others i

-- and one row more has its own after them
pub one_table_more : (old new : ArenaValue) (bound : ℕ) (rows more : List Ref) (row : Ref) (tables : List (List ℕ)) (numbers : List ℕ) → KeepsRefs old new
    → All (IsBelow old bound 0) rows → map (table_of old) rows ≡ tables → table_of new row ≡ numbers → more ≡ rows ++ row ∷ []
    → map (table_of new) more ≡ tables ++ numbers ∷ []
one_table_more old new bound rows more row tables numbers kept each before last pushed =
    ap (map (table_of new)) pushed
    ∙ map-append (table_of new) rows (row ∷ [])
    ∙ (λ i. (kept_tables old new bound rows kept each ∙ before) i ++ last i ∷ [])

-- what is true of each element before a place and of the one there, in order, is what is true up to after it
pub one_element_more : {X Y : Type 0} (f : X → Y) (xs : List X) (k : ℕ) (x : X) → k < length xs → x ≡ get_or xs k x → map f (take (k + 1) xs) ≡ map f (take k xs) ++ f x ∷ []
one_element_more f xs k x within is =
    ap (map f) (take_more xs k x within ∙ ap (λ last. take k xs ++ last ∷ []) (sym is)) ∙ map-append f (take k xs) (x ∷ [])

pub states_are_written : (raw : RawValue) (states : List State) → map (table_of raw.arena) raw.rows ≡ map (λ (state : State). state.row.items) states
    → raw.accepting ≡ map (λ (state : State). state.accepts) states → table_of_states raw ≡ map table_state states
states_are_written raw states rows flags =
    let written = map table_state states in
    let count : length raw.rows ≡ length states = sym (length-map raw.rows (table_of raw.arena)) ∙ ap length rows ∙ length-map states (λ (state : State). state.row.items) in
    let size = table_has_the_states raw in
    let size_written = length-map states table_state in
    same_lists (table_of_states raw) written (omega (arith, size, size_written, count)) (λ k d within.
    let inside : k < length raw.rows = omega (arith, within, size) in
    let there : k < length written = omega (arith, inside, count, size_written) in
    let flag = ap (λ flags. get_or flags k false) (flags ∙ sym (map-map (λ (state : TableState). state.accepting) table_state states))
    ∙ get_or-map (λ (state : TableState). state.accepting) written k d false there in
    let row = sym (get_or-map (table_of raw.arena) raw.rows k (Leaf 0) d.row inside)
    ∙ ap (λ rows. get_or rows k d.row) (rows ∙ sym (map-map (λ (state : TableState). state.row) table_state states))
    ∙ get_or-map (λ (state : TableState). state.row) written k d d.row there in
    state-at raw k d inside ∙ (λ i. record { accepting = flag i; row = row i }))

-- one written state more is the next number's
pub one_state_more : (f : ℕ → TableState) (states more : List State) (state : State) (number : ℕ) → map table_state states ≡ map f (range_with_len 0 number)
    → table_state state ≡ f number → more ≡ states ++ state ∷ [] → map table_state more ≡ map f (range_with_len 0 (number + 1))
one_state_more f states more state number before is pushed =
    ap (map table_state) pushed
    ∙ map-append table_state states (state ∷ [])
    ∙ (λ i. before i ++ is i ∷ [])
    ∙ sym (map-range_with_len_more f 0 number number (omega arith))
