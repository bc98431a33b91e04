-- A canonical table has a canonical automaton, whose rows are diagrams in one arena.
--     rows_of table                  its rows, without the flags
--     IsAutomatonOf k L table raw    the automaton is one, over so many slots, with as many states and nodes as the table, and accepts the set
--     some_automaton                 so there is one, where the numbers of states and of nodes fit
use Rattle.std.proofs.Common.{◌≡◌, ℕ, ◌^◌, ◌<◌, ◌≤◌, false, List, [], length, map, get_or, All, refl, sym, ap, ◌∙◌, subst, arith}
use Rattle.std.proofs.lemmas.List.{length-map, get_or-map, get_or_default, same_lists}
use Rattle.std.proofs.lemmas.List.Elements.{All-map}
use Rattle.std.proofs.lemmas.Option.{get_or_from_slice_get, slice_get_within}
use Rattle.dcv_word.specs.Behaviour.{Word}
use Rattle.dcv_word.specs.Letter.{bits_of}
use Rattle.dcv_arena.specs.Arena.{ArenaValue, value_of, table_of}
use Rattle.dcv_arena.specs.Diagram.{node_count}
use Rattle.dcv_arena.specs.declared.nodes.Ref.{Ref}
use Rattle.dcv_arena.specs.declared.nodes.Ref.TheVariants.{Leaf}
use Rattle.dcv_arena.proofs.Tables.{table_of-at}
use Rattle.dcv_language.specs.Language.{Language, HaveSameBehaviours}
use Rattle.dcv_language.specs.Canonical.{IsCanonical}
use Rattle.dcv_language.specs.Table.{TableState, Table, IsTable, no_state, table_accepts}
use Rattle.dcv_language.proofs.Canonicals.{canonical_for_same_behaviours}
use Rattle.dcv_dfa.specs.Raw.{RawValue, raw_value, IsRaw, LeadsBelow, raw_accepts}
use Rattle.dcv_dfa.specs.Auto.{IsAuto, state_of, table_of_states, count_of_nodes}
use Rattle.dcv_dfa.proofs.States.{table_has_the_states, state-at, table_accepts_as_the_states}
use Rattle.dcv_quotient.specs.Diagrams.{AreDiagramsOf}
use Rattle.dcv_quotient.proofs.SomeDiagrams.{some_diagrams}

-- the rows, without the flags
abbrev pub rows_of : Table → List (List ℕ)
rows_of table = map (λ (state : TableState). state.row) table

-- a ref of which the table has only numbers below the bound leads below it
leads_below_from : (arena : ArenaValue) (ref : Ref) (bound : ℕ) → All (λ number. number < bound) (table_of arena ref) → LeadsBelow arena bound ref
leads_below_from arena ref bound below letter size =
    let there = table_of-at arena ref letter size in
    let within = slice_get_within (table_of arena ref) (bits_of letter) (value_of arena ref letter) there in
    subst (λ number. number < bound) (get_or_from_slice_get (table_of arena ref) (bits_of letter) (value_of arena ref letter) 0 there) (below (bits_of letter) 0 within)

module _ (k : ℕ) (table : Table) (arena : ArenaValue) (refs : List Ref) (drawn : AreDiagramsOf k (rows_of table) arena refs) where
  abbrev raw : RawValue
  raw = raw_value arena refs (map (λ (state : TableState). state.accepting) table) 0

  count_of_refs : length refs ≡ length table
  count_of_refs = sym (length-map refs (table_of arena)) ∙ ap length drawn.mean ∙ length-map table (λ (state : TableState). state.row)

  row_at : (state : ℕ) (d : Ref) → state < length table → table_of arena (get_or refs state d) ≡ (get_or table state no_state).row
  row_at state d within =
      sym (get_or-map (table_of arena) refs state d [] (omega (arith, count_of_refs)))
      ∙ ap (λ rows. get_or rows state []) drawn.mean
      ∙ get_or-map (λ (state : TableState). state.row) table state no_state [] within

  same_state : (state : ℕ) (d : TableState) → state < length table → state_of raw state ≡ get_or table state d
  same_state state d within =
      let flag : get_or raw.accepting state false ≡ (get_or table state no_state).accepting =
      get_or-map (λ (state : TableState). state.accepting) table state no_state false within in
      let row = row_at state (Leaf 0) within in
      let known : state_of raw state ≡ get_or table state no_state = λ i. record { accepting = flag i; row = row i } in
      known ∙ get_or_default table state no_state d within

  same_table : table_of_states raw ≡ table
  same_table =
      let count = table_has_the_states raw in
      same_lists (table_of_states raw) table (count ∙ count_of_refs) (λ state d within.
      state-at raw state d (omega (arith, count)) ∙ same_state state d (omega (arith, count, count_of_refs)))

  module _ (is : IsTable k table) (few : length table < 2 ^ 32) where
    is_raw : IsRaw raw
    is_raw = record {
      arena = drawn.is;
      rows = drawn.ones;
      flags = length-map table (λ (state : TableState). state.accepting) ∙ sym count_of_refs;
      start = omega (arith, count_of_refs, is.nonempty);
      numbers = λ state d within.
          let inside : state < length table = omega (arith, count_of_refs) in
          leads_below_from arena (get_or refs state d) (length refs)
          (subst (λ bound. All (λ number. number < bound) (table_of arena (get_or refs state d))) (sym count_of_refs)
          (subst (All (λ number. number < length table)) (sym (row_at state d inside)) (is.numbers state no_state inside)));
      states = omega (arith, count_of_refs);
    }

pub record IsAutomatonOf (k : ℕ) (L : Language) (table : Table) (raw : RawValue) : Type 0 where
  pub same_slots : raw.arena.slots ≡ k
  pub is : IsRaw raw
  pub auto : IsAuto raw
  pub exact : HaveSameBehaviours k (raw_accepts raw) L
  pub count : length raw.rows ≡ length table
  pub nodes : count_of_nodes raw ≡ node_count k (rows_of table)

pub some_automaton : (k : ℕ) (L : Language) (table : Table) (access : List Word) → k ≤ 32 → IsCanonical k L table access
    → length table < 2 ^ 32 → node_count k (rows_of table) < 2 ^ 32
    → (raw : RawValue) × IsAutomatonOf k L table raw
some_automaton k L table access narrow canonical few fewer =
    let sizes = All-map (λ row. length row ≡ 2 ^ k) (λ (state : TableState). state.row) table canonical.states.rows in
    let (arena, refs, drawn) = some_diagrams k (rows_of table) narrow sizes fewer in
    (raw k table arena refs drawn, of_drawn arena refs drawn)
  where
    of_drawn : (arena : ArenaValue) (refs : List Ref) (drawn : AreDiagramsOf k (rows_of table) arena refs) → IsAutomatonOf k L table (raw k table arena refs drawn)
    of_drawn arena refs drawn =
        let made = raw k table arena refs drawn in
        let is = is_raw k table arena refs drawn canonical.states few in
        let same = same_table k table arena refs drawn in
        let slots = drawn.same_slots in
        let by_table : HaveSameBehaviours k (table_accepts table) (raw_accepts made) =
        subst (λ slots. HaveSameBehaviours slots (table_accepts table) (raw_accepts made)) slots
        (subst (λ table. HaveSameBehaviours arena.slots (table_accepts table) (raw_accepts made)) same (table_accepts_as_the_states made is refl)) in
        let exact : HaveSameBehaviours k (raw_accepts made) L = λ word b. sym (by_table word b) ∙ canonical.exact word b in
        let known : IsCanonical k (raw_accepts made) table access =
        canonical_for_same_behaviours k L (raw_accepts made) table access (λ word b. sym (exact word b)) canonical in
        record {
          same_slots = slots;
          is = is;
          auto = record {
            start = refl;
            access = access;
            canonical = subst (λ slots. IsCanonical slots (raw_accepts made) (table_of_states made) access) (sym slots)
                (subst (λ table. IsCanonical k (raw_accepts made) table access) (sym same) known);
            nodes = drawn.only;
          };
          exact = exact;
          count = count_of_refs k table arena refs drawn;
          nodes = λ i. node_count (slots i) (drawn.mean i);
        }
