-- The automaton of the kept states is raw, canonical, and has no more states and nodes than there were.
use Rattle.std.proofs.Common.{◌≡◌, ◌≢◌, ℕ, ◌<◌, ◌≤◌, Bool, true, false, eqb, List, [], ◌∷◌, length, get_or, map, AllPairs, Contains, refl, ap, sym, ◌∙◌, subst, arith}
use Rattle.std.specs.Cmp.{unsigned_Decides}
use Rattle.std.specs.List.{All, list_any}
use Rattle.std.proofs.lemmas.Bool.{eqb-true}
use Rattle.std.proofs.lemmas.List.{length-map, length-set, get_or-map, get_or_default, same_lists}
use Rattle.std.proofs.lemmas.List.Elements.{All-contains, Contains-get_or}
use Rattle.std.proofs.lemmas.List.Folds.{Any-from_list_any}
use Rattle.std.proofs.lemmas.Map.Made.{IsDistinct-from_AllPairs}
use Rattle.std.proofs.lemmas.Map.Steps.{length-le_from_distinct_below}
use Rattle.std.proofs.lemmas.Simd.{map-map}
use Rattle.dcv_word.specs.Behaviour.{Word, IsBehaviour}
use Rattle.dcv_word.specs.Letter.{letters_of_width}
use Rattle.dcv_word.specs.LetterFacts.{length-letter_of, bits_of-letter_of}
use Rattle.dcv_arena.specs.Arena.{value_of, table_of}
use Rattle.dcv_arena.specs.Diagram.{node_count}
use Rattle.dcv_arena.specs.declared.nodes.Ref.{Ref}
use Rattle.dcv_arena.specs.declared.nodes.Ref.TheVariants.{Leaf}
use Rattle.dcv_arena.proofs.Members.{Contains-map, Contains-map_cases}
use Rattle.dcv_arena.proofs.Renumbered.{renumbered_no_more, tables_no_more}
use Rattle.dcv_arena.proofs.Tables.{same_table}
use Rattle.dcv_language.specs.Language.{HaveSameBehaviours}
use Rattle.dcv_language.specs.Table.{Table}
use Rattle.dcv_language.specs.Canonical.{IsCanonical}
use Rattle.dcv_language.specs.Complement.{stands_alone}
use Rattle.dcv_language.proofs.Canonicals.{canonical_for_same_behaviours}
use Rattle.dcv_language.proofs.Foldings.{folding_is_canonical}
use Rattle.dcv_dfa.specs.Raw.{RawValue, IsRaw, LeadsBelow, row_of, is_accepting, next_in, automaton_of, raw_accepts}
use Rattle.dcv_dfa.specs.Auto.{IsAuto, IsAutoWith, table_of_states, count_of_nodes}
use Rattle.dcv_dfa.proofs.States.{table_accepts_as_the_states, leads_below}
use Rattle.dcv_refinement.specs.Members.{block_of}
use Rattle.dcv_minimise.specs.Minimal.{IsMinimalOf}
use Rattle.dcv_minimise.specs.Partition.{IsPartition}
use Rattle.dcv_minimise.specs.Classes.{AreNumbers}
use Rattle.dcv_minimise.specs.Folded.{flags_of, IsFolded}
use Rattle.dcv_minimise.proofs.LeastWords.{word_laws, AreReachedBy}
use Rattle.dcv_minimise.proofs.Numberings.{IsNumbering, IsStart}
use Rattle.dcv_minimise.proofs.Quotients.{is_folding, is_reached, number_of, first_word_some}

-- ---- no more states

-- states of which no two are in one block are no more than there are
pub no_more_states : (blocks kept : List ℕ) (states : ℕ) → ((state : ℕ) → state < states → block_of blocks state < states) → All (λ state. state < states) kept
    → AllPairs (λ first second. block_of blocks first ≢ block_of blocks second) kept → length kept ≤ states
no_more_states blocks kept states numbers inside apart =
    let list = map (block_of blocks) kept in
    let many = length-map kept (block_of blocks) in
    let at : (k d : ℕ) → k < length list → get_or list k d ≡ block_of blocks (get_or kept k 0) = λ k d within. get_or-map (block_of blocks) kept k 0 d (omega (arith, many)) in
    let differ : AllPairs (λ first second. first ≢ second) list = λ i j d less within same.
    apart i j 0 less (omega (arith, many)) (sym (at i d (omega arith)) ∙ same ∙ at j d within) in
    let below : (q : ℕ) → list_any (eqb q) list ≡ true → q < states = λ q found.
    let one = Any-from_list_any (eqb q) list found in
    let is : q ≡ block_of blocks (get_or kept one.0 0) = eqb-true q one.1 one.4 ∙ sym one.3 ∙ at one.0 one.1 one.2 in
    subst (λ n. n < states) (sym is) (numbers (get_or kept one.0 0) (inside one.0 0 (omega (arith, one.2, many)))) in
    omega (arith, many, length-le_from_distinct_below list states (IsDistinct-from_AllPairs unsigned_Decides list differ) below)

-- ---- a raw automaton

length-flags : (raw : RawValue) (kept : List ℕ) (alone : Bool) → length (flags_of raw kept alone) ≡ length kept
length-flags raw kept true = length-set (map (is_accepting raw) kept) 0 false ∙ length-map kept (is_accepting raw)
length-flags raw kept false = length-map kept (is_accepting raw)

module _ (raw : RawValue) (is : IsRaw raw) (blocks : List ℕ) (partition : IsPartition raw blocks) (kept : List ℕ) (some : 0 < length kept) (inside : All (λ state. state < length raw.rows) kept)
    (apart : AllPairs (λ first second. block_of blocks first ≢ block_of blocks second) kept) where
  pub kept_no_more : length kept ≤ length raw.rows
  kept_no_more = no_more_states blocks kept (length raw.rows) partition.numbers inside apart

  module _ (numbers : List ℕ) (are_numbers : AreNumbers blocks kept numbers) (alone : Bool) (new : RawValue) (folded : IsFolded raw kept numbers alone new) where
    new_leads_below : All (LeadsBelow new.arena (length new.rows)) new.rows
    new_leads_below number d within letter size =
        let here : number < length kept = omega (arith, folded.count) in
        let width : length letter ≡ raw.arena.slots = size ∙ folded.rows.slots in
        let next = next_in raw (get_or kept number 0) letter in
        let old : next < length raw.rows = leads_below raw is (get_or kept number 0) (inside number 0 here) letter width in
        let below : get_or numbers next 0 < length kept = are_numbers.below next 0 (omega (arith, old, are_numbers.beside, partition.each)) in
        let value : value_of new.arena (get_or new.rows number d) letter ≡ get_or numbers next 0 =
        ap (λ (row : Ref). value_of new.arena row letter) (get_or_default new.rows number d (Leaf 0) within) ∙ folded.rows.values number letter within width in
        omega (arith, below, value, folded.count)

    pub new_is_raw : IsRaw new
    new_is_raw = record {
      arena = folded.rows.arena_is;
      rows = folded.rows.refs;
      flags = ap length folded.flags ∙ length-flags raw kept alone ∙ sym folded.count;
      start = omega (arith, folded.start, folded.count, some);
      numbers = new_leads_below;
      states = omega (arith, folded.count, kept_no_more, is.states);
    }

    -- ---- no more nodes

    abbrev number : ℕ → ℕ
    number state = get_or numbers state 0

    new_table : (place : ℕ) → place < length kept → table_of new.arena (get_or new.rows place (Leaf 0)) ≡ map number (table_of raw.arena (row_of raw (get_or kept place 0)))
    unfolding table_of
    new_table place within =
        let row = get_or new.rows place (Leaf 0) in
        let old = row_of raw (get_or kept place 0) in
        (λ i. map (value_of new.arena row) (letters_of_width (folded.rows.slots i)))
        ∙ same_table raw.arena.slots (value_of new.arena row) (λ letter. number (value_of raw.arena old letter))
        (λ letter size. folded.rows.values place letter (omega (arith, folded.count)) size)
        ∙ sym (map-map number (value_of raw.arena old) (letters_of_width raw.arena.slots))

    abbrev old_tables : List (List ℕ)
    old_tables = map (table_of raw.arena) (map (row_of raw) kept)

    new_tables : map (table_of new.arena) new.rows ≡ map (map number) old_tables
    new_tables =
        let rows_many = length-map kept (row_of raw) in
        let tables_many = length-map (map (row_of raw) kept) (table_of raw.arena) in
        same_lists (map (table_of new.arena) new.rows) (map (map number) old_tables)
        (omega (arith, length-map new.rows (table_of new.arena), length-map old_tables (map number), rows_many, tables_many, folded.count))
        (λ place d within.
        let here : place < length kept = omega (arith, within, length-map new.rows (table_of new.arena), folded.count) in
        get_or-map (table_of new.arena) new.rows place (Leaf 0) d (omega (arith, folded.count))
        ∙ new_table place here
        ∙ ap (λ row. map number (table_of raw.arena row)) (sym (get_or-map (row_of raw) kept place 0 (Leaf 0) here))
        ∙ ap (map number) (sym (get_or-map (table_of raw.arena) (map (row_of raw) kept) place (Leaf 0) [] (omega (arith, rows_many))))
        ∙ sym (get_or-map (map number) old_tables place [] d (omega (arith, rows_many, tables_many))))

    -- each kept row is a row
    kept_tables : (table : List ℕ) → Contains old_tables table → Contains (map (table_of raw.arena) raw.rows) table
    kept_tables table there =
        let row = Contains-map_cases (table_of raw.arena) (map (row_of raw) kept) table there in
        let state = Contains-map_cases (row_of raw) kept row.0 row.1 in
        let below : state.0 < length raw.rows = All-contains (λ s. s < length raw.rows) kept state.0 inside state.1 in
        subst (Contains (map (table_of raw.arena) raw.rows)) (ap (table_of raw.arena) state.2 ∙ row.2)
        (Contains-map (table_of raw.arena) raw.rows (row_of raw state.0) (Contains-get_or raw.rows state.0 (Leaf 0) below))

    pub nodes_no_more : count_of_nodes new ≤ count_of_nodes raw
    nodes_no_more =
        let same : count_of_nodes new ≡ node_count raw.arena.slots (map (map number) old_tables) = λ i. node_count (folded.rows.slots i) (new_tables i) in
        let first = renumbered_no_more number raw.arena.slots old_tables in
        let second = tables_no_more raw.arena.slots old_tables (map (table_of raw.arena) raw.rows) kept_tables in
        omega (arith, same, first, second)

-- ---- the canonical automaton

-- whether the first word is empty
empty_alone : (access : List Word) → 0 < length access → get_or access 0 [] ≡ [] → true ≡ stands_alone access
empty_alone [] some e = absurd (omega arith)
empty_alone ([] ∷ words) some e = refl
empty_alone ((letter ∷ letters) ∷ words) some e = absurd cc

some_shared : (access : List Word) → 0 < length (get_or access 0 []) → false ≡ stands_alone access
some_shared [] some = absurd (omega arith)
some_shared ([] ∷ words) some = absurd (omega arith)
some_shared ((letter ∷ letters) ∷ words) some = refl

module _ (raw : RawValue) (is : IsRaw raw) (blocks states : List ℕ) (words : List Word) (reached : AreReachedBy raw.arena.slots (automaton_of raw) states words)
    (partition : IsPartition raw blocks) (kept : List ℕ) (access : List Word) (alone : Bool) (numbering : IsNumbering raw blocks states words kept access alone)
    (numbers : List ℕ) (are_numbers : AreNumbers blocks kept numbers) (new : RawValue) (folded : IsFolded raw kept numbers alone new) where
  new_is : IsRaw new
  new_is = new_is_raw raw is blocks partition kept numbering.some numbering.inside numbering.apart numbers are_numbers alone new folded

  abbrev table : Table
  table = table_of_states new

  canonical : IsCanonical raw.arena.slots (raw_accepts raw) table access
  canonical = folding_is_canonical word_laws length-letter_of bits_of-letter_of raw.arena.slots (automaton_of raw)
      (is_reached raw is blocks states words reached partition kept access alone numbering numbers are_numbers new new_is folded)
      (number_of raw is blocks states words reached partition kept access alone numbering numbers are_numbers new new_is folded)
      table access
      (is_folding raw is blocks states words reached partition kept access alone numbering numbers are_numbers new new_is folded)

  accepts : HaveSameBehaviours raw.arena.slots (raw_accepts new) (raw_accepts raw)
  accepts word behaves =
      sym (table_accepts_as_the_states new new_is folded.start word (subst (λ slots. IsBehaviour slots word) (sym folded.rows.slots) behaves))
      ∙ canonical.exact word behaves

  abbrev auto : IsAuto new
  auto = record {
    start = folded.start;
    access = access;
    canonical = subst (λ slots. IsCanonical slots (raw_accepts new) table access) (sym folded.rows.slots)
        (canonical_for_same_behaviours raw.arena.slots (raw_accepts raw) (raw_accepts new) table access (λ word behaves. sym (accepts word behaves)) canonical);
    nodes = folded.rows.nodes;
  }

  alone_by : (alone_is : Bool) → alone_is ≡ alone → IsStart raw blocks kept access alone_is → alone ≡ stands_alone access
  alone_by true e start = sym e ∙ empty_alone access (omega (arith, numbering.beside, numbering.some)) start.word
  alone_by false e start = sym e ∙ some_shared access
      (first_word_some raw is blocks states words reached partition kept access alone numbering numbers are_numbers new new_is folded (sym e))

  pub auto_with : IsAutoWith new alone
  auto_with = record { auto = auto; alone = alone_by alone refl numbering.start }

  pub minimal : IsMinimalOf raw new
  minimal = record {
    slots = folded.rows.slots;
    access = access;
    canonical = canonical;
    accepts = accepts;
    states = omega (arith, folded.count, kept_no_more raw is blocks partition kept numbering.some numbering.inside numbering.apart);
    nodes = nodes_no_more raw is blocks partition kept numbering.some numbering.inside numbering.apart numbers are_numbers alone new folded;
  }
