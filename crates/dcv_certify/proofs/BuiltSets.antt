-- The automaton that is made of a file accepts what the table of the file accepts.
use Rattle.std.proofs.Common.{◌≡◌, ℕ, suc, ◌<◌, Bool, false, List, [], ◌∷◌, length, map, get_or, All, refl, ap, sym, ◌∙◌, subst, arith}
use Rattle.std.specs.List.{enumerate_from}
use Rattle.std.proofs.lemmas.List.{length-map, get_or-map}
use Rattle.std.proofs.lemmas.List.FromFn.{length-enumerate_from}
use Rattle.dcv_word.specs.Behaviour.{Word}
use Rattle.dcv_word.specs.Laws.{LetterStandsAtItsBits}
use Rattle.dcv_arena.specs.Arena.{ArenaValue, IsRef}
use Rattle.dcv_arena.specs.declared.nodes.Ref.{Ref}
use Rattle.dcv_arena.specs.declared.nodes.Ref.TheVariants.{Leaf}
use Rattle.dcv_language.specs.Automaton.{state_from}
use Rattle.dcv_language.specs.Language.{HaveSameBehaviours}
use Rattle.dcv_language.specs.Table.{TableState, IsTable, automaton_of, is_accepting, next_in}
use Rattle.dcv_language.proofs.Bounds.{next-below}
use Rattle.dcv_dfa.specs.Raw.{RawValue, raw_value, IsRaw, raw_accepts, automaton_of as raw_automaton, next_in as raw_next, is_accepting as raw_accepting}
use Rattle.dcv_automaton_text.specs.File.{AutomatonFile}
use Rattle.dcv_automaton_text.specs.Meaning.{table_of}
use Rattle.dcv_automaton_text.proofs.GoodFiles.{good_file}
use Rattle.dcv_automaton_text.proofs.GoodTables.{length-table_of, table_has_the_files_states}
use Rattle.dcv_automaton_read.specs.File.{IsRead, state_line}
use Rattle.dcv_automaton_read.specs.Walk.{IsEarlier}
use Rattle.dcv_language.specs.declared.child.Child.TheVariants.{State}
use Rattle.dcv_automaton_read.specs.declared.nodes.Node.{Node}
use Rattle.dcv_automaton_read.specs.declared.file.Row.{Row}
use Rattle.dcv_automaton_read.proofs.Walks.{row_within, leads}
use Rattle.dcv_automaton_read.proofs.ReadFiles.{state_there}
use Rattle.dcv_certify.specs.Built.{ref_at, StandFor}
use Rattle.dcv_certify.specs.Certified.{set_of}
use Rattle.dcv_certify.proofs.Building.{child_is_ref, child_value}

abbrev pub some_row : Row
some_row = record { accepting = false; next = State 0 }

pub count_of_rows : (file : AutomatonFile) (rows : List Row) → file.state_lines ≡ map state_line (enumerate_from 0 rows) → length (table_of file) ≡ length rows
count_of_rows file rows lines = length-table_of file ∙ ap length lines ∙ length-map (enumerate_from 0 rows) state_line ∙ length-enumerate_from 0 rows

module _ (file : AutomatonFile) (nodes : List Node) (read : IsRead file nodes) (rows : List Row) (lines : file.state_lines ≡ map state_line (enumerate_from 0 rows))
    (is_table : IsTable (length file.names) (table_of file)) (count : length (table_of file) ≡ length rows) where
  pub rows_are_earlier : All (λ (row : Row). IsEarlier (length nodes) row.next) rows
  rows_are_earlier i d within = row_within file nodes read rows i d lines within

  module _ (stands : LetterStandsAtItsBits) (arena : ArenaValue) (refs : List Ref) (are : StandFor (length file.names) nodes arena refs) where
    abbrev pub made_rows : List Ref
    made_rows = map (λ (row : Row). ref_at refs row.next) rows

    abbrev pub made_flags : List Bool
    made_flags = map (λ (row : Row). row.accepting) rows

    abbrev pub made : RawValue
    made = raw_value arena made_rows made_flags 0

    size_of_rows : length made_rows ≡ length rows
    size_of_rows = length-map rows (λ (row : Row). ref_at refs row.next)

    row_is : (state : ℕ) (d : Ref) → state < length rows → get_or made_rows state d ≡ ref_at refs (get_or rows state some_row).next
    row_is state d within = get_or-map (λ (row : Row). ref_at refs row.next) rows state some_row d within

    next_at : (state : ℕ) (letter : List Bool) → state < length rows → length letter ≡ length file.names → raw_next made state letter ≡ next_in (table_of file) state letter
    next_at state letter within width =
        let next = (get_or rows state some_row).next in
        ap (λ ref. raw_next (record made { rows = ref ∷ [] }) 0 letter) (row_is state (Leaf 0) within)
        ∙ child_value (length file.names) nodes (length nodes) arena refs are next letter (rows_are_earlier state some_row within)
        ∙ leads file nodes read rows state some_row lines within stands letter width

    flag_at : (state : ℕ) → state < length rows → raw_accepting made state ≡ is_accepting (table_of file) state
    flag_at state within =
        get_or-map (λ (row : Row). row.accepting) rows state some_row false within
        ∙ sym (ap (λ (one : TableState). one.accepting) (state_there file rows state some_row lines within))

    pub is_made : IsRaw made
    is_made = record {
      arena = are.is_arena;
      rows = λ i d within.
          subst (IsRef arena) (sym (row_is i d (omega (arith, within, size_of_rows))))
          (child_is_ref (length file.names) nodes (length nodes) arena refs are (get_or rows i some_row).next (rows_are_earlier i some_row (omega (arith, within, size_of_rows))));
      flags = length-map rows (λ (row : Row). row.accepting) ∙ sym size_of_rows;
      start = omega (arith, size_of_rows, count, is_table.nonempty);
      numbers = λ i d within letter width.
          let inside : i < length rows = omega (arith, within, size_of_rows) in
          let below = next-below (length file.names) (table_of file) is_table i letter (omega (arith, inside, count)) in
          let here = next_at i letter inside (width ∙ are.slots) in
          let same : get_or made_rows i (Leaf 0) ≡ get_or made_rows i d = row_is i (Leaf 0) inside ∙ sym (row_is i d inside) in
          subst (λ ref. raw_next (record made { rows = ref ∷ [] }) 0 letter < length made_rows) same (omega (arith, below, here, count, size_of_rows));
      states = omega (arith, size_of_rows, count, table_has_the_files_states file read.good, (good_file file read.good).few);
    }

    goes_same : (state : ℕ) (word : Word) → state < length rows → All (λ letter. length letter ≡ length file.names) word
        → (state_from (raw_automaton made) state word ≡ state_from (automaton_of (table_of file)) state word) × (state_from (automaton_of (table_of file)) state word < length rows)
    goes_same state [] within widths = (refl, within)
    goes_same state (letter ∷ word) within widths =
        let table = table_of file in
        let here = next_at state letter within (widths 0 letter (omega arith)) in
        let below : next_in table state letter < length rows = omega (arith, next-below (length file.names) table is_table state letter (omega (arith, within, count)), count) in
        let rest = goes_same (next_in table state letter) word below (λ i d inside. widths (suc i) d (omega (arith, inside))) in
        (ap (λ n. state_from (raw_automaton made) n word) here ∙ rest.0, rest.1)

    pub accepts_same : HaveSameBehaviours (length file.names) (raw_accepts made) (set_of file)
    accepts_same [] is = absurd (omega (arith, is.nonempty))
    accepts_same (letter ∷ word) is =
        let same = goes_same 0 (letter ∷ word) (omega (arith, count, is_table.nonempty)) is.widths in
        ap (raw_accepting made) same.0 ∙ flag_at (state_from (automaton_of (table_of file)) 0 (letter ∷ word)) same.1
