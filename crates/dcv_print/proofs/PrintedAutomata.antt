-- The file that is printed of an automaton says the canonical automaton of the words that the automaton accepts.
use Rattle.std.proofs.Common.{◌≡◌, ℕ, ◌+◌, List, [], ◌∷◌, length, map, refl, sym, ap, subst, arith}
use Rattle.std.specs.List.{enumerate_from}
use Rattle.dcv_word.specs.Behaviour.{Word}
use Rattle.dcv_language.specs.Canonical.{IsCanonical}
use Rattle.dcv_language.specs.Certificate.{IsCertificate}
use Rattle.dcv_language.specs.Table.{Table}
use Rattle.dcv_dfa.specs.Laws.{LinesLeadAsTheRows}
use Rattle.dcv_dfa.specs.NodeLines.{lines_and_rows, node_lines_of, numbered}
use Rattle.dcv_dfa.specs.Raw.{RawValue, raw_accepts}
use Rattle.dcv_dfa.proofs.Reduced.{has_node_lines}
use Rattle.dcv_language.specs.declared.child.Child.{Child}
use Rattle.dcv_automaton_text.specs.Meaning.{table_of, suffix_words_of}
use Rattle.dcv_automaton_text.specs.File.{StateLine}
use Rattle.dcv_print.specs.Printed.{state_line, access_line, suffix_line, printed_file, file_of}
use Rattle.dcv_print.specs.Laws.{PrintedIsAutomaton, PrintedTable}
use Rattle.dcv_automaton_file.specs.Listed.{AreNumbered}
use Rattle.dcv_automaton_file.proofs.FileLines.{lines_of, file_is_numbered}
use Rattle.dcv_automaton_file.proofs.ListedLines.{rows_are_listed}
use Rattle.dcv_print.proofs.PrintedFiles.{printed_is_good}
use Rattle.dcv_print.proofs.PrintedForms.{printed_is_spellable}
use Rattle.dcv_automaton_file.proofs.Tables.{lines_back, reduced, slots_below, file_table}
use Rattle.dcv_print.proofs.PrintedWords.{printed_access, printed_suffixes}

rows_back : (raw : RawValue) (rows : List Child) (first : ℕ) → map (λ (line : StateLine). line.row) (map (state_line raw) (enumerate_from first rows)) ≡ rows
rows_back raw [] first = refl
rows_back raw (row ∷ rows) first = ap (λ rest. row ∷ rest) (rows_back raw rows (first + 1))

-- the steps do not matter to the table
pub printed_table : LinesLeadAsTheRows → PrintedTable
unfolding table_of file_of
printed_table lead raw names access suffixes counts is =
    file_table lead raw names (map access_line (enumerate_from 0 access)) (map suffix_line (enumerate_from 0 suffixes)) is

pub printed_is_automaton : LinesLeadAsTheRows → PrintedIsAutomaton
unfolding file_of
printed_is_automaton lead raw names access suffixes counts is proof small =
    let file = printed_file raw names access suffixes counts in
    let rules = printed_is_good raw names access suffixes counts is proof small in
    let table = printed_table lead raw names access suffixes counts is in
    let words = printed_access raw names access suffixes counts proof.words proof.spelled in
    let ends = printed_suffixes raw names access suffixes counts in
    let below = slots_below raw (length names) (reduced raw is.is_raw is.auto) is.slots in
    let all = node_lines_of raw in
    let facts = has_node_lines raw is.is_raw is.auto.nodes (numbered raw.arena raw.rows) refl in
    let listed = rows_are_listed raw.arena raw.rows (length raw.rows) is.is_raw.arena is.is_raw.rows is.is_raw.numbers (let nodes = is.nodes in omega (arith, facts.count)) in
    let same : all ≡ lines_of file = λ i. lines_and_rows (sym (lines_back names is.are_names.differ all.lines 0 below) i) (sym (rows_back raw all.rows 0) i) in
    record {
      form = printed_is_spellable raw names access suffixes counts is proof small;
      rules = rules;
      variables = refl;
      canonical = subst (λ (words : List Word). IsCanonical raw.arena.slots (raw_accepts raw) (table_of file) words) (sym words)
          (subst (λ (table : Table). IsCanonical raw.arena.slots (raw_accepts raw) table proof.words) (sym table) proof.canonical);
      certificate = subst (λ (words : List Word). IsCertificate raw.arena.slots (raw_accepts raw) words (suffix_words_of file)) (sym words)
          (subst (λ (ends : List Word). IsCertificate raw.arena.slots (raw_accepts raw) proof.words ends) (sym ends) proof.certificate);
      numbered = file_is_numbered file (subst AreNumbered same listed.numbered);
    }
