-- Two files that say the canonical automaton of one set are the same up to their access lines: the set has one canonical table, a table has one
-- list of node lines, and its access words are spelled in one way.
use Rattle.std.proofs.Common.{◌≡◌, ◌≢◌, ℕ, ◌<◌, List, [], ◌++◌, length, map, get_or, sym, ap, ◌∙◌, subst, arith}
use Rattle.std.specs.List.{AllPairs}
use Rattle.std.proofs.lemmas.List.{length-map, get_or-map, get_or_default, same_lists}
use Rattle.dcv_word.specs.Behaviour.{Word}
use Rattle.dcv_language.specs.Apart.{AreApart}
use Rattle.dcv_language.specs.Canonical.{IsCanonical}
use Rattle.dcv_language.specs.Language.{Language}
use Rattle.dcv_language.specs.Laws.{OneCanonicalTable}
use Rattle.dcv_language.specs.Table.{TableState, Table, no_state}
use Rattle.dcv_dfa.specs.declared.node_lines.NodeLine.{NodeLine as CodeNodeLine}
use Rattle.dcv_language.specs.declared.child.Child.TheVariants.{State}
use Rattle.dcv_dfa.specs.NodeLines.{NodeLinesValue}
use Rattle.dcv_automaton_text.specs.File.{NodeLine, StateLine, AccessLine, AutomatonFile}
use Rattle.dcv_automaton_text.specs.Meaning.{table_of, access_words_of}
use Rattle.dcv_automaton_text.specs.Rules.{slot_of}
use Rattle.dcv_automaton_text.proofs.AccessLines.{IsWordOf, one_access, lines_spell}
use Rattle.dcv_automaton_text.proofs.GoodFiles.{IsGoodFile, good_file}
use Rattle.dcv_automaton_text.proofs.GoodTables.{length-table_of, no_line, state-at}
use Rattle.dcv_print.specs.Automaton.{IsAutomatonOf, AreSameUpToAccess}
use Rattle.dcv_print.specs.Laws.{OneAutomaton}
use Rattle.dcv_automaton_text.proofs.InWords.{good_files_in_words}
use Rattle.dcv_automaton_file.specs.Listed.{AreListed}
use Rattle.dcv_automaton_file.proofs.FileLines.{lines_of, no_node, same_name, listed_lines, same_numbers}
use Rattle.dcv_automaton_file.proofs.ListedLines.{one_listing}
use Rattle.dcv_automaton_file.proofs.Tables.{line_for}

-- ---- access words

words_differ : (k : ℕ) (L : Language) (words : List Word) → AllPairs (AreApart k L) words → AllPairs ◌≢◌ words
words_differ k L words apart i j d before within same =
    let is = apart i j d before within in
    is.tells.differ (ap (λ word. L (word ++ is.suffix)) same)

words_have_letters : (k : ℕ) (L : Language) (table : Table) (words : List Word) → IsCanonical k L table words → (state : ℕ) → 0 < state → state < length words → 0 < length (get_or words state [])
words_have_letters k L table words is state later within = (is.least state later (omega (arith, is.words))).behaviour.nonempty

-- ---- lines

module _ (names : List (List ℕ)) where
  one_node : (place : ℕ) (one other : NodeLine) → one.number ≡ place → other.number ≡ place → slot_of names one.name < length names → slot_of names other.name < length names
      → line_for names one ≡ line_for names other → one ≡ other
  one_node place one other number its_number within its_within same =
      let numbers = number ∙ sym its_number in
      let slots : slot_of names one.name ≡ slot_of names other.name = ap (λ (line : CodeNodeLine). line.slot) same in
      let name = same_name names one.name other.name within its_within slots in
      let hi = ap (λ (line : CodeNodeLine). line.hi) same in
      let lo = ap (λ (line : CodeNodeLine). line.lo) same in
      λ i. record { number = numbers i; name = name i; hi = hi i; lo = lo i }

one_state : (place : ℕ) (one other : StateLine) → one.number ≡ place → other.number ≡ place → one.accepting ≡ other.accepting → one.row ≡ other.row → one ≡ other
one_state place one other number its_number accepting row =
    let numbers = number ∙ sym its_number in
    λ i. record { number = numbers i; accepting = accepting i; row = row i }

one_access_line : (place : ℕ) (one other : AccessLine) → one.number ≡ place → other.number ≡ place → one.access ≡ other.access → one ≡ other
one_access_line place one other number its_number access =
    let numbers = number ∙ sym its_number in
    λ i. record { number = numbers i; access = access i }

-- ---- files

module _ (k : ℕ) (L : Language) (names : List (List ℕ)) (one other : AutomatonFile) (is : IsAutomatonOf k L names one) (its : IsAutomatonOf k L names other)
    (good : IsGoodFile one) (good_other : IsGoodFile other) (tables : table_of one ≡ table_of other) (words : access_words_of one ≡ access_words_of other)
    (lines : lines_of one ≡ lines_of other) where
  same_names : one.names ≡ other.names
  same_names = is.variables ∙ sym its.variables

  same_count : one.states ≡ other.states
  same_count = sym good.states ∙ sym (length-table_of one) ∙ ap length tables ∙ length-table_of other ∙ good_other.states

  same_plain : map (line_for one.names) one.node_lines ≡ map (line_for one.names) other.node_lines
  same_plain = ap (λ (all : NodeLinesValue). all.lines) lines ∙ (λ i. map (line_for (sym same_names i)) other.node_lines)

  same_node_lines : one.node_lines ≡ other.node_lines
  same_node_lines =
      let size = sym (length-map one.node_lines (line_for one.names)) ∙ ap length same_plain ∙ length-map other.node_lines (line_for one.names) in
      same_lists one.node_lines other.node_lines size (λ place d within.
      let its_within : place < length other.node_lines = omega arith in
      let node = ((good_files_in_words one).0 is.rules).node_lines place d within in
      let its_node = ((good_files_in_words other).0 its.rules).node_lines place d its_within in
      let e = line_for one.names no_node in
      one_node one.names place (get_or one.node_lines place d) (get_or other.node_lines place d) node.number its_node.number node.variable
      (subst (λ names. slot_of names (get_or other.node_lines place d).name < length names) (sym same_names) its_node.variable)
      (sym (get_or-map (line_for one.names) one.node_lines place d e within)
      ∙ ap (λ lines. get_or lines place e) same_plain
      ∙ get_or-map (line_for one.names) other.node_lines place d e its_within))

  same_state_lines : one.state_lines ≡ other.state_lines
  same_state_lines =
      let child = λ (line : StateLine). line.row in
      let rows = ap (λ (all : NodeLinesValue). all.rows) lines in
      let size = good.states ∙ same_count ∙ sym good_other.states in
      same_lists one.state_lines other.state_lines size (λ place d within.
      let its_within : place < length other.state_lines = omega arith in
      let flag = ap (λ (state : TableState). state.accepting) (sym (state-at one place no_state within) ∙ ap (λ table. get_or table place no_state) tables ∙ state-at other place no_state its_within) in
      one_state place (get_or one.state_lines place d) (get_or other.state_lines place d) (good.state place d within).number (good_other.state place d its_within).number
      (ap (λ (line : StateLine). line.accepting) (get_or_default one.state_lines place d no_line within) ∙ flag
      ∙ ap (λ (line : StateLine). line.accepting) (get_or_default other.state_lines place no_line d its_within))
      (sym (get_or-map child one.state_lines place d (State 0) within) ∙ ap (λ rows. get_or rows place (State 0)) rows ∙ get_or-map child other.state_lines place d (State 0) its_within))

  same_access_lines : one.access_lines ≡ other.access_lines
  same_access_lines =
      let size = good.words ∙ same_count ∙ sym good_other.words in
      let all = access_words_of one in
      same_lists one.access_lines other.access_lines size (λ place d within.
      let its_within : place < length other.access_lines = omega arith in
      let spells = lines_spell one good place d within in
      let its_spells = subst (λ words. IsWordOf words (get_or other.access_lines place d).access (get_or words place [])) (sym words) (lines_spell other good_other place d its_within) in
      one_access_line place (get_or one.access_lines place d) (get_or other.access_lines place d) (good.access place d within).number (good_other.access place d its_within).number
      (one_access all (words_have_letters k L (table_of one) all is.canonical) (words_differ k L all is.canonical.apart)
      (get_or one.access_lines place d).access (get_or other.access_lines place d).access (get_or all place []) spells its_spells))

  same_files : AreSameUpToAccess one other
  same_files = record { names = same_names; states = same_count; node_lines = same_node_lines; state_lines = same_state_lines; access_lines = same_access_lines }

-- files with one table have the same lines
same_lines : (k : ℕ) (L : Language) (names : List (List ℕ)) (one other : AutomatonFile) → IsAutomatonOf k L names one → IsAutomatonOf k L names other
    → table_of one ≡ table_of other → lines_of one ≡ lines_of other
same_lines k L names one other is its tables =
    let good = (good_files_in_words one).0 is.rules in
    let good_other = (good_files_in_words other).0 its.rules in
    let variables = is.variables ∙ sym its.variables in
    let states : one.states ≡ other.states = sym good.all_states ∙ sym (length-table_of one) ∙ ap length tables ∙ length-table_of other ∙ good_other.all_states in
    let narrow = good.names.count in
    let count = good.all_states in
    let its_count = good_other.all_states in
    one_listing (length one.names) one.states one.states (lines_of one) (lines_of other) (omega arith) (listed_lines one good is.numbered)
    (subst (λ (parts : List (List ℕ) × ℕ). AreListed (length parts.0) parts.1 parts.1 (lines_of other)) (λ i. (sym variables i, sym states i)) (listed_lines other good_other its.numbered))
    (λ place letter within width. same_numbers one other variables tables place letter (omega arith) (omega arith) width)

pub one_automaton : OneCanonicalTable → OneAutomaton
one_automaton one_table k L names one other is its =
    let same = one_table k L (table_of one) (table_of other) (access_words_of one) (access_words_of other) is.canonical its.canonical in
    same_files k L names one other is its (good_file one is.rules) (good_file other its.rules) same.0 same.1 (same_lines k L names one other is its same.0)
