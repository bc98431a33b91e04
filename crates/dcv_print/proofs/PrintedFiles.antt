-- The file that is printed of an automaton keeps all table rules.
use Rattle.std.proofs.Common.{◌≡◌, ◌≢◌, ℕ, suc, ◌+◌, ◌<◌, ◌≤◌, Bool, true, false, not, ◌&&◌, List, [], ◌∷◌, length, map, take, get_or, Some, refl, sym, ap, ◌∙◌, subst, arith}
use Rattle.std.specs.Prelude.{bytes_eq, codes, nat_lt, nat_le}
use Rattle.std.specs.Fmt.{decimal}
use Rattle.std.specs.List.{AllPairs, enumerate_from, zip}
use Rattle.std.proofs.lemmas.Bool.{lt-ltb, le-leb}
use Rattle.std.proofs.lemmas.List.{length-map, length-take, get_or-map, get_or-take, get_or_default}
use Rattle.std.proofs.lemmas.List.Folds.{list_any_none}
use Rattle.std.proofs.lemmas.List.FromFn.{length-enumerate_from, get_or-enumerate_from}
use Rattle.dcv_language.specs.declared.count.Count.{Count}
use Rattle.dcv_language.specs.declared.child.Child.TheVariants.{State}
use Rattle.dcv_dfa.specs.declared.node_lines.NodeLine.{NodeLine}
use Rattle.dcv_dfa.specs.NodeLines.{AreReduced, node_lines_of, numbered}
use Rattle.dcv_dfa.proofs.Reduced.{has_node_lines}
use Rattle.dcv_language.specs.declared.certificate.Access.TheVariants.{Empty as NoLetters}
use Rattle.dcv_language.specs.declared.certificate.Suffix.TheVariants.{Empty}
use Rattle.dcv_language.specs.Limits.{most_variables, most_states, most_nodes}
use Rattle.dcv_automaton_text.specs.File.{AutomatonFile}
use Rattle.dcv_automaton_text.specs.Spelled.{name_words, node_words, state_words, access_words, suffix_words, step_words, steps_words}
use Rattle.dcv_automaton_text.specs.Rules.{most_steps, most_start, keeps_steps, keeps_step, has_all_steps}
use Rattle.dcv_automaton_text.specs.Rules.{AreNames, is_listed, keeps_name, keeps_names, keeps_node, keeps_state, keeps_access, keeps_suffix, has_all_access, judged, judged_words}
use Rattle.dcv_automaton_text.proofs.Kept.{AreKept, AllKeep, none_kept, both_true, kept_words, in_turn, kind_kept, none_broken}
use Rattle.dcv_automaton_read.specs.File.{step_line, step_part}
use Rattle.dcv_print.specs.Counts.{ArePrintableCounts}
use Rattle.dcv_print.specs.Printed.{node_line, state_line, access_line, suffix_line, printed_file, file_of}
use Rattle.dcv_print.specs.Laws.{PrintedIsGood}
use Rattle.dcv_print.proofs.PrintedNodes.{same_number, node_kept, state_kept}
use Rattle.dcv_print.proofs.PrintedProofs.{access_kept, suffix_kept, all_access}
use Rattle.dcv_automaton_file.proofs.Tables.{other_bytes, reduced, slots_below}

-- ---- names

name_is_new : (names : List (List ℕ)) (k : ℕ) → AllPairs ◌≢◌ names → k < length names → is_listed (take k names) (get_or names k []) ≡ false
name_is_new names k differ within =
    list_any_none (bytes_eq (get_or names k [])) (take k names) (λ j d before.
    let earlier : j < k = omega (arith, length-take k names) in
    ap (bytes_eq (get_or names k [])) (get_or-take k names j d earlier)
    ∙ other_bytes (get_or names k []) (get_or names j d) (λ same. differ j k d earlier within (sym same ∙ get_or_default names k [] d within)))

name_kept : (names : List (List ℕ)) (k : ℕ) → AreNames names → k < length names → keeps_name names k (get_or names k []) ≡ true
name_kept names k are within =
    let name = get_or names k [] in
    let is = are.each k [] within in
    let few = lt-ltb k most_variables (let count = are.count in omega arith) in
    let short = le-leb (length name) 24 is.short in
    both_true _ (not (is_listed (take k names) name)) (both_true _ (nat_le (length name) 24) (both_true (nat_lt k most_variables) _ few is.form) short) (ap not (name_is_new names k are.differ within))

each_kept : (names rest : List (List ℕ)) (first : ℕ) → ((k : ℕ) → k < length rest → keeps_name names (first + k) (get_or rest k []) ≡ true)
    → AreKept (map (λ numbered. keeps_name names numbered.0 numbered.1) (enumerate_from first rest))
each_kept names [] first each = tt
each_kept names (name ∷ rest) first each = (
  subst (λ at. keeps_name names at name ≡ true) (let here : first + 0 ≡ first = omega arith in here) (each 0 (omega arith)),
  each_kept names rest (first + 1) (λ k within.
      subst (λ at. keeps_name names at (get_or rest k []) ≡ true) (let same : first + suc k ≡ (first + 1) + k = omega arith in same) (each (suc k) (omega arith))),
)

names_kept : (names : List (List ℕ)) → AreNames names → AreKept (keeps_names names)
names_kept [] are = (refl, tt)
names_kept (name ∷ names) are =
    each_kept (name ∷ names) (name ∷ names) 0 (λ k within.
    subst (λ at. keeps_name (name ∷ names) at (get_or (name ∷ names) k []) ≡ true) (let same : k ≡ 0 + k = omega arith in same) (name_kept (name ∷ names) k are within))

-- ---- lines of one kind

-- lines of what has a number
numbered_kept : {Line Numbered : Type 0} (words : Line → List (List ℕ)) (kept : ℕ → Line → List Bool) (line : ℕ × Numbered → Line) (xs : List Numbered) (none : Numbered)
    → ((k : ℕ) → k < length xs → AreKept (kept k (line (k, get_or xs k none)))) → AllKeep (judged words kept (map line (enumerate_from 0 xs)))
numbered_kept words kept line xs none each =
    let all = enumerate_from 0 xs in
    kind_kept words kept (map line all) (λ k d within.
    let here : k < length xs = omega (arith, length-map all line, length-enumerate_from 0 xs) in
    let at = get_or-map line all k (0, none) d (omega (arith, length-map all line)) in
    let number = get_or-enumerate_from 0 xs k (0, none) here in
    let place : 0 + k ≡ k = omega arith in
    subst (λ one. AreKept (kept k one)) (sym (at ∙ ap line (number ∙ ap (λ at. (at, get_or xs k none)) place))) (each k here))

-- ---- steps

steps_kept : (file : AutomatonFile) (counts : List Count) → has_all_access file ≡ true → ArePrintableCounts counts
    → AllKeep (zip (steps_words (step_part counts)) (keeps_steps file (step_part counts)))
steps_kept file counts access small =
    kept_words (steps_words (step_part counts)) (keeps_steps file (step_part counts)) (access, (le-leb (length counts) most_steps small.few, tt))

steps_in_turn : (counts : List Count) → ArePrintableCounts counts → AllKeep (judged step_words (keeps_step (step_part counts)) (step_part counts).lines)
steps_in_turn counts small =
    let none : Count = record { at = 0; states = 0; nodes = 0 } in
    numbered_kept step_words (keeps_step (step_part counts)) step_line counts none (λ k within.
    let count = get_or counts k none in
    let is = small.each k none within in
    let states = both_true (nat_lt 0 count.states) (nat_le count.states most_states) (lt-ltb 0 count.states is.some_states) (le-leb count.states most_states is.few_states) in
    (lt-ltb k (length counts) within, (same_number k, (refl, (le-leb count.at most_start is.at, (refl, (states, (refl, (le-leb count.nodes most_nodes is.few_nodes, tt)))))))))

all_steps : (counts : List Count) → has_all_steps (Some (step_part counts)) ≡ true
all_steps counts =
    let numbered = enumerate_from 0 counts in
    le-leb (length counts) (length (map step_line numbered)) (omega (arith, length-map numbered step_line, length-enumerate_from 0 counts))

-- ---- the file

pub printed_is_good : PrintedIsGood
unfolding file_of judged_words
printed_is_good raw names access suffixes counts is proof small =
    let all = node_lines_of raw in
    let file = printed_file raw names access suffixes counts in
    let lines_reduced = reduced raw is.is_raw is.auto in
    let below = slots_below raw (length names) lines_reduced is.slots in
    let same_slots = subst (λ slots. AreReduced slots (length raw.rows) all) (sym is.slots) lines_reduced in
    let facts = has_node_lines raw is.is_raw is.auto.nodes (numbered raw.arena raw.rows) refl in
    let few : length all.lines ≤ most_nodes = let nodes = is.nodes in omega (arith, facts.count) in
    let differ = is.are_names.differ in
    let no_line : NodeLine = record { slot = 0; hi = State 0; lo = State 0 } in
    let count = lines_reduced.count in
    let start = is.is_raw.start in
    let states = is.states in
    let nodes = numbered_kept node_words (keeps_node file) (node_line names) all.lines no_line (λ k within. node_kept raw names access suffixes counts differ below same_slots k within few) in
    let rows = numbered_kept state_words (keeps_state file) (state_line raw) all.rows (State 0) (λ k within. state_kept raw names access suffixes counts differ below same_slots k (omega arith)) in
    let words = numbered_kept access_words (keeps_access file) access_line access NoLetters (λ k within. access_kept raw names access suffixes counts proof is.slots count k within) in
    let ends = numbered_kept suffix_words (keeps_suffix file) suffix_line suffixes Empty (λ k within. suffix_kept raw names access suffixes counts proof is.slots count k within) in
    let access_stands = all_access raw names access suffixes counts proof is.slots count in
    let steps = in_turn (steps_kept file counts access_stands small) (steps_in_turn counts small) in
    let last = kept_words (codes "end" ∷ []) ((has_all_access file && has_all_steps file.steps) ∷ []) (both_true (has_all_access file) _ access_stands (all_steps counts), tt) in
    let first = kept_words (codes "automaton" ∷ codes "2" ∷ []) (true ∷ true ∷ []) (refl, (refl, tt)) in
    let variables = kept_words (codes "variables" ∷ name_words names) (true ∷ keeps_names names) (refl, names_kept names is.are_names) in
    let number = kept_words (codes "states" ∷ decimal (length raw.rows) ∷ []) (true ∷ (nat_lt 0 (length raw.rows) && nat_le (length raw.rows) most_states) ∷ [])
    (refl, (both_true (nat_lt 0 (length raw.rows)) _ (lt-ltb 0 (length raw.rows) (omega arith)) (le-leb (length raw.rows) most_states states), tt)) in
    let head = in_turn first (in_turn variables (in_turn number none_kept)) in
    none_broken (judged_words file) 0 (in_turn head (in_turn nodes (in_turn rows (in_turn words (in_turn ends (in_turn steps (in_turn last none_kept)))))))
