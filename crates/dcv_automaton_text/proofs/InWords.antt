-- The table rules, and what they ask in words of the automaton, say the same.
use Rattle.std.proofs.Common.{◌≡◌, ◌≢◌, ℕ, suc, ◌+◌, ◌<◌, ◌≤◌, Bool, true, false, not, ◌&&◌, ◌||◌, List, [], ◌∷◌, Option, None, Some}
use Rattle.std.proofs.Common.{length, map, take, get_or, inl, inr, refl, sym, ap, ◌∙◌, subst, arith}
use Rattle.std.specs.Prelude.{bytes_eq, codes, nat_eq, nat_lt, nat_le, IfSome}
use Rattle.std.specs.Cmp.{unsigned_Decides}
use Rattle.std.specs.Fmt.{decimal}
use Rattle.std.specs.List.{AllPairs, list_any, position_or_len, enumerate_from, zip}
use Rattle.std.proofs.lemmas.Bool.{cases_Bool, cases_lt, ltb-true, leb-true, lt-ltb, le-leb, false≢true}
use Rattle.std.proofs.lemmas.Bool.Decides.{nat_tests}
use Rattle.std.proofs.lemmas.List.{length-take, get_or-take, get_or_default}
use Rattle.std.proofs.lemmas.List.Folds.{list_any_at, list_any_none}
use Rattle.std.proofs.lemmas.Slice.Eq.{bytes_eq-Decides}
use Rattle.dcv_tokens.specs.Tokens.{is_name}
use Rattle.dcv_tokens.specs.Limits.{longest_word}
use Rattle.dcv_language.specs.Limits.{most_variables, most_states, most_nodes}
use Rattle.dcv_language.specs.declared.child.Child.{Child}
use Rattle.dcv_language.specs.declared.child.Child.TheVariants.{State, Node}
use Rattle.dcv_automaton_text.specs.File.{NodeLine, StateLine, Access, EmptyAccess, StartAccess, AfterAccess, AccessLine}
use Rattle.dcv_automaton_text.specs.File.{Suffix, EmptySuffix, ThenSuffix, StepLine, StepPart, AutomatonFile}
use Rattle.dcv_automaton_text.specs.GoodFile.{AtEachPlace, IsChild, IsGoodNodeLine, AreSameNode, IsRow, IsGoodStateLine, HasWidth, IsHowAccess, IsGoodAccessLine}
use Rattle.dcv_automaton_text.specs.GoodFile.{IsHowSuffix, IsGoodSuffixLine, IsGoodStepLine, IsGoodStepPart, IsGoodFile}
use Rattle.dcv_automaton_text.specs.Laws.{GoodFilesInWords}
use Rattle.dcv_automaton_text.specs.Rules.{most_steps, most_start, IsPlainName, AreNames, slot_of, slot_of_node, is_listed, keeps_name, keeps_names}
use Rattle.dcv_automaton_text.specs.Rules.{keeps_child, is_same_target, is_same_node, keeps_node, keeps_row, keeps_state, has_width, keeps_how_access, has_all_states, keeps_access}
use Rattle.dcv_automaton_text.specs.Rules.{has_all_access, keeps_how_suffix, keeps_suffix, keeps_steps, keeps_step, has_all_steps, judged, judged_steps, IsGood}
use Rattle.dcv_automaton_text.specs.Spelled.{name_words, node_words, state_words, access_words, how_suffix, suffix_words, step_words, steps_words}
use Rattle.dcv_automaton_text.proofs.AccessLines.{goes}
use Rattle.dcv_automaton_text.proofs.GoodFiles.{in_parts, kept_words as words_keep, kept_kind, length-keeps_names, each_name, few_names, same_target, turned, no_more, IsGoodNode, good_file}
use Rattle.dcv_automaton_text.proofs.Kept.{AreKept, AllKeep, none_kept, both, both_true, kept_words, in_turn, kind_kept}
use Rattle.dcv_automaton_text.proofs.Versions.{AreKeptBefore, kept_before, good_again}

-- ---- tests of elements before a place

-- an element before the place fails where all of them do
fails_before : {A : Type 0} (test : A → Bool) (xs : List A) (place earlier : ℕ) (d : A) → list_any test (take place xs) ≡ false → earlier < place → place < length xs
    → test (get_or xs earlier d) ≡ false
fails_before test xs place earlier d none before within = by (test (get_or xs earlier d)) refl
  where
    by : (passed : Bool) → test (get_or xs earlier d) ≡ passed → passed ≡ false
    by false is = refl
    by true is =
        let here : earlier < length (take place xs) = omega (arith, length-take place xs) in
        let found = list_any_at test (take place xs) earlier d here (ap test (get_or-take place xs earlier d before) ∙ is) in
        absurd (false≢true (sym none ∙ found))

none_before : {A : Type 0} (test : A → Bool) (xs : List A) (place : ℕ) → place < length xs → ((earlier : ℕ) (d : A) → earlier < place → test (get_or xs earlier d) ≡ false)
    → list_any test (take place xs) ≡ false
none_before test xs place within each =
    list_any_none test (take place xs) (λ earlier d here.
    let before : earlier < place = omega (arith, length-take place xs) in
    ap test (get_or-take place xs earlier d before) ∙ each earlier d before)

-- ---- names

other_name : (name other : List ℕ) → (name ≡ other → ⊥) → bytes_eq name other ≡ false
other_name name other differ = by (bytes_eq name other) refl
  where
    by : (same : Bool) → bytes_eq name other ≡ same → same ≡ false
    by true is = absurd (differ ((bytes_eq-Decides name other).0 is))
    by false is = refl

name_kept : (names : List (List ℕ)) (k : ℕ) → AreNames names → k < length names → keeps_name names k (get_or names k []) ≡ true
name_kept names k are within =
    let name = get_or names k [] in
    let is = are.each k [] within in
    let few = lt-ltb k most_variables (let count = are.count in omega arith) in
    let short = le-leb (length name) longest_word is.short in
    let new = none_before (bytes_eq name) names k within (λ earlier d before.
    other_name name (get_or names earlier d) (λ same. are.differ earlier k d before within (sym same ∙ get_or_default names k [] d within))) in
    both_true _ (not (is_listed (take k names) name)) (both_true _ (nat_le (length name) longest_word) (both_true (nat_lt k most_variables) _ few is.form) short) (ap not new)

each_kept : (names rest : List (List ℕ)) (first : ℕ) → ((k : ℕ) → k < length rest → keeps_name names (first + k) (get_or rest k []) ≡ true)
    → AreKept (map (λ numbered. keeps_name names numbered.0 numbered.1) (enumerate_from first rest))
each_kept names [] first each = tt
each_kept names (name ∷ rest) first each = (
  subst (λ at. keeps_name names at name ≡ true) (let here : first + 0 ≡ first = omega arith in here) (each 0 (omega arith)),
  each_kept names rest (first + 1) (λ k within.
      subst (λ at. keeps_name names at (get_or rest k []) ≡ true) (let same : first + suc k ≡ (first + 1) + k = omega arith in same) (each (suc k) (omega arith))),
)

names_kept : (names : List (List ℕ)) → AreNames names → AreKept (keeps_names names)
names_kept [] are = (refl, tt)
names_kept (name ∷ names) are =
    each_kept (name ∷ names) (name ∷ names) 0 (λ k within.
    subst (λ at. keeps_name (name ∷ names) at (get_or (name ∷ names) k []) ≡ true) (let same : k ≡ 0 + k = omega arith in same) (name_kept (name ∷ names) k are within))

record IsKeptName (names : List (List ℕ)) (k : ℕ) (name : List ℕ) : Type 0 where
  plain : IsPlainName name
  is_new : is_listed (take k names) name ≡ false

kept_name : (names : List (List ℕ)) (k : ℕ) (name : List ℕ) → keeps_name names k name ≡ true → IsKeptName names k name
kept_name names k name kept =
    let last = both (nat_lt k most_variables && is_name name && nat_le (length name) longest_word) (not (is_listed (take k names) name)) kept in
    let short = both (nat_lt k most_variables && is_name name) (nat_le (length name) longest_word) last.0 in
    let form = both (nat_lt k most_variables) (is_name name) short.0 in
    record { plain = record { form = form.1; short = leb-true (length name) longest_word short.1 }; is_new = turned (is_listed (take k names) name) last.1 }

module _ (names : List (List ℕ)) (each : (k : ℕ) → k < length names → keeps_name names k (get_or names k []) ≡ true) where
  names_differ : AllPairs ◌≢◌ names
  names_differ i j d before within same =
      let is = kept_name names j (get_or names j []) (each j within) in
      let other = fails_before (bytes_eq (get_or names j [])) names j i d is.is_new before within in
      let equal : bytes_eq (get_or names j []) (get_or names i d) ≡ true =
      (bytes_eq-Decides (get_or names j []) (get_or names i d)).1 (get_or_default names j [] d within ∙ sym same) in
      false≢true (sym other ∙ equal)

  names_are : length names ≤ most_variables → AreNames names
  names_are few = record {
    count = few;
    each = λ k d within. subst IsPlainName (get_or_default names k [] d within) (kept_name names k (get_or names k []) (each k within)).plain;
    differ = names_differ;
  }

are_names : (names : List (List ℕ)) → AreKept (keeps_names names) → AreNames names
are_names [] are = names_are [] (λ k within. absurd (omega arith)) (omega arith)
are_names (name ∷ names) are =
    names_are (name ∷ names)
    (λ k within. subst (λ at. keeps_name (name ∷ names) at (get_or (name ∷ names) k []) ≡ true) (let here : 0 + k ≡ k = omega arith in here) (each_name (name ∷ names) (name ∷ names) 0 are k within))
    (few_names (name ∷ names) are)

-- a name is listed where it has a place
below_next : (place count : ℕ) → nat_lt place count ≡ nat_lt (1 + place) (suc count)
below_next place count = grind (arith, nat_tests)

place_found : (test : List ℕ → Bool) (names : List (List ℕ)) → list_any test names ≡ nat_lt (position_or_len test names) (length names)
place_found test [] = refl
place_found test (name ∷ names) = elim (cases_Bool (test name)) [
  | inl there ↦ let below = lt-ltb 0 (suc (length names)) (omega arith) in rw (there, below) refl
  | inr not_here ↦ rw not_here (place_found test names ∙ below_next (position_or_len test names) (length names))
]

pub listed_slot : (names : List (List ℕ)) (name : List ℕ) → is_listed names name ≡ nat_lt (slot_of names name) (length names)
listed_slot names name = place_found (bytes_eq name) names

-- ---- nodes

child_is : (file : AutomatonFile) (place : ℕ) (target : Child) → keeps_child file place target ≡ true → IsChild file place target
child_is file place (State number) kept = ltb-true number file.states kept
child_is file place (Node number) kept =
    let parts = both (nat_lt number place) (nat_lt (slot_of_node file place) (slot_of_node file number)) kept in
    record { earlier = ltb-true number place parts.0; later_variable = ltb-true (slot_of_node file place) (slot_of_node file number) parts.1 }

child_kept : (file : AutomatonFile) (place : ℕ) (target : Child) → IsChild file place target → keeps_child file place target ≡ true
child_kept file place (State number) is = lt-ltb number file.states is
child_kept file place (Node number) is =
    both_true (nat_lt number place) _ (lt-ltb number place is.earlier) (lt-ltb (slot_of_node file place) (slot_of_node file number) is.later_variable)

target_is : (target other : Child) → is_same_target target other ≡ true → target ≡ other
target_is (State number) (State other) same = ap State ((unsigned_Decides number other).0 same)
target_is (State number) (Node other) same = absurd (false≢true same)
target_is (Node number) (State other) same = absurd (false≢true same)
target_is (Node number) (Node other) same = ap Node ((unsigned_Decides number other).0 same)

node_is : (line other : NodeLine) → is_same_node line other ≡ true → AreSameNode other line
node_is line other same =
    let last = both (bytes_eq line.name other.name && is_same_target line.hi other.hi) (is_same_target line.lo other.lo) same in
    let first = both (bytes_eq line.name other.name) (is_same_target line.hi other.hi) last.0 in
    record { name = sym ((bytes_eq-Decides line.name other.name).0 first.0); hi = sym (target_is line.hi other.hi first.1); lo = sym (target_is line.lo other.lo last.1) }

same_is_same : (target other : Child) → target ≡ other → is_same_target target other ≡ true
same_is_same target other same = ap (is_same_target target) (sym same) ∙ same_target target

is_node : (line other : NodeLine) → AreSameNode other line → is_same_node line other ≡ true
is_node line other same =
    both_true (bytes_eq line.name other.name && is_same_target line.hi other.hi) _
    (both_true (bytes_eq line.name other.name) _ ((bytes_eq-Decides line.name other.name).1 (sym same.name)) (same_is_same line.hi other.hi (sym same.hi)))
    (same_is_same line.lo other.lo (sym same.lo))

other_target : (target other : Child) → target ≢ other → is_same_target target other ≡ false
other_target target other differ = by (is_same_target target other) refl
  where
    by : (same : Bool) → is_same_target target other ≡ same → same ≡ false
    by true is = absurd (differ (target_is target other is))
    by false is = refl

other_node : (line other : NodeLine) → (AreSameNode other line → ⊥) → is_same_node line other ≡ false
other_node line other differ = by (is_same_node line other) refl
  where
    by : (same : Bool) → is_same_node line other ≡ same → same ≡ false
    by true is = absurd (differ (node_is line other is))
    by false is = refl

good_node_line : (file : AutomatonFile) (place : ℕ) (line : NodeLine) → IsGoodNode file place line → IsGoodNodeLine file place line
good_node_line file place line is = record {
  number = is.number;
  variable = ltb-true (slot_of file.names line.name) (length file.names) (sym (listed_slot file.names line.name) ∙ is.listed);
  hi = child_is file place line.hi is.hi;
  lo = child_is file place line.lo is.lo;
  differ = is.differ;
}

node_kept : (file : AutomatonFile) (place : ℕ) (line : NodeLine) → IsGoodNodeLine file place line → place < most_nodes → list_any (is_same_node line) (take place file.node_lines) ≡ false
    → AreKept (keeps_node file place line)
node_kept file place line is few new = (
  both_true (nat_lt place most_nodes) _ (lt-ltb place most_nodes few) (ap not new),
  (
    (unsigned_Decides line.number place).1 is.number,
    (
      listed_slot file.names line.name ∙ lt-ltb (slot_of file.names line.name) (length file.names) is.variable,
      (
        refl,
        (
          child_kept file place line.hi is.hi,
          (refl, (both_true (keeps_child file place line.lo) _ (child_kept file place line.lo is.lo) (ap not (other_target line.hi line.lo is.differ)), tt)),
        ),
      ),
    ),
  ),
)

-- ---- states

row_is : (file : AutomatonFile) (target : Child) → keeps_row file target ≡ true → IsRow file target
row_is file (State number) kept = ltb-true number file.states kept
row_is file (Node number) kept = ltb-true number (length file.node_lines) kept

row_kept : (file : AutomatonFile) (target : Child) → IsRow file target → keeps_row file target ≡ true
row_kept file (State number) is = lt-ltb number file.states is
row_kept file (Node number) is = lt-ltb number (length file.node_lines) is

state_kept : (file : AutomatonFile) (place : ℕ) (line : StateLine) → IsGoodStateLine file place line → place < file.states → AreKept (keeps_state file place line)
state_kept file place line is few = (lt-ltb place file.states few, ((unsigned_Decides line.number place).1 is.number, (refl, (row_kept file line.row is.row, tt))))

-- ---- access words

width_is : (file : AutomatonFile) (letter : List Bool) → has_width file letter ≡ true → HasWidth file letter
width_is file letter kept = (unsigned_Decides (length letter) (length file.names)).0 kept

width_kept : (file : AutomatonFile) (letter : List Bool) → HasWidth file letter → has_width file letter ≡ true
width_kept file letter is = (unsigned_Decides (length letter) (length file.names)).1 is

access_is : (file : AutomatonFile) (place : ℕ) (access : Access) → AreKept (keeps_how_access file place access) → IsHowAccess file place access
access_is file place EmptyAccess kept = (unsigned_Decides place 0).0 kept.0
access_is file place (StartAccess letter) kept = width_is file letter kept.1.0
access_is file place (AfterAccess state letter) kept =
    let before = goes file place state kept.0 in
    record { not_start = before.not_start; is_state = before.is_state; earlier = before.in_order; width = width_is file letter kept.1.0 }

in_order : (place state : ℕ) → (0 < place → state < place) → (nat_eq place 0 || nat_lt state place) ≡ true
in_order place state earlier = elim (cases_lt 0 place) [
  | inl later ↦ rw (lt-ltb state place (earlier later)) (either_is (nat_eq place 0))
  | inr start ↦ rw ((unsigned_Decides place 0).1 (omega arith)) refl
]
  where
    either_is : (b : Bool) → (b || true) ≡ true
    either_is true = refl
    either_is false = refl

access_how_kept : (file : AutomatonFile) (place : ℕ) (access : Access) → IsHowAccess file place access → AreKept (keeps_how_access file place access)
access_how_kept file place EmptyAccess is = ((unsigned_Decides place 0).1 is, tt)
access_how_kept file place (StartAccess letter) is = (refl, (width_kept file letter is, tt))
access_how_kept file place (AfterAccess state letter) is = (
  both_true (nat_lt 0 state && nat_lt state file.states) _
      (both_true (nat_lt 0 state) _ (lt-ltb 0 state is.not_start) (lt-ltb state file.states is.is_state)) (in_order place state is.earlier),
  (width_kept file letter is.width, tt),
)

access_kept : (file : AutomatonFile) (place : ℕ) (line : AccessLine) → has_all_states file ≡ true → IsGoodAccessLine file place line → place < file.states
    → AreKept (keeps_access file place line)
access_kept file place line enough is few =
    (both_true (has_all_states file) _ enough (lt-ltb place file.states few), ((unsigned_Decides line.number place).1 is.number, access_how_kept file place line.access is.how))

-- ---- suffixes

suffix_is : (file : AutomatonFile) (place : ℕ) (suffix : Suffix) → AreKept (keeps_how_suffix file place suffix) → IsHowSuffix file place suffix
suffix_is file place EmptySuffix kept = (unsigned_Decides place 0).0 kept.0
suffix_is file place (ThenSuffix letter suffix) kept =
    record { width = width_is file letter (both (nat_lt 0 place) (has_width file letter) kept.0).1; earlier = ltb-true suffix place kept.1.0 }

suffix_how_kept : (file : AutomatonFile) (place : ℕ) (suffix : Suffix) → IsHowSuffix file place suffix → AreKept (keeps_how_suffix file place suffix)
suffix_how_kept file place EmptySuffix is = ((unsigned_Decides place 0).1 is, tt)
suffix_how_kept file place (ThenSuffix letter suffix) is =
    (both_true (nat_lt 0 place) _ (lt-ltb 0 place (let earlier = is.earlier in omega arith)) (width_kept file letter is.width), (lt-ltb suffix place is.earlier, tt))

few_of_suffix : (file : AutomatonFile) (place : ℕ) (suffix : Suffix) → length (keeps_how_suffix file place suffix) ≤ length (how_suffix suffix)
few_of_suffix file place EmptySuffix = omega arith
few_of_suffix file place (ThenSuffix letter suffix) = omega arith

good_suffix_lines : (file : AutomatonFile) → AllKeep (judged suffix_words (keeps_suffix file) file.suffix_lines) → AtEachPlace (IsGoodSuffixLine file) file.suffix_lines
good_suffix_lines file is k d within =
    let line = get_or file.suffix_lines k d in
    let kept = kept_kind suffix_words (keeps_suffix file) (λ number line. let size = few_of_suffix file number line.suffix in omega arith) file.suffix_lines is k d within in
    record { number = (unsigned_Decides line.number k).0 kept.1.0; how = suffix_is file k line.suffix kept.1.1 }

-- ---- steps

step_is : (part : StepPart) (place : ℕ) (line : StepLine) → AreKept (keeps_step part place line) → IsGoodStepLine place line
step_is part place line are =
    let states = both (nat_lt 0 line.states) (nat_le line.states most_states) are.1.1.1.1.1.0 in
    record {
      number = (unsigned_Decides line.number place).0 are.1.0;
      at = leb-true line.at most_start are.1.1.1.0;
      some = ltb-true 0 line.states states.0;
      states = leb-true line.states most_states states.1;
      nodes = leb-true line.nodes most_nodes are.1.1.1.1.1.1.1.0;
    }

step_kept : (part : StepPart) (place : ℕ) (line : StepLine) → IsGoodStepLine place line → place < part.count → AreKept (keeps_step part place line)
step_kept part place line is few =
    let states = both_true (nat_lt 0 line.states) (nat_le line.states most_states) (lt-ltb 0 line.states is.some) (le-leb line.states most_states is.states) in (
      lt-ltb place part.count few,
      ((unsigned_Decides line.number place).1 is.number, (refl, (le-leb line.at most_start is.at, (refl, (states, (refl, (le-leb line.nodes most_nodes is.nodes, tt))))))),
    )

no_step : StepLine
no_step = record { number = 0; at = 0; states = 0; nodes = 0 }

part_is : (file : AutomatonFile) (part : StepPart) → AllKeep (judged_steps file (Some part)) → has_all_steps (Some part) ≡ true → IsGoodStepPart part
part_is file part is all =
    let parts = in_parts (zip (steps_words part) (keeps_steps file part)) is in
    let count = words_keep (steps_words part) (keeps_steps file part) (omega arith) parts.0 in
    let each = λ (k : ℕ). λ (d : StepLine). λ (within : k < length part.lines). kept_kind step_words (keeps_step part) (λ number line. omega arith) part.lines parts.1 k d within in
    let enough = leb-true part.count (length part.lines) all in
    let most = no_more (length part.lines) part.count (λ many. ltb-true part.count part.count (each part.count no_step many).0) in
    record {
      few = leb-true part.count most_steps count.1.0;
      count = omega arith;
      lines = λ k d within. step_is part k (get_or part.lines k d) (each k d within);
    }

steps_are : (file : AutomatonFile) (steps : Option StepPart) → AllKeep (judged_steps file steps) → has_all_steps steps ≡ true → IfSome steps IsGoodStepPart
steps_are file None is all = tt
steps_are file (Some part) is all = part_is file part is all

steps_kept : (file : AutomatonFile) (steps : Option StepPart) → has_all_access file ≡ true → IfSome steps IsGoodStepPart → AllKeep (judged_steps file steps)
steps_kept file None enough is = none_kept
steps_kept file (Some part) enough is =
    in_turn (kept_words (steps_words part) (keeps_steps file part) (enough, (le-leb part.count most_steps is.few, tt)))
    (kind_kept step_words (keeps_step part) part.lines (λ k d within. step_kept part k (get_or part.lines k d) (is.lines k d within) (let count = is.count in omega arith)))

all_steps : (steps : Option StepPart) → IfSome steps IsGoodStepPart → has_all_steps steps ≡ true
all_steps None is = refl
all_steps (Some part) is = le-leb part.count (length part.lines) (let count = is.count in omega arith)

-- ---- the file

good_in_words : (file : AutomatonFile) → IsGood file → IsGoodFile file
good_in_words file good =
    let is = good_file file good in
    let are = kept_before file good in
    let names = words_keep (codes "variables" ∷ name_words file.names) (true ∷ keeps_names file.names) (let size = length-keeps_names file.names in omega arith) are.variables in
    record {
      names = are_names file.names names.1;
      some = is.some;
      states = is.few;
      nodes = is.nodes;
      node_lines = λ k d within. good_node_line file k (get_or file.node_lines k d) (is.node k d within);
      nodes_differ = λ i j d before within same.
          let other = fails_before (is_same_node (get_or file.node_lines j d)) file.node_lines j i d (is.node j d within).is_new before within in
          false≢true (sym other ∙ is_node (get_or file.node_lines j d) (get_or file.node_lines i d) same);
      all_states = is.states;
      state_lines = λ k d within.
          let line = is.state k d within in
          record { number = line.number; row = row_is file (get_or file.state_lines k d).row line.row };
      all_access = is.words;
      access_lines = λ k d within.
          let line = is.access k d within in
          record { number = line.number; how = access_is file k (get_or file.access_lines k d).access line.how };
      suffix_lines = good_suffix_lines file are.suffix_lines;
      steps = steps_are file file.steps are.steps are.has_all_steps;
    }

kept_parts : (file : AutomatonFile) → IsGoodFile file → AreKeptBefore file
kept_parts file is =
    let states = is.all_states in
    let access = is.all_access in
    let nodes = is.nodes in
    let enough = le-leb file.states (length file.state_lines) (omega arith) in
    let all = both_true (has_all_states file) _ enough (le-leb file.states (length file.access_lines) (omega arith)) in
    record {
      variables = kept_words (codes "variables" ∷ name_words file.names) (true ∷ keeps_names file.names) (refl, names_kept file.names is.names);
      states = kept_words (codes "states" ∷ decimal file.states ∷ []) (true ∷ (nat_lt 0 file.states && nat_le file.states most_states) ∷ [])
          (refl, (both_true (nat_lt 0 file.states) _ (lt-ltb 0 file.states is.some) (le-leb file.states most_states is.states), tt));
      node_lines = kind_kept node_words (keeps_node file) file.node_lines (λ k d within.
          let line = get_or file.node_lines k d in
          node_kept file k line (is.node_lines k d within) (omega arith)
          (none_before (is_same_node line) file.node_lines k within (λ earlier e before.
          other_node line (get_or file.node_lines earlier e) (λ same.
          is.nodes_differ earlier k e before within (subst (λ other. AreSameNode (get_or file.node_lines earlier e) other) (get_or_default file.node_lines k d e within) same)))));
      state_lines = kind_kept state_words (keeps_state file) file.state_lines (λ k d within.
          state_kept file k (get_or file.state_lines k d) (is.state_lines k d within) (omega arith));
      access_lines = kind_kept access_words (keeps_access file) file.access_lines (λ k d within.
          access_kept file k (get_or file.access_lines k d) enough (is.access_lines k d within) (omega arith));
      suffix_lines = kind_kept suffix_words (keeps_suffix file) file.suffix_lines (λ k d within.
          let line = get_or file.suffix_lines k d in
          let good = is.suffix_lines k d within in
          (all, ((unsigned_Decides line.number k).1 good.number, suffix_how_kept file k line.suffix good.how)));
      steps = steps_kept file file.steps all is.steps;
      has_all_access = all;
      has_all_steps = all_steps file.steps is.steps;
    }

pub good_files_in_words : GoodFilesInWords
good_files_in_words file = (good_in_words file, λ is. good_again file (kept_parts file is))
