-- What the table rules say of a file that keeps them all, as the tests that they are: its lines stand at their numbers, and what they name
-- is there. `InWords` goes on from here.
use Rattle.std.proofs.Common.{◌≡◌, ◌≢◌, ℕ, zero, suc, ◌+◌, ◌<◌, ◌≤◌, Bool, true, false, not, ◌&&◌, List, [], ◌∷◌, ◌++◌}
use Rattle.std.proofs.Common.{length, map, take, get_or, None, Some, inl, inr, refl, sym, ap, ◌∙◌, subst, arith}
use Rattle.std.specs.Prelude.{codes, nat_lt, nat_le}
use Rattle.std.specs.Cmp.{unsigned_Decides}
use Rattle.std.specs.Fmt.{decimal}
use Rattle.std.specs.List.{list_all, list_any, flat_map, enumerate_from, zip}
use Rattle.std.proofs.lemmas.Bool.{cases_lt, ltb-true, leb-true, false≢true}
use Rattle.std.proofs.lemmas.List.{length-map}
use Rattle.std.proofs.lemmas.List.Folds.{list_all-append}
use Rattle.std.proofs.lemmas.List.FromFn.{length-enumerate_from}
use Rattle.dcv_language.specs.Limits.{most_variables, most_states, most_nodes}
use Rattle.dcv_language.specs.declared.child.Child.{Child}
use Rattle.dcv_language.specs.declared.child.Child.TheVariants.{State, Node}
use Rattle.dcv_automaton_text.specs.File.{NodeLine, StateLine, AutomatonFile}
use Rattle.dcv_automaton_text.specs.File.{Access, EmptyAccess, StartAccess, AfterAccess, AccessLine}
use Rattle.dcv_automaton_text.specs.Spelled.{name_words, node_words, state_words, how_access, access_words, suffix_words, version_word, head_lines}
use Rattle.dcv_automaton_text.specs.Rules.{is_listed, keeps_name, keeps_child}
use Rattle.dcv_automaton_text.specs.Rules.{is_same_target, is_same_node, keeps_node, keeps_row, keeps_state}
use Rattle.dcv_automaton_text.specs.Rules.{keeps_how_access, has_all_states, keeps_access, has_all_access, keeps_suffix, has_all_steps, judged_steps}
use Rattle.dcv_automaton_text.specs.Rules.{judged, keeps_names, keeps_head, judged_words, first_broken, IsGood}
use Rattle.dcv_automaton_text.proofs.Kept.{AreKept, keeps, AllKeep, both}

pub turned : (b : Bool) → not b ≡ true → b ≡ false
turned true h = absurd (false≢true h)
turned false h = refl

-- ---- words that keep the rules

pub all_keep : (words : List (List ℕ × Bool)) (at : ℕ) → first_broken at words ≡ None → AllKeep words
all_keep [] at none = record { all = refl }
all_keep ((word, true) ∷ words) at none = record { all = (all_keep words (at + length word + 1) none).all }
all_keep ((word, false) ∷ words) at none = absurd (let wrong : Some at ≡ None = none in cc)

pub in_parts : (words : List (List ℕ × Bool)) {more : List (List ℕ × Bool)} → AllKeep (words ++ more) → AllKeep words × AllKeep more
in_parts words {more} is =
    let parts = both (list_all keeps words) (list_all keeps more) (sym (list_all-append keeps words more) ∙ is.all) in
    (record { all = parts.0 }, record { all = parts.1 })

pub kept_words : (words : List (List ℕ)) (kept : List Bool) → length kept ≤ length words → AllKeep (zip words kept) → AreKept kept
kept_words words [] few is = tt
kept_words [] (one ∷ kept) few is = absurd (omega arith)
kept_words (word ∷ words) (one ∷ kept) few is =
    let parts = both one (list_all keeps (zip words kept)) is.all in
    (parts.0, kept_words words kept (omega arith) (record { all = parts.1 }))

module _ {Line : Type 0} (words : Line → List (List ℕ)) (kept : ℕ → Line → List Bool) (few : (number : ℕ) (line : Line) → length (kept number line) ≤ length (words line)) where
  abbrev judged_from : ℕ → List Line → List (List ℕ × Bool)
  judged_from first lines = flat_map (λ numbered. zip (words numbered.1) (kept numbered.0 numbered.1)) (enumerate_from first lines)

  kept_lines : (lines : List Line) (first : ℕ) → AllKeep (judged_from first lines) → (k : ℕ) (d : Line) → k < length lines → AreKept (kept (first + k) (get_or lines k d))
  kept_lines [] first is k d within = absurd (omega arith)
  kept_lines (line ∷ lines) first is zero d within =
      let here : first ≡ first + 0 = omega arith in
      let parts = in_parts (zip (words line) (kept first line)) is in
      subst (λ at. AreKept (kept at line)) here (kept_words (words line) (kept first line) (few first line) parts.0)
  kept_lines (line ∷ lines) first is (suc k) d within =
      let next : first + 1 + k ≡ first + suc k = omega arith in
      let parts = in_parts (zip (words line) (kept first line)) is in
      subst (λ at. AreKept (kept at (get_or lines k d))) next (kept_lines lines (first + 1) parts.1 k d (omega arith))

  pub kept_kind : (lines : List Line) → AllKeep (judged_from 0 lines) → (k : ℕ) (d : Line) → k < length lines → AreKept (kept k (get_or lines k d))
  kept_kind lines is k d within = subst (λ at. AreKept (kept at (get_or lines k d))) (let here : 0 + k ≡ k = omega arith in here) (kept_lines lines 0 is k d within)

-- ---- names

pub length-keeps_names : (names : List (List ℕ)) → length (keeps_names names) ≤ length (name_words names)
length-keeps_names [] = omega arith
length-keeps_names (name ∷ names) =
    let numbered = enumerate_from 0 (name ∷ names) in
    omega (arith, length-map numbered (λ (numbered : ℕ × List ℕ). keeps_name (name ∷ names) numbered.0 numbered.1), length-enumerate_from 0 (name ∷ names))

pub each_name : (names rest : List (List ℕ)) (first : ℕ) → AreKept (map (λ numbered. keeps_name names numbered.0 numbered.1) (enumerate_from first rest))
    → (k : ℕ) → k < length rest → keeps_name names (first + k) (get_or rest k []) ≡ true
each_name names [] first are k within = absurd (omega arith)
each_name names (name ∷ rest) first are zero within = subst (λ at. keeps_name names at name ≡ true) (let here : first ≡ first + 0 = omega arith in here) are.0
each_name names (name ∷ rest) first are (suc k) within =
    subst (λ at. keeps_name names at (get_or rest k []) ≡ true) (let next : first + 1 + k ≡ first + suc k = omega arith in next)
    (each_name names rest (first + 1) are.1 k (omega arith))

pub few_names : (names : List (List ℕ)) → AreKept (keeps_names names) → length names ≤ most_variables
few_names [] are = omega arith
few_names (name ∷ names) are =
    elim (cases_lt 16 (length (name ∷ names))) [
      | inl many ↦ absurd (false≢true (each_name (name ∷ names) (name ∷ names) 0 are 16 many))
      | inr few ↦ few
    ]

-- ---- lines

pub same_target : (target : Child) → is_same_target target target ≡ true
same_target (State number) = (unsigned_Decides number number).1 refl
same_target (Node number) = (unsigned_Decides number number).1 refl

-- the line of the node with this number
pub record IsGoodNode (file : AutomatonFile) (place : ℕ) (line : NodeLine) : Type 0 where
  pub number : line.number ≡ place
  pub few : place < most_nodes
  pub is_new : list_any (is_same_node line) (take place file.node_lines) ≡ false
  pub listed : is_listed file.names line.name ≡ true
  pub hi : keeps_child file place line.hi ≡ true
  pub lo : keeps_child file place line.lo ≡ true
  pub differ : line.hi ≢ line.lo

good_node : (file : AutomatonFile) (place : ℕ) (line : NodeLine) → AreKept (keeps_node file place line) → IsGoodNode file place line
good_node file place line are =
    let tag = both (nat_lt place most_nodes) (not (list_any (is_same_node line) (take place file.node_lines))) are.0 in
    let last = both (keeps_child file place line.lo) (not (is_same_target line.hi line.lo)) are.1.1.1.1.1.1.0 in
    record {
      number = (unsigned_Decides line.number place).0 are.1.0;
      few = ltb-true place most_nodes tag.0;
      is_new = turned (list_any (is_same_node line) (take place file.node_lines)) tag.1;
      listed = are.1.1.0;
      hi = are.1.1.1.1.0;
      lo = last.0;
      differ = λ same. false≢true (sym (turned (is_same_target line.hi line.lo) last.1) ∙ ap (is_same_target line.hi) (sym same) ∙ same_target line.hi);
    }

pub record IsGoodState (file : AutomatonFile) (place : ℕ) (line : StateLine) : Type 0 where
  pub number : line.number ≡ place
  pub is_state : place < file.states
  pub row : keeps_row file line.row ≡ true

good_state : (file : AutomatonFile) (place : ℕ) (line : StateLine) → AreKept (keeps_state file place line) → IsGoodState file place line
good_state file place line are = record { number = (unsigned_Decides line.number place).0 are.1.0; is_state = ltb-true place file.states are.0; row = are.1.1.1.0 }

pub record IsGoodAccess (file : AutomatonFile) (place : ℕ) (line : AccessLine) : Type 0 where
  pub number : line.number ≡ place
  pub is_state : place < file.states
  pub how : AreKept (keeps_how_access file place line.access)

good_access : (file : AutomatonFile) (place : ℕ) (line : AccessLine) → AreKept (keeps_access file place line) → IsGoodAccess file place line
good_access file place line are =
    let tag = both (has_all_states file) (nat_lt place file.states) are.0 in
    record { number = (unsigned_Decides line.number place).0 are.1.0; is_state = ltb-true place file.states tag.1; how = are.1.1 }

-- ---- the file

-- no more lines than places that keep the rules
pub no_more : (count states : ℕ) → (states < count → states < states) → count ≤ states
no_more count states each =
    elim (cases_lt states count) [
      | inl many ↦ absurd (let wrong = each many in omega arith)
      | inr few ↦ few
    ]

pub record IsGoodFile (file : AutomatonFile) : Type 0 where
  pub names : length file.names ≤ most_variables
  pub some : 0 < file.states
  pub few : file.states ≤ most_states
  pub node : (k : ℕ) (d : NodeLine) → k < length file.node_lines → IsGoodNode file k (get_or file.node_lines k d)
  pub nodes : length file.node_lines ≤ most_nodes
  pub state : (k : ℕ) (d : StateLine) → k < length file.state_lines → IsGoodState file k (get_or file.state_lines k d)
  pub states : length file.state_lines ≡ file.states
  pub access : (k : ℕ) (d : AccessLine) → k < length file.access_lines → IsGoodAccess file k (get_or file.access_lines k d)
  pub words : length file.access_lines ≡ file.states

abbrev pub head_judged : AutomatonFile → List (List ℕ × Bool)
head_judged file = flat_map (λ line. zip line.0 line.1) (zip (head_lines file) (keeps_head file))

few_of_access : (file : AutomatonFile) (place : ℕ) (access : Access) → length (keeps_how_access file place access) ≤ length (how_access access)
few_of_access file place EmptyAccess = omega arith
few_of_access file place (StartAccess letter) = omega arith
few_of_access file place (AfterAccess state letter) = omega arith

no_node : NodeLine
no_node = record { number = 0; name = []; hi = State 0; lo = State 0 }

no_state : StateLine
no_state = record { number = 0; accepting = false; row = State 0 }

no_access : AccessLine
no_access = record { number = 0; access = EmptyAccess }

pub good_file : (file : AutomatonFile) → IsGood file → IsGoodFile file
unfolding judged_words
good_file file is =
    let all = all_keep (judged_words file) 0 is in
    let head = in_parts (head_judged file) all in
    let nodes = in_parts (judged node_words (keeps_node file) file.node_lines) head.1 in
    let states = in_parts (judged state_words (keeps_state file) file.state_lines) nodes.1 in
    let words = in_parts (judged access_words (keeps_access file) file.access_lines) states.1 in
    let ends = in_parts (judged suffix_words (keeps_suffix file) file.suffix_lines) words.1 in
    let first = in_parts (zip (codes "automaton" ∷ version_word file.steps ∷ []) (true ∷ true ∷ [])) head.0 in
    let variables = in_parts (zip (codes "variables" ∷ name_words file.names) (true ∷ keeps_names file.names)) first.1 in
    let numbers = in_parts (zip (codes "states" ∷ decimal file.states ∷ []) (true ∷ (nat_lt 0 file.states && nat_le file.states most_states) ∷ [])) variables.1 in
    let number = kept_words (codes "states" ∷ decimal file.states ∷ []) (true ∷ (nat_lt 0 file.states && nat_le file.states most_states) ∷ []) (omega arith) numbers.0 in
    let named = kept_words (codes "variables" ∷ name_words file.names) (true ∷ keeps_names file.names) (let size = length-keeps_names file.names in omega arith) variables.0 in
    let count = both (nat_lt 0 file.states) (nat_le file.states most_states) number.1.0 in
    let node = λ (k : ℕ). λ (d : NodeLine). λ (within : k < length file.node_lines).
    good_node file k (get_or file.node_lines k d) (kept_kind node_words (keeps_node file) (λ number line. omega arith) file.node_lines nodes.0 k d within) in
    let state = λ (k : ℕ). λ (d : StateLine). λ (within : k < length file.state_lines).
    good_state file k (get_or file.state_lines k d) (kept_kind state_words (keeps_state file) (λ number line. omega arith) file.state_lines states.0 k d within) in
    let access = λ (k : ℕ). λ (d : AccessLine). λ (within : k < length file.access_lines).
    good_access file k (get_or file.access_lines k d)
    (kept_kind access_words (keeps_access file) (λ number line. let size = few_of_access file number line.access in omega arith) file.access_lines words.0 k d within) in
    let steps = in_parts (judged_steps file file.steps) ends.1 in
    let has_all = has_all_access file && has_all_steps file.steps in
    let end = kept_words (codes "end" ∷ []) (has_all ∷ []) (omega arith) (in_parts (zip (codes "end" ∷ []) (has_all ∷ [])) steps.1).0 in
    let enough_access = both (has_all_access file) (has_all_steps file.steps) end.0 in
    let enough = both (has_all_states file) (nat_le file.states (length file.access_lines)) enough_access.0 in
    let enough_states = leb-true file.states (length file.state_lines) enough.0 in
    let enough_words = leb-true file.states (length file.access_lines) enough.1 in
    let no_more_states = no_more (length file.state_lines) file.states (λ many. (state file.states no_state many).is_state) in
    let no_more_words = no_more (length file.access_lines) file.states (λ many. (access file.states no_access many).is_state) in
    record {
      names = few_names file.names named.1;
      some = ltb-true 0 file.states count.0;
      few = leb-true file.states most_states count.1;
      node = node;
      nodes = no_more (length file.node_lines) most_nodes (λ many. (node most_nodes no_node many).few);
      state = state;
      states = omega arith;
      access = access;
      words = omega arith;
    }
