-- A text has one file: its lines are read from its bytes, the lines of each kind from their first words, and what they say from their words.
use Rattle.std.proofs.Common.{◌≡◌, ◌≢◌, ℕ, suc, Bool, true, false, List, [], ◌∷◌, ◌++◌, Option, None, Some, length, map, drop, refl, sym, ap, ◌∙◌, arith}
use Rattle.std.specs.Prelude.{codes, bytes_eq, slice_index_or, nat_eq, IfSome}
use Rattle.std.specs.Char.{is_ascii_digit}
use Rattle.std.specs.Fmt.{decimal}
use Rattle.std.specs.List.{All, list_all}
use Rattle.std.proofs.lemmas.Fmt.{decimal_injective}
use Rattle.dcv_word.specs.Laws.{LineIsOfOneLetter}
use Rattle.dcv_language.specs.declared.child.Child.{Child}
use Rattle.dcv_language.specs.declared.child.Child.TheVariants.{State, Node}
use Rattle.dcv_automaton_text.specs.File.{NodeLine, StateLine, Access, EmptyAccess, StartAccess, AfterAccess, AccessLine}
use Rattle.dcv_automaton_text.specs.File.{Suffix, EmptySuffix, ThenSuffix, SuffixLine, StepLine, StepPart, AutomatonFile}
use Rattle.dcv_automaton_text.specs.Spelled.{target_word, answer_word, name_words, node_words, state_words, how_access, access_words, how_suffix, suffix_words}
use Rattle.dcv_automaton_text.specs.Spelled.{version_word, step_words, step_part, end_lines, lines_of, spelled}
use Rattle.dcv_automaton_text.specs.Form.{IsNumber, IsNameWord, IsTarget, IsNodeLine, IsStateLine, IsAccess, IsAccessLine, IsSuffix, IsSuffixLine, IsStepLine, IsStepPart, IsSpellable}
use Rattle.dcv_automaton_text.specs.Laws.{OneFile}
use Rattle.dcv_automaton_text.proofs.Words.{AreVisible, decimal_is_visible, letter_is_visible, digits_are, AreWords, IsLine, AreLines, lines_in_turn, lines_of_each, lines_read}

-- ---- words

same_numbers : (a b : ℕ) → IsNumber a → IsNumber b → decimal a ≡ decimal b → a ≡ b
same_numbers a b small other same = decimal_injective a b (omega arith) (omega arith) same

same_targets : (a b : Child) → IsTarget a → IsTarget b → target_word a ≡ target_word b → a ≡ b
same_targets (State a) (State b) small other same = ap State (same_numbers a b small other cc)
same_targets (State a) (Node b) small other same = absurd (let wrong : nat_eq 116 116 ≡ nat_eq 110 116 = ap (λ word. nat_eq (slice_index_or word 0 0) 116) same in cc)
same_targets (Node a) (State b) small other same = absurd (let wrong : nat_eq 110 116 ≡ nat_eq 116 116 = ap (λ word. nat_eq (slice_index_or word 0 0) 116) same in cc)
same_targets (Node a) (Node b) small other same = ap Node (same_numbers a b small other cc)

same_answers : (a b : Bool) → answer_word a ≡ answer_word b → a ≡ b
same_answers true true same = refl
same_answers true false same = absurd (let wrong : true ≡ false = ap (λ word. bytes_eq word (codes "accept")) same in cc)
same_answers false true same = absurd (let wrong : false ≡ true = ap (λ word. bytes_eq word (codes "accept")) same in cc)
same_answers false false same = refl

-- ---- lines of nodes and states

same_node : (a b : NodeLine) → IsNodeLine a → IsNodeLine b → node_words a ≡ node_words b → a ≡ b
same_node a b small other same =
    let numbers = same_numbers a.number b.number small.number other.number (ap (λ words. drop 1 (slice_index_or words 1 [])) same) in
    let names : a.name ≡ b.name = ap (λ words. slice_index_or words 2 []) same in
    let his = same_targets a.hi b.hi small.hi other.hi (ap (λ words. slice_index_or words 4 []) same) in
    let los = same_targets a.lo b.lo small.lo other.lo (ap (λ words. slice_index_or words 6 []) same) in
    λ i. record { number = numbers i; name = names i; hi = his i; lo = los i }

same_state : (a b : StateLine) → IsStateLine a → IsStateLine b → state_words a ≡ state_words b → a ≡ b
same_state a b small other same =
    let numbers = same_numbers a.number b.number small.number other.number (ap (λ words. slice_index_or words 1 []) same) in
    let answers = same_answers a.accepting b.accepting (ap (λ words. slice_index_or words 2 []) same) in
    let rows = same_targets a.row b.row small.row other.row (ap (λ words. slice_index_or words 3 []) same) in
    λ i. record { number = numbers i; accepting = answers i; row = rows i }

-- ---- lines of steps

same_step : (a b : StepLine) → IsStepLine a → IsStepLine b → step_words a ≡ step_words b → a ≡ b
same_step a b small other same =
    let numbers = same_numbers a.number b.number small.number other.number (ap (λ words. slice_index_or words 1 []) same) in
    let starts = same_numbers a.at b.at small.at other.at (ap (λ words. slice_index_or words 3 []) same) in
    let states = same_numbers a.states b.states small.states other.states (ap (λ words. slice_index_or words 5 []) same) in
    let nodes = same_numbers a.nodes b.nodes small.nodes other.nodes (ap (λ words. slice_index_or words 7 []) same) in
    λ i. record { number = numbers i; at = starts i; states = states i; nodes = nodes i }

-- ---- access words and suffixes

-- `start` is no number
not_a_number : (n : ℕ) → IsNumber n → codes "start" ≡ decimal n → ⊥
not_a_number n small same = let wrong : false ≡ true = ap (list_all is_ascii_digit) same ∙ digits_are n small in cc

module _ (letters : LineIsOfOneLetter) where
  same_access : (a b : Access) → IsAccess a → IsAccess b → how_access a ≡ how_access b → a ≡ b
  same_access EmptyAccess EmptyAccess small other same = refl
  same_access EmptyAccess (StartAccess letter) small other same = absurd (let wrong : nat_eq 1 1 ≡ nat_eq 2 1 = ap (λ words. nat_eq (length words) 1) same in cc)
  same_access EmptyAccess (AfterAccess state letter) small other same = absurd (let wrong : nat_eq 1 1 ≡ nat_eq 2 1 = ap (λ words. nat_eq (length words) 1) same in cc)
  same_access (StartAccess letter) EmptyAccess small other same = absurd (let wrong : nat_eq 2 1 ≡ nat_eq 1 1 = ap (λ words. nat_eq (length words) 1) same in cc)
  same_access (StartAccess letter) (StartAccess b) small other same = ap StartAccess (letters letter b (ap (λ words. slice_index_or words 1 []) same))
  same_access (StartAccess letter) (AfterAccess state b) small other same = absurd (not_a_number state other (ap (λ words. slice_index_or words 0 []) same))
  same_access (AfterAccess state letter) EmptyAccess small other same = absurd (let wrong : nat_eq 2 1 ≡ nat_eq 1 1 = ap (λ words. nat_eq (length words) 1) same in cc)
  same_access (AfterAccess state letter) (StartAccess b) small other same = absurd (not_a_number state small (sym (ap (λ words. slice_index_or words 0 []) same)))
  same_access (AfterAccess state a) (AfterAccess before b) small other same =
      let states = same_numbers state before small other (ap (λ words. slice_index_or words 0 []) same) in
      let last = letters a b (ap (λ words. slice_index_or words 1 []) same) in
      λ i. AfterAccess (states i) (last i)

  same_suffix : (a b : Suffix) → IsSuffix a → IsSuffix b → how_suffix a ≡ how_suffix b → a ≡ b
  same_suffix EmptySuffix EmptySuffix small other same = refl
  same_suffix EmptySuffix (ThenSuffix letter suffix) small other same = absurd (let wrong : nat_eq 1 1 ≡ nat_eq 2 1 = ap (λ words. nat_eq (length words) 1) same in cc)
  same_suffix (ThenSuffix letter suffix) EmptySuffix small other same = absurd (let wrong : nat_eq 2 1 ≡ nat_eq 1 1 = ap (λ words. nat_eq (length words) 1) same in cc)
  same_suffix (ThenSuffix a suffix) (ThenSuffix b earlier) small other same =
      let first = letters a b (ap (λ words. slice_index_or words 0 []) same) in
      let places = same_numbers suffix earlier small other (ap (λ words. slice_index_or words 1 []) same) in
      λ i. ThenSuffix (first i) (places i)

  same_access_line : (a b : AccessLine) → IsAccessLine a → IsAccessLine b → access_words a ≡ access_words b → a ≡ b
  same_access_line a b small other same =
      let numbers = same_numbers a.number b.number small.number other.number (ap (λ words. slice_index_or words 1 []) same) in
      let access = same_access a.access b.access small.access other.access (ap (drop 2) same) in
      λ i. record { number = numbers i; access = access i }

  same_suffix_line : (a b : SuffixLine) → IsSuffixLine a → IsSuffixLine b → suffix_words a ≡ suffix_words b → a ≡ b
  same_suffix_line a b small other same =
      let numbers = same_numbers a.number b.number small.number other.number (ap (λ words. slice_index_or words 1 []) same) in
      let suffixes = same_suffix a.suffix b.suffix small.suffix other.suffix (ap (drop 2) same) in
      λ i. record { number = numbers i; suffix = suffixes i }

-- ---- the lines of one kind, before lines of others

abbrev begins : List ℕ → List (List (List ℕ)) → Bool
begins tag lines = bytes_eq tag (slice_index_or (slice_index_or lines 0 []) 0 [])

-- lines of another kind do not begin so
skipped : {A : Type 0} (words : A → List (List ℕ)) (tag : List ℕ) (xs : List A) (more : List (List (List ℕ)))
    → ((x : A) (behind : List (List (List ℕ))) → begins tag (words x ∷ behind) ≡ false) → begins tag more ≡ false → begins tag (map words xs ++ more) ≡ false
skipped words tag [] more others none = none
skipped words tag (x ∷ xs) more others none = others x (map words xs ++ more)

module _ {A : Type 0} (words : A → List (List ℕ)) (P : A → Type 0) (tag : List ℕ) (tagged : (x : A) (behind : List (List (List ℕ))) → begins tag (words x ∷ behind) ≡ true)
    (same_line : (a b : A) → P a → P b → words a ≡ words b → a ≡ b) where
  kind_read : (xs ys : List A) (more other_more : List (List (List ℕ))) → All P xs → All P ys → begins tag more ≡ false → begins tag other_more ≡ false
      → map words xs ++ more ≡ map words ys ++ other_more → (xs ≡ ys) × (more ≡ other_more)
  kind_read [] [] more other_more each other_each none other_none same = (refl, same)
  kind_read [] (y ∷ ys) more other_more each other_each none other_none same =
      absurd (let wrong : false ≡ true = sym none ∙ ap (begins tag) same ∙ tagged y (map words ys ++ other_more) in cc)
  kind_read (x ∷ xs) [] more other_more each other_each none other_none same =
      absurd (let wrong : true ≡ false = sym (tagged x (map words xs ++ more)) ∙ ap (begins tag) same ∙ other_none in cc)
  kind_read (x ∷ xs) (y ∷ ys) more other_more each other_each none other_none same =
      let firsts : words x ≡ words y = cc in
      let others : map words xs ++ more ≡ map words ys ++ other_more = cc in
      let first = same_line x y (each 0 x (omega arith)) (other_each 0 y (omega arith)) firsts in
      let rest = kind_read xs ys more other_more (λ k d l. each (suc k) d (omega arith)) (λ k d l. other_each (suc k) d (omega arith)) none other_none others in
      (λ i. first i ∷ rest.0 i, rest.1)

-- ---- the step part

-- the lines from the step part on
abbrev last_part : Option StepPart → List (List (List ℕ))
last_part steps = step_part steps ++ end_lines

same_steps : (a b : Option StepPart) → IfSome a IsStepPart → IfSome b IsStepPart → last_part a ≡ last_part b → a ≡ b
same_steps None None small other same = refl
same_steps None (Some b) small other same = absurd (let wrong : true ≡ false = ap (begins (codes "end")) same in cc)
same_steps (Some a) None small other same = absurd (let wrong : false ≡ true = ap (begins (codes "end")) same in cc)
same_steps (Some a) (Some b) small other same =
    let counts = same_numbers a.count b.count small.count other.count (ap (λ lines. slice_index_or (slice_index_or lines 0 []) 1 []) same) in
    let lines = kind_read step_words IsStepLine (codes "step") (λ x behind. refl) same_step a.lines b.lines end_lines end_lines
    small.lines other.lines refl refl (ap (drop 1) same) in
    λ i. Some (record { count = counts i; lines = lines.0 i })

-- ---- the file

same_names : (names others : List (List ℕ)) → names ≢ codes "-" ∷ [] → others ≢ codes "-" ∷ [] → name_words names ≡ name_words others → names ≡ others
same_names [] [] dash other_dash same = refl
same_names [] (other ∷ others) dash other_dash same = absurd (other_dash (sym same))
same_names (name ∷ names) [] dash other_dash same = absurd (dash same)
same_names (name ∷ names) (other ∷ others) dash other_dash same = same

name_is_visible : (name : List ℕ) → IsNameWord name → AreVisible name
name_is_visible [] is = absurd cc
name_is_visible (b ∷ bytes) is = is

names_are_visible : (names : List (List ℕ)) → All IsNameWord names → AreWords names
names_are_visible [] each = tt
names_are_visible (name ∷ names) each = (name_is_visible name (each 0 name (omega arith)), names_are_visible names (λ k d l. each (suc k) d (omega arith)))

name_words_are : (names : List (List ℕ)) → All IsNameWord names → AreWords (name_words names)
name_words_are [] each = (refl, tt)
name_words_are (name ∷ names) each = names_are_visible (name ∷ names) each

target_is_visible : (target : Child) → IsTarget target → AreVisible (target_word target)
target_is_visible (State number) small = decimal_is_visible number small
target_is_visible (Node number) small = decimal_is_visible number small

answer_is_visible : (accepting : Bool) → AreVisible (answer_word accepting)
answer_is_visible true = refl
answer_is_visible false = refl

node_line_is : (line : NodeLine) → IsNodeLine line → IsLine (node_words line)
node_line_is line is =
    (refl, (decimal_is_visible line.number is.number, (name_is_visible line.name is.name, (refl, (target_is_visible line.hi is.hi, (refl, (target_is_visible line.lo is.lo, tt)))))))

state_line_is : (line : StateLine) → IsStateLine line → IsLine (state_words line)
state_line_is line is = (refl, (decimal_is_visible line.number is.number, (answer_is_visible line.accepting, (target_is_visible line.row is.row, tt))))

how_access_is : (access : Access) → IsAccess access → AreWords (how_access access)
how_access_is EmptyAccess is = (refl, tt)
how_access_is (StartAccess letter) is = (refl, (letter_is_visible letter, tt))
how_access_is (AfterAccess state letter) is = (decimal_is_visible state is, (letter_is_visible letter, tt))

access_line_is : (line : AccessLine) → IsAccessLine line → IsLine (access_words line)
access_line_is line is = (refl, (decimal_is_visible line.number is.number, how_access_is line.access is.access))

how_suffix_is : (suffix : Suffix) → IsSuffix suffix → AreWords (how_suffix suffix)
how_suffix_is EmptySuffix is = (refl, tt)
how_suffix_is (ThenSuffix letter suffix) is = (letter_is_visible letter, (decimal_is_visible suffix is, tt))

suffix_line_is : (line : SuffixLine) → IsSuffixLine line → IsLine (suffix_words line)
suffix_line_is line is = (refl, (decimal_is_visible line.number is.number, how_suffix_is line.suffix is.suffix))

version_is_visible : (steps : Option StepPart) → AreVisible (version_word steps)
version_is_visible None = refl
version_is_visible (Some part) = refl

step_line_is : (line : StepLine) → IsStepLine line → IsLine (step_words line)
step_line_is line is = (
  refl,
  (
    decimal_is_visible line.number is.number,
    (
      refl,
      (
        decimal_is_visible line.at is.at,
        (refl, (decimal_is_visible line.states is.states, (refl, (decimal_is_visible line.nodes is.nodes, tt)))),
      ),
    ),
  ),
)

steps_are : (steps : Option StepPart) → IfSome steps IsStepPart → AreLines (last_part steps)
steps_are None is = ((refl, tt), tt)
steps_are (Some part) is = (
  (refl, (decimal_is_visible part.count is.count, tt)),
  lines_in_turn (map step_words part.lines) _ (lines_of_each step_words IsStepLine step_line_is part.lines is.lines) ((refl, tt), tt),
)

pub are_lines : (file : AutomatonFile) → IsSpellable file → AreLines (lines_of file)
unfolding lines_of
are_lines file is = (
  (refl, (version_is_visible file.steps, tt)),
  (
    (refl, name_words_are file.names is.names),
    (
      (refl, (decimal_is_visible file.states is.states, tt)),
      lines_in_turn (map node_words file.node_lines) _ (lines_of_each node_words IsNodeLine node_line_is file.node_lines is.node_lines)
          (lines_in_turn (map state_words file.state_lines) _ (lines_of_each state_words IsStateLine state_line_is file.state_lines is.state_lines)
          (lines_in_turn (map access_words file.access_lines) _ (lines_of_each access_words IsAccessLine access_line_is file.access_lines is.access_lines)
          (lines_in_turn (map suffix_words file.suffix_lines) _ (lines_of_each suffix_words IsSuffixLine suffix_line_is file.suffix_lines is.suffix_lines) (steps_are file.steps is.steps)))),
    ),
  ),
)

-- the lines from those of one kind on
abbrev suffix_part : AutomatonFile → List (List (List ℕ))
suffix_part file = map suffix_words file.suffix_lines ++ last_part file.steps

abbrev access_part : AutomatonFile → List (List (List ℕ))
access_part file = map access_words file.access_lines ++ suffix_part file

abbrev state_part : AutomatonFile → List (List (List ℕ))
state_part file = map state_words file.state_lines ++ access_part file

-- the step part and the end begin so, and no other line does
record IsLast (lines : List (List (List ℕ))) : Type 0 where
  no_suffix : begins (codes "suffix") lines ≡ false
  no_access : begins (codes "access") lines ≡ false
  no_state : begins (codes "state") lines ≡ false
  no_node : begins (codes "node") lines ≡ false

behind_suffixes : (steps : Option StepPart) → IsLast (last_part steps)
behind_suffixes None = record { no_suffix = refl; no_access = refl; no_state = refl; no_node = refl }
behind_suffixes (Some part) = record { no_suffix = refl; no_access = refl; no_state = refl; no_node = refl }

behind_access : (file : AutomatonFile) → begins (codes "access") (suffix_part file) ≡ false
behind_access file =
    skipped suffix_words (codes "access") file.suffix_lines (last_part file.steps) (λ x behind. refl) (behind_suffixes file.steps).no_access

behind_states : (file : AutomatonFile) → begins (codes "state") (access_part file) ≡ false
behind_states file =
    skipped access_words (codes "state") file.access_lines (suffix_part file) (λ x behind. refl)
    (skipped suffix_words (codes "state") file.suffix_lines (last_part file.steps) (λ x behind. refl) (behind_suffixes file.steps).no_state)

behind_nodes : (file : AutomatonFile) → begins (codes "node") (state_part file) ≡ false
behind_nodes file =
    skipped state_words (codes "node") file.state_lines (access_part file) (λ x behind. refl)
    (skipped access_words (codes "node") file.access_lines (suffix_part file) (λ x behind. refl)
    (skipped suffix_words (codes "node") file.suffix_lines (last_part file.steps) (λ x behind. refl) (behind_suffixes file.steps).no_node))

same_files : LineIsOfOneLetter → (file other : AutomatonFile) → IsSpellable file → IsSpellable other → lines_of file ≡ lines_of other → file ≡ other
unfolding lines_of
same_files letters file other is other_is same =
    let names = same_names file.names other.names is.not_a_dash other_is.not_a_dash (ap (λ lines. drop 1 (slice_index_or lines 1 [])) same) in
    let states = same_numbers file.states other.states is.states other_is.states (ap (λ lines. slice_index_or (slice_index_or lines 2 []) 1 []) same) in
    let nodes = kind_read node_words IsNodeLine (codes "node") (λ x behind. refl) same_node file.node_lines other.node_lines (state_part file) (state_part other)
    is.node_lines other_is.node_lines (behind_nodes file) (behind_nodes other) (ap (drop 3) same) in
    let state_lines = kind_read state_words IsStateLine (codes "state") (λ x behind. refl) same_state file.state_lines other.state_lines (access_part file) (access_part other)
    is.state_lines other_is.state_lines (behind_states file) (behind_states other) nodes.1 in
    let access = kind_read access_words IsAccessLine (codes "access") (λ x behind. refl) (same_access_line letters) file.access_lines other.access_lines (suffix_part file) (suffix_part other)
    is.access_lines other_is.access_lines (behind_access file) (behind_access other) state_lines.1 in
    let suffixes = kind_read suffix_words IsSuffixLine (codes "suffix") (λ x behind. refl) (same_suffix_line letters) file.suffix_lines other.suffix_lines (last_part file.steps) (last_part other.steps)
    is.suffix_lines other_is.suffix_lines (behind_suffixes file.steps).no_suffix (behind_suffixes other.steps).no_suffix access.1 in
    let steps = same_steps file.steps other.steps is.steps other_is.steps suffixes.1 in
    λ i. record {
      names = names i;
      states = states i;
      node_lines = nodes.0 i;
      state_lines = state_lines.0 i;
      access_lines = access.0 i;
      suffix_lines = suffixes.0 i;
      steps = steps i;
    }

pub one_file : LineIsOfOneLetter → OneFile
unfolding spelled
one_file letters text file other is other_is =
    same_files letters file other is.spellable other_is.spellable
    (lines_read (lines_of file) (lines_of other) (are_lines file is.spellable) (are_lines other other_is.spellable) (sym is.spelled ∙ other_is.spelled))
