-- What is true of a file that keeps the rules.
use Rattle.std.proofs.Common.{◌≡◌, ℕ, zero, suc, ◌+◌, ◌<◌, ◌≤◌, Bool, true, false, ◌&&◌, List, [], ◌∷◌, ◌++◌, length, map, get_or, None, inl, inr, refl, subst, arith}
use Rattle.std.specs.List.{enumerate_from, zip}
use Rattle.std.specs.Prelude.{nat_lt, nat_le, codes}
use Rattle.std.specs.Fmt.{decimal}
use Rattle.std.proofs.lemmas.Bool.{and_parts, leb-true, ltb-true, cases_lt}
use Rattle.dcv_language.specs.Limits.{most_states}
use Rattle.dcv_language.specs.declared.child.Child.TheVariants.{State}
use Rattle.dcv_automaton_text.specs.File.{StateLine, AutomatonFile}
use Rattle.dcv_automaton_text.specs.Rules.{keeps_state, has_all_access, has_all_steps, judged_steps, judged_words, first_broken, IsGood}
use Rattle.dcv_automaton_text.specs.Spelled.{state_words}
use Rattle.dcv_automaton_read.specs.Parts.{judged_lines, judged_names, judged_head, judged_nodes, judged_states, judged_access, judged_suffixes}
use Rattle.dcv_automaton_read.proofs.HeadWords.{end_part, from_steps, from_suffixes, from_access, from_states, from_nodes}
use Rattle.dcv_automaton_read.proofs.NameWords.{one_word, keeps_word, names_as_lines, kept_are_few}

-- each word keeps the rules
abbrev pub AreKept : List (List ℕ × Bool) → Type 0
AreKept [] = Unit {0}
AreKept (word ∷ words) = (word.1 ≡ true) × AreKept words

pub all_kept : (words : List (List ℕ × Bool)) (at : ℕ) → first_broken at words ≡ None → AreKept words
all_kept [] at none = tt
all_kept ((word, true) ∷ words) at none = (refl, all_kept words (at + length word + 1) none)
all_kept ((word, false) ∷ words) at none = absurd cc

pub kept_parts : (a b : List (List ℕ × Bool)) → AreKept (a ++ b) → AreKept a × AreKept b
kept_parts [] b kept = (tt, kept)
kept_parts (word ∷ a) b kept = let rest = kept_parts a b kept.1 in ((kept.0, rest.0), rest.1)

module _ {Line : Type 0} (words : Line → List (List ℕ)) (keeps : ℕ → Line → List Bool) where
  -- of each line
  pub kept_at : (xs : List Line) (n k place : ℕ) (d : Line) → AreKept (judged_lines words keeps n xs) → k < length xs → place ≡ n + k → AreKept (zip (words (get_or xs k d)) (keeps place (get_or xs k d)))
  kept_at [] n k place d kept below is = absurd (omega arith)
  kept_at (x ∷ xs) n zero place d kept below is =
      let same : n ≡ place = omega arith in
      subst (λ at. AreKept (zip (words x) (keeps at x))) same (kept_parts (zip (words x) (keeps n x)) (judged_lines words keeps (n + 1) xs) kept).0
  kept_at (x ∷ xs) n (suc k) place d kept below is =
      kept_at xs (n + 1) k place d (kept_parts (zip (words x) (keeps n x)) (judged_lines words keeps (n + 1) xs) kept).1 (omega arith) (omega arith)

  -- lines whose numbers are their places are made again from what they say
  pub made_again : {Code Made : Type 0} (c : Code → Line) (f : Code → Made) (g : ℕ × Made → Line) → ((n : ℕ) (x : Code) → AreKept (zip (words (c x)) (keeps n (c x))) → g (n, f x) ≡ c x)
      → (xs : List Code) (n : ℕ) → AreKept (judged_lines words keeps n (map c xs)) → map g (enumerate_from n (map f xs)) ≡ map c xs
  made_again c f g each [] n kept = refl
  made_again c f g each (x ∷ xs) n kept =
      let parts = kept_parts (zip (words (c x)) (keeps n (c x))) (judged_lines words keeps (n + 1) (map c xs)) kept in
      let first = each n x parts.0 in
      let rest = made_again c f g each xs (n + 1) parts.1 in
      λ i. first i ∷ rest i

-- ---- the parts of a file that keeps the rules

pub record Parts (file : AutomatonFile) : Type 0 where
  pub names : AreKept (judged_names file.names)
  pub count : (nat_lt 0 file.states && nat_le file.states most_states) ≡ true
  pub nodes : AreKept (judged_nodes file)
  pub states : AreKept (judged_states file)
  pub access : AreKept (judged_access file)
  pub suffixes : AreKept (judged_suffixes file)
  pub steps : AreKept (judged_steps file file.steps)
  pub all : has_all_access file ≡ true
  pub all_steps : has_all_steps file.steps ≡ true

pub good_parts : (file : AutomatonFile) → IsGood file → Parts file
unfolding judged_words
good_parts file good =
    let whole = kept_parts (judged_head file) (from_nodes file) (all_kept (judged_words file) 0 good) in
    let nodes = kept_parts (judged_nodes file) (from_states file) whole.1 in
    let states = kept_parts (judged_states file) (from_access file) nodes.1 in
    let access = kept_parts (judged_access file) (from_suffixes file) states.1 in
    let suffixes = kept_parts (judged_suffixes file) (from_steps file) access.1 in
    let steps = kept_parts (judged_steps file file.steps) (end_part file) suffixes.1 in
    let ends = and_parts (has_all_access file) (has_all_steps file.steps) steps.1.0 in
    let count : List (List ℕ × Bool) = (codes "states", true) ∷ (decimal file.states, nat_lt 0 file.states && nat_le file.states most_states) ∷ [] in
    let head = kept_parts (judged_names file.names) count whole.0.1.1.1 in
    record {
      names = head.0;
      count = head.1.1.0;
      nodes = nodes.0;
      states = states.0;
      access = access.0;
      suffixes = suffixes.0;
      steps = steps.0;
      all = ends.0;
      all_steps = ends.1;
    }

pub names_are_few : (names : List (List ℕ)) → AreKept (judged_names names) → length names ≤ 16
names_are_few [] kept = omega arith
names_are_few (name ∷ names) kept =
    let all = name ∷ names in
    let last = length names in
    let lines = subst AreKept (names_as_lines all (omega arith)) kept in
    let flag = kept_at one_word (keeps_word all) all 0 last last [] lines (omega arith) (omega arith) in
    omega (arith, kept_are_few all last (get_or all last []) flag.0)

pub states_are_few : (file : AutomatonFile) → Parts file → file.states ≤ most_states
states_are_few file parts = leb-true file.states most_states (and_parts (nat_lt 0 file.states) (nat_le file.states most_states) parts.count).1

-- there are as many states as lines
pub all_states : (file : AutomatonFile) → Parts file → length file.state_lines ≡ file.states
all_states file parts =
    let enough = leb-true file.states (length file.state_lines)
    (and_parts (nat_le file.states (length file.state_lines)) (nat_le file.states (length file.access_lines)) parts.all).0 in
    elim (cases_lt file.states (length file.state_lines)) [
      | inl more ↦
          let nothing : StateLine = record { number = 0; accepting = false; row = State 0 } in
          let flag = kept_at state_words (keeps_state file) file.state_lines 0 file.states file.states nothing parts.states more (omega arith) in
          absurd (let below = ltb-true file.states file.states flag.0 in omega arith)
      | inr none ↦ omega (arith, enough, none)
    ]
