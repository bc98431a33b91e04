-- The words of the first lines, and of all parts of a file in turn.
use Rattle.std.proofs.Common.{◌≡◌, ℕ, suc, ◌+◌, Bool, true, ◌&&◌, List, [], ◌∷◌, ◌++◌, length, Option, None, Some, Result, Ok, Err, subst, arith}
use Rattle.std.specs.Prelude.{nat_lt, nat_le, codes}
use Rattle.std.specs.Fmt.{decimal}
use Rattle.std.specs.List.{flat_map, zip}
use Rattle.std.specs.Result.{IsErrAnd}
use Rattle.dcv_language.specs.Limits.{most_states}
use Rattle.dcv_automaton_text.specs.File.{AutomatonFile}
use Rattle.dcv_automaton_text.specs.Rules.{has_all_access, has_all_steps, judged_steps, judged_words}
use Rattle.dcv_automaton_text.specs.Spelled.{end_lines}
use Rattle.dcv_automaton_read.specs.declared.faults.Stop.{Stop}
use Rattle.dcv_automaton_read.specs.declared.faults.Stop.TheVariants.{Word}
use Rattle.dcv_automaton_read.specs.Judged.{IsJudged, IsJudgedWhole, first_word, first_false}
use Rattle.dcv_automaton_read.specs.Parts.{judged_names, judged_head, judged_nodes, judged_states, judged_access, judged_suffixes}
use Rattle.dcv_automaton_read.proofs.Judging.{in_turn, stops, whole_in_turn, whole_stops}

-- the words after the names
abbrev count_words : AutomatonFile → Bool → List (List ℕ × Bool)
count_words file kept = (codes "states", true) ∷ (decimal file.states, kept) ∷ []

pub head_judged : (file : AutomatonFile) (next : ℕ) (kept : Bool) (answer : Result ℕ Stop) → kept ≡ (nat_lt 0 file.states && nat_le file.states most_states)
    → IsJudged (first_word 3 (judged_names file.names)) (3 + length (judged_names file.names)) (Ok next)
    → IsJudged (first_false next (true ∷ kept ∷ [])) (next + 2) answer → IsJudged (first_word 0 (judged_head file)) (length (judged_head file)) answer
head_judged file next kept answer same names judged =
    let ends : suc (suc (suc (length (judged_names file.names ++ count_words file kept)))) ≡ 3 + length (judged_names file.names ++ count_words file kept) = omega arith in
    subst (λ one. IsJudged (first_word 3 (judged_names file.names ++ count_words file one)) (suc (suc (suc (length (judged_names file.names ++ count_words file one))))) answer) same
    (in_turn (judged_names file.names) (count_words file kept) 3 next _ answer names.0 names.1 judged ends)

pub head_stops : (file : AutomatonFile) (stop : Stop) → IsJudged (first_word 3 (judged_names file.names)) (3 + length (judged_names file.names)) (Err stop)
    → IsJudged (first_word 0 (judged_head file)) (length (judged_head file)) (Err stop)
head_stops file stop names =
    stops (judged_names file.names) (count_words file (nat_lt 0 file.states && nat_le file.states most_states)) 3 (3 + length (judged_names file.names)) (length (judged_head file)) stop names

-- ---- the parts of a file in turn

-- the words from those of one part on
abbrev pub end_part : AutomatonFile → List (List ℕ × Bool)
end_part file = flat_map (λ line. zip line ((has_all_access file && has_all_steps file.steps) ∷ [])) end_lines

abbrev pub from_steps : AutomatonFile → List (List ℕ × Bool)
from_steps file = judged_steps file file.steps ++ end_part file

abbrev pub from_suffixes : AutomatonFile → List (List ℕ × Bool)
from_suffixes file = judged_suffixes file ++ from_steps file

abbrev pub from_access : AutomatonFile → List (List ℕ × Bool)
from_access file = judged_access file ++ from_suffixes file

abbrev pub from_states : AutomatonFile → List (List ℕ × Bool)
from_states file = judged_states file ++ from_access file

abbrev pub from_nodes : AutomatonFile → List (List ℕ × Bool)
from_nodes file = judged_nodes file ++ from_states file

module _ {Whole : Type 0} (file : AutomatonFile) (answer : Result Whole Stop) where
  pub behind_head : (next : ℕ) → IsJudged (first_word 0 (judged_head file)) (length (judged_head file)) (Ok next) → IsJudgedWhole (first_word next (from_nodes file)) answer
      → IsJudgedWhole (first_word 0 (judged_words file)) answer
  unfolding judged_words
  behind_head next head rest = whole_in_turn (judged_head file) (from_nodes file) 0 next answer (head.0, omega (arith, head.1)) rest

  pub in_head : (stop : Stop) → IsErrAnd answer (λ e. e ≡ stop) → IsJudged (first_word 0 (judged_head file)) (length (judged_head file)) (Err stop) → IsJudgedWhole (first_word 0 (judged_words file)) answer
  unfolding judged_words
  in_head stop exits head = whole_stops (judged_head file) (from_nodes file) 0 (length (judged_head file)) stop answer exits head

  pub in_end : (first : ℕ) (kept : Bool) (stop : Stop) → kept ≡ (has_all_access file && has_all_steps file.steps) → IsErrAnd answer (λ e. e ≡ stop) → IsJudged (first_false first (kept ∷ [])) (first + 1) (Err stop)
      → IsJudgedWhole (first_word first (end_part file)) answer
  in_end first kept stop same exits judged =
      whole_stops (end_part file) [] first (first + 1) stop answer exits (subst (λ one. IsJudged (first_false first (one ∷ [])) (first + 1) (Err stop)) same judged)

pub end_kept : (file : AutomatonFile) (first next : ℕ) (kept : Bool) → kept ≡ (has_all_access file && has_all_steps file.steps) → IsJudged (first_false first (kept ∷ [])) (first + 1) (Ok next) → first_word first (end_part file) ≡ None
end_kept file first next kept same judged = subst (λ one. first_false first (one ∷ []) ≡ None) same judged.0

pub judged_stop : {Whole : Type 0} (found : Option ℕ) (result : Result Whole Stop) (number : ℕ) → result ≡ Err (Word number) → IsJudgedWhole found result → found ≡ Some number
judged_stop found result number is judged = subst (IsJudgedWhole found) is judged
