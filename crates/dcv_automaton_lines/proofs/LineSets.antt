-- Lines without their first word: some of each kind, none begins another, and where a text is stuck in one.
use Rattle.std.proofs.Common.{◌≡◌, ℕ, ◌^◌, ◌<◌, Bool, true, false, ◌||◌, List, [], ◌∷◌, ◌++◌, inl, length, map, refl, sym, ap, ◌∙◌, arith}
use Rattle.std.specs.Prelude.{codes, nat_eq, slice_index_or}
use Rattle.std.specs.Char.{is_ascii_digit}
use Rattle.std.specs.Fmt.{decimal}
use Rattle.std.proofs.lemmas.Fmt.{decimal_nonempty}
use Rattle.std.specs.List.{list_all}
use Rattle.dcv_word.specs.TraceLine.{trace_line, digit_of}
use Rattle.dcv_language.specs.declared.child.Child.{Child}
use Rattle.dcv_language.specs.declared.child.Child.TheVariants.{State}
use Rattle.dcv_automaton_text.specs.Form.{IsNumber, IsTarget, IsNameWord}
use Rattle.dcv_automaton_text.specs.Spelled.{node_word, target_word, answer_word}
use Rattle.dcv_automaton_text.proofs.Words.{digits_are}
use Rattle.dcv_automaton_lines.specs.Pieces.{Exactly, Nothing, Followed, Either, IsStuckIn}
use Rattle.dcv_automaton_lines.specs.Parts.{NumberWord, NodeWord, TargetWord, AnswerWord, NameWord, LetterWord}
use Rattle.dcv_automaton_lines.specs.Parts.{NodeLo, NodeColon, NodeHi, NodeMark, NodeName, NodeBody, StateRow, StateAnswer, StateBody, LastLetter, EmptyHow, StartHow, AfterHow, AccessHow, AccessBody, LastNumber, ThenHow, SuffixHow, SuffixBody}
use Rattle.dcv_automaton_lines.specs.Parts.{StepNodes, StepStatesNumber, StepStates, StepPlace, StepAt, StepBody, EndLine, WholeStep}
use Rattle.dcv_automaton_lines.specs.Stops.{is_binary}
use Rattle.dcv_automaton_lines.proofs.Pieces.{both, HasNoLonger, no_longer_followed, no_longer_nothing, no_longer_either, stuck_within, IsAway}
use Rattle.dcv_automaton_lines.proofs.Opening.{Opens, opens_followed, opens_either, opens_exactly, away_by, apart_by, not_both_tests}
use Rattle.dcv_automaton_lines.proofs.WordSets.{number_words, node_words, target_words, answer_words, name_words, letter_words, exact_words, other_first}

-- ---- some text of each set

pub record Some (P : List ℕ → Type 0) : Type 0 where
  pub text : List ℕ
  pub is : P text

pub within : {P : List ℕ → Type 0} {Q : List ℕ → Type 0} {end : ℕ} {text left : List ℕ} → Some Q → IsStuckIn (Followed P end Nothing) text left → IsStuckIn (Followed P end Q) text left
within {P = P} {Q = Q} {end = end} some stuck = stuck_within P Q end some.text some.is stuck

pub some_nothing : Some Nothing
some_nothing = record { text = []; is = record { is = refl } }

some_followed : {P : List ℕ → Type 0} {Q : List ℕ → Type 0} (end : ℕ) (word : List ℕ) → P word → Some Q → Some (Followed P end Q)
some_followed end word is some =
    record { text = word ++ end ∷ some.text; is = record { word = word; back = some.text; word_is = is; back_is = some.is; whole = refl } }

number_is : NumberWord (decimal 0)
number_is = record { number = 0; small = omega arith; is = refl }

node_is : NodeWord (node_word 0)
node_is = record { number = 0; small = omega arith; is = refl }

target_is : TargetWord (target_word (State 0))
target_is = record { target = State 0; small = omega arith; is = refl }

letter_word_is : LetterWord (codes "-")
letter_word_is = record { letter = []; is = refl }

pub some_lo : Some NodeLo
some_lo = some_followed 10 (target_word (State 0)) target_is some_nothing

pub some_colon : Some NodeColon
some_colon = some_followed 32 (codes ":") (record { is = refl }) some_lo

pub some_hi : Some NodeHi
some_hi = some_followed 32 (target_word (State 0)) target_is some_colon

pub some_mark : Some NodeMark
some_mark = some_followed 32 (codes "?") (record { is = refl }) some_hi

pub some_name : Some NodeName
some_name = some_followed 32 (codes "p") (record { is = refl }) some_mark

pub some_node_body : Some NodeBody
some_node_body = some_followed 32 (node_word 0) node_is some_name

pub some_row : Some StateRow
some_row = some_followed 10 (target_word (State 0)) target_is some_nothing

pub some_answer : Some StateAnswer
some_answer = some_followed 32 (codes "accept") (record { accepting = true; is = refl }) some_row

pub some_state_body : Some StateBody
some_state_body = some_followed 32 (decimal 0) number_is some_answer

pub some_last_letter : Some LastLetter
some_last_letter = some_followed 10 (codes "-") letter_word_is some_nothing

pub some_empty : Some EmptyHow
some_empty = some_followed 10 (codes "empty") (record { is = refl }) some_nothing

pub some_how_access : Some AccessHow
some_how_access = record { text = some_empty.text; is = record { which = inl some_empty.is } }

pub some_access_body : Some AccessBody
some_access_body = some_followed 32 (decimal 0) number_is some_how_access

pub some_last_number : Some LastNumber
some_last_number = some_followed 10 (decimal 0) number_is some_nothing

pub some_how_suffix : Some SuffixHow
some_how_suffix = record { text = some_empty.text; is = record { which = inl some_empty.is } }

pub some_suffix_body : Some SuffixBody
some_suffix_body = some_followed 32 (decimal 0) number_is some_how_suffix

pub some_step_nodes : Some StepNodes
some_step_nodes = some_followed 32 (codes "nodes") (record { is = refl }) some_last_number

pub some_step_states_number : Some StepStatesNumber
some_step_states_number = some_followed 32 (decimal 0) number_is some_step_nodes

pub some_step_states : Some StepStates
some_step_states = some_followed 32 (codes "states") (record { is = refl }) some_step_states_number

pub some_step_place : Some StepPlace
some_step_place = some_followed 32 (decimal 0) number_is some_step_states

pub some_step_at : Some StepAt
some_step_at = some_followed 32 (codes "at") (record { is = refl }) some_step_place

pub some_step_body : Some StepBody
some_step_body = some_followed 32 (decimal 0) number_is some_step_at

-- ---- first bytes

pub opens_number : Opens NumberWord is_ascii_digit
opens_number =
    record {
      some = λ is. no_empty is.number is.small is.is;
      first = λ b rest is. (both (is_ascii_digit b) (list_all is_ascii_digit rest) (ap (list_all is_ascii_digit) is.is ∙ digits_are is.number is.small)).0;
    }
  where
    no_empty : (n : ℕ) → n < 10 ^ 7 → [] ≡ decimal n → ⊥
    no_empty n small same =
        let some : 0 < length (decimal n) = decimal_nonempty n (omega arith) in
        let none : 0 ≡ length (decimal n) = ap length same in omega arith

pub is_of_letter : ℕ → Bool
is_of_letter b = nat_eq b 45 || is_binary b

pub opens_letter : Opens LetterWord is_of_letter
unfolding is_of_letter
opens_letter =
    record { some = λ is. no_empty is.letter is.is; first = λ b rest is. first_of is.letter b rest is.is }
  where
    no_empty : (letter : List Bool) → [] ≡ trace_line letter → ⊥
    no_empty [] same = cc
    no_empty (value ∷ letter) same = cc

    first_of : (letter : List Bool) (b : ℕ) (rest : List ℕ) → b ∷ rest ≡ trace_line letter → (nat_eq b 45 || is_binary b) ≡ true
    first_of [] b rest same = let e : b ≡ 45 = cc in ap (λ b. nat_eq b 45 || is_binary b) e
    first_of (true ∷ letter) b rest same = let whole : b ∷ rest ≡ 49 ∷ map digit_of letter = same in let e : b ≡ 49 = cc in ap (λ b. nat_eq b 45 || is_binary b) e
    first_of (false ∷ letter) b rest same = let whole : b ∷ rest ≡ 48 ∷ map digit_of letter = same in let e : b ≡ 48 = cc in ap (λ b. nat_eq b 45 || is_binary b) e

opens_empty : Opens EmptyHow (nat_eq 101)
opens_empty = opens_followed Nothing 10 (opens_exactly 101 (codes "mpty"))

opens_start : Opens StartHow (nat_eq 115)
opens_start = opens_followed LastLetter 32 (opens_exactly 115 (codes "tart"))

opens_after : Opens AfterHow is_ascii_digit
opens_after = opens_followed LastLetter 32 opens_number

opens_then : Opens ThenHow is_of_letter
opens_then = opens_followed LastNumber 32 opens_letter

-- ---- none begins another

no_longer_empty : HasNoLonger EmptyHow
no_longer_empty = no_longer_followed (exact_words (codes "empty") refl) 10 refl no_longer_nothing

no_longer_last_letter : HasNoLonger LastLetter
no_longer_last_letter = no_longer_followed letter_words 10 refl no_longer_nothing

no_longer_how_access : HasNoLonger AccessHow
no_longer_how_access =
    no_longer_either no_longer_empty
    (no_longer_either (no_longer_followed (exact_words (codes "start") refl) 32 refl no_longer_last_letter) (no_longer_followed number_words 32 refl no_longer_last_letter)
    (apart_by opens_start opens_after (not_both_tests 115 is_ascii_digit refl)))
    (apart_by opens_empty (opens_either opens_start opens_after) (not_both_tests 101 (λ b. nat_eq 115 b || is_ascii_digit b) refl))

no_longer_how_suffix : HasNoLonger SuffixHow
unfolding is_of_letter
no_longer_how_suffix =
    no_longer_either no_longer_empty (no_longer_followed letter_words 32 refl (no_longer_followed number_words 10 refl no_longer_nothing))
    (apart_by opens_empty opens_then (not_both_tests 101 is_of_letter refl))

pub no_longer_node : HasNoLonger NodeBody
no_longer_node =
    no_longer_followed node_words 32 refl (no_longer_followed name_words 32 refl (no_longer_followed (exact_words (codes "?") refl) 32 refl
    (no_longer_followed target_words 32 refl (no_longer_followed (exact_words (codes ":") refl) 32 refl (no_longer_followed target_words 10 refl no_longer_nothing)))))

pub no_longer_state : HasNoLonger StateBody
no_longer_state = no_longer_followed number_words 32 refl (no_longer_followed answer_words 32 refl (no_longer_followed target_words 10 refl no_longer_nothing))

pub no_longer_access : HasNoLonger AccessBody
no_longer_access = no_longer_followed number_words 32 refl no_longer_how_access

pub no_longer_suffix : HasNoLonger SuffixBody
no_longer_suffix = no_longer_followed number_words 32 refl no_longer_how_suffix

pub no_longer_step : HasNoLonger WholeStep
no_longer_step =
    no_longer_followed (exact_words (codes "step") refl) 32 refl (no_longer_followed number_words 32 refl (no_longer_followed (exact_words (codes "at") refl) 32 refl
    (no_longer_followed number_words 32 refl (no_longer_followed (exact_words (codes "states") refl) 32 refl (no_longer_followed number_words 32 refl
    (no_longer_followed (exact_words (codes "nodes") refl) 32 refl (no_longer_followed number_words 10 refl no_longer_nothing)))))))

-- ---- sets that a first byte excludes

-- a text that begins with one byte, and one that does not begin with another
begins : (first : ℕ) (test : ℕ → Bool) (text : List ℕ) → test first ≡ false → (0 < length text) × (slice_index_or text 0 0 ≡ first) → (b : ℕ) (more : List ℕ) → text ≡ b ∷ more → test b ≡ false
begins first test text fails is b more same =
    let e : b ≡ first = sym (ap (λ t. slice_index_or t 0 0) same) ∙ is.1 in
    ap test e ∙ fails

begins_not : (first : ℕ) (text : List ℕ) → ((0 < length text) × (slice_index_or text 0 0 ≡ first) → ⊥) → (b : ℕ) (more : List ℕ) → text ≡ b ∷ more → nat_eq first b ≡ false
begins_not first text never b more same = differs (λ e. other_first first text (λ some is. never (some, is)) b more same (sym e))
  where
    differs : (first ≡ b → ⊥) → nat_eq first b ≡ false
    differs not_same = grind (arith, not_same)

pub away_from_empty : (text : List ℕ) → ((0 < length text) × (slice_index_or text 0 0 ≡ 101) → ⊥) → IsAway EmptyHow text
away_from_empty text never = away_by text opens_empty (begins_not 101 text never)

pub away_from_start : (text : List ℕ) → ((0 < length text) × (slice_index_or text 0 0 ≡ 115) → ⊥) → IsAway StartHow text
away_from_start text never = away_by text opens_start (begins_not 115 text never)

pub away_behind_empty : (text : List ℕ) → (0 < length text) × (slice_index_or text 0 0 ≡ 101) → IsAway (Either StartHow AfterHow) text
away_behind_empty text is = away_by text (opens_either opens_start opens_after) (begins 101 (λ b. nat_eq 115 b || is_ascii_digit b) text refl is)

pub away_from_after : (text : List ℕ) → (0 < length text) × (slice_index_or text 0 0 ≡ 115) → IsAway AfterHow text
away_from_after text is = away_by text opens_after (begins 115 is_ascii_digit text refl is)

-- the line of a step, and the last line
opens_step : Opens WholeStep (nat_eq 115)
opens_step = opens_followed StepBody 32 (opens_exactly 115 (codes "tep"))

opens_end : Opens EndLine (nat_eq 101)
opens_end = opens_exactly 101 (codes "nd\n")

pub end_and_step_differ : (one two rest other_rest : List ℕ) → EndLine one → WholeStep two → one ++ rest ≡ two ++ other_rest → ⊥
end_and_step_differ = apart_by opens_end opens_step (not_both_tests 101 (nat_eq 115) refl)

pub away_from_step : (text : List ℕ) → ((0 < length text) × (slice_index_or text 0 0 ≡ 115) → ⊥) → IsAway WholeStep text
away_from_step text never = away_by text opens_step (begins_not 115 text never)

pub away_from_end : (text : List ℕ) → (0 < length text) × (slice_index_or text 0 0 ≡ 115) → IsAway EndLine text
away_from_end text is = away_by text opens_end (begins 115 (nat_eq 101) text refl is)

pub away_from_then : (text : List ℕ) → (0 < length text) × (slice_index_or text 0 0 ≡ 101) → IsAway ThenHow text
unfolding is_of_letter
away_from_then text is = away_by text opens_then (begins 101 is_of_letter text refl is)

-- ---- words as they are read

pub number_of : (n : ℕ) → IsNumber n → NumberWord (decimal n)
number_of n small = record { number = n; small = small; is = refl }

pub node_of : (n : ℕ) → IsNumber n → NodeWord (node_word n)
node_of n small = record { number = n; small = small; is = refl }

pub target_of : (target : Child) → IsTarget target → TargetWord (target_word target)
target_of target small = record { target = target; small = small; is = refl }

pub answer_of : (accepting : Bool) → AnswerWord (answer_word accepting)
answer_of accepting = record { accepting = accepting; is = refl }

pub name_of : (name : List ℕ) → IsNameWord name → NameWord name
name_of name is = record { is = is }

pub letter_from : (word : List ℕ) (letter : List Bool) → word ≡ trace_line letter → LetterWord word
letter_from word letter is = record { letter = letter; is = is }

pub exactly : (word : List ℕ) → Exactly word word
exactly word = record { is = refl }

pub not_both : {test : Bool} → test ≡ false → test ≡ true → ⊥
not_both fails is = let wrong : false ≡ true = sym fails ∙ is in cc
