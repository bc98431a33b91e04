-- A printed text of an automaton is no longer than one that is read may be: a bound for the lines of each kind, times how many there are.
use Rattle.dcv_cli.proofs.Common.{◌≡◌, ℕ, suc, ◌+◌, ◌<◌, ◌≤◌, Bool, true, false, List, [], ◌∷◌, ◌++◌, Option, None, Some, length, map}
use Rattle.dcv_cli.proofs.Common.{get_or, refl, ap, ◌∙◌, arith, codes, IfSome, flat_map, decimal, bytes_eq, length-map, bytes_eq-Decides}
use Rattle.dcv_cli.proofs.Common.{StepPart, AutomatonFile, IsPlainName, AreNames, step_part, end_lines, spelled_line, access_words_of}
use Rattle.dcv_cli.proofs.Common.{Language, Word, most_states, most_automaton_bytes}
use Rattle.std.proofs.Common.{◌*◌, fold}
use Rattle.std.specs.List.{All, join_with_byte}
use Rattle.std.proofs.lemmas.Fmt.{length-decimal-le}
use Rattle.std.proofs.lemmas.Grind.{flat_map-append}
use Rattle.std.proofs.lemmas.List.{length-append}
use Rattle.std.proofs.lemmas.List.Folds.{Any-from_list_any}
use Rattle.dcv_word.specs.TraceLine.{trace_line, digit_of}
use Rattle.dcv_automaton_text.specs.File.{NodeLine, StateLine, Access, EmptyAccess, StartAccess, AfterAccess}
use Rattle.dcv_automaton_text.specs.File.{Suffix, EmptySuffix, ThenSuffix, SuffixLine, StepLine}
use Rattle.dcv_automaton_text.specs.Form.{IsNumber, IsTarget, IsNodeLine, IsStateLine, IsAccess, IsSuffix, IsStepLine, IsStepPart}
use Rattle.dcv_automaton_text.specs.GoodFile.{IsGoodFile, IsGoodStepPart, IsHowAccess, IsHowSuffix}
use Rattle.dcv_automaton_text.specs.Rules.{is_listed}
use Rattle.dcv_automaton_text.specs.Spelled.{target_word, answer_word, name_words, node_words, state_words, access_words, suffix_words, step_words, steps_words, version_word, head_lines, lines_of, spelled}
use Rattle.dcv_automaton_text.proofs.GoodFiles.{good_file}
use Rattle.dcv_automaton_text.proofs.GoodTables.{table_has_the_files_states}
use Rattle.dcv_automaton_text.proofs.InWords.{good_files_in_words}
use Rattle.dcv_automaton_text.specs.Meaning.{suffix_word_of, suffix_words_of}
use Rattle.dcv_print.specs.Automaton.{IsAutomatonOf}
use Rattle.dcv_print.proofs.SuffixCounts.{suffixes_are_few}
use Rattle.dcv_language.specs.declared.child.Child.{Child}
use Rattle.dcv_language.specs.declared.child.Child.TheVariants.{State, Node}

-- ---- words of a line

-- one byte stands after each word
abbrev room : List (List ℕ) → ℕ
room [] = 0
room (word ∷ words) = length word + 1 + room words

length-joined : (word : List ℕ) (words : List (List ℕ)) → length (join_with_byte 32 (word ∷ words)) + 1 ≡ room (word ∷ words)
length-joined word [] = omega arith
length-joined word (next ∷ words) =
    omega (arith, length-append word (32 ∷ join_with_byte 32 (next ∷ words)), length-joined next words)

-- so a line is no longer than its words ask for
within : (words : List (List ℕ)) (most : ℕ) → 0 < length words → room words ≤ most → length (spelled_line words) ≤ most
within [] most some few = absurd (omega arith)
within (word ∷ words) most some few = omega (arith, few, length-append (join_with_byte 32 (word ∷ words)) (10 ∷ []), length-joined word words)

number_is_short : (number : ℕ) → IsNumber number → length (decimal number) ≤ 7
number_is_short number is = length-decimal-le 7 number (omega arith) is (omega arith)

target_is_short : (target : Child) → IsTarget target → length (target_word target) ≤ 8
target_is_short (State number) is = omega (arith, number_is_short number is)
target_is_short (Node number) is = omega (arith, number_is_short number is)

answer_is_short : (accepting : Bool) → length (answer_word accepting) ≤ 6
answer_is_short true = omega arith
answer_is_short false = omega arith

letter_is_short : (letter : List Bool) → length letter ≤ 16 → length (trace_line letter) ≤ 16
letter_is_short [] few = omega arith
letter_is_short (value ∷ values) few = omega (arith, length-map (value ∷ values) digit_of)

-- ---- lines of each kind

node_is_short : (line : NodeLine) → IsNodeLine line → length line.name ≤ 24 → length (spelled_line (node_words line)) ≤ 61
node_is_short line is short =
    within (node_words line) 61 (omega arith) (omega (arith, short, number_is_short line.number is.number, target_is_short line.hi is.hi, target_is_short line.lo is.lo))

state_is_short : (line : StateLine) → IsStateLine line → length (spelled_line (state_words line)) ≤ 30
state_is_short line is = within (state_words line) 30 (omega arith) (omega (arith, number_is_short line.number is.number, answer_is_short line.accepting, target_is_short line.row is.row))

module _ (file : AutomatonFile) (few : length file.names ≤ 16) (place number : ℕ) (is : IsNumber number) where
  access_is_short : (access : Access) → IsAccess access → IsHowAccess file place access → length (spelled_line (access_words (record { number = number; access = access }))) ≤ 40
  access_is_short EmptyAccess form how = within (access_words (record { number = number; access = EmptyAccess })) 40 (omega arith) (omega (arith, number_is_short number is))
  access_is_short (StartAccess letter) form how =
      within (access_words (record { number = number; access = StartAccess letter })) 40 (omega arith)
      (omega (arith, number_is_short number is, letter_is_short letter (omega (arith, few, how))))
  access_is_short (AfterAccess state letter) form how =
      within (access_words (record { number = number; access = AfterAccess state letter })) 40 (omega arith)
      (omega (arith, number_is_short number is, number_is_short state form, letter_is_short letter (omega (arith, few, how.width))))

  suffix_is_short : (suffix : Suffix) → IsSuffix suffix → IsHowSuffix file place suffix → length (spelled_line (suffix_words (record { number = number; suffix = suffix }))) ≤ 40
  suffix_is_short EmptySuffix form how = within (suffix_words (record { number = number; suffix = EmptySuffix })) 40 (omega arith) (omega (arith, number_is_short number is))
  suffix_is_short (ThenSuffix letter suffix) form how =
      within (suffix_words (record { number = number; suffix = ThenSuffix letter suffix })) 40 (omega arith)
      (omega (arith, number_is_short number is, number_is_short suffix form, letter_is_short letter (omega (arith, few, how.width))))

step_is_short : (line : StepLine) → IsStepLine line → length (spelled_line (step_words line)) ≤ 53
step_is_short line is =
    within (step_words line) 53 (omega arith)
    (omega (arith, number_is_short line.number is.number, number_is_short line.at is.at, number_is_short line.states is.states, number_is_short line.nodes is.nodes))

-- ---- so many lines

sum_of : {Line : Type 0} (words : Line → List (List ℕ)) (most : ℕ) (lines : List Line)
    → ((k : ℕ) (d : Line) → k < length lines → length (spelled_line (words (get_or lines k d))) ≤ most)
    → length (flat_map spelled_line (map words lines)) ≤ most * length lines
sum_of words most [] short = omega arith
sum_of words most (line ∷ lines) short =
    let first = short 0 line (omega arith) in
    let rest = sum_of words most lines (λ k d within. short (suc k) d (omega arith)) in
    let joined = length-append (spelled_line (words line)) (flat_map spelled_line (map words lines)) in
    more (length (spelled_line (words line))) (length (flat_map spelled_line (map words lines))) most (length lines) first rest joined
  where
    more : (one others most count : ℕ) → one ≤ most → others ≤ most * count → {all : ℕ} → all ≡ one + others → all ≤ most * suc count
    more one others most count first rest e = omega (arith, first, rest, e)

length_of_both : (one other : List (List (List ℕ))) → length (flat_map spelled_line (one ++ other)) ≡ length (flat_map spelled_line one) + length (flat_map spelled_line other)
length_of_both one other = ap length (flat_map-append spelled_line one other) ∙ length-append (flat_map spelled_line one) (flat_map spelled_line other)

-- ---- names

listed_is_short : (names : List (List ℕ)) (name : List ℕ) → All IsPlainName names → is_listed names name ≡ true → length name ≤ 24
listed_is_short names name each listed =
    let found = Any-from_list_any (bytes_eq name) names listed in
    let same : name ≡ found.1 = (bytes_eq-Decides name found.1).0 found.4 in
    let short = (each found.0 found.1 found.2).short in
    omega (arith, short, ap length found.3, ap length same)

names_are_short : (names : List (List ℕ)) → All IsPlainName names → room names ≤ 25 * length names
names_are_short [] each = omega arith
names_are_short (name ∷ names) each =
    let first = (each 0 name (omega arith)).short in
    omega (arith, first, names_are_short names (λ k d within. each (suc k) d (omega arith)))

words_are_short : (names : List (List ℕ)) → AreNames names → room (codes "variables" ∷ name_words names) ≤ 410
words_are_short [] are = omega arith
words_are_short (name ∷ names) are = omega (arith, are.count, names_are_short (name ∷ names) are.each)

version_is_short : (steps : Option StepPart) → length (version_word steps) ≡ 1
version_is_short None = refl
version_is_short (Some part) = refl

head_is_short : (file : AutomatonFile) → AreNames file.names → IsNumber file.states → length (flat_map spelled_line (head_lines file)) ≤ 437
head_is_short file are is =
    let first = spelled_line (codes "automaton" ∷ version_word file.steps ∷ []) in
    let version = within (codes "automaton" ∷ version_word file.steps ∷ []) 12 (omega arith) (omega (arith, version_is_short file.steps)) in
    let second = spelled_line (codes "variables" ∷ name_words file.names) in
    let third = spelled_line (codes "states" ∷ decimal file.states ∷ []) in
    let short = within (codes "variables" ∷ name_words file.names) 410 (omega arith) (words_are_short file.names are) in
    let last = within (codes "states" ∷ decimal file.states ∷ []) 15 (omega arith) (omega (arith, number_is_short file.states is)) in
    omega (arith, version, short, last, length-append first (second ++ (third ++ [])), length-append second (third ++ []), length-append third [])

-- ---- steps and suffixes

steps_are_short : (steps : Option StepPart) → IfSome steps IsStepPart → IfSome steps IsGoodStepPart → length (flat_map spelled_line (step_part steps)) ≤ 6952000
steps_are_short None is good = omega arith
steps_are_short (Some part) is good =
    let first = within (steps_words part) 14 (omega arith) (omega (arith, number_is_short part.count is.count)) in
    let lines = sum_of step_words 53 part.lines (λ place d within. step_is_short (get_or part.lines place d) (is.lines place d within)) in
    omega (arith, good.few, good.count, first, lines, length-append (spelled_line (steps_words part)) (flat_map spelled_line (map step_words part.lines)))

abbrev spelt : List Word → SuffixLine → List Word
spelt earlier line = earlier ++ suffix_word_of earlier line.suffix ∷ []

length-spelt : (lines : List SuffixLine) (earlier : List Word) → length (fold spelt earlier lines) ≡ length earlier + length lines
length-spelt [] earlier = omega arith
length-spelt (line ∷ lines) earlier = omega (arith, length-spelt lines (spelt earlier line), length-append earlier (suffix_word_of earlier line.suffix ∷ []))

-- ---- the file

module _ (k : ℕ) (L : Language) (names : List (List ℕ)) (file : AutomatonFile) (is : IsAutomatonOf k L names file) where
  good : IsGoodFile file
  good = (good_files_in_words file).0 is.rules

  few_suffixes : length file.suffix_lines ≤ most_states
  unfolding suffix_words_of
  few_suffixes =
      let size = table_has_the_files_states file is.rules in
      let count = is.canonical.words in
      let some = good.some in
      let most = good.states in
      let fewer = suffixes_are_few k L (access_words_of file) (suffix_words_of file) (omega arith) is.certificate in
      omega (arith, fewer, size, count, most, length-spelt file.suffix_lines [])

  nodes_are_short : length (flat_map spelled_line (map node_words file.node_lines)) ≤ 61 * length file.node_lines
  nodes_are_short =
      sum_of node_words 61 file.node_lines
      (λ place d within. node_is_short (get_or file.node_lines place d) (is.form.node_lines place d within) (listed_is_short file.names _ good.names.each ((good_file file is.rules).node place d within).listed))

  states_are_short : length (flat_map spelled_line (map state_words file.state_lines)) ≤ 30 * length file.state_lines
  states_are_short = sum_of state_words 30 file.state_lines (λ place d within. state_is_short (get_or file.state_lines place d) (is.form.state_lines place d within))

  accesses_are_short : length (flat_map spelled_line (map access_words file.access_lines)) ≤ 40 * length file.access_lines
  accesses_are_short =
      sum_of access_words 40 file.access_lines
      (λ place d within.
      let line = is.form.access_lines place d within in
      access_is_short file good.names.count place _ line.number (get_or file.access_lines place d).access line.access (good.access_lines place d within).how)

  suffixes_are_short : length (flat_map spelled_line (map suffix_words file.suffix_lines)) ≤ 40 * length file.suffix_lines
  suffixes_are_short =
      sum_of suffix_words 40 file.suffix_lines
      (λ place d within.
      let line = is.form.suffix_lines place d within in
      suffix_is_short file good.names.count place _ line.number (get_or file.suffix_lines place d).suffix line.suffix (good.suffix_lines place d within).how)

  pub printed_fits : length (spelled file) ≤ most_automaton_bytes
  unfolding spelled lines_of
  printed_fits =
      let nodes = map node_words file.node_lines in
      let states = map state_words file.state_lines in
      let accesses = map access_words file.access_lines in
      let suffixes = map suffix_words file.suffix_lines in
      let steps = step_part file.steps in
      let one = length_of_both (head_lines file) (nodes ++ (states ++ (accesses ++ (suffixes ++ (steps ++ end_lines))))) in
      let two = length_of_both nodes (states ++ (accesses ++ (suffixes ++ (steps ++ end_lines)))) in
      let three = length_of_both states (accesses ++ (suffixes ++ (steps ++ end_lines))) in
      let four = length_of_both accesses (suffixes ++ (steps ++ end_lines)) in
      let five = length_of_both suffixes (steps ++ end_lines) in
      let six = length_of_both steps end_lines in
      omega (
        arith,
        one,
        two,
        three,
        four,
        five,
        six,
        head_is_short file good.names is.form.states,
        nodes_are_short,
        states_are_short,
        accesses_are_short,
        suffixes_are_short,
        steps_are_short file.steps is.form.steps good.steps,
        good.nodes,
        good.states,
        good.all_states,
        good.all_access,
        few_suffixes,
      )
