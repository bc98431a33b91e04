-- What the table rules say of the lines of words: there is an access word for each state, and each suffix goes on from an earlier one.
use Rattle.std.proofs.Common.{◌≡◌, ℕ, zero, suc, ◌+◌, ◌<◌, ◌≤◌, Bool, true, false, List, [], ◌∷◌, ◌++◌, length, map, drop, fold, get_or, None, Some, refl, sym, ◌∙◌, subst, arith}
use Rattle.std.specs.List.{list_all, flat_map, enumerate_from, zip}
use Rattle.std.proofs.lemmas.List.{length-append, length-map}
use Rattle.std.proofs.lemmas.List.Folds.{list_all-append}
use Rattle.dcv_word.specs.Behaviour.{Word}
use Rattle.dcv_automaton_text.specs.File.{Access, AccessLine, Suffix, EmptySuffix, ThenSuffix, SuffixLine, AutomatonFile}
use Rattle.dcv_automaton_text.specs.Meaning.{access_word_of, access_words_from, access_words_of}
use Rattle.dcv_automaton_text.specs.Spelled.{node_words, state_words, access_words, how_suffix, suffix_words, head_lines}
use Rattle.dcv_automaton_text.specs.Rules.{keeps_head, keeps_node, keeps_state, keeps_access, keeps_how_suffix, keeps_suffix, judged, judged_words, first_broken, IsGood}
use Rattle.dcv_automaton_text.proofs.GoodFiles.{IsGoodFile}
use Rattle.dcv_automaton_text.proofs.Kept.{AreKept, keeps, AllKeep, both}

-- ---- access words

abbrev spelled : List Word → Access → List Word
spelled words access = words ++ access_word_of words access ∷ []

length-all : (others : List Access) (words : List Word) → length (fold spelled words others) ≡ length words + length others
length-all [] words = omega arith
length-all (one ∷ others) words = omega (arith, length-all others (spelled words one), length-append words (access_word_of words one ∷ []))

length-behind : (words : List Word) → 0 < length words → suc (length (drop 1 words)) ≡ length words
length-behind [] some = absurd (omega arith)
length-behind (word ∷ words) some = refl

length-words_from : (accesses : List Access) → 0 < length accesses → length (access_words_from accesses) ≡ length accesses
length-words_from [] some = absurd (omega arith)
length-words_from (start ∷ others) some = omega (arith, length-all others ([] ∷ []), length-behind (fold spelled ([] ∷ []) others) (omega (arith, length-all others ([] ∷ []))))

pub count_of_words : (file : AutomatonFile) → IsGoodFile file → length (access_words_of file) ≡ file.states
unfolding access_words_of
count_of_words file is =
    let access = λ (line : AccessLine). line.access in
    let size = length-map file.access_lines access in
    let count = is.words in
    let some = is.some in
    length-words_from (map access file.access_lines) (omega arith) ∙ (let all : length (map access file.access_lines) ≡ file.states = omega arith in all)

-- ---- suffixes

all_keep : (words : List (List ℕ × Bool)) (at : ℕ) → first_broken at words ≡ None → AllKeep words
all_keep [] at none = record { all = refl }
all_keep ((word, true) ∷ words) at none = record { all = (all_keep words (at + length word + 1) none).all }
all_keep ((word, false) ∷ words) at none = absurd (let wrong : Some at ≡ None = none in cc)

in_parts : (words : List (List ℕ × Bool)) {more : List (List ℕ × Bool)} → AllKeep (words ++ more) → AllKeep words × AllKeep more
in_parts words {more} is =
    let parts = both (list_all keeps words) (list_all keeps more) (sym (list_all-append keeps words more) ∙ is.all) in
    (record { all = parts.0 }, record { all = parts.1 })

kept_words : (words : List (List ℕ)) (kept : List Bool) → length kept ≤ length words → AllKeep (zip words kept) → AreKept kept
kept_words words [] few is = tt
kept_words [] (one ∷ kept) few is = absurd (omega arith)
kept_words (word ∷ words) (one ∷ kept) few is =
    let parts = both one (list_all keeps (zip words kept)) is.all in
    (parts.0, kept_words words kept (omega arith) (record { all = parts.1 }))

module _ (file : AutomatonFile) where
  few_words : (place : ℕ) (line : SuffixLine) → length (keeps_suffix file place line) ≤ length (suffix_words line)
  few_words place line = let size = by line.suffix in omega arith
    where
      by : (suffix : Suffix) → length (keeps_how_suffix file place suffix) ≤ length (how_suffix suffix)
      by EmptySuffix = omega arith
      by (ThenSuffix letter from) = omega arith

  kept_lines : (lines : List SuffixLine) (first : ℕ) → AllKeep (flat_map (λ numbered. zip (suffix_words numbered.1) (keeps_suffix file numbered.0 numbered.1)) (enumerate_from first lines))
      → (k : ℕ) (d : SuffixLine) → k < length lines → AreKept (keeps_suffix file (first + k) (get_or lines k d))
  kept_lines [] first is k d within = absurd (omega arith)
  kept_lines (line ∷ lines) first is zero d within =
      let here : first ≡ first + 0 = omega arith in
      let parts = in_parts (zip (suffix_words line) (keeps_suffix file first line)) is in
      subst (λ at. AreKept (keeps_suffix file at line)) here (kept_words (suffix_words line) (keeps_suffix file first line) (few_words first line) parts.0)
  kept_lines (line ∷ lines) first is (suc k) d within =
      let next : first + 1 + k ≡ first + suc k = omega arith in
      let parts = in_parts (zip (suffix_words line) (keeps_suffix file first line)) is in
      subst (λ at. AreKept (keeps_suffix file at (get_or lines k d))) next (kept_lines lines (first + 1) parts.1 k d (omega arith))

-- what the rules say of the line of a suffix
pub good_suffix : (file : AutomatonFile) → IsGood file → (k : ℕ) (d : SuffixLine) → k < length file.suffix_lines
    → AreKept (keeps_how_suffix file k (get_or file.suffix_lines k d).suffix)
unfolding judged_words
good_suffix file is k d within =
    let all = all_keep (judged_words file) 0 is in
    let head = in_parts (flat_map (λ line. zip line.0 line.1) (zip (head_lines file) (keeps_head file))) all in
    let nodes = in_parts (judged node_words (keeps_node file) file.node_lines) head.1 in
    let states = in_parts (judged state_words (keeps_state file) file.state_lines) nodes.1 in
    let words = in_parts (judged access_words (keeps_access file) file.access_lines) states.1 in
    let ends = in_parts (judged suffix_words (keeps_suffix file) file.suffix_lines) words.1 in
    let here : 0 + k ≡ k = omega arith in
    (subst (λ at. AreKept (keeps_suffix file at (get_or file.suffix_lines k d))) here (kept_lines file file.suffix_lines 0 ends.0 k d within)).1.1
