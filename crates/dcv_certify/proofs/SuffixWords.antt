-- The words of the suffixes, each made of an earlier one.
use Rattle.std.proofs.Common.{◌≡◌, ℕ, ◌+◌, ◌<◌, List, [], ◌∷◌, ◌++◌, length, map, take, drop, fold, get_or, refl, ap, sym, ◌∙◌, arith}
use Rattle.std.specs.Prelude.{nat_lt}
use Rattle.std.specs.Cmp.{unsigned_Decides}
use Rattle.std.proofs.lemmas.Bool.{ltb-true}
use Rattle.std.proofs.lemmas.List.{length-map, length-take-le, length-append, get_or-map, get_or_append_left, get_or_push, take-append-drop}
use Rattle.std.proofs.lemmas.List.Sums.{fold_more}
use Rattle.dcv_word.specs.Behaviour.{Word}
use Rattle.dcv_language.specs.declared.certificate.Suffix.{Suffix as ReadSuffix}
use Rattle.dcv_automaton_text.specs.File.{Suffix, EmptySuffix, ThenSuffix, SuffixLine, AutomatonFile}
use Rattle.dcv_automaton_text.specs.Meaning.{suffix_word_of, suffix_words_of}
use Rattle.dcv_automaton_text.specs.Rules.{has_width, keeps_how_suffix, IsGood}
use Rattle.dcv_automaton_text.proofs.Kept.{AreKept, both}
use Rattle.dcv_automaton_read.specs.File.{suffix_from, suffixes_of}
use Rattle.dcv_certify.specs.Links.{suffix_at}
use Rattle.dcv_certify.specs.Walk.{suffix_word}
use Rattle.dcv_certify.proofs.GoodLines.{good_suffix}

abbrev pub with_suffix : List Word → SuffixLine → List Word
with_suffix earlier line = earlier ++ suffix_word_of earlier line.suffix ∷ []

-- the words of so many first suffixes
abbrev pub words_upto : AutomatonFile → ℕ → List Word
words_upto file place = fold with_suffix [] (take place file.suffix_lines)

abbrev pub no_line : SuffixLine
no_line = record { number = 0; suffix = EmptySuffix }

-- it goes on from one of the first so many, by a letter of the file's width
abbrev pub GoesOnFrom : AutomatonFile → ℕ → Suffix → Type 0
GoesOnFrom file count EmptySuffix = count ≡ 0
GoesOnFrom file count (ThenSuffix letter from) = (from < count) × (length letter ≡ length file.names)

module _ (file : AutomatonFile) (good : IsGood file) where
  pub length_read_suffixes : (read : List ReadSuffix) → map suffix_from read ≡ suffixes_of file → length read ≡ length file.suffix_lines
  length_read_suffixes read same = sym (length-map read suffix_from) ∙ ap length same ∙ length-map file.suffix_lines (λ (line : SuffixLine). line.suffix)

  pub read_suffix : (read : List ReadSuffix) (d : ReadSuffix) → map suffix_from read ≡ suffixes_of file → (place : ℕ) → place < length read → suffix_from (get_or read place d) ≡ suffix_at file place
  read_suffix read d same place within =
      sym (get_or-map suffix_from read place d (suffix_from d) within) ∙ ap (λ (xs : List Suffix). get_or xs place (suffix_from d)) same
      ∙ get_or-map (λ (line : SuffixLine). line.suffix) file.suffix_lines place no_line (suffix_from d) (omega (arith, within, length_read_suffixes read same))

  pub suffix_goes_on : (place : ℕ) → place < length file.suffix_lines → GoesOnFrom file place (suffix_at file place)
  suffix_goes_on place within = by (suffix_at file place) (good_suffix file good place no_line within)
    where
      by : (suffix : Suffix) → AreKept (keeps_how_suffix file place suffix) → GoesOnFrom file place suffix
      by EmptySuffix kept = (unsigned_Decides place 0).0 kept.0
      by (ThenSuffix letter from) kept =
          (ltb-true from place kept.1.0, (unsigned_Decides (length letter) (length file.names)).0 (both (nat_lt 0 place) (has_width file letter) kept.0).1)

-- ---- the word at a place

-- the words that there were stay
words_stay : (lines : List SuffixLine) (words : List Word) (k : ℕ) (d : Word) → k < length words
    → (k < length (fold with_suffix words lines)) × (get_or (fold with_suffix words lines) k d ≡ get_or words k d)
words_stay [] words k d within = (within, refl)
words_stay (line ∷ lines) words k d within =
    let last = suffix_word_of words line.suffix ∷ [] in
    let rest = words_stay lines (with_suffix words line) k d (omega (arith, within, length-append words last)) in
    (rest.0, rest.1 ∙ get_or_append_left words last d k within)

fold_in_two : (lines more : List SuffixLine) (words : List Word) → fold with_suffix words (lines ++ more) ≡ fold with_suffix (fold with_suffix words lines) more
fold_in_two [] more words = refl
fold_in_two (line ∷ lines) more words = fold_in_two lines more (with_suffix words line)

count_words : (lines : List SuffixLine) (words : List Word) → length (fold with_suffix words lines) ≡ length words + length lines
count_words [] words = omega arith
count_words (line ∷ lines) words =
    count_words lines (with_suffix words line) ∙ omega (arith, length-append words (suffix_word_of words line.suffix ∷ []))

pub count_suffix_words : (file : AutomatonFile) → length (suffix_words_of file) ≡ length file.suffix_lines
unfolding suffix_words_of
count_suffix_words file = count_words file.suffix_lines [] ∙ omega arith

-- the word at a place is that of the first ones
stays : (file : AutomatonFile) (place k : ℕ) → k < length (words_upto file place) → suffix_word file k ≡ get_or (words_upto file place) k []
unfolding suffix_words_of
stays file place k within =
    let lines = file.suffix_lines in
    let split : fold with_suffix [] lines ≡ fold with_suffix (words_upto file place) (drop place lines) =
    ap (fold with_suffix []) (sym (take-append-drop place lines)) ∙ fold_in_two (take place lines) (drop place lines) [] in
    ap (λ (words : List Word). get_or words k []) split ∙ (words_stay (drop place lines) (words_upto file place) k [] within).1

pub word_is : (file : AutomatonFile) → IsGood file → (place : ℕ) → place < length file.suffix_lines
    → suffix_word file place ≡ suffix_word_of (suffix_words_of file) (suffix_at file place)
word_is file good place within =
    let words = words_upto file place in
    let word = suffix_word_of words (suffix_at file place) in
    let longer : words_upto file (place + 1) ≡ words ++ word ∷ [] = fold_more with_suffix [] file.suffix_lines place no_line within in
    stays file (place + 1) place (omega (arith, ap length longer, length-append words (word ∷ []), size place within))
    ∙ ap (λ (all : List Word). get_or all place []) longer ∙ get_or_push words word [] place (size place within)
    ∙ by (suffix_at file place) (suffix_goes_on file good place within)
  where
    size : (place : ℕ) → place < length file.suffix_lines → length (words_upto file place) ≡ place
    size place within = count_words (take place file.suffix_lines) [] ∙ omega (arith, length-take-le place file.suffix_lines (omega (arith, within)))

    by : (suffix : Suffix) → GoesOnFrom file place suffix → suffix_word_of (words_upto file place) suffix ≡ suffix_word_of (suffix_words_of file) suffix
    by EmptySuffix goes = refl
    by (ThenSuffix letter from) goes = ap (λ (word : Word). letter ∷ word) (sym (stays file place from (omega (arith, goes.0, size place within))))
