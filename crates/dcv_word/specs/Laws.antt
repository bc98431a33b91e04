-- The laws that `src/laws.rt` proves: of letters and their numbers, of the two orders, and of trace lines.
use Rattle.std.specs.Prelude.{◌≡◌, ◌≢◌, ◌↔◌, ℕ, ◌^◌, ◌<◌, Bool, List, ◌∷◌, ◌++◌, length, map, Some, Ok, Result, slice_get}
use Rattle.std.specs.Cmp.{IsTotalOrder}
use Rattle.std.specs.List.{AllPairs, range_with_len}
use Rattle.std.specs.Ordering.{nat_cmp}
use Rattle.std.specs.declared.cmp.Ordering.TheVariants.{Less, Equal}
use Rattle.dcv_word.specs.Behaviour.{Word}
use Rattle.dcv_word.specs.Letter.{letter_of, bits_of, letters_of_width, letter_order}
use Rattle.dcv_word.specs.Word.{shortlex_order}
use Rattle.dcv_word.specs.TraceLine.{trace_line, trace_text, IsReading}
use Rattle.dcv_word.specs.declared.lines.LetterFault.{LetterFault}

-- ---- letters and numbers

-- the letter of a number has the width that was asked for
abbrev pub LetterHasItsWidth : Type 0
LetterHasItsWidth = (width bits : ℕ) → length (letter_of width bits) ≡ width

-- the letter of its own number
abbrev pub LetterOfItsBits : Type 0
LetterOfItsBits = (letter : List Bool) → letter_of (length letter) (bits_of letter) ≡ letter

-- the number of its own letter
abbrev pub BitsOfItsLetter : Type 0
BitsOfItsLetter = (width bits : ℕ) → bits < 2 ^ width → bits_of (letter_of width bits) ≡ bits

abbrev pub BitsFitTheWidth : Type 0
BitsFitTheWidth = (letter : List Bool) → bits_of letter < 2 ^ length letter

-- ---- the order of letters

abbrev pub LettersAreInOrder : Type 0
LettersAreInOrder = IsTotalOrder letter_order

-- two letters are equal in order only where they are the same
abbrev pub EqualLettersAreSame : Type 0
EqualLettersAreSame = (a b : List Bool) → (letter_order a b ≡ Equal) ↔ (a ≡ b)

-- letters of one width are in order as their numbers are
abbrev pub LettersFollowNumbers : Type 0
LettersFollowNumbers = (a b : List Bool) → length a ≡ length b → letter_order a b ≡ nat_cmp (bits_of a) (bits_of b)

-- ---- all the letters of a width

abbrev pub LettersAreTwoToTheWidth : Type 0
LettersAreTwoToTheWidth = (width : ℕ) → length (letters_of_width width) ≡ 2 ^ width

-- they are those of the numbers below that, in turn
abbrev pub LettersAreOfEachNumber : Type 0
LettersAreOfEachNumber = (width : ℕ) → letters_of_width width ≡ map (letter_of width) (range_with_len 0 (2 ^ width))

-- each letter stands at the place of its number
abbrev pub LetterStandsAtItsBits : Type 0
LetterStandsAtItsBits = (letter : List Bool) → slice_get (letters_of_width (length letter)) (bits_of letter) ≡ Some letter

-- and at no other, nor among the letters of another width
abbrev pub LetterStandsOnce : Type 0
LetterStandsOnce = (width place : ℕ) (letter : List Bool) → slice_get (letters_of_width width) place ≡ Some letter
    → (length letter ≡ width) × (bits_of letter ≡ place)

abbrev pub LettersStandInOrder : Type 0
LettersStandInOrder = (width : ℕ) → AllPairs (λ a b. letter_order a b ≡ Less) (letters_of_width width)

-- ---- the order of words

abbrev pub WordsAreInOrder : Type 0
WordsAreInOrder = IsTotalOrder shortlex_order

-- two words are equal in order only where they are the same
abbrev pub EqualWordsAreSame : Type 0
EqualWordsAreSame = (u v : Word) → (shortlex_order u v ≡ Equal) ↔ (u ≡ v)

abbrev pub ShorterIsLess : Type 0
ShorterIsLess = (u v : Word) → length u < length v → shortlex_order u v ≡ Less

-- of two words as long, the first letters that differ decide
abbrev pub FirstDifferenceDecides : Type 0
FirstDifferenceDecides = (front u v : Word) (a b : List Bool) → a ≢ b → length u ≡ length v
    → shortlex_order (front ++ a ∷ u) (front ++ b ∷ v) ≡ letter_order a b

-- what both begin with does not matter
abbrev pub CommonFrontIsIgnored : Type 0
CommonFrontIsIgnored = (front u v : Word) → shortlex_order (front ++ u) (front ++ v) ≡ shortlex_order u v

-- nor what both end with
abbrev pub CommonEndIsIgnored : Type 0
CommonEndIsIgnored = (u v end : Word) → shortlex_order (u ++ end) (v ++ end) ≡ shortlex_order u v

-- nor do ends that are as long, after words as long that differ
abbrev pub EndsAfterADifferenceAreIgnored : Type 0
EndsAfterADifferenceAreIgnored = (u v x y : Word) → length u ≡ length v → u ≢ v → length x ≡ length y
    → shortlex_order (u ++ x) (v ++ y) ≡ shortlex_order u v

-- ---- trace lines

-- a letter's line is read back as that letter
abbrev pub LineIsReadBack : Type 0
LineIsReadBack = (letter : List Bool) (answer : Result (List Bool) LetterFault)
    → IsReading (length letter) (trace_line letter) answer → answer ≡ Ok letter

-- a line has one reading at most
abbrev pub ReadingIsOne : Type 0
ReadingIsOne = (width : ℕ) (line : List ℕ) (first second : Result (List Bool) LetterFault)
    → IsReading width line first → IsReading width line second → first ≡ second

-- two letters have two lines
abbrev pub LineIsOfOneLetter : Type 0
LineIsOfOneLetter = (a b : List Bool) → trace_line a ≡ trace_line b → a ≡ b

-- and two words two texts
abbrev pub TextIsOfOneWord : Type 0
TextIsOfOneWord = (u v : Word) → trace_text u ≡ trace_text v → u ≡ v
