-- The classes that the tokens of all observers' texts have in common. Those of symbols and of reserved words begin at 3.
--     keeps_limits bytes        no word that is too long, and no number that is too large
--     class_of lexicon bytes    the class of a token
use Rattle.std.specs.Prelude.{ℕ, Bool, true, ◌&&◌, nat_le, if◌then◌else◌, List, length}
use Rattle.dcv_lexer.specs.Lexicon.{Lexicon, is_word, is_number}
use Rattle.dcv_lexer.specs.Lexicon as lexer
use Rattle.dcv_lexer.specs.Decimal.{value_of}

-- a word that is not reserved
abbrev pub name : ℕ
name = 0

abbrev pub number : ℕ
number = 1

-- what stands in no sentence: a byte with which no piece begins, a token beyond the limits, and a leading zero where none may stand
abbrev pub unknown : ℕ
unknown = 2

-- how many bytes a word may have
abbrev pub longest_word : ℕ
longest_word = 32

-- the largest number that may stand in a text
abbrev pub largest_number : ℕ
largest_number = 32767

abbrev pub is_short_word : List ℕ → Bool
is_short_word bytes = is_word bytes && nat_le (length bytes) longest_word

abbrev pub is_small_number : List ℕ → Bool
is_small_number bytes = is_number bytes && nat_le (value_of bytes) largest_number

abbrev pub keeps_limits : List ℕ → Bool
keeps_limits bytes =
    if is_word bytes then nat_le (length bytes) longest_word
    else (if is_number bytes then nat_le (value_of bytes) largest_number else true)

-- the class that the lexicon has for it, within the limits
abbrev pub class_of : Lexicon → List ℕ → ℕ
class_of lexicon bytes = if keeps_limits bytes then lexer.class_of lexicon bytes else lexicon.unknown
