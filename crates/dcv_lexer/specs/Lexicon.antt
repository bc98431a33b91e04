-- What a language is written with, and what a piece of a text is to it. A text is the list of its bytes.
--     Lexicon                    the symbols and the reserved words, each with its class, and the classes of all else
--     is_blank lexicon piece     white space or a comment
--     is_token lexicon piece     a word, a number or a symbol
--     has_leading_zero digits    a 0 stands before other digits
--     class_of lexicon bytes     the class of a token
--     is_orderly lexicon         the first byte tells a symbol from all else, and the first symbol that fits is the longest
use Rattle.std.specs.Prelude.{ℕ, Bool, true, false, not, ◌&&◌, ◌||◌, ◌==◌, nat_le, nat_lt, List, [], ◌∷◌, Option, Some, None, length, map, bytes_eq, slice_index_or, unwrap_or}
use Rattle.std.specs.Prelude.{if◌then◌else◌}
use Rattle.std.specs.List.{list_all, list_any}
use Rattle.std.specs.Char.{is_ascii_alphabetic, is_ascii_digit}
use Rattle.dcv_lexer.specs.declared.tables.Lexicon.{Lexicon as LexiconTables}

-- texts with their classes, and the classes of a word that is not reserved, of a number, and of what is no token or may not stand
pub record Lexicon : Type 0 where
  pub symbols : List (List ℕ × ℕ)
  pub words : List (List ℕ × ℕ)
  pub name : ℕ
  pub number : ℕ
  pub unknown : ℕ
  pub comments : Bool  -- whether `//` begins a comment
  pub leading_zeros : Bool  -- whether a number of two digits or more may begin with 0

-- what is written in the tables of the code
abbrev pub lexicon_of : LexiconTables → Lexicon
lexicon_of tables = record {
  symbols = map (λ entry. (entry.0.now, entry.1)) tables.symbols.now;
  words = map (λ entry. (entry.0.now, entry.1)) tables.words.now;
  name = tables.name;
  number = tables.number;
  unknown = tables.unknown;
  comments = tables.comments;
  leading_zeros = tables.leading_zeros;
}

-- the texts of a table
abbrev pub texts_of : List (List ℕ × ℕ) → List (List ℕ)
texts_of table = map (λ entry. entry.0) table

-- one of the texts
abbrev pub is_one_of : List (List ℕ) → List ℕ → Bool
is_one_of texts piece = list_any (bytes_eq piece) texts

-- ---- white space and comments

-- a space, a tab, a line feed or a carriage return
abbrev pub is_white : ℕ → Bool
is_white b = b == 32 || b == 9 || b == 10 || b == 13

-- one byte of white space
abbrev pub is_white_space : List ℕ → Bool
is_white_space [] = false
is_white_space (b ∷ []) = is_white b
is_white_space (b ∷ c ∷ bytes) = false

-- any byte but a line feed
abbrev pub is_in_line : ℕ → Bool
is_in_line b = not (b == 10)

-- `//` and bytes of the same line, whichever they are
abbrev pub is_comment : List ℕ → Bool
is_comment [] = false
is_comment (a ∷ []) = false
is_comment (a ∷ b ∷ bytes) = a == 47 && b == 47 && list_all is_in_line bytes

-- what separates tokens
abbrev pub is_blank : Lexicon → List ℕ → Bool
is_blank lexicon piece = is_white_space piece || (lexicon.comments && is_comment piece)

-- ---- tokens

-- an ASCII letter or digit, or `_`
abbrev pub is_word_byte : ℕ → Bool
is_word_byte b = is_ascii_alphabetic b || is_ascii_digit b || b == 95

-- an ASCII letter, and then letters, digits and `_`
abbrev pub is_word : List ℕ → Bool
is_word [] = false
is_word (b ∷ bytes) = is_ascii_alphabetic b && list_all is_word_byte bytes

-- one digit or more
abbrev pub is_number : List ℕ → Bool
is_number [] = false
is_number (b ∷ bytes) = is_ascii_digit b && list_all is_ascii_digit bytes

-- a number of two digits or more that begins with `0`
abbrev pub has_leading_zero : List ℕ → Bool
has_leading_zero digits = nat_lt 1 (length digits) && slice_index_or digits 0 0 == 48

-- one of the symbols, with a byte or more
abbrev pub is_symbol : Lexicon → List ℕ → Bool
is_symbol lexicon [] = false
is_symbol lexicon (b ∷ bytes) = is_one_of (texts_of lexicon.symbols) (b ∷ bytes)

abbrev pub is_token : Lexicon → List ℕ → Bool
is_token lexicon piece = is_word piece || is_number piece || is_symbol lexicon piece

abbrev pub is_piece : Lexicon → List ℕ → Bool
is_piece lexicon piece = is_blank lexicon piece || is_token lexicon piece

-- ---- classes

-- the class that a table has for a text
abbrev pub class_in : List (List ℕ × ℕ) → List ℕ → Option ℕ
class_in [] bytes = None
class_in (entry ∷ entries) bytes = if bytes_eq bytes entry.0 then Some entry.1 else class_in entries bytes

-- a word that is not reserved is a name
abbrev pub word_class : Lexicon → List ℕ → ℕ
word_class lexicon bytes = unwrap_or (class_in lexicon.words bytes) lexicon.name

abbrev pub number_class : Lexicon → List ℕ → ℕ
number_class lexicon bytes = if lexicon.leading_zeros || not (has_leading_zero bytes) then lexicon.number else lexicon.unknown

abbrev pub symbol_class : Lexicon → List ℕ → ℕ
symbol_class lexicon bytes = unwrap_or (class_in lexicon.symbols bytes) lexicon.unknown

-- the class of a word, a number or a symbol, and of anything else the class of what is no token
abbrev pub class_of : Lexicon → List ℕ → ℕ
class_of lexicon bytes =
    if is_word bytes then word_class lexicon bytes
    else (if is_number bytes then number_class lexicon bytes else symbol_class lexicon bytes)

-- ---- the order of symbols

-- a byte with which no white space, comment, word or number begins
abbrev pub is_symbol_byte : ℕ → Bool
is_symbol_byte b = not (is_white b || b == 47 || is_ascii_alphabetic b || is_ascii_digit b)

abbrev pub begins_as_symbol : List ℕ → Bool
begins_as_symbol [] = false
begins_as_symbol (b ∷ bytes) = is_symbol_byte b

-- no text is longer than an earlier one
abbrev pub are_longer_first : List (List ℕ) → Bool
are_longer_first [] = true
are_longer_first (text ∷ texts) = list_all (λ later. nat_le (length later) (length text)) texts && are_longer_first texts

-- each symbol begins with a byte with which nothing else does, and none is longer than an earlier one
unfoldable pub is_orderly : Lexicon → Bool
is_orderly lexicon =
    let texts = texts_of lexicon.symbols in list_all begins_as_symbol texts && are_longer_first texts
