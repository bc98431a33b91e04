-- What is said of one token alone: whether it is too long or too large, and what it is for the depth of a text.
use Rattle.std.specs.Prelude.{ℕ, Bool, ◌&&◌, ◌==◌, nat_lt, List, [], ◌∷◌, length}
use Rattle.std.specs.List.{list_any}
use Rattle.dcv_tokens.specs.Tokens.{Token, is_word, is_number}
use Rattle.dcv_tokens.specs.Classes.{class_of, open_parenthesis, exclamation, diamond, box, word_ex, word_all, arrow, star, minus, plus, word_define, word_prop, word_infer}
use Rattle.dcv_tokens.specs.Decimal.{value_of}

-- how many bytes a word may have
abbrev pub longest_word : ℕ
longest_word = 24

-- the largest number that may stand in a text
abbrev pub largest_number : ℕ
largest_number = 9999

abbrev pub is_long : Token → Bool
is_long token = is_word token.bytes && nat_lt longest_word (length token.bytes)

abbrev pub is_large : Token → Bool
is_large token = is_number token.bytes && nat_lt largest_number (value_of token.bytes)

abbrev pub has_class : List ℕ → Token → Bool
has_class classes token = list_any (λ class. class == class_of token.bytes) classes

-- `(`, `!`, `<>`, `[]`, `ex`, `all`, `=>`, `*`, `-` or `+`
abbrev pub nests : Token → Bool
nests token =
    has_class (open_parenthesis ∷ exclamation ∷ diamond ∷ box ∷ word_ex ∷ word_all ∷ arrow ∷ star ∷ minus ∷ plus ∷ []) token

-- `define`, `prop` or `infer`
abbrev pub begins_part : Token → Bool
begins_part token = has_class (word_define ∷ word_prop ∷ word_infer ∷ []) token
