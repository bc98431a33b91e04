-- The symbols and the reserved words of the subset, each with its class.
use Rattle.std.specs.Prelude.{ℕ, false, List, [], ◌∷◌, codes}
use Rattle.dcv_lexer.specs.Lexicon.{Lexicon}
use Rattle.dcv_observer.specs.Classes.{name, number, unknown}

abbrev pub open_parenthesis : ℕ
open_parenthesis = 3

abbrev pub close_parenthesis : ℕ
close_parenthesis = 4

abbrev pub open_brace : ℕ
open_brace = 5

abbrev pub close_brace : ℕ
close_brace = 6

abbrev pub comma : ℕ
comma = 7

abbrev pub semicolon : ℕ
semicolon = 8

abbrev pub colon : ℕ
colon = 9

abbrev pub question : ℕ
question = 10

abbrev pub equals : ℕ
equals = 11

abbrev pub double_equals : ℕ
double_equals = 12

abbrev pub double_bar : ℕ
double_bar = 13

abbrev pub word_static : ℕ
word_static = 14

abbrev pub word_int : ℕ
word_int = 15

abbrev pub word_void : ℕ
word_void = 16

abbrev pub word_return : ℕ
word_return = 17

abbrev pub word_if : ℕ
word_if = 18

abbrev pub reserved_words : List (List ℕ × ℕ)
reserved_words =
    (codes "static", word_static) ∷ (codes "int", word_int) ∷ (codes "void", word_void) ∷ (codes "return", word_return)
    ∷ (codes "if", word_if) ∷ []

unfoldable pub lexicon : Lexicon
lexicon =
    record {
      symbols = (codes "==", double_equals) ∷ (codes "||", double_bar) ∷ (codes "(", open_parenthesis) ∷ (codes ")", close_parenthesis)
          ∷ (codes "{", open_brace) ∷ (codes "}", close_brace) ∷ (codes ",", comma) ∷ (codes ";", semicolon)
          ∷ (codes ":", colon) ∷ (codes "?", question) ∷ (codes "=", equals) ∷ [];
      words = reserved_words;
      name = name;
      number = number;
      unknown = unknown;
      comments = false;
      leading_zeros = false;
    }
