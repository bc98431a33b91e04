-- The symbols and the reserved words of the subset, each with its class. `ok` has a class of its own, and is a name too.
use Rattle.std.specs.Prelude.{ℕ, true, false, List, [], ◌∷◌, codes}
use Rattle.dcv_lexer.specs.Lexicon.{Lexicon}
use Rattle.dcv_observer.specs.Classes.{name, number, unknown}

abbrev pub open_parenthesis : ℕ
open_parenthesis = 3

abbrev pub close_parenthesis : ℕ
close_parenthesis = 4

abbrev pub colon : ℕ
colon = 5

abbrev pub semicolon : ℕ
semicolon = 6

abbrev pub equals : ℕ
equals = 7

abbrev pub arrow : ℕ
arrow = 8

abbrev pub word_node : ℕ
word_node = 9

abbrev pub word_returns : ℕ
word_returns = 10

abbrev pub word_var : ℕ
word_var = 11

abbrev pub word_let : ℕ
word_let = 12

abbrev pub word_tel : ℕ
word_tel = 13

abbrev pub word_if : ℕ
word_if = 14

abbrev pub word_then : ℕ
word_then = 15

abbrev pub word_else : ℕ
word_else = 16

abbrev pub word_pre : ℕ
word_pre = 17

abbrev pub word_or : ℕ
word_or = 18

abbrev pub word_true : ℕ
word_true = 19

abbrev pub word_false : ℕ
word_false = 20

abbrev pub word_bool : ℕ
word_bool = 21

abbrev pub word_int : ℕ
word_int = 22

-- the name of the output
abbrev pub word_ok : ℕ
word_ok = 23

abbrev pub reserved_words : List (List ℕ × ℕ)
reserved_words =
    (codes "node", word_node) ∷ (codes "returns", word_returns) ∷ (codes "var", word_var) ∷ (codes "let", word_let)
    ∷ (codes "tel", word_tel) ∷ (codes "if", word_if) ∷ (codes "then", word_then) ∷ (codes "else", word_else)
    ∷ (codes "pre", word_pre) ∷ (codes "or", word_or) ∷ (codes "true", word_true) ∷ (codes "false", word_false)
    ∷ (codes "bool", word_bool) ∷ (codes "int", word_int) ∷ []

unfoldable pub lexicon : Lexicon
lexicon =
    record {
      symbols = (codes "->", arrow) ∷ (codes "(", open_parenthesis) ∷ (codes ")", close_parenthesis)
          ∷ (codes ":", colon) ∷ (codes ";", semicolon) ∷ (codes "=", equals) ∷ [];
      words = (codes "ok", word_ok) ∷ reserved_words;
      name = name;
      number = number;
      unknown = unknown;
      comments = false;
      leading_zeros = true;
    }
