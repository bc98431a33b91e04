-- The classes of tokens: one for each symbol and each reserved word, one for names and one for numbers.
use Rattle.std.specs.Prelude.{◌≡◌, ◌↔◌, IsTrue, ℕ, List, ◌++◌, Some}
pub use Rattle.dcv_tokens.specs.FixedTexts.{open_parenthesis, close_parenthesis, comma, semicolon, dot, exclamation, caret, star, equals, less, greater}
pub use Rattle.dcv_tokens.specs.FixedTexts.{less_equals, greater_equals, diamond, arrow, double_arrow, double_ampersand, double_bar, open_bracket}
pub use Rattle.dcv_tokens.specs.FixedTexts.{close_bracket, box, open_brackets, close_brackets, open_braces, close_braces, word_var, word_define, word_prop}
pub use Rattle.dcv_tokens.specs.FixedTexts.{word_as, word_infer, word_ex, word_all, word_true, word_false, word_pt, word_ext, word_slen, word_scount}
pub use Rattle.dcv_tokens.specs.FixedTexts.{word_sdur, name, number, minus, plus, unknown}
pub use Rattle.dcv_lexer.specs.Lexicon.{class_in}
use Rattle.dcv_lexer.specs.Lexicon as lexicon
use Rattle.dcv_tokens.specs.FixedTexts.{symbol_classes, word_classes}
use Rattle.dcv_tokens.specs.Formulas.{formulas}
use Rattle.dcv_tokens.specs.Tokens.{is_number, is_name, is_token}

-- the symbols and the reserved words, each with its class
unfoldable pub fixed_texts : List (List ℕ × ℕ)
fixed_texts = symbol_classes ++ word_classes

-- The class of a token. A word that is not reserved is a name.
abbrev pub class_of : List ℕ → ℕ
class_of bytes = lexicon.class_of formulas bytes

-- a word that is not reserved has the class of names, and no other token
abbrev pub NamesHaveTheClass : Type 0
NamesHaveTheClass = (bytes : List ℕ) → IsTrue (is_token bytes) → (class_of bytes ≡ name) ↔ IsTrue (is_name bytes)

-- a number has the class of numbers, and no other token
abbrev pub NumbersHaveTheClass : Type 0
NumbersHaveTheClass = (bytes : List ℕ) → IsTrue (is_token bytes) → (class_of bytes ≡ number) ↔ IsTrue (is_number bytes)

-- no two fixed texts share a class
abbrev pub FixedTextsDiffer : Type 0
FixedTextsDiffer =
    (text other : List ℕ) (class : ℕ) →
    class_in fixed_texts text ≡ Some class → class_in fixed_texts other ≡ Some class → text ≡ other
