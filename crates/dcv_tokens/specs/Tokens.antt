-- How a formula file is cut into white space, comments and tokens. A text is the list of its bytes.
--     is_blank piece, is_token piece     white space or a comment; a word, a number or a symbol
--     IsLongest piece text               the piece is the longest with which the text begins
--     IsCut text pieces rest             the text is cut into the pieces, each the longest where it stands, and the rest
--     tokens_from start pieces           the tokens among the pieces
--     IsTokenized text tokens rest       these are the text's tokens, and the rest is empty or begins with the byte fault
--     span_of token, span_over a b       from the first byte of a token to its last, or to the last of another
use Rattle.std.specs.Prelude.{◌≡◌, ℕ, ◌+◌, Bool, not, ◌&&◌, List, length, map}
use Rattle.dcv_syntax.specs.declared.names.Span.{Span}
pub use Rattle.dcv_lexer.specs.Lexicon.{is_one_of, is_white, is_white_space, is_in_line, is_comment, is_word_byte, is_word, is_number}
pub use Rattle.dcv_lexer.specs.Cuts.{Token, BeginsWith}
use Rattle.dcv_lexer.specs.Lexicon as lexicon
use Rattle.dcv_lexer.specs.Cuts as cuts
use Rattle.dcv_tokens.specs.FixedTexts.{word_classes}
use Rattle.dcv_tokens.specs.Formulas.{formulas}

-- what separates tokens
abbrev pub is_blank : List ℕ → Bool
is_blank piece = lexicon.is_blank formulas piece

-- a word, a number or a symbol
abbrev pub is_token : List ℕ → Bool
is_token piece = lexicon.is_token formulas piece

abbrev pub is_piece : List ℕ → Bool
is_piece piece = lexicon.is_piece formulas piece

unfoldable pub reserved_words : List (List ℕ)
reserved_words = map (λ entry. entry.0) word_classes

-- a word that is not reserved
abbrev pub is_name : List ℕ → Bool
is_name piece = is_word piece && not (is_one_of reserved_words piece)

-- the beginning is a piece, and no longer beginning of the text is one
abbrev pub IsLongest : List ℕ → List ℕ → Type 0
IsLongest beginning text = cuts.IsLongest formulas beginning text

-- no beginning of the text is a piece
abbrev pub BeginsWithNoPiece : List ℕ → Type 0
BeginsWithNoPiece text = cuts.BeginsWithNoPiece formulas text

-- each piece is the longest where it stands, before the later ones and the rest
abbrev pub EachIsLongest : List (List ℕ) → List ℕ → Type 0
EachIsLongest pieces rest = cuts.EachIsLongest formulas pieces rest

-- The text is cut into the pieces and a rest, which is empty or begins with the byte fault.
abbrev pub IsCut : List ℕ → List (List ℕ) → List ℕ → Type 0
IsCut text pieces rest = cuts.IsCut formulas text pieces rest

-- the tokens among pieces that begin at an offset
abbrev pub tokens_from : ℕ → List (List ℕ) → List Token
tokens_from start pieces = cuts.tokens_from formulas start pieces

-- these are the text's tokens, and the rest is cut into none: it is empty, or begins with the byte fault
pub record IsTokenized (text : List ℕ) (tokens : List Token) (rest : List ℕ) : Type 0 where
  pub pieces : List (List ℕ)
  pub cut : IsCut text pieces rest
  pub among : tokens ≡ tokens_from 0 pieces

-- from the first byte of one token to the last of another
abbrev pub span_over : Token → Token → Span
span_over first last = record { start = first.start; end = last.start + length last.bytes }

abbrev pub span_of : Token → Span
span_of token = span_over token token

-- a text is cut in at most one way
abbrev pub CutIsUnique : Type 0
CutIsUnique = cuts.CutIsUnique formulas

-- each text is cut in some way
abbrev pub CutExists : Type 0
CutExists = cuts.CutExists formulas
