-- What a lexer has read of the tokens of a text, and what is left.
--     HasTokens lexer tokens rest   the text that is left has these tokens, and its cut ends before the rest
--     Reads old read new            the tokens of old are those that were read, and then those of new
use Rattle.std.specs.Prelude.{◌≡◌, ℕ, ◌+◌, ◌^◌, ◌<◌, List, [], ◌∷◌, ◌++◌, Option, Some, None, length, IsTrue}
use Rattle.dcv_lexer.specs.declared.reading.Lexeme.{Lexeme}
use Rattle.dcv_lexer.specs.declared.reading.Lexer.{Lexer}
use Rattle.dcv_lexer.specs.Lexicon.{Lexicon, lexicon_of, is_token, class_of}
use Rattle.dcv_lexer.specs.Cuts.{Token, IsCut, tokens_from}

-- a token of the code as one of the definitions
abbrev pub seen : Lexeme → Token
seen lexeme = record { bytes = lexeme.bytes.now; start = lexeme.start }

-- what the text is written with
abbrev pub lexicon_in : Lexer → Lexicon
lexicon_in lexer = lexicon_of lexer.lexicon.now

pub record HasTokens (lexer : Lexer) (tokens : List Token) (rest : List ℕ) : Type 0 where
  pub pieces : List (List ℕ)
  pub cut : IsCut (lexicon_in lexer) lexer.rest.now pieces rest
  pub among : tokens ≡ tokens_from (lexicon_in lexer) lexer.start pieces

abbrev pub Reads : Lexer → List Token → Lexer → Type 0
Reads old read new = (tokens : List Token) (rest : List ℕ) → HasTokens new tokens rest → HasTokens old (read ++ tokens) rest

-- new is further on in the text of old: it is written with the same, and ends where it did
pub record IsFurther (old new : Lexer) : Type 0 where
  pub lexicon : lexicon_in new ≡ lexicon_in old
  pub ends : new.start + length new.rest.now ≡ old.start + length old.rest.now

-- a token that was read
pub record GivesOne (old : Lexer) (given : Lexeme) (new : Lexer) : Type 0 where
  pub further : IsFurther old new
  pub token : IsTrue (is_token (lexicon_in old) given.bytes.now)
  pub class : given.class ≡ class_of (lexicon_in old) given.bytes.now
  pub in_range : given.start + length given.bytes.now < 2 ^ 32
  pub reads : Reads old (seen given ∷ []) new

-- no token is left
pub record GivesNone (old new : Lexer) : Type 0 where
  pub further : IsFurther old new
  pub reads : HasTokens old [] new.rest.now

-- a call of `next`
abbrev pub GivesToken : Lexer → Option Lexeme → Lexer → Type 0
GivesToken old (Some given) new = GivesOne old given new
GivesToken old None new = GivesNone old new
