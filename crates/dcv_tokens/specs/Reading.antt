-- What is read of the tokens of a formula file, and what is left.
use Rattle.std.specs.Prelude.{ℕ, List, [], ◌∷◌, Option, Some, None}
use Rattle.dcv_lexer.specs.Reading as reading
use Rattle.dcv_tokens.specs.declared.lexer.Token.{Token as PlacedToken}
use Rattle.dcv_tokens.specs.declared.lexer.Tokens.{Tokens}
use Rattle.dcv_tokens.specs.Tokens.{Token}

-- a token of the code as one of the definitions
abbrev pub seen : PlacedToken → Token
seen token = record { bytes = token.bytes.now; start = token.start }

-- the text that is left has these tokens, and its cut ends before the rest
abbrev pub HasTokens : Tokens → List Token → List ℕ → Type 0
HasTokens source tokens rest = reading.HasTokens source.lexer tokens rest

-- the tokens of old are those that were read, and then those of new
abbrev pub Reads : Tokens → List Token → Tokens → Type 0
Reads old read new = reading.Reads old.lexer read new.lexer

-- a call of `next`
abbrev pub GivesToken : Tokens → Option PlacedToken → Tokens → Type 0
GivesToken old (Some token) new = Reads old (seen token ∷ []) new
GivesToken old None new = HasTokens old [] new.lexer.rest.now
