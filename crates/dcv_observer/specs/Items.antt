-- The tokens of a text to which each byte belongs, and where its syntax is at fault.
--     HasItems lexicon text items             these are the text's tokens; a byte with which no piece begins is the last
--     IsSentenceText lexicon grammar text     the classes of its items are a sentence
--     IsSyntaxFault lexicon grammar text at   the items up to the one at this offset begin no sentence, or end too early
use Rattle.std.specs.Prelude.{◌≡◌, ℕ, List, [], ◌∷◌, ◌++◌, Option, Some, None, length, map, slice_get}
use Rattle.std.specs.List.{concat}
use Rattle.std.specs.Option.{option_map_or}
use Rattle.dcv_grammar.specs.Grammar.{ContextFree, IsSentence, IsFaultAt}
use Rattle.dcv_lexer.specs.Lexicon.{Lexicon}
use Rattle.dcv_lexer.specs.Cuts.{Token, IsCut, tokens_from}
use Rattle.dcv_observer.specs.Classes.{class_of}

-- the first byte of what is left at an offset
abbrev pub stray_from : ℕ → List ℕ → List Token
stray_from start [] = []
stray_from start (byte ∷ bytes) = record { bytes = byte ∷ []; start = start } ∷ []

pub record HasItems (lexicon : Lexicon) (text : List ℕ) (items : List Token) : Type 0 where
  pub pieces : List (List ℕ)
  pub rest : List ℕ
  pub cut : IsCut lexicon text pieces rest
  pub among : items ≡ tokens_from lexicon 0 pieces ++ stray_from (length (concat pieces)) rest

abbrev pub token_class : Lexicon → Token → ℕ
token_class lexicon token = class_of lexicon token.bytes

abbrev pub IsSentenceText : Lexicon → ContextFree → List ℕ → Type 0
IsSentenceText lexicon grammar text =
    (items : List Token) × HasItems lexicon text items × IsSentence grammar (map (token_class lexicon) items)

-- the offset of the item at a place, and at the end of the items the length of the text
abbrev pub offset_at : List ℕ → List Token → ℕ → ℕ
offset_at text items place = option_map_or (λ token. token.start) (slice_get items place) (length text)

pub record IsSyntaxFault (lexicon : Lexicon) (grammar : ContextFree) (text : List ℕ) (at : ℕ) : Type 0 where
  pub items : List Token
  pub place : ℕ
  pub has : HasItems lexicon text items
  pub fault : IsFaultAt grammar (map (token_class lexicon) items) place
  pub offset : at ≡ offset_at text items place

-- no fault in a sentence, and else the one
abbrev pub IsSyntaxVerdict : Lexicon → ContextFree → List ℕ → Option ℕ → Type 0
IsSyntaxVerdict lexicon grammar text None = IsSentenceText lexicon grammar text
IsSyntaxVerdict lexicon grammar text (Some at) = IsSyntaxFault lexicon grammar text at

-- ---- laws

-- each text has items
abbrev pub ItemsExist : Type 0
ItemsExist = (lexicon : Lexicon) (text : List ℕ) → (items : List Token) × HasItems lexicon text items

-- and no others
abbrev pub ItemsAreUnique : Type 0
ItemsAreUnique =
    (lexicon : Lexicon) (text : List ℕ) (items others : List Token) →
    HasItems lexicon text items → HasItems lexicon text others → items ≡ others

-- a text has no two verdicts
abbrev pub VerdictIsUnique : Type 0
VerdictIsUnique =
    (lexicon : Lexicon) (grammar : ContextFree) (text : List ℕ) (verdict other : Option ℕ) →
    IsSyntaxVerdict lexicon grammar text verdict → IsSyntaxVerdict lexicon grammar text other → verdict ≡ other
