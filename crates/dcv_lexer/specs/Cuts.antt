-- How a text is cut into white space, comments and tokens.
--     IsLongest lexicon piece text       the piece is the longest with which the text begins
--     IsCut lexicon text pieces rest     the text is cut into the pieces, each the longest where it stands, and the rest
--     Token                              the bytes of a token, and the offset of its first byte
--     tokens_from lexicon start pieces   the tokens among the pieces
use Rattle.std.specs.Prelude.{◌≡◌, ℕ, ◌+◌, ◌≤◌, List, [], ◌∷◌, ◌++◌, length, IsTrue, if◌then◌else◌}
use Rattle.std.specs.List.{concat}
use Rattle.dcv_lexer.specs.Lexicon.{Lexicon, is_blank, is_piece}

-- the text begins with the beginning
abbrev pub BeginsWith : List ℕ → List ℕ → Type 0
BeginsWith text beginning = (rest : List ℕ) × (text ≡ beginning ++ rest)

-- the beginning is a piece, and no longer beginning of the text is one
pub record IsLongest (lexicon : Lexicon) (beginning text : List ℕ) : Type 0 where
  pub piece : IsTrue (is_piece lexicon beginning)
  pub begins : BeginsWith text beginning
  pub longest : (other : List ℕ) → IsTrue (is_piece lexicon other) → BeginsWith text other → length other ≤ length beginning

-- no beginning of the text is a piece
abbrev pub BeginsWithNoPiece : Lexicon → List ℕ → Type 0
BeginsWithNoPiece lexicon text =
    (piece : List ℕ) → IsTrue (is_piece lexicon piece) → BeginsWith text piece → ⊥

-- each piece is the longest where it stands, before the later ones and the rest
abbrev pub EachIsLongest : Lexicon → List (List ℕ) → List ℕ → Type 0
EachIsLongest lexicon [] rest = Unit {0}
EachIsLongest lexicon (piece ∷ pieces) rest =
    IsLongest lexicon piece (piece ++ (concat pieces ++ rest)) × EachIsLongest lexicon pieces rest

-- The text is cut into the pieces and a rest, which is empty or begins with a byte with which no piece begins.
pub record IsCut (lexicon : Lexicon) (text : List ℕ) (pieces : List (List ℕ)) (rest : List ℕ) : Type 0 where
  pub whole : text ≡ concat pieces ++ rest
  pub longest : EachIsLongest lexicon pieces rest
  pub stuck : BeginsWithNoPiece lexicon rest

-- a token, and the offset of its first byte
pub record Token : Type 0 where
  pub bytes : List ℕ
  pub start : ℕ

-- the tokens among pieces that begin at an offset
abbrev pub tokens_from : Lexicon → ℕ → List (List ℕ) → List Token
tokens_from lexicon start [] = []
tokens_from lexicon start (piece ∷ pieces) =
    if is_blank lexicon piece then tokens_from lexicon (start + length piece) pieces
    else (record { bytes = piece; start = start } ∷ tokens_from lexicon (start + length piece) pieces)

-- a text is cut in at most one way
abbrev pub CutIsUnique : Lexicon → Type 0
CutIsUnique lexicon =
    (text rest other_rest : List ℕ) (pieces other_pieces : List (List ℕ)) →
    IsCut lexicon text pieces rest → IsCut lexicon text other_pieces other_rest →
    (pieces ≡ other_pieces) × (rest ≡ other_rest)

-- each text is cut in some way
abbrev pub CutExists : Lexicon → Type 0
CutExists lexicon = (text : List ℕ) → (pieces : List (List ℕ)) × (rest : List ℕ) × IsCut lexicon text pieces rest
