-- A text that is laid out piece by piece.
--     Piece                           a blank, or the text of a token
--     bytes_of pieces                 the text
--     tokens_at start pieces          its tokens, where it begins at an offset
--     IsLaidOut lexicon pieces next   each piece is one of the lexicon and ends where it does, before the byte that comes next
use Rattle.std.specs.Prelude.{ℕ, ◌+◌, Bool, true, not, ◌&&◌, nat_eq, IsTrue, if◌then◌else◌, List, [], ◌∷◌, ◌++◌, length, map, slice_index_or}
use Rattle.std.specs.List.{concat, starts_with}
use Rattle.std.specs.Char.{is_ascii_digit}
use Rattle.dcv_lexer.specs.Lexicon.{Lexicon, is_white, is_word_byte, is_word, is_number, is_token}
use Rattle.dcv_lexer.specs.Cuts.{Token}
use Rattle.dcv_observer.specs.Items.{HasItems}

pub data Piece : Type 0 where
  -- one byte of white space
  Blank : (byte : ℕ) → Piece
  Text : (bytes : List ℕ) → Piece

abbrev pub bytes_in : Piece → List ℕ
bytes_in (Blank byte) = byte ∷ []
bytes_in (Text bytes) = bytes

abbrev pub bytes_of : List Piece → List ℕ
bytes_of pieces = concat (map bytes_in pieces)

abbrev pub tokens_at : ℕ → List Piece → List Token
tokens_at start [] = []
tokens_at start (Blank byte ∷ pieces) = tokens_at (start + 1) pieces
tokens_at start (Text bytes ∷ pieces) = record { bytes = bytes; start = start } ∷ tokens_at (start + length bytes) pieces

-- ---- where pieces end

-- no symbol begins with these bytes and the next one
abbrev pub ends_symbol : List (List ℕ × ℕ) → List ℕ → ℕ → Bool
ends_symbol [] bytes next = true
ends_symbol (entry ∷ entries) bytes next = not (starts_with nat_eq entry.0 (bytes ++ next ∷ [])) && ends_symbol entries bytes next

-- no longer token begins with this one and the next byte
abbrev pub ends_before : Lexicon → List ℕ → ℕ → Bool
ends_before lexicon bytes next =
    if is_word bytes then not (is_word_byte next)
    else (if is_number bytes then not (is_ascii_digit next) else ends_symbol lexicon.symbols bytes next)

-- the byte with which pieces begin, or the next one
abbrev pub first_byte : List Piece → ℕ → ℕ
first_byte [] next = next
first_byte (Blank byte ∷ pieces) next = byte
first_byte (Text bytes ∷ pieces) next = slice_index_or bytes 0 (first_byte pieces next)

abbrev pub IsPieceBefore : Lexicon → Piece → ℕ → Type 0
IsPieceBefore lexicon (Blank byte) next = IsTrue (is_white byte)
IsPieceBefore lexicon (Text bytes) next = IsTrue (is_token lexicon bytes) × IsTrue (ends_before lexicon bytes next)

abbrev pub IsLaidOut : Lexicon → List Piece → ℕ → Type 0
IsLaidOut lexicon [] next = Unit {0}
IsLaidOut lexicon (piece ∷ pieces) next =
    IsPieceBefore lexicon piece (first_byte pieces next) × IsLaidOut lexicon pieces next

-- the text has the tokens that are laid out
abbrev pub HasItsTokens : Lexicon → Type 0
HasItsTokens lexicon =
    (pieces : List Piece) (next : ℕ) → IsLaidOut lexicon pieces next → HasItems lexicon (bytes_of pieces) (tokens_at 0 pieces)
