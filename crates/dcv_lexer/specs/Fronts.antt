-- The piece with which a text begins, as the code finds it.
use Rattle.std.specs.Prelude.{◌≡◌, ℕ, ◌<◌, ◌≤◌, List, Option, Some, None, length, take, find, nat_eq, if◌then◌else◌}
use Rattle.std.specs.List.{starts_with}
use Rattle.dcv_lexer.specs.declared.pieces.Front.{Front}
use Rattle.dcv_lexer.specs.Lexicon.{Lexicon, is_blank, class_of}
use Rattle.dcv_lexer.specs.Cuts.{IsLongest}

-- none of white space and comments
abbrev pub class_if_token : Lexicon → List ℕ → Option ℕ
class_if_token lexicon piece = if is_blank lexicon piece then None else Some (class_of lexicon piece)

-- so many bytes are the longest piece with which the text begins, and this is its class
pub record IsFront (lexicon : Lexicon) (text : List ℕ) (front : Front) : Type 0 where
  pub some : 0 < front.length
  pub in_range : front.length ≤ length text
  pub longest : IsLongest lexicon (take front.length text) text
  pub class : front.class ≡ class_if_token lexicon (take front.length text)

-- the first entry of a table with whose text this one begins
abbrev pub first_fit : List ℕ → List (List ℕ × ℕ) → Option (List ℕ × ℕ)
first_fit text table = find (λ entry. starts_with nat_eq text entry.0) table

-- a symbol of a table
abbrev pub front_of : List ℕ × ℕ → Front
front_of entry = record { length = length entry.0; class = Some entry.1 }
