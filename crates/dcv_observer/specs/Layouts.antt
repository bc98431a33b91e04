-- How a text is laid out, in the combinators of printers: Hughes, "The Design of a Pretty-printing Library", 1995.
--     Layout                       spaces, ends of lines and tokens, one after another, and what is laid out for each of a list
--     a <> b, a <+> b              one after the other, and with a space between them
--     text_in layout               its bytes
--     pieces_in layout             its pieces
use Rattle.std.specs.Prelude.{ℕ, List, [], ◌∷◌, ◌++◌}
use Rattle.std.specs.List.{flat_map, join_by}
use Rattle.dcv_observer.specs.Pieces.{Piece, Blank, Text}

infixr 36 ◌<>◌
infixr 36 ◌<+>◌
pub data Layout : Type 1 where
  Empty : Layout
  Space : Layout
  Newline : Layout
  Word : (bytes : List ℕ) → Layout
  ◌<>◌ : (first : Layout) → (second : Layout) → Layout
  Each : {X : Type 0} → (layout : X → Layout) → (xs : List X) → Layout
  -- with something between every two
  Joined : {X : Type 0} → (between : Layout) → (layout : X → Layout) → (xs : List X) → Layout

abbrev pub ◌<+>◌ : Layout → Layout → Layout
first <+> second = first <> Space <> second

-- ---- its bytes

abbrev pub text_in : Layout → List ℕ
text_in Empty = []
text_in Space = 32 ∷ []
text_in Newline = 10 ∷ []
text_in (Word bytes) = bytes
text_in (first <> second) = text_in first ++ text_in second
text_in (Each layout xs) = flat_map (λ x. text_in (layout x)) xs
text_in (Joined between layout xs) = join_by (λ x. text_in (layout x)) (text_in between) xs

-- ---- its pieces

abbrev pub joined : {X : Type 0} → List Piece → (X → List Piece) → List X → List Piece
joined between pieces [] = []
joined between pieces (x ∷ xs) = pieces x ++ flat_map (λ y. between ++ pieces y) xs

abbrev pub pieces_in : Layout → List Piece
pieces_in Empty = []
pieces_in Space = Blank 32 ∷ []
pieces_in Newline = Blank 10 ∷ []
pieces_in (Word bytes) = Text bytes ∷ []
pieces_in (first <> second) = pieces_in first ++ pieces_in second
pieces_in (Each layout xs) = flat_map (λ x. pieces_in (layout x)) xs
pieces_in (Joined between layout xs) = joined (pieces_in between) (λ x. pieces_in (layout x)) xs
