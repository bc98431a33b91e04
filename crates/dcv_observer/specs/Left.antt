-- What is left of a text's items, as a function of the text. That a text has these items and no others is a law.
--     longest_within lexicon text most   how many bytes the longest piece has with which the text begins, of at most so many
--     pieces_of lexicon text             the pieces into which the text is cut
--     items_from lexicon start text      its items, where it begins at an offset
--     left items                         the items that are left
use Rattle.std.specs.Prelude.{◌≡◌, ℕ, zero, suc, ◌+◌, nat_eq, if◌then◌else◌, List, [], ◌∷◌, ◌++◌, length, take, drop, Option, Some, None}
use Rattle.std.specs.List.{concat}
use Rattle.dcv_lexer.specs.Lexicon.{Lexicon, is_piece}
use Rattle.dcv_lexer.specs.Cuts.{Token, tokens_from}
use Rattle.dcv_lexer.specs.Reading as reading
use Rattle.dcv_observer.specs.declared.items.Item.{Item}
use Rattle.dcv_observer.specs.declared.items.Items.{Items}
use Rattle.dcv_observer.specs.Classes.{class_of}
use Rattle.dcv_observer.specs.Items.{stray_from}

-- 0 where no piece begins it
abbrev pub longest_within : Lexicon → List ℕ → ℕ → ℕ
longest_within lexicon text zero = 0
longest_within lexicon text (suc most) =
    if is_piece lexicon (take (suc most) text) then suc most else longest_within lexicon text most

-- at most so many pieces
abbrev pub pieces_within : Lexicon → ℕ → List ℕ → List (List ℕ)
pieces_within lexicon zero text = []
pieces_within lexicon (suc most) text =
    let longest = longest_within lexicon text (length text) in
    if nat_eq longest 0 then [] else (take longest text ∷ pieces_within lexicon most (drop longest text))

abbrev pub pieces_of : Lexicon → List ℕ → List (List ℕ)
pieces_of lexicon text = pieces_within lexicon (length text) text

abbrev pub items_from : Lexicon → ℕ → List ℕ → List Token
items_from lexicon start text =
    let pieces = pieces_of lexicon text in
    let size = length (concat pieces) in
    tokens_from lexicon start pieces ++ stray_from (start + size) (drop size text)

-- ---- of the code

-- an item of the code as one of the definitions
abbrev pub seen : Item → Token
seen item = record { bytes = item.bytes.now; start = item.start }

abbrev pub lexicon_in : Items → Lexicon
lexicon_in items = reading.lexicon_in items.lexer

abbrev pub left : Items → List Token
left items = items_from (lexicon_in items) items.lexer.start items.lexer.rest.now

-- a call of `next`
pub record GivesOne (old : Items) (item : Item) (new : Items) : Type 0 where
  pub lexicon : lexicon_in new ≡ lexicon_in old
  pub gives : left old ≡ seen item ∷ left new
  pub class : item.class ≡ class_of (lexicon_in old) item.bytes.now

abbrev pub GivesItem : Items → Option Item → Items → Type 0
GivesItem old (Some item) new = GivesOne old item new
GivesItem old None new = left old ≡ []
