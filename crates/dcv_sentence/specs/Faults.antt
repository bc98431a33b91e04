-- What is at fault in a text, and which of its faults comes first.
--     StandsAmong text tokens rest fault   a fault of a text that is cut into these tokens and this rest
--     HasFault text fault                  the text has the fault
--     IsNotAfter fault other               the fault comes before the other, or is the same
--     IsFirstFault text fault              the text has the fault, and none before it
--     FaultIsUnique                        a text has at most one first fault
use Rattle.std.specs.Prelude.{◌≡◌, ℕ, ◌+◌, ◌<◌, ◌≤◌, nat_le, List, [], ◌⊎◌, Option, Some, None, if◌then◌else◌, length, map, take, find, count_by, slice_get, IsSomeAnd}
use Rattle.std.specs.List.{after_last}
use Rattle.std.specs.Option.{option_map_or}
use Rattle.dcv_grammar.specs.Grammar.{IsFaultAt}
use Rattle.dcv_tokens.specs.Tokens.{Token, IsTokenized}
use Rattle.dcv_tokens.specs.Classes.{class_of}
use Rattle.dcv_tokens.specs.Limits.{is_long, is_large, nests, begins_part}
use Rattle.dcv_sentence.specs.declared.faults.ReadFault.{ReadFault}
use Rattle.dcv_sentence.specs.declared.faults.ReadFault.TheVariants.{Byte, Name, Number, Syntax, Nest, Memory}
use Rattle.dcv_sentence.specs.Language.{language}

-- how many nesting tokens a definition or the goal may have
abbrev pub deepest : ℕ
deepest = 500

-- how many nesting tokens stand after the last token that begins a definition or the goal
abbrev pub depth : List Token → ℕ
depth tokens = count_by nests (after_last begins_part tokens)

-- the token at the place is the first with which the tokens are too deep
pub record IsTooDeepAt (tokens : List Token) (place : ℕ) : Type 0 where
  pub exceeded : deepest < depth (take (place + 1) tokens)
  pub within : (earlier : ℕ) → earlier ≤ place → depth (take earlier tokens) ≤ deepest

-- the offset of the token at a place, and at the end of the tokens the length of the text
abbrev pub offset_at : List ℕ → List Token → ℕ → ℕ
offset_at text tokens place = option_map_or (λ token. token.start) (slice_get tokens place) (length text)

abbrev pub classes_of : List Token → List ℕ
classes_of tokens = map (λ token. class_of token.bytes) tokens

-- the token at the place is the first with which the tokens begin no sentence, or a whole text ends too early
pub record IsMisplacedAt (tokens : List Token) (rest : List ℕ) (place : ℕ) : Type 0 where
  pub fault : IsFaultAt language (classes_of tokens) place
  pub ended : place ≡ length tokens → rest ≡ []

-- where each kind of fault stands in a text with these tokens and this rest
abbrev pub StandsAmong : List ℕ → List Token → List ℕ → ReadFault → Type 0
StandsAmong text tokens rest (Byte at) = (0 < length rest) × (at + length rest ≡ length text)
StandsAmong text tokens rest (Name at) = IsSomeAnd (find is_long tokens) (λ token. at ≡ token.start)
StandsAmong text tokens rest (Number at) = IsSomeAnd (find is_large tokens) (λ token. at ≡ token.start)
StandsAmong text tokens rest (Syntax at) = (place : ℕ) × IsMisplacedAt tokens rest place × (at ≡ offset_at text tokens place)
StandsAmong text tokens rest (Nest at) = (place : ℕ) × IsTooDeepAt tokens place × (at ≡ offset_at text tokens place)
StandsAmong text tokens rest Memory = ⊥

-- the text has the fault
abbrev pub HasFault : List ℕ → ReadFault → Type 0
HasFault text fault =
    (tokens : List Token) × (rest : List ℕ) × IsTokenized text tokens rest × StandsAmong text tokens rest fault

-- where a fault is
abbrev pub offset_of : ReadFault → ℕ
offset_of (Byte at) = at
offset_of (Name at) = at
offset_of (Number at) = at
offset_of (Syntax at) = at
offset_of (Nest at) = at
offset_of Memory = 0

-- the order of faults at one offset
abbrev pub rank_of : ReadFault → ℕ
rank_of (Byte at) = 0
rank_of (Name at) = 1
rank_of (Number at) = 2
rank_of (Syntax at) = 3
rank_of (Nest at) = 4
rank_of Memory = 5

-- the fault is at an earlier offset than the other, or at the same one and not after it in the order
abbrev pub IsNotAfter : ReadFault → ReadFault → Type 0
IsNotAfter fault other =
    (offset_of fault < offset_of other) ⊎ ((offset_of fault ≡ offset_of other) × (rank_of fault ≤ rank_of other))

-- the text has the fault, and none before it
pub record IsFirstFault (text : List ℕ) (fault : ReadFault) : Type 0 where
  pub has : HasFault text fault
  pub first : (other : ReadFault) → HasFault text other → IsNotAfter fault other

-- a text has at most one first fault
abbrev pub FaultIsUnique : Type 0
FaultIsUnique = (text : List ℕ) (fault other : ReadFault) → IsFirstFault text fault → IsFirstFault text other → fault ≡ other

-- the first of two faults: the left one, unless the right one is at a lesser offset
abbrev pub earlier_of : Option ReadFault → Option ReadFault → Option ReadFault
earlier_of None right = right
earlier_of (Some left) None = Some left
earlier_of (Some left) (Some right) = if nat_le (offset_of left) (offset_of right) then Some left else Some right
