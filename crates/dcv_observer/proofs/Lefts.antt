-- What is left of a text's items after one of them.
use Rattle.std.proofs.Common.{◌≡◌, ℕ, ◌+◌, ◌<◌, false, ◌||◌, List, [], ◌∷◌, ◌++◌, length, take, Option, Some, None, inl, inr, refl, sym, ap, subst, ◌∙◌}
use Rattle.std.proofs.Common.{arith, length-append}
use Rattle.std.specs.Prelude.{unwrap_or, IfSome}
use Rattle.std.specs.Iterator.{MakesProgress, at_most}
use Rattle.std.specs.List.{concat}
use Rattle.std.proofs.lemmas.Bool.{or_parts, or_right, both_ways, false_from_ne_true}
use Rattle.dcv_lexer.specs.declared.reading.Lexer.{Lexer}
use Rattle.dcv_lexer.specs.declared.reading.Lexeme.{Lexeme}
use Rattle.dcv_lexer.specs.Lexicon.{Lexicon, texts_of, is_one_of, is_word, is_number, is_symbol, is_blank, is_token, class_in}
use Rattle.dcv_lexer.specs.Cuts.{BeginsWithNoPiece, Token}
use Rattle.dcv_lexer.specs.Reading.{seen, lexicon_in, HasTokens, GivesOne, GivesNone}
use Rattle.dcv_lexer.proofs.Cuts.{piece_has_bytes, cut_nothing}
use Rattle.dcv_lexer.proofs.ClassTables.{some_or_none, text_there}
use Rattle.dcv_lexer.proofs.Lexers.{tokens_exist}
use Rattle.dcv_observer.specs.declared.items.Item.{Item}
use Rattle.dcv_observer.specs.declared.items.Items.{Items}
use Rattle.dcv_observer.specs.Classes.{class_of}
use Rattle.dcv_observer.specs.Items.{stray_from}
use Rattle.dcv_observer.specs.Left.{seen as seen_item, items_from, left, GivesOne as ItemGivesOne, GivesItem}
use Rattle.dcv_observer.proofs.Cutting.{items_are}

-- the items that a lexer has left
abbrev pub left_in : Lexer → List Token
left_in lexer = items_from (lexicon_in lexer) lexer.start lexer.rest.now

-- where the rest after the tokens begins
behind : (lexer : Lexer) (tokens : List Token) (rest : List ℕ) (h : HasTokens lexer tokens rest)
    → lexer.start + length (concat h.pieces) + length rest ≡ lexer.start + length lexer.rest.now
behind lexer tokens rest h = omega (arith, ap length h.cut.whole ∙ length-append (concat h.pieces) rest)

left_is : (lexer : Lexer) (tokens : List Token) (rest : List ℕ) (h : HasTokens lexer tokens rest)
    → left_in lexer ≡ tokens ++ stray_from (lexer.start + length (concat h.pieces)) rest
left_is lexer tokens rest h =
    items_are (lexicon_in lexer) lexer.rest.now rest h.pieces lexer.start h.cut
    ∙ ap (λ (ts : List Token). ts ++ stray_from (lexer.start + length (concat h.pieces)) rest) (sym h.among)

-- a token that the lexer gives is the first that is left
pub gives_token : (old : Lexer) (given : Lexeme) (new : Lexer) → GivesOne old given new → left_in old ≡ seen given ∷ left_in new
gives_token old given new gives =
    let (tokens, rest, later) = tokens_exist new in
    let all = gives.reads tokens rest later in
    let same : old.start + length (concat all.pieces) ≡ new.start + length (concat later.pieces) =
    omega (arith, behind old (seen given ∷ tokens) rest all, behind new tokens rest later, gives.further.ends) in
    left_is old (seen given ∷ tokens) rest all
    ∙ ap (λ (n : ℕ). seen given ∷ (tokens ++ stray_from n rest)) same
    ∙ ap (λ (ts : List Token). seen given ∷ ts) (sym (left_is new tokens rest later))

-- where no piece begins, the stray byte is all that is left
pub stray_left : (lexer : Lexer) → BeginsWithNoPiece (lexicon_in lexer) lexer.rest.now → left_in lexer ≡ stray_from lexer.start lexer.rest.now
stray_left lexer none =
    let same : lexer.start + 0 ≡ lexer.start = omega arith in
    items_are (lexicon_in lexer) lexer.rest.now lexer.rest.now [] lexer.start (cut_nothing (lexicon_in lexer) lexer.rest.now none)
    ∙ ap (λ (n : ℕ). stray_from n lexer.rest.now) same

-- that no token is left
module _ (old new : Lexer) (gives : GivesNone old new) where
  pub stuck : BeginsWithNoPiece (lexicon_in new) new.rest.now
  stuck = subst (λ (lexicon : Lexicon). BeginsWithNoPiece lexicon new.rest.now) (sym gives.further.lexicon) gives.reads.cut.stuck

  pub same_left : left_in old ≡ left_in new
  same_left =
      let same : old.start + length (concat gives.reads.pieces) ≡ new.start = omega (arith, behind old [] new.rest.now gives.reads, gives.further.ends) in
      left_is old [] new.rest.now gives.reads ∙ ap (λ (n : ℕ). stray_from n new.rest.now) same ∙ sym (stray_left new stuck)

-- ---- the stray byte

-- nothing begins nothing
none_begins_nothing : (lexicon : Lexicon) → BeginsWithNoPiece lexicon []
none_begins_nothing lexicon piece is begins = absurd (omega (arith, piece_has_bytes lexicon piece is, ap length begins.1 ∙ length-append piece begins.0))

pub nothing_left : (lexer : Lexer) → lexer.rest.now ≡ [] → left_in lexer ≡ []
nothing_left lexer is =
    let none = subst (λ (rest : List ℕ). BeginsWithNoPiece (lexicon_in lexer) rest) (sym is) (none_begins_nothing (lexicon_in lexer)) in
    stray_left lexer none ∙ ap (λ (rest : List ℕ). stray_from lexer.start rest) is

no_symbol : (table : List (List ℕ × ℕ)) (bytes : List ℕ) → is_one_of (texts_of table) bytes ≡ false → class_in table bytes ≡ None
no_symbol table bytes none = elim (some_or_none (class_in table bytes)) [
  | inl some ↦ absurd (both_ways (is_one_of (texts_of table) bytes) none (text_there table bytes some.0 some.1))
  | inr is ↦ is
]

-- a byte that is no token has the class of none
pub stray_class : (lexicon : Lexicon) (b : ℕ) → is_token lexicon (b ∷ []) ≡ false → class_of lexicon (b ∷ []) ≡ lexicon.unknown
stray_class lexicon b none =
    let piece = b ∷ [] in
    let first = or_parts (is_word piece || is_number piece) (is_symbol lexicon piece) none in
    let second = or_parts (is_word piece) (is_number piece) first.0 in
    let symbol = no_symbol lexicon.symbols piece first.1 in
    rw (second.0, second.1) (ap (λ (o : Option ℕ). unwrap_or o lexicon.unknown) symbol)

-- the first byte that is left, where no piece begins, and what is left after it
pub record IsStray (old : Lexer) (bytes : List ℕ) (new : Lexer) : Type 0 where
  pub item : left_in old ≡ record { bytes = bytes; start = old.start } ∷ left_in new
  pub class : class_of (lexicon_in old) bytes ≡ (lexicon_in old).unknown

pub is_stray : (old new : Lexer) → BeginsWithNoPiece (lexicon_in old) old.rest.now → 0 < length old.rest.now → new.rest.now ≡ []
    → IsStray old (take 1 old.rest.now) new
is_stray old new none some empty = by_rest old.rest.now refl
  where
    by_rest : (rest : List ℕ) → old.rest.now ≡ rest → IsStray old (take 1 rest) new
    by_rest [] is = absurd (omega (arith, some, ap length is))
    by_rest (b ∷ rest) is = record {
      item = stray_left old none ∙ ap (λ (left : List ℕ). stray_from old.start left) is
          ∙ ap (λ (later : List Token). record { bytes = b ∷ []; start = old.start } ∷ later) (sym (nothing_left new empty));
      class = stray_class (lexicon_in old) b (false_from_ne_true (is_token (lexicon_in old) (b ∷ [])) (λ token.
          none (b ∷ []) (or_right (is_blank (lexicon_in old) (b ∷ [])) (is_token (lexicon_in old) (b ∷ [])) token) (rest, is)));
    }

-- ---- items of the code

pub from_there : (old mid new : Items) (given : Option Item) → left old ≡ left mid → lexicon_in mid.lexer ≡ lexicon_in old.lexer → GivesItem mid given new
    → GivesItem old given new
from_there old mid new None same lexicon none = same ∙ none
from_there old mid new (Some item) same lexicon one = record {
  lexicon = one.lexicon ∙ lexicon;
  gives = same ∙ one.gives;
  class = one.class ∙ ap (λ (l : Lexicon). class_of l item.bytes.now) lexicon;
}

pub stray_gives : (old : Items) (item : Item) (new : Items) → IsStray old.lexer item.bytes.now new.lexer → item.start ≡ old.lexer.start
    → item.class ≡ (lexicon_in old.lexer).unknown → lexicon_in new.lexer ≡ lexicon_in old.lexer → ItemGivesOne old item new
stray_gives old item new stray start class lexicon = record {
  lexicon = lexicon;
  gives = stray.item ∙ (λ i. record { bytes = item.bytes.now; start = sym start i } ∷ left_in new.lexer);
  class = class ∙ sym stray.class;
}

pub token_gives : (old : Items) (given : Lexeme) (item : Item) (new : Items) → GivesOne old.lexer given new.lexer → seen_item item ≡ seen given
    → item.class ≡ class_of (lexicon_in old.lexer) item.bytes.now → ItemGivesOne old item new
token_gives old given item new gives same class = record {
  lexicon = gives.further.lexicon;
  gives = gives_token old.lexer given new.lexer gives ∙ (λ i. sym same i ∷ left_in new.lexer);
  class = class;
}

-- with each item less is left
pub goes_on : (old new : Items) (given : Option Item) → IfSome given (λ _. length new.lexer.rest.now < length old.lexer.rest.now)
    → MakesProgress (λ _. Unit {0}) (λ (items : Items). at_most (length items.lexer.rest.now)) old given new
goes_on old new None shorter = record { on = λ finite. tt; keeps = tt; rests = λ finite. tt }
goes_on old new (Some item) shorter = record { on = λ finite. (tt, tt, shorter); keeps = tt; rests = λ finite. tt }
