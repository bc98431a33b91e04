-- What the first byte of a piece tells of its kind.
use Rattle.std.proofs.Common.{◌≡◌, ℕ, ◌<◌, Bool, true, ◌&&◌, ◌||◌, ◌==◌, List, [], ◌∷◌, inl, inr, refl, ap, ◌∙◌, arith}
use Rattle.std.specs.List.{list_all}
use Rattle.std.specs.Str.{bytes_eq}
use Rattle.std.specs.Char.{is_ascii_alphabetic, is_ascii_digit}
use Rattle.std.proofs.lemmas.Bool.{cases_Bool, and_parts, or_cases, eqb-true, false≢true}
use Rattle.std.proofs.lemmas.Slice.Eq.{bytes_eq-Decides}
use Rattle.dcv_lexer.specs.Lexicon.{Lexicon, texts_of, is_one_of, is_white, is_white_space, is_comment, is_word, is_number, is_symbol, is_blank, is_token}
use Rattle.dcv_lexer.specs.Lexicon.{is_piece, is_symbol_byte, begins_as_symbol, are_longer_first, is_orderly}

-- what all of the texts pass, one of them passes
pub one_of_passes : (texts : List (List ℕ)) (p : List ℕ → Bool) (piece : List ℕ) → list_all p texts ≡ true → is_one_of texts piece ≡ true → p piece ≡ true
one_of_passes [] p piece all found = absurd (false≢true found)
one_of_passes (text ∷ texts) p piece all found =
    let both = and_parts (p text) (list_all p texts) all in
    elim (or_cases (bytes_eq piece text) (is_one_of texts piece) found) [
      | inl here ↦ ap p ((bytes_eq-Decides piece text).0 here) ∙ both.0
      | inr later ↦ one_of_passes texts p piece both.1 later
    ]

pub each_begins : (lexicon : Lexicon) → is_orderly lexicon ≡ true → list_all begins_as_symbol (texts_of lexicon.symbols) ≡ true
unfolding is_orderly
each_begins lexicon orderly = (and_parts _ (are_longer_first (texts_of lexicon.symbols)) orderly).0

pub longer_first : (lexicon : Lexicon) → is_orderly lexicon ≡ true → are_longer_first (texts_of lexicon.symbols) ≡ true
unfolding is_orderly
longer_first lexicon orderly = (and_parts (list_all begins_as_symbol (texts_of lexicon.symbols)) _ orderly).1

-- ---- the tests of a byte in numbers

pub white_below : (b : ℕ) → is_white b ≡ true → b < 47
white_below b h = grind arith

pub letter_above : (b : ℕ) → is_ascii_alphabetic b ≡ true → 64 < b
letter_above b h = grind arith

pub digit_within : (b : ℕ) → is_ascii_digit b ≡ true → (47 < b) × (b < 58)
digit_within b h = grind arith

-- ---- the kinds

pub data Kind (lexicon : Lexicon) (b : ℕ) (bytes : List ℕ) : Type 0 where
  white : is_white b ≡ true → bytes ≡ [] → Kind lexicon b bytes
  comment : is_comment (b ∷ bytes) ≡ true → b ≡ 47 → lexicon.comments ≡ true → Kind lexicon b bytes
  word : is_word (b ∷ bytes) ≡ true → is_ascii_alphabetic b ≡ true → Kind lexicon b bytes
  number : is_number (b ∷ bytes) ≡ true → is_ascii_digit b ≡ true → Kind lexicon b bytes
  symbol : is_symbol lexicon (b ∷ bytes) ≡ true → is_symbol_byte b ≡ true → Kind lexicon b bytes

pub nothing_is_no_piece : (lexicon : Lexicon) → is_piece lexicon [] ≡ true → ⊥
nothing_is_no_piece lexicon h = elim (cases_Bool lexicon.comments) [
  | inl some ↦ false≢true (rw some at h)
  | inr none ↦ false≢true (rw none at h)
]

module _ (lexicon : Lexicon) (orderly : is_orderly lexicon ≡ true) where
  white_kind : (b : ℕ) (bytes : List ℕ) → is_white_space (b ∷ bytes) ≡ true → Kind lexicon b bytes
  white_kind b [] h = Kind.white h refl
  white_kind b (c ∷ bytes) h = absurd (false≢true h)

  comment_kind : (b : ℕ) (bytes : List ℕ) → lexicon.comments ≡ true → is_comment (b ∷ bytes) ≡ true → Kind lexicon b bytes
  comment_kind b [] on h = absurd (false≢true h)
  comment_kind b (c ∷ bytes) on h = Kind.comment h (eqb-true b 47 (and_parts (b == 47) _ (and_parts (b == 47 && c == 47) _ h).0).0) on

  -- each piece has a kind
  pub kind_of : (b : ℕ) (bytes : List ℕ) → is_piece lexicon (b ∷ bytes) ≡ true → Kind lexicon b bytes
  kind_of b bytes h =
      let piece = b ∷ bytes in
      elim (or_cases (is_blank lexicon piece) (is_token lexicon piece) h) [
        | inl blank ↦ elim (or_cases (is_white_space piece) (lexicon.comments && is_comment piece) blank) [
          | inl w ↦ white_kind b bytes w
          | inr w ↦ let both = and_parts lexicon.comments (is_comment piece) w in comment_kind b bytes both.0 both.1
        ]
        | inr token ↦ elim (or_cases (is_word piece || is_number piece) (is_symbol lexicon piece) token) [
          | inl run ↦ elim (or_cases (is_word piece) (is_number piece) run) [
            | inl w ↦ Kind.word w (and_parts _ _ w).0
            | inr w ↦ Kind.number w (and_parts _ _ w).0
          ]
          | inr w ↦ Kind.symbol w (one_of_passes (texts_of lexicon.symbols) begins_as_symbol piece (each_begins lexicon orderly) w)
        ]
      ]
