-- The first byte of a token tells its kind.
use Rattle.std.proofs.Common.{◌≡◌, ℕ, true, List, [], ◌∷◌, get_or, IsTrue, arith}
use Rattle.std.specs.List.{list_all}
use Rattle.std.specs.Char.{is_ascii_alphabetic, is_ascii_digit}
use Rattle.std.proofs.lemmas.Bool.{and_parts, or_right, both_ways}
use Rattle.std.proofs.lemmas.Bool.Decides.{same_from_decides}
use Rattle.dcv_lexer.specs.Lexicon.{Lexicon, is_word_byte, is_word, is_number, is_blank, is_token, is_piece, is_orderly}
use Rattle.dcv_lexer.proofs.FirstBytes.{white_below, letter_above, digit_within, Kind, kind_of, nothing_is_no_piece}
use Rattle.dcv_lexer.proofs.Longest.{symbol_byte_is_no_other}

module _ (lexicon : Lexicon) (orderly : is_orderly lexicon ≡ true) where
  word_of_letter : (b : ℕ) (bytes : List ℕ) → IsTrue (is_piece lexicon (b ∷ bytes)) → is_ascii_alphabetic b ≡ true → is_word (b ∷ bytes) ≡ true
  word_of_letter b bytes is letter = elim (kind_of lexicon orderly b bytes is) [
    | Kind.white w nil ↦ absurd (omega (arith, white_below b w, letter_above b letter))
    | Kind.comment w slash on ↦ absurd (omega (arith, letter_above b letter))
    | Kind.word w same ↦ w
    | Kind.number w digit ↦ absurd (omega (arith, letter_above b letter, digit_within b digit))
    | Kind.symbol w free ↦ absurd (both_ways (is_ascii_alphabetic b) (symbol_byte_is_no_other b free).2 letter)
  ]

  -- the first byte tells whether a piece is a word
  pub word_by_first : (piece : List ℕ) → IsTrue (is_piece lexicon piece) → is_word piece ≡ is_ascii_alphabetic (get_or piece 0 0)
  word_by_first [] is = absurd (nothing_is_no_piece lexicon is)
  word_by_first (b ∷ bytes) is =
      same_from_decides {P = is_ascii_alphabetic b ≡ true} (is_word (b ∷ bytes)) (is_ascii_alphabetic b)
      (λ word. (and_parts (is_ascii_alphabetic b) (list_all is_word_byte bytes) word).0, word_of_letter b bytes is) (λ h. h, λ h. h)

  number_of_digit : (b : ℕ) (bytes : List ℕ) → IsTrue (is_piece lexicon (b ∷ bytes)) → is_ascii_digit b ≡ true → is_number (b ∷ bytes) ≡ true
  number_of_digit b bytes is digit = elim (kind_of lexicon orderly b bytes is) [
    | Kind.white w nil ↦ absurd (omega (arith, white_below b w, digit_within b digit))
    | Kind.comment w slash on ↦ absurd (omega (arith, digit_within b digit))
    | Kind.word w letter ↦ absurd (omega (arith, letter_above b letter, digit_within b digit))
    | Kind.number w same ↦ w
    | Kind.symbol w free ↦ absurd (both_ways (is_ascii_digit b) (symbol_byte_is_no_other b free).3 digit)
  ]

  -- the first byte tells whether a piece is a number
  pub number_by_first : (piece : List ℕ) → IsTrue (is_piece lexicon piece) → is_number piece ≡ is_ascii_digit (get_or piece 0 0)
  number_by_first [] is = absurd (nothing_is_no_piece lexicon is)
  number_by_first (b ∷ bytes) is =
      same_from_decides {P = is_ascii_digit b ≡ true} (is_number (b ∷ bytes)) (is_ascii_digit b)
      (λ number. (and_parts (is_ascii_digit b) (list_all is_ascii_digit bytes) number).0, number_of_digit b bytes is) (λ h. h, λ h. h)

  pub token_is_piece : (piece : List ℕ) → IsTrue (is_token lexicon piece) → IsTrue (is_piece lexicon piece)
  token_is_piece piece is = or_right (is_blank lexicon piece) (is_token lexicon piece) is
