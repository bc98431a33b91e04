-- The classes of words and numbers within the limits.
use Rattle.std.proofs.Common.{◌≡◌, ℕ, true, false, not, nat_le, List, length, refl, ap}
use Rattle.std.proofs.lemmas.Bool.{and_parts, or_right}
use Rattle.dcv_lexer.specs.Lexicon.{Lexicon, is_word, is_number, has_leading_zero, word_class}
use Rattle.dcv_lexer.specs.Decimal.{value_of}
use Rattle.dcv_observer.specs.Classes.{longest_word, largest_number, is_short_word, is_small_number, class_of}

module _ (lexicon : Lexicon) (bytes : List ℕ) where
  pub short_word : is_short_word bytes ≡ true → class_of lexicon bytes ≡ word_class lexicon bytes
  short_word is =
      let both = and_parts (is_word bytes) (nat_le (length bytes) longest_word) is in
      rw (both.0, both.1) refl

  pub small_number : is_word bytes ≡ false → is_small_number bytes ≡ true → has_leading_zero bytes ≡ false → class_of lexicon bytes ≡ lexicon.number
  small_number no_word is plain =
      let both = and_parts (is_number bytes) (nat_le (value_of bytes) largest_number) is in
      rw (no_word, both.0, both.1, or_right lexicon.leading_zeros (not (has_leading_zero bytes)) (ap not plain)) refl
