-- The longest piece with which a text begins, with its class.
use Rattle.std.proofs.Common.{◌≡◌, ℕ, zero, suc, ◌<◌, ◌≤◌, true, false, ◌&&◌, ◌==◌, nat_eq, List, [], ◌∷◌, length, take, drop, get_or, Option, Some, None}
use Rattle.std.proofs.Common.{inl, inr, refl, sym, ap, subst, ◌∙◌, arith, length-append}
use Rattle.std.specs.Prelude.{unwrap_or, option_map, IfSome, IfNone}
use Rattle.std.specs.List.{list_all, prefix_len, starts_with}
use Rattle.std.specs.Char.{is_ascii_alphabetic, is_ascii_digit}
use Rattle.std.proofs.lemmas.Bool.{cases_Bool, false_from_ne_true, and_from, and_left, or_left, or_right, false≢true, eqb-true}
use Rattle.std.proofs.lemmas.List.{take_at}
use Rattle.dcv_lexer.specs.declared.pieces.Front.{Front}
use Rattle.dcv_lexer.specs.Lexicon.{Lexicon, texts_of, is_white, is_white_space, is_in_line, is_comment, is_word_byte, is_word, is_number, is_blank}
use Rattle.dcv_lexer.specs.Lexicon.{begins_as_symbol, word_class, number_class, symbol_class, class_of, is_orderly}
use Rattle.dcv_lexer.specs.Cuts.{IsLongest, BeginsWithNoPiece}
use Rattle.dcv_lexer.specs.Fronts.{class_if_token, IsFront, first_fit, front_of}
use Rattle.dcv_lexer.proofs.FirstBytes.{one_of_passes, each_begins, longer_first, white_below, letter_above, digit_within}
use Rattle.dcv_lexer.proofs.Longest.{IsPieceLength, white_length, word_length, number_length, comment_length, passes_front, symbol_byte_is_no_other}
use Rattle.dcv_lexer.proofs.Longest.{slashes_there, first_is_longest, IsOther, no_symbol, symbol_longest}

-- ---- words and numbers at the front

pub word_at_front : (text : List ℕ) → is_ascii_alphabetic (get_or text 0 0) ≡ true
    → (0 < prefix_len is_word_byte text) × (is_word (take (prefix_len is_word_byte text) text) ≡ true)
word_at_front [] letter = absurd (false≢true letter)
word_at_front (b ∷ bytes) letter =
    let one : is_word_byte b ≡ true = or_left _ _ (or_left _ _ letter) in
    let next : prefix_len is_word_byte (b ∷ bytes) ≡ suc (prefix_len is_word_byte bytes) = rw one (omega arith) in
    (omega (arith, next), rw next (and_from _ _ letter (passes_front is_word_byte bytes)))

pub number_at_front : (text : List ℕ) → is_ascii_digit (get_or text 0 0) ≡ true
    → (0 < prefix_len is_ascii_digit text) × (is_number (take (prefix_len is_ascii_digit text) text) ≡ true)
number_at_front [] digit = absurd (false≢true digit)
number_at_front (b ∷ bytes) digit =
    let next : prefix_len is_ascii_digit (b ∷ bytes) ≡ suc (prefix_len is_ascii_digit bytes) = rw digit (omega arith) in
    (omega (arith, next), rw next (and_from _ _ digit (passes_front is_ascii_digit bytes)))

-- what begins with no letter is no word, and what begins with no digit no number
pub no_word : (bytes : List ℕ) → is_ascii_alphabetic (get_or bytes 0 0) ≡ false → is_word bytes ≡ false
no_word [] none = refl
no_word (b ∷ bytes) none = and_left (is_ascii_alphabetic b) (list_all is_word_byte bytes) none

pub no_number : (bytes : List ℕ) → is_ascii_digit (get_or bytes 0 0) ≡ false → is_number bytes ≡ false
no_number [] none = refl
no_number (b ∷ bytes) none = and_left (is_ascii_digit b) (list_all is_ascii_digit bytes) none

pub digit_is_no_letter : (b : ℕ) → is_ascii_digit b ≡ true → is_ascii_alphabetic b ≡ false
digit_is_no_letter b digit = false_from_ne_true (is_ascii_alphabetic b) (λ letter. omega (arith, letter_above b letter, digit_within b digit))

same_first : (text : List ℕ) (n : ℕ) → 0 < n → get_or (take n text) 0 0 ≡ get_or text 0 0
same_first text zero some = absurd (omega arith)
same_first [] (suc n) some = refl
same_first (b ∷ bytes) (suc n) some = refl

module _ (lexicon : Lexicon) where
  -- ---- what is no blank

  no_blank : (piece : List ℕ) → is_white (get_or piece 0 0) ≡ false → (get_or piece 0 0 == 47) ≡ false → is_blank lexicon piece ≡ false
  no_blank [] white slash = no_comment
    where
      no_comment : (lexicon.comments && false) ≡ false
      no_comment = elim (cases_Bool lexicon.comments) [ inl on ↦ rw on refl | inr off ↦ rw off refl ]
  no_blank (b ∷ []) white slash = rw white no_comment
    where
      no_comment : (lexicon.comments && false) ≡ false
      no_comment = elim (cases_Bool lexicon.comments) [ inl on ↦ rw on refl | inr off ↦ rw off refl ]
  no_blank (b ∷ c ∷ bytes) white slash = rw slash no_comment
    where
      no_comment : (lexicon.comments && false) ≡ false
      no_comment = elim (cases_Bool lexicon.comments) [ inl on ↦ rw on refl | inr off ↦ rw off refl ]

  token_class : (piece : List ℕ) → is_blank lexicon piece ≡ false → class_if_token lexicon piece ≡ Some (class_of lexicon piece)
  token_class piece none = rw none refl

  blank_class : (piece : List ℕ) → is_blank lexicon piece ≡ true → class_if_token lexicon piece ≡ None
  blank_class piece is = rw is refl

  pub class_told : (piece : List ℕ) (class : ℕ) → class_if_token lexicon piece ≡ Some class
      → (is_blank lexicon piece ≡ false) × (class ≡ class_of lexicon piece)
  class_told piece class told = elim (cases_Bool (is_blank lexicon piece)) [
    | inl blank ↦ let never : None ≡ Some class = rw blank at told in cc
    | inr token ↦ (token, (let some : Some (class_of lexicon piece) ≡ Some class = rw token at told in cc))
  ]

  pub class_untold : (piece : List ℕ) → class_if_token lexicon piece ≡ None → is_blank lexicon piece ≡ true
  class_untold piece untold = elim (cases_Bool (is_blank lexicon piece)) [
    | inl blank ↦ blank
    | inr token ↦ let never : Some (class_of lexicon piece) ≡ None = rw token at untold in cc
  ]

  -- ---- classes

  pub class_of_word : (piece : List ℕ) → is_word piece ≡ true → class_of lexicon piece ≡ word_class lexicon piece
  class_of_word piece is = rw is refl

  pub class_of_number : (piece : List ℕ) → is_word piece ≡ false → is_number piece ≡ true → class_of lexicon piece ≡ number_class lexicon piece
  class_of_number piece word is = rw (word, is) refl

  pub class_of_symbol : (piece : List ℕ) → is_word piece ≡ false → is_number piece ≡ false → class_of lexicon piece ≡ symbol_class lexicon piece
  class_of_symbol piece word number = rw (word, number) refl

module _ (lexicon : Lexicon) (orderly : is_orderly lexicon ≡ true) where
  of_length : (text : List ℕ) (front : Front) → IsPieceLength lexicon text front.length → 0 < front.length
      → front.class ≡ class_if_token lexicon (take front.length text) → IsFront lexicon text front
  of_length text front is some class = record { some = some; in_range = is.in_range; longest = is.longest some; class = class }

  pub white_front : (text : List ℕ) → 1 ≤ length text → is_white (get_or text 0 0) ≡ true → IsFront lexicon text (record { length = 1; class = None })
  white_front [] some white = absurd (omega arith)
  white_front (b ∷ bytes) some white =
      of_length (b ∷ bytes) (record { length = 1; class = None }) (white_length lexicon orderly (b ∷ bytes) some white) (omega arith)
      (sym (blank_class lexicon (b ∷ []) (or_left (is_white b) _ white)))

  -- a letter or a digit begins no blank
  word_is_no_blank : (piece : List ℕ) → is_ascii_alphabetic (get_or piece 0 0) ≡ true → is_blank lexicon piece ≡ false
  word_is_no_blank piece letter =
      let b = get_or piece 0 0 in
      no_blank lexicon piece (false_from_ne_true (is_white b) (λ white. omega (arith, letter_above b letter, white_below b white)))
      (false_from_ne_true (b == 47) (λ slash. omega (arith, letter_above b letter, eqb-true b 47 slash)))

  number_is_no_blank : (piece : List ℕ) → is_ascii_digit (get_or piece 0 0) ≡ true → is_blank lexicon piece ≡ false
  number_is_no_blank piece digit =
      let b = get_or piece 0 0 in
      no_blank lexicon piece (false_from_ne_true (is_white b) (λ white. omega (arith, digit_within b digit, white_below b white)))
      (false_from_ne_true (b == 47) (λ slash. omega (arith, digit_within b digit, eqb-true b 47 slash)))

  pub word_front : (text : List ℕ) (front : Front) → 1 ≤ length text → is_ascii_alphabetic (get_or text 0 0) ≡ true
      → front.length ≡ prefix_len is_word_byte text → front.class ≡ Some (word_class lexicon (take front.length text)) → IsFront lexicon text front
  word_front text front some letter is class =
      let (positive, word) = word_at_front text letter in
      let n = front.length in
      let more : 0 < n = omega (arith, is, positive) in
      let first : is_ascii_alphabetic (get_or (take n text) 0 0) ≡ true = ap is_ascii_alphabetic (same_first text n more) ∙ letter in
      of_length text front (subst (λ (m : ℕ). IsPieceLength lexicon text m) (sym is) (word_length lexicon orderly text some letter)) more
      (class ∙ ap Some (sym (class_of_word lexicon (take n text) (subst (λ (m : ℕ). is_word (take m text) ≡ true) (sym is) word)))
      ∙ sym (token_class lexicon (take n text) (word_is_no_blank (take n text) first)))

  pub number_front : (text : List ℕ) (front : Front) → 1 ≤ length text → is_ascii_digit (get_or text 0 0) ≡ true
      → front.length ≡ prefix_len is_ascii_digit text → front.class ≡ Some (number_class lexicon (take front.length text)) → IsFront lexicon text front
  number_front text front some digit is class =
      let (positive, number) = number_at_front text digit in
      let n = front.length in
      let more : 0 < n = omega (arith, is, positive) in
      let first : is_ascii_digit (get_or (take n text) 0 0) ≡ true = ap is_ascii_digit (same_first text n more) ∙ digit in
      let word : is_word (take n text) ≡ false = no_word (take n text) (digit_is_no_letter (get_or (take n text) 0 0) first) in
      of_length text front (subst (λ (m : ℕ). IsPieceLength lexicon text m) (sym is) (number_length lexicon orderly text some digit)) more
      (class ∙ ap Some (sym (class_of_number lexicon (take n text) word (subst (λ (m : ℕ). is_number (take m text) ≡ true) (sym is) number)))
      ∙ sym (token_class lexicon (take n text) (number_is_no_blank (take n text) first)))

  slashes_blank : (line : List ℕ) → lexicon.comments ≡ true → is_blank lexicon (take (prefix_len is_in_line (47 ∷ 47 ∷ line)) (47 ∷ 47 ∷ line)) ≡ true
  slashes_blank line on =
      let next : prefix_len is_in_line (47 ∷ 47 ∷ line) ≡ suc (suc (prefix_len is_in_line line)) = omega arith in
      let piece = take (prefix_len is_in_line (47 ∷ 47 ∷ line)) (47 ∷ 47 ∷ line) in
      or_right (is_white_space piece) (lexicon.comments && is_comment piece)
      (and_from lexicon.comments (is_comment piece) on (rw next (passes_front is_in_line line)))

  comment_blank : (text : List ℕ) → lexicon.comments ≡ true → text ≡ 47 ∷ 47 ∷ drop 2 text
      → (0 < prefix_len is_in_line text) × (is_blank lexicon (take (prefix_len is_in_line text) text) ≡ true)
  comment_blank text on is =
      subst (λ (t : List ℕ). (0 < prefix_len is_in_line t) × (is_blank lexicon (take (prefix_len is_in_line t) t) ≡ true)) (sym is)
      ((let next : prefix_len is_in_line (47 ∷ 47 ∷ drop 2 text) ≡ suc (suc (prefix_len is_in_line (drop 2 text))) = omega arith in omega (arith, next)), slashes_blank (drop 2 text) on)

  pub comment_front : (text : List ℕ) (front : Front) → lexicon.comments ≡ true → starts_with nat_eq text (47 ∷ 47 ∷ []) ≡ true
      → front.length ≡ prefix_len is_in_line text → front.class ≡ None → IsFront lexicon text front
  comment_front text front on begins is class =
      let (positive, blank) = comment_blank text on (slashes_there text begins) in
      let n = front.length in
      of_length text front (subst (λ (m : ℕ). IsPieceLength lexicon text m) (sym is) (comment_length lexicon orderly text on begins)) (omega (arith, is, positive))
      (class ∙ sym (blank_class lexicon (take n text) (subst (λ (m : ℕ). is_blank lexicon (take m text) ≡ true) (sym is) blank)))

  -- ---- symbols

  -- what a symbol is by its first byte
  record IsPlain (bytes : List ℕ) : Type 0 where
    some : 0 < length bytes
    blank : is_blank lexicon bytes ≡ false
    word : is_word bytes ≡ false
    number : is_number bytes ≡ false

  plain : (bytes : List ℕ) → begins_as_symbol bytes ≡ true → IsPlain bytes
  plain [] begins = absurd (false≢true begins)
  plain (b ∷ bytes) begins =
      let free = symbol_byte_is_no_other b begins in
      record {
        some = omega arith;
        blank = no_blank lexicon (b ∷ bytes) free.0 free.1;
        word = no_word (b ∷ bytes) free.2;
        number = no_number (b ∷ bytes) free.3;
      }

  pub symbol_front : (text : List ℕ) (entry : List ℕ × ℕ) → IsOther lexicon orderly text → first_fit text lexicon.symbols ≡ Some entry
      → IsFront lexicon text (front_of entry)
  symbol_front text entry is found =
      let first = first_is_longest lexicon.symbols text entry (longer_first lexicon orderly) found in
      let bytes = entry.0 in
      let plain = plain bytes (one_of_passes (texts_of lexicon.symbols) begins_as_symbol bytes (each_begins lexicon orderly) first.found) in
      let same : take (length bytes) text ≡ bytes = ap (λ (t : List ℕ). take (length bytes) t) first.begins ∙ take_at bytes (drop (length bytes) text) (length bytes) refl in
      let class : symbol_class lexicon bytes ≡ entry.1 = ap (λ (o : Option ℕ). unwrap_or o lexicon.unknown) first.class in
      record {
        some = plain.some;
        in_range = omega (arith, ap length first.begins ∙ length-append bytes (drop (length bytes) text));
        longest = subst (λ (piece : List ℕ). IsLongest lexicon piece text) (sym same) (symbol_longest lexicon orderly text entry is found);
        class =
            ap Some (sym (class_of_symbol lexicon bytes plain.word plain.number ∙ class))
            ∙ sym (token_class lexicon bytes plain.blank)
            ∙ ap (λ (piece : List ℕ). class_if_token lexicon piece) (sym same);
      }

  -- what is made of the first symbol that fits
  module _ (text : List ℕ) (found : Option Front) (other : IsOther lexicon orderly text) (is : found ≡ option_map front_of (first_fit text lexicon.symbols)) where
    pub some_symbol : IfSome found (IsFront lexicon text)
    some_symbol = by_entry (first_fit text lexicon.symbols) refl
      where
        by_entry : (fit : Option (List ℕ × ℕ)) → first_fit text lexicon.symbols ≡ fit → IfSome found (IsFront lexicon text)
        by_entry None fits = subst (λ (f : Option Front). IfSome f (IsFront lexicon text)) (sym (is ∙ ap (option_map front_of) fits)) tt
        by_entry (Some entry) fits =
            subst (λ (f : Option Front). IfSome f (IsFront lexicon text)) (sym (is ∙ ap (option_map front_of) fits)) (symbol_front text entry other fits)

    pub no_symbol_there : IfNone found (BeginsWithNoPiece lexicon text)
    no_symbol_there = by_entry (first_fit text lexicon.symbols) refl
      where
        by_entry : (fit : Option (List ℕ × ℕ)) → first_fit text lexicon.symbols ≡ fit → IfNone found (BeginsWithNoPiece lexicon text)
        by_entry None fits =
            subst (λ (f : Option Front). IfNone f (BeginsWithNoPiece lexicon text)) (sym (is ∙ ap (option_map front_of) fits)) (no_symbol lexicon orderly text other fits)
        by_entry (Some entry) fits = subst (λ (f : Option Front). IfNone f (BeginsWithNoPiece lexicon text)) (sym (is ∙ ap (option_map front_of) fits)) tt
