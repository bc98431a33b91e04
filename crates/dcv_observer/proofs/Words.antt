-- Words and numbers: which they are, what they stand for, and where they end.
use Rattle.std.proofs.Common.{◌≡◌, ℕ, zero, suc, ◌+◌, ◌*◌, ◌<◌, ◌≤◌, ◌^◌, Bool, true, false, not, cond, ◌||◌, ◌==◌, nat_eq, nat_lt, get_or, List, [], ◌∷◌, length, fold, refl, ap, ◌∙◌, arith, decimal}
use Rattle.std.specs.List.{list_all}
use Rattle.std.specs.Char.{is_ascii_alphabetic, is_ascii_digit, digit_value}
use Rattle.std.specs.Str.Parse.{AllDigits, digits_value_after}
use Rattle.std.proofs.lemmas.Bool.{and_parts, and_from, and_left, and_right, or_left, or_right, or_parts, not-true, not_from_false, false_from_ne_true, le-leb, ne_eqb}
use Rattle.std.proofs.lemmas.Fmt.{decimal_nonempty, decimal_digit, first_decimal, decimal_is_IsNumeral}
use Rattle.std.proofs.lemmas.Str.{digit_value_digit}
use Rattle.std.proofs.lemmas.Str.Parse.{digit_from_value}
use Rattle.dcv_lexer.specs.Lexicon.{Lexicon, is_word_byte, is_word, is_number, has_leading_zero}
use Rattle.dcv_lexer.specs.Decimal.{with_digit, value_of}
use Rattle.dcv_lexer.proofs.FirstBytes.{letter_above, digit_within}
use Rattle.dcv_observer.specs.Classes.{largest_number, is_small_number, class_of}
use Rattle.dcv_observer.specs.Pieces.{Text, ends_symbol, IsPieceBefore}
use Rattle.dcv_observer.proofs.Limits.{small_number}

-- ---- which they are

pub digits_are_no_word : (bytes : List ℕ) → 0 < length bytes → list_all is_ascii_digit bytes ≡ true → (is_word bytes ≡ false) × (is_number bytes ≡ true)
digits_are_no_word [] some digits = absurd (omega arith)
digits_are_no_word (b ∷ bytes) some digits =
    let digit = (and_parts (is_ascii_digit b) (list_all is_ascii_digit bytes) digits).0 in
    let no_letter : is_ascii_alphabetic b ≡ false = false_from_ne_true (is_ascii_alphabetic b) (λ letter. omega (arith, letter_above b letter, digit_within b digit)) in
    (and_left (is_ascii_alphabetic b) (list_all is_word_byte bytes) no_letter, digits)

pub word_is_no_number : (bytes : List ℕ) → is_word bytes ≡ true → is_number bytes ≡ false
word_is_no_number [] word = refl
word_is_no_number (b ∷ bytes) word =
    let letter = (and_parts (is_ascii_alphabetic b) (list_all is_word_byte bytes) word).0 in
    and_left (is_ascii_digit b) (list_all is_ascii_digit bytes) (false_from_ne_true (is_ascii_digit b) (λ digit. omega (arith, letter_above b letter, digit_within b digit)))

digits_from : (digits : List ℕ) → AllDigits 10 digits → list_all is_ascii_digit digits ≡ true
digits_from [] all = refl
digits_from (c ∷ digits) all =
    let digit = digit_from_value c all.0 in
    let is : is_ascii_digit c ≡ true = grind (arith, digit) in
    and_from (is_ascii_digit c) (list_all is_ascii_digit digits) is (digits_from digits all.1)

pub decimal_is : (n : ℕ) → n ≤ largest_number → (is_word (decimal n) ≡ false) × (is_number (decimal n) ≡ true)
decimal_is n small =
    digits_are_no_word (decimal n) (decimal_nonempty n (omega arith)) (digits_from (decimal n) (decimal_is_IsNumeral n (omega arith)).0.1)

-- ---- what they stand for

value_is : (value : ℕ) (digits : List ℕ) → AllDigits 10 digits → fold with_digit value digits ≡ digits_value_after 10 value digits
value_is value [] d = refl
value_is value (c ∷ digits) d =
    let k = digit_from_value c d.0 in
    let same : with_digit value c ≡ value * 10 + digit_value c = omega (arith, digit_value_digit c k) in
    ap (λ v. fold with_digit v digits) same ∙ value_is (value * 10 + digit_value c) digits d.1

pub value_of_decimal : (n : ℕ) → n < 2 ^ 64 → value_of (decimal n) ≡ n
value_of_decimal n small = let is = decimal_is_IsNumeral n small in value_is 0 (decimal n) is.0.1 ∙ is.1

no_leading_zero : (n : ℕ) → n ≤ largest_number → has_leading_zero (decimal n) ≡ false
no_leading_zero zero small = ap has_leading_zero (decimal_digit 0 (omega arith))
no_leading_zero (suc n) small =
    let digits = decimal (suc n) in
    and_right (nat_lt 1 (length digits)) (get_or digits 0 0 == 48)
    (ne_eqb (get_or digits 0 0) 48 (λ is. omega (arith, is, first_decimal (suc n) (omega arith) (omega (arith, small)))))

-- a byte with which no word and no number goes on
abbrev pub stops : ℕ → Bool
stops next = not (is_word_byte next)

module _ (lexicon : Lexicon) where
  pub number_class : (n : ℕ) → n ≤ largest_number → class_of lexicon (decimal n) ≡ lexicon.number
  number_class n small =
      let kind = decimal_is n small in
      let within : is_small_number (decimal n) ≡ true =
      and_from (is_number (decimal n)) _ kind.1 (le-leb (value_of (decimal n)) 32767 (omega (arith, value_of_decimal n (omega arith), small))) in
      small_number lexicon (decimal n) kind.0 within (no_leading_zero n small)

  -- ---- where they end

  abbrev Before : List ℕ → ℕ → Type 0
  Before bytes next = IsPieceBefore lexicon (Text bytes) next

  pub word_before : (bytes : List ℕ) (next : ℕ) → is_word bytes ≡ true → stops next ≡ true → Before bytes next
  word_before bytes next word stop = (
    or_left (is_word bytes || is_number bytes) _ (or_left (is_word bytes) (is_number bytes) word),
    ap (λ w. cond w (not (is_word_byte next)) (cond (is_number bytes) (not (is_ascii_digit next)) (ends_symbol lexicon.symbols bytes next))) word ∙ stop,
  )

  stops_digits : (next : ℕ) → stops next ≡ true → not (is_ascii_digit next) ≡ true
  stops_digits next stop =
      let parts = or_parts (is_ascii_alphabetic next || is_ascii_digit next) (nat_eq next 95) (not-true _ stop) in
      not_from_false _ (or_parts (is_ascii_alphabetic next) (is_ascii_digit next) parts.0).1

  pub number_before : (number next : ℕ) → number ≤ largest_number → stops next ≡ true → Before (decimal number) next
  number_before number next small stop =
      let digits = decimal number in
      let kind = decimal_is number small in (
        or_left (is_word digits || is_number digits) _ (or_right (is_word digits) (is_number digits) kind.1),
        ap (λ w. cond w (not (is_word_byte next)) (cond (is_number digits) (not (is_ascii_digit next)) (ends_symbol lexicon.symbols digits next))) kind.0
            ∙ ap (λ n. cond n (not (is_ascii_digit next)) (ends_symbol lexicon.symbols digits next)) kind.1
            ∙ stops_digits next stop,
      )
