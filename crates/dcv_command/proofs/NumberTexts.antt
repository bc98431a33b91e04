-- Names of files and numbers among words: none of them begins with a dash, and a number in decimal is read as that number.
use Rattle.dcv_command.proofs.Common.{◌≡◌, refl, sym, ap, ◌∙◌, subst, true, false, ℕ, ◌<◌, ◌≤◌, [], ◌∷◌, arith, ◌==◌, digits_value}
use Rattle.dcv_command.proofs.Common.{without_leading_plus, Text, Unsigned, is_unsigned_in}
use Rattle.std.proofs.Common.{◌^◌, ne_eqb}
use Rattle.std.specs.Fmt.{decimal}
use Rattle.std.specs.Str.Parse.{IsNumeral}
use Rattle.std.proofs.lemmas.Fmt.{decimal_is_IsNumeral}
use Rattle.std.proofs.lemmas.Str.Parse.{digit_from_value}
use Rattle.clap.proofs.ValueTestLemmas.{Accepts-accepts}
use Rattle.dcv_command.specs.Listed.{IsFileName}

-- the word is not empty, and its first byte is no dash
abbrev pub HasNoDash : Text → Type 0
HasNoDash [] = ⊥
HasNoDash (first ∷ rest) = (first == 45) ≡ false

pub has_no_dash : (name : Text) → IsFileName name → HasNoDash name
has_no_dash [] is = absurd is
has_no_dash (first ∷ rest) is = ne_eqb first 45 is

-- ---- numbers

-- the text is a number from the least to the most
pub record IsNumberText (least most number : ℕ) (text : Text) : Type 0 where
  pub no_dash : HasNoDash text
  pub fits : is_unsigned_in least most text ≡ true
  pub value : digits_value 10 (without_leading_plus text) ≡ number

numeral_has_no_plus : (text : Text) → IsNumeral 10 text → without_leading_plus text ≡ text
numeral_has_no_plus [] is = refl
numeral_has_no_plus (first ∷ rest) is =
    let plus : (first == 43) ≡ false = ne_eqb first 43 (λ same. omega (arith, digit_from_value first is.1.0)) in rw plus refl

numeral_has_no_dash : (text : Text) → IsNumeral 10 text → HasNoDash text
numeral_has_no_dash [] is = absurd (omega (arith, is.0))
numeral_has_no_dash (first ∷ rest) is = ne_eqb first 45 (λ same. omega (arith, digit_from_value first is.1.0))

pub decimal_is_one : (least most number : ℕ) → most < 2 ^ 64 → (least ≤ number) × (number ≤ most) → IsNumberText least most number (decimal number)
decimal_is_one least most number few (low, high) =
    let small : number < 2 ^ 64 = omega arith in
    let numeral = decimal_is_IsNumeral number small in
    let no_plus = numeral_has_no_plus (decimal number) numeral.0 in
    let value : digits_value 10 (without_leading_plus (decimal number)) ≡ number = ap (digits_value 10) no_plus ∙ numeral.1 in
    let is_numeral : IsNumeral 10 (without_leading_plus (decimal number)) = subst (IsNumeral 10) (sym no_plus) numeral.0 in
    record {
      no_dash = numeral_has_no_dash (decimal number) numeral.0;
      fits = Accepts-accepts false (Unsigned least most) (decimal number) (is_numeral, omega (arith, value), omega (arith, value), omega (arith, value));
      value = value;
    }
