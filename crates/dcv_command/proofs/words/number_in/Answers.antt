-- The value of an option or an operand, as the code reads it and as its definition has it.
use Rattle.dcv_command.proofs.Common.{◌≡◌, ℕ, ◌<◌, ◌&&◌, List, Option, None, Some, sym, ap, ◌∙◌, refl, subst, arith, if◌then◌else◌, false, found_of}
use Rattle.dcv_command.proofs.Common.{option_and_then, digits_value, without_leading_plus, Text, is_unsigned_in, Unsigned, number_of, both, false_from_ne_true}
use Rattle.std.specs.declared.num.ParseIntError.{ParseIntError}
use Rattle.std.specs.Prelude.{nat_le, nat_lt}
use Rattle.std.proofs.Common.{◌^◌, Result, ap₂}
use Rattle.std.proofs.lemmas.Bool.{le-leb, leb-true}
use Rattle.std.specs.Str.Parse.{ExplainsUnsignedError, HasUnsignedDigitsIfOk, ParsesUnsigned}
use Rattle.clap.specs.Words.{ReadsOne, one_text, rows_of}
use Rattle.clap.specs.ValueTests.{is_numeral}
use Rattle.clap.specs.declared.parser.matches.Found.{Found}
use Rattle.clap.proofs.WalkLemmas.{one_text-rows}
use Rattle.clap.proofs.ValueTestLemmas.{accepts-Accepts, Accepts-accepts}
use Rattle.dcv_command.specs.Request.{number_in}
use Rattle.dcv_command.proofs.words.number_in.Goals as goal

-- the text is read as this number of 32 bits
abbrev Reads : List ℕ → Result ℕ ParseIntError → Type 0
Reads text read = ParsesUnsigned 32 10 text read × ExplainsUnsignedError 10 text read × HasUnsignedDigitsIfOk text read

-- what the code makes of the number that was read, if one was
abbrev kept_of : ℕ → ℕ → Option ℕ → Option ℕ
kept_of least most read = option_and_then (λ number. if nat_le least number && nat_le number most then Some number else None) read

module _ (least most : ℕ) (fits : most < 2 ^ 32) where
  text_kept : (text : Text) (read : Option ℕ) → ReadsOne Reads text read → kept_of least most read ≡ number_of least most text
  text_kept text None reads =
      let refused : is_unsigned_in least most text ≡ false = false_from_ne_true (is_unsigned_in least most text)
      (λ is. let within = accepts-Accepts false (Unsigned least most) text is in
      let small : digits_value 10 (without_leading_plus text) < 2 ^ 32 = omega (arith, within.3) in reads.1.0 (within.0, small)) in
      rw refused refl
  text_kept text (Some number) reads =
      let same : number ≡ digits_value 10 (without_leading_plus text) = reads.0.1 in
      let tests = both (is_numeral (without_leading_plus text)) _
      (Accepts-accepts false (Unsigned 0 number) text (reads.0.0.0, omega (arith, same), omega (arith, same), omega (arith, same))) in
      ap (λ number. if nat_le least number && nat_le number most then Some number else None) same
      ∙ sym (ap₂ (λ numeral small. if numeral && (small && (nat_le least (digits_value 10 (without_leading_plus text))
      && nat_le (digits_value 10 (without_leading_plus text)) most)) then Some (digits_value 10 (without_leading_plus text)) else None) tests.0
      (both (nat_lt (digits_value 10 (without_leading_plus text)) (2 ^ 64)) _ tests.1).0)

  kept_is : (f : Found) (id : Text) (read : Option ℕ) → (one_text f id ≡ None → read ≡ None)
      → ((text : List ℕ) → one_text f id ≡ Some text → ReadsOne Reads text read) → kept_of least most read ≡ number_in least most id (rows_of f)
  kept_is f id read none value = subst (λ text. kept_of least most read ≡ option_and_then (number_of least most) text) (one_text-rows f id)
      (by (one_text f id) refl)
    where
      by : (text : Option (List ℕ)) → one_text f id ≡ text → kept_of least most read ≡ option_and_then (number_of least most) text
      by None here = ap (kept_of least most) (none here)
      by (Some text) here = text_kept text read (value text here)

pub returns-in_err-number : goal.returns-in_err-number
returns-in_err-number c =
    c.from_residual.ensures ∙ sym (ap (kept_of c.args.least c.args.most) c.in_err-number.was)
    ∙ kept_is c.args.least c.args.most (omega (arith, c.ranges.most))
    (found_of c.args.matches.now) c.args.id.now c.get_one.result c.get_one.ensures.none c.get_one.ensures.value

pub returns-then-number-most : goal.returns-then-number-most
returns-then-number-most c =
    sym (ap (kept_of c.args.least c.args.most) c.in_ok-number.was
    ∙ ap₂ (λ low high. if low && high then Some c.in_ok-number.number else None) (le-leb _ _ c.if-least-number.true) (le-leb _ _ c.if-number-most.true))
    ∙ kept_is c.args.least c.args.most (omega (arith, c.ranges.most))
    (found_of c.args.matches.now) c.args.id.now c.get_one.result c.get_one.ensures.none c.get_one.ensures.value

pub returns-else-least-number : goal.returns-else-least-number
returns-else-least-number c =
    let beyond : (nat_le c.args.least c.in_ok-number.number && nat_le c.in_ok-number.number c.args.most) ≡ false = false_from_ne_true _
    (λ is. let parts = both (nat_le c.args.least c.in_ok-number.number) (nat_le c.in_ok-number.number c.args.most) is in
    omega (arith, c.else-least-number.either, leb-true c.args.least c.in_ok-number.number parts.0, leb-true c.in_ok-number.number c.args.most parts.1)) in
    sym (ap (kept_of c.args.least c.args.most) c.in_ok-number.was ∙ ap (λ kept. if kept then Some c.in_ok-number.number else None) beyond)
    ∙ kept_is c.args.least c.args.most (omega (arith, c.ranges.most))
    (found_of c.args.matches.now) c.args.id.now c.get_one.result c.get_one.ensures.none c.get_one.ensures.value
