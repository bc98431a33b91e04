-- Each text has a first fault, or none.
use Rattle.std.proofs.Common.{◌≡◌, ℕ, zero, suc, ◌+◌, ◌-◌, ◌<◌, ◌≤◌, nat_lt, List, ◌⊎◌, length, take, find, Option, Some, None, inl, inr, refl, ap, ◌∙◌, arith, length-append}
use Rattle.std.specs.Prelude.{IsSomeAnd}
use Rattle.std.specs.List.{concat}
use Rattle.std.proofs.lemmas.Bool.{cases_Bool, ltb-true, ltb-false}
use Rattle.dcv_grammar.specs.Grammar.{IsVerdict}
use Rattle.dcv_grammar.proofs.Verdicts.{some_verdict}
use Rattle.dcv_tokens.specs.Tokens.{Token, IsTokenized}
use Rattle.dcv_tokens.specs.Limits.{is_long, is_large}
use Rattle.dcv_sentence.specs.declared.faults.ReadFault.{ReadFault}
use Rattle.dcv_sentence.specs.declared.faults.ReadFault.TheVariants.{Byte, Name, Number, Syntax, Nest}
use Rattle.dcv_sentence.specs.Language.{language}
use Rattle.dcv_sentence.specs.Faults.{StandsAmong, IsTooDeepAt, classes_of, depth, deepest, offset_at, earlier_of}
use Rattle.dcv_sentence.specs.Scanning.{IsNotedAmong, IsFirstIfAny}
use Rattle.dcv_sentence.proofs.Grammar.{predictive}
use Rattle.dcv_sentence.proofs.Depths.{too_deep, within-more, nowhere_too_deep}
use Rattle.dcv_sentence.proofs.FaultKinds.{sentence_is_placed, one_misplaced, fault_at_end}
use Rattle.dcv_sentence.proofs.FirstFault.{first_of_all}
use Rattle.dcv_sentence.proofs.Sentences.{empty_or_not}

-- ---- whether a text has a fault of each kind

low_or_high : (a b : ℕ) → (a < b) ⊎ (b ≤ a)
low_or_high a b = elim (cases_Bool (nat_lt a b)) [
  | inl low ↦ inl (ltb-true a b low)
  | inr high ↦ inr (ltb-false a b high)
]

some_start : (found : Option Token) → ((at : ℕ) × IsSomeAnd found (λ token. at ≡ token.start)) ⊎ ((at : ℕ) → IsSomeAnd found (λ token. at ≡ token.start) → ⊥)
some_start None = inr (λ at there. there)
some_start (Some token) = inl (token.start, refl)

-- the tokens up to a place are not too deep, or are at an earlier place
deep_or_within : (tokens : List Token) (place : ℕ) → ((other : ℕ) × IsTooDeepAt tokens other) ⊎ ((earlier : ℕ) → earlier ≤ place → depth (take earlier tokens) ≤ deepest)
deep_or_within tokens zero = inr (λ earlier low. let none : earlier ≡ 0 = omega arith in rw none (omega arith))
deep_or_within tokens (suc place) = elim (deep_or_within tokens place) [
  | inl deep ↦ inl deep
  | inr within ↦ elim (low_or_high deepest (depth (take (place + 1) tokens))) [
    | inl exceeded ↦ inl (place, too_deep tokens place within exceeded)
    | inr next ↦ inr (λ earlier low. within-more tokens place within next earlier (omega arith))
  ]
]

module _ (text : List ℕ) (tokens : List Token) (rest : List ℕ) (tokenized : IsTokenized text tokens rest) where
  abbrev HasOrNot : (ℕ → ReadFault) → Type 0
  HasOrNot kind = ((at : ℕ) × StandsAmong text tokens rest (kind at)) ⊎ ((at : ℕ) → StandsAmong text tokens rest (kind at) → ⊥)

  byte_or_not : HasOrNot Byte
  byte_or_not = elim (empty_or_not rest) [
    | inl none ↦ inr (λ at stands. absurd (omega (arith, stands.0, ap length none)))
    | inr some ↦
        let whole : length text ≡ length (concat tokenized.pieces) + length rest = ap length tokenized.cut.whole ∙ length-append (concat tokenized.pieces) rest in
        let there : (length text - length rest) + length rest ≡ length text = omega arith in
        inl (length text - length rest, (some, there))
  ]

  name_or_not : HasOrNot Name
  name_or_not = some_start (find is_long tokens)

  number_or_not : HasOrNot Number
  number_or_not = some_start (find is_large tokens)

  syntax_by : (verdict : Option ℕ) → IsVerdict language (classes_of tokens) verdict → HasOrNot Syntax
  syntax_by None sentence = inr (λ at stands. sentence_is_placed tokens rest stands.0 sentence stands.1)
  syntax_by (Some place) fault = elim (low_or_high place (length tokens)) [
    | inl inside ↦ inl (offset_at text tokens place, (place, record { fault = fault; ended = λ end. absurd (omega (arith, end)) }, refl))
    | inr past ↦ elim (empty_or_not rest) [
      | inl none ↦ inl (offset_at text tokens place, (place, record { fault = fault; ended = λ end. none }, refl))
      | inr some ↦ inr (λ at stands.
          let none = stands.1.ended (one_misplaced tokens rest place stands.0 fault stands.1 ∙ fault_at_end tokens place fault past) in
          absurd (omega (arith, ap length none)))
    ]
  ]

  syntax_or_not : HasOrNot Syntax
  syntax_or_not = let (verdict, is) = some_verdict language predictive (classes_of tokens) in syntax_by verdict is

  nest_or_not : HasOrNot Nest
  nest_or_not = elim (deep_or_within tokens (length tokens)) [
    | inl deep ↦ inl (offset_at text tokens deep.0, (deep.0, deep.1, refl))
    | inr within ↦ inr (λ at stands. nowhere_too_deep tokens stands.0 within stands.1)
  ]

  noted : (kind : ℕ → ReadFault) → HasOrNot kind → (found : Option ReadFault) × IsNotedAmong text tokens rest kind found
  noted kind (inl has) = (Some (kind has.0), (has.0, refl, has.1))
  noted kind (inr has_not) = (None, has_not)

  pub first_or_none : (found : Option ReadFault) × IsFirstIfAny text found
  first_or_none =
      let (byte, noted_byte) = noted Byte byte_or_not in
      let (name, noted_name) = noted Name name_or_not in
      let (number, noted_number) = noted Number number_or_not in
      let (syntax, noted_syntax) = noted Syntax syntax_or_not in
      let (nest, noted_nest) = noted Nest nest_or_not in
      (earlier_of (earlier_of (earlier_of (earlier_of byte name) number) syntax) nest, first_of_all text tokens rest byte name number syntax nest tokenized noted_byte noted_name noted_number noted_syntax noted_nest)
