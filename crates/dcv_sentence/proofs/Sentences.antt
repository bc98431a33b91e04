-- The tokens of a text without faults are a sentence.
use Rattle.std.proofs.Common.{◌≡◌, ℕ, ◌+◌, ◌-◌, ◌<◌, ◌≤◌, false, nat_lt, find, List, [], ◌∷◌, ◌⊎◌, length, map, Option, Some, None, inl, inr, refl, sym, ap, ◌∙◌, arith, length-append}
use Rattle.std.specs.Prelude.{IsSomeAnd}
use Rattle.std.specs.List.{concat, All, AllByRecursion}
use Rattle.std.proofs.lemmas.Bool.{cases_Bool, ltb-false}
use Rattle.std.proofs.lemmas.List.Elements.{All-from_recursion}
use Rattle.dcv_grammar.specs.Grammar.{IsSentence, IsVerdict}
use Rattle.dcv_grammar.proofs.Verdicts.{some_verdict}
use Rattle.dcv_tokens.specs.declared.lexer.Token.{Token as PlacedToken}
use Rattle.dcv_tokens.specs.Tokens.{Token, IsTokenized}
use Rattle.dcv_tokens.specs.Classes.{number, class_of}
use Rattle.dcv_tokens.specs.Decimal.{value_of}
use Rattle.dcv_tokens.specs.Reading.{seen}
use Rattle.dcv_tokens.specs.Limits.{largest_number, is_large}
use Rattle.dcv_tokens.proofs.ClassLaws.{number_class}
use Rattle.dcv_sentence.specs.declared.faults.ReadFault.{ReadFault}
use Rattle.dcv_sentence.specs.declared.faults.ReadFault.TheVariants.{Byte, Number, Syntax}
use Rattle.dcv_sentence.specs.Language.{language}
use Rattle.dcv_sentence.specs.Faults.{HasFault, classes_of, offset_at}
use Rattle.dcv_sentence.proofs.Grammar.{predictive}

pub empty_or_not : (rest : List ℕ) → (rest ≡ []) ⊎ (0 < length rest)
empty_or_not [] = inl refl
empty_or_not (b ∷ rest) = inr (omega arith)

module _ (text : List ℕ) (tokens : List Token) (rest : List ℕ) (tokenized : IsTokenized text tokens rest) (faultless : (fault : ReadFault) → HasFault text fault → ⊥) where
  pub nothing_left : rest ≡ []
  nothing_left = elim (empty_or_not rest) [
    | inl none ↦ none
    | inr some ↦
        let whole : length text ≡ length (concat tokenized.pieces) + length rest = ap length tokenized.cut.whole ∙ length-append (concat tokenized.pieces) rest in
        let there : (length text - length rest) + length rest ≡ length text = omega arith in
        absurd (faultless (Byte (length text - length rest)) (tokens, rest, tokenized, (some, there)))
  ]

  sentence_by : (verdict : Option ℕ) → IsVerdict language (classes_of tokens) verdict → IsSentence language (classes_of tokens)
  sentence_by None sentence = sentence
  sentence_by (Some place) fault =
      absurd (faultless (Syntax (offset_at text tokens place)) (tokens, rest, tokenized, (place, record { fault = fault; ended = λ end. nothing_left }, refl)))

  pub is_sentence : IsSentence language (classes_of tokens)
  is_sentence = let (verdict, is) = some_verdict language predictive (classes_of tokens) in sentence_by verdict is

-- ---- numbers

small_number : (token : PlacedToken) → is_large (seen token) ≡ false → class_of token.bytes.now ≡ number → value_of token.bytes.now ≤ largest_number
small_number token small is =
    let digits = number_class token.bytes.now token.is_a_token is in
    let low : nat_lt 9999 (value_of token.bytes.now) ≡ false = sym (rw digits refl) ∙ small in
    ltb-false 9999 (value_of token.bytes.now) low

small_in : (tokens : List PlacedToken) → find is_large (map seen tokens) ≡ None → AllByRecursion (λ token. class_of token.bytes ≡ number → value_of token.bytes ≤ largest_number) (map seen tokens)
small_in [] none = tt
small_in (token ∷ tokens) none = elim (cases_Bool (is_large (seen token))) [
  | inl large ↦ let never : Some (seen token) ≡ None = rw large at none in cc
  | inr small ↦ (small_number token small, small_in tokens (rw small at none))
]

no_large : (found : Option Token) → ((at : ℕ) → IsSomeAnd found (λ token. at ≡ token.start) → ⊥) → found ≡ None
no_large None none = refl
no_large (Some token) none = absurd (none token.start refl)

-- no number of a text without faults is too large
pub small_numbers : (text : List ℕ) (tokens : List PlacedToken) (rest : List ℕ) → IsTokenized text (map seen tokens) rest → ((fault : ReadFault) → HasFault text fault → ⊥) → All (λ token. class_of token.bytes ≡ number → value_of token.bytes ≤ largest_number) (map seen tokens)
small_numbers text tokens rest tokenized faultless =
    All-from_recursion (λ (token : Token). class_of token.bytes ≡ number → value_of token.bytes ≤ largest_number) (map seen tokens)
    (small_in tokens (no_large (find is_large (map seen tokens)) (λ at there. faultless (Number at) (map seen tokens, rest, tokenized, there))))
