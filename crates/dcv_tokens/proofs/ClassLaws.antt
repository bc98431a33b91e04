-- Which tokens have the class of names, and which that of numbers.
use Rattle.std.proofs.Common.{◌≡◌, ℕ, ◌<◌, true, false, not, ◌||◌, nat_lt, List, [], ◌∷◌, Option, Some, None, IsTrue, ◌⊎◌, inl, inr, refl}
use Rattle.std.proofs.Common.{ap, ◌∙◌, arith}
use Rattle.std.specs.Prelude.{unwrap_or}
use Rattle.std.specs.List.{list_all}
use Rattle.std.specs.Char.{is_ascii_alphabetic, is_ascii_digit}
use Rattle.std.proofs.lemmas.Bool.{false_from_ne_true, and_left, cases_Bool, and_parts, and_from, both_ways, not-true}
use Rattle.std.proofs.lemmas.Bool.{ltb-true, or_cases}
use Rattle.dcv_lexer.specs.Lexicon.{word_class, symbol_class}
use Rattle.dcv_lexer.proofs.ClassTables.{class_passes, text_there, class_there, some_or_none, same_text}
use Rattle.dcv_lexer.proofs.Fronts.{digit_is_no_letter}
use Rattle.dcv_tokens.specs.Formulas.{fixed_symbols, fixed_words, formulas}
use Rattle.dcv_tokens.specs.Tokens.{is_one_of, reserved_words, is_word_byte, is_word, is_number, is_name, is_token}
use Rattle.dcv_tokens.specs.Classes.{name, number, unknown, fixed_texts, class_in, class_of}

abbrev class_of_word : List ℕ → ℕ
class_of_word = word_class formulas

abbrev class_of_symbol : List ℕ → ℕ
class_of_symbol = symbol_class formulas

-- ---- the tables of symbols and of reserved words

symbol_apart : (bytes : List ℕ) (class : ℕ) → class_in fixed_symbols bytes ≡ Some class → (class < name) ⊎ (number < class)
unfolding fixed_symbols
symbol_apart bytes class is = elim (or_cases (nat_lt class 39) (nat_lt 40 class) (class_passes fixed_symbols (λ c. nat_lt c 39 || nat_lt 40 c) bytes class refl is)) [
  | inl less ↦ inl (ltb-true class 39 less)
  | inr more ↦ inr (ltb-true 40 class more)
]

word_below : (bytes : List ℕ) (class : ℕ) → class_in fixed_words bytes ≡ Some class → class < name
unfolding fixed_words
word_below bytes class is = ltb-true class 39 (class_passes fixed_words (λ c. nat_lt c 39) bytes class refl is)

reserved_there : (bytes : List ℕ) (class : ℕ) → class_in fixed_words bytes ≡ Some class → is_one_of reserved_words bytes ≡ true
unfolding fixed_words reserved_words
reserved_there bytes class is = text_there fixed_words bytes class is

not_reserved : (bytes : List ℕ) → class_in fixed_words bytes ≡ None → is_one_of reserved_words bytes ≡ false
unfolding fixed_words reserved_words
not_reserved bytes none = false_from_ne_true (is_one_of reserved_words bytes) (λ found. class_there fixed_words bytes found none)

-- ---- classes of a kind

-- a word's class is that of names where it is not reserved, and else less
word_class_is : (bytes : List ℕ)
    → ((class_of_word bytes ≡ name) × (is_one_of reserved_words bytes ≡ false)) ⊎ ((class_of_word bytes < name) × (is_one_of reserved_words bytes ≡ true))
word_class_is bytes = elim (some_or_none (class_in fixed_words bytes)) [
  | inl some ↦
      let is : class_of_word bytes ≡ some.0 = ap (λ (o : Option ℕ). unwrap_or o name) some.1 in
      inr (omega (arith, is, word_below bytes some.0 some.1), reserved_there bytes some.0 some.1)
  | inr none ↦ inl (ap (λ (o : Option ℕ). unwrap_or o name) none, not_reserved bytes none)
]

-- the class of a symbol, and of what is none, is less than that of names or greater than that of numbers
symbol_class_is : (bytes : List ℕ) → (class_of_symbol bytes < name) ⊎ (number < class_of_symbol bytes)
symbol_class_is bytes = elim (some_or_none (class_in fixed_symbols bytes)) [
  | inl some ↦
      let is : class_of_symbol bytes ≡ some.0 = ap (λ (o : Option ℕ). unwrap_or o unknown) some.1 in
      elim (symbol_apart bytes some.0 some.1) [
        | inl less ↦ inl (omega (arith, is, less))
        | inr more ↦ inr (omega (arith, is, more))
      ]
  | inr none ↦
      let is : class_of_symbol bytes ≡ unknown = ap (λ (o : Option ℕ). unwrap_or o unknown) none in
      inr (omega (arith, is))
]

-- ---- names and numbers

of_word : (bytes : List ℕ) → is_word bytes ≡ true → class_of bytes ≡ class_of_word bytes
of_word bytes is = rw is refl

of_number : (bytes : List ℕ) → is_word bytes ≡ false → is_number bytes ≡ true → class_of bytes ≡ number
of_number bytes word is = rw (word, is) refl

of_symbol : (bytes : List ℕ) → is_word bytes ≡ false → is_number bytes ≡ false → class_of bytes ≡ class_of_symbol bytes
of_symbol bytes word digits = rw (word, digits) refl

pub number_class : (bytes : List ℕ) → IsTrue (is_token bytes) → class_of bytes ≡ number → is_number bytes ≡ true
number_class bytes token is = elim (cases_Bool (is_word bytes)) [
  | inl word ↦ absurd (elim (word_class_is bytes) [
    | inl free ↦ omega (arith, is, of_word bytes word, free.0)
    | inr reserved ↦ omega (arith, is, of_word bytes word, reserved.0)
  ])
  | inr other ↦ elim (cases_Bool (is_number bytes)) [
    | inl digits ↦ digits
    | inr symbol ↦ absurd (elim (symbol_class_is bytes) [
      | inl less ↦ omega (arith, is, of_symbol bytes other symbol, less)
      | inr more ↦ omega (arith, is, of_symbol bytes other symbol, more)
    ])
  ]
]

word_is_no_number : (bytes : List ℕ) → is_number bytes ≡ true → is_word bytes ≡ false
word_is_no_number [] digits = refl
word_is_no_number (b ∷ bytes) digits =
    and_left (is_ascii_alphabetic b) (list_all is_word_byte bytes) (digit_is_no_letter b (and_parts (is_ascii_digit b) (list_all is_ascii_digit bytes) digits).0)

pub class_of_number : (bytes : List ℕ) → IsTrue (is_token bytes) → is_number bytes ≡ true → class_of bytes ≡ number
class_of_number bytes token digits = of_number bytes (word_is_no_number bytes digits) digits

pub name_class : (bytes : List ℕ) → class_of bytes ≡ name → is_name bytes ≡ true
name_class bytes is = elim (cases_Bool (is_word bytes)) [
  | inl word ↦ elim (word_class_is bytes) [
    | inl free ↦ and_from (is_word bytes) (not (is_one_of reserved_words bytes)) word (rw free.1 refl)
    | inr reserved ↦ absurd (omega (arith, is, of_word bytes word, reserved.0))
  ]
  | inr other ↦ absurd (elim (cases_Bool (is_number bytes)) [
    | inl digits ↦ omega (arith, is, of_number bytes other digits)
    | inr symbol ↦ elim (symbol_class_is bytes) [
      | inl less ↦ omega (arith, is, of_symbol bytes other symbol, less)
      | inr more ↦ omega (arith, is, of_symbol bytes other symbol, more)
    ]
  ])
]

pub class_of_name : (bytes : List ℕ) → is_name bytes ≡ true → class_of bytes ≡ name
class_of_name bytes is =
    let both = and_parts (is_word bytes) (not (is_one_of reserved_words bytes)) is in
    elim (word_class_is bytes) [
      | inl free ↦ of_word bytes both.0 ∙ free.0
      | inr reserved ↦ absurd (both_ways (is_one_of reserved_words bytes) (not-true _ both.1) reserved.1)
    ]

-- ---- one fixed text a class

pub fixed_texts_differ : (text other : List ℕ) (class : ℕ) → class_in fixed_texts text ≡ Some class → class_in fixed_texts other ≡ Some class → text ≡ other
unfolding fixed_texts
fixed_texts_differ text other class is other_is = same_text fixed_texts text other class refl is other_is
