use Rattle.std.proofs.Common.{◌≡◌, ◌∙◌, ℕ, min, nat_le, sym, refl, arith}
use Rattle.std.proofs.lemmas.Bool.Decides.{nat_tests}
use Rattle.dcv_lexer.specs.Lexicon.{lexicon_of, is_word, is_number}
use Rattle.dcv_lexer.proofs.ByFirst.{word_by_first, number_by_first, token_is_piece}
use Rattle.dcv_observer.proofs.items.keeps_limits.Goals as goal
use Rattle.dcv_observer.proofs.items.keeps_limits.Goals.{After-is_ascii_alphabetic, After-is_ascii_digit}

word : (c : After-is_ascii_alphabetic) → is_word c.args.bytes.now ≡ c.is_ascii_alphabetic.result
word c =
    let lexicon = lexicon_of c.args.lexicon.now in
    let orderly = c.requires.orderly in
    word_by_first lexicon orderly c.args.bytes.now (token_is_piece lexicon orderly c.args.bytes.now c.requires.token) ∙ sym c.is_ascii_alphabetic.ensures.value

number : (c : After-is_ascii_digit) → is_number c.args.bytes.now ≡ c.is_ascii_digit.result
number c =
    let lexicon = lexicon_of c.args.lexicon.now in
    let orderly = c.requires.orderly in
    number_by_first lexicon orderly c.args.bytes.now (token_is_piece lexicon orderly c.args.bytes.now c.requires.token) ∙ sym c.is_ascii_digit.ensures.value

pub value_up_to-requires-clause-number : goal.value_up_to-requires-clause-number
value_up_to-requires-clause-number c = number (goal.at.value_up_to-requires-clause-number c).After-is_ascii_digit ∙ c.if-is_ascii_digit.true

pub returns-then-is_ascii_alphabetic : goal.returns-then-is_ascii_alphabetic
returns-then-is_ascii_alphabetic c =
    let is = word (goal.at.returns-then-is_ascii_alphabetic c).After-is_ascii_alphabetic ∙ c.if-is_ascii_alphabetic.true in
    rw is refl

-- a cap above the largest changes no comparison with it
capped_within : (value : ℕ) → nat_le (min value 32768) 32767 ≡ nat_le value 32767
capped_within value = grind (arith, nat_tests)

pub returns-then-is_ascii_digit : goal.returns-then-is_ascii_digit
returns-then-is_ascii_digit c =
    let other = word (goal.at.returns-then-is_ascii_digit c).After-is_ascii_alphabetic ∙ c.if-is_ascii_alphabetic.false in
    let is = number (goal.at.returns-then-is_ascii_digit c).After-is_ascii_digit ∙ c.if-is_ascii_digit.true in
    rw (other, is, c.value_up_to.ensures) (capped_within _)

pub returns-else-is_ascii_digit : goal.returns-else-is_ascii_digit
returns-else-is_ascii_digit c =
    let other = word (goal.at.returns-else-is_ascii_digit c).After-is_ascii_alphabetic ∙ c.if-is_ascii_alphabetic.false in
    let symbol = number (goal.at.returns-else-is_ascii_digit c).After-is_ascii_digit ∙ c.if-is_ascii_digit.false in
    rw (other, symbol) refl
