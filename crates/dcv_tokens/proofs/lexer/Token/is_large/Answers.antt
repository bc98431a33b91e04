use Rattle.std.proofs.Common.{◌≡◌, ◌∙◌, ℕ, min, nat_lt, sym, refl, arith}
use Rattle.std.proofs.lemmas.Bool.Decides.{nat_tests}
use Rattle.dcv_tokens.specs.Tokens.{is_number}
use Rattle.dcv_tokens.proofs.Cuts.{piece_has_bytes, is_in_order}
use Rattle.dcv_lexer.proofs.ByFirst.{number_by_first, token_is_piece}
use Rattle.dcv_tokens.specs.Formulas.{formulas}
use Rattle.dcv_tokens.proofs.lexer.Token.is_large.Goals as goal
use Rattle.dcv_tokens.proofs.lexer.Token.is_large.Goals.{After-is_ascii_digit}

pub bounds-self-0 : goal.bounds-self-0
bounds-self-0 c = let bytes = c.args.self.now.bytes.now in piece_has_bytes bytes (token_is_piece formulas is_in_order bytes c.args.self.now.is_a_token)

number : (c : After-is_ascii_digit) → is_number c.args.self.now.bytes.now ≡ c.is_ascii_digit.result
number c = let bytes = c.args.self.now.bytes.now in number_by_first formulas is_in_order bytes (token_is_piece formulas is_in_order bytes c.args.self.now.is_a_token) ∙ sym c.is_ascii_digit.ensures.value

pub value-requires : goal.value-requires
value-requires c = number (goal.at.value-requires c).After-is_ascii_digit ∙ c.if-is_ascii_digit.true

-- a cap above the largest changes no comparison with it
capped_above : (value : ℕ) → nat_lt 9999 (min value 10000) ≡ nat_lt 9999 value
capped_above value = grind (arith, nat_tests)

pub returns-then-is_ascii_digit : goal.returns-then-is_ascii_digit
returns-then-is_ascii_digit c =
    let is = number (goal.at.returns-then-is_ascii_digit c).After-is_ascii_digit ∙ c.if-is_ascii_digit.true in
    rw (is, c.value.ensures) (capped_above _)

pub returns-else-is_ascii_digit : goal.returns-else-is_ascii_digit
returns-else-is_ascii_digit c =
    let is = number (goal.at.returns-else-is_ascii_digit c).After-is_ascii_digit ∙ c.if-is_ascii_digit.false in
    rw (is, c.if-is_ascii_digit.false) refl
