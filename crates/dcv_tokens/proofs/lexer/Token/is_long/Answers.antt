use Rattle.std.proofs.Common.{◌≡◌, ◌∙◌, sym, refl}
use Rattle.dcv_tokens.specs.Tokens.{is_word}
use Rattle.dcv_tokens.proofs.Cuts.{piece_has_bytes, is_in_order}
use Rattle.dcv_lexer.proofs.ByFirst.{word_by_first, token_is_piece}
use Rattle.dcv_tokens.specs.Formulas.{formulas}
use Rattle.dcv_tokens.proofs.lexer.Token.is_long.Goals as goal
use Rattle.dcv_tokens.proofs.lexer.Token.is_long.Goals.{After-is_ascii_alphabetic}

pub bounds-self-0 : goal.bounds-self-0
bounds-self-0 c = let bytes = c.args.self.now.bytes.now in piece_has_bytes bytes (token_is_piece formulas is_in_order bytes c.args.self.now.is_a_token)

word : (c : After-is_ascii_alphabetic) → is_word c.args.self.now.bytes.now ≡ c.is_ascii_alphabetic.result
word c = let bytes = c.args.self.now.bytes.now in word_by_first formulas is_in_order bytes (token_is_piece formulas is_in_order bytes c.args.self.now.is_a_token) ∙ sym c.is_ascii_alphabetic.ensures.value

pub returns-then-is_ascii_alphabetic : goal.returns-then-is_ascii_alphabetic
returns-then-is_ascii_alphabetic c =
    let is = word (goal.at.returns-then-is_ascii_alphabetic c).After-is_ascii_alphabetic ∙ c.if-is_ascii_alphabetic.true in
    rw is refl

pub returns-else-is_ascii_alphabetic : goal.returns-else-is_ascii_alphabetic
returns-else-is_ascii_alphabetic c =
    let is = word (goal.at.returns-else-is_ascii_alphabetic c).After-is_ascii_alphabetic ∙ c.if-is_ascii_alphabetic.false in
    rw (is, c.if-is_ascii_alphabetic.false) refl
