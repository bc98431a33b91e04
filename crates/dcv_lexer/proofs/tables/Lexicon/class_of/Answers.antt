use Rattle.std.proofs.Common.{◌≡◌, ◌∙◌, sym}
use Rattle.dcv_lexer.specs.Lexicon.{lexicon_of, is_word, is_number}
use Rattle.dcv_lexer.proofs.Fronts.{class_of_word, class_of_number}
use Rattle.dcv_lexer.proofs.ByFirst.{word_by_first, number_by_first, token_is_piece}
use Rattle.dcv_lexer.proofs.tables.Lexicon.class_of.Goals as goal
use Rattle.dcv_lexer.proofs.tables.Lexicon.class_of.Goals.{After-is_ascii_alphabetic, After-is_ascii_digit}

word : (c : After-is_ascii_alphabetic) → is_word c.args.bytes.now ≡ c.is_ascii_alphabetic.result
word c =
    let lexicon = lexicon_of c.args.self.now in
    word_by_first lexicon c.requires.orderly c.args.bytes.now (token_is_piece lexicon c.requires.orderly c.args.bytes.now c.requires.token) ∙ sym c.is_ascii_alphabetic.ensures.value

number : (c : After-is_ascii_digit) → is_number c.args.bytes.now ≡ c.is_ascii_digit.result
number c =
    let lexicon = lexicon_of c.args.self.now in
    number_by_first lexicon c.requires.orderly c.args.bytes.now (token_is_piece lexicon c.requires.orderly c.args.bytes.now c.requires.token) ∙ sym c.is_ascii_digit.ensures.value

pub returns-then-is_ascii_alphabetic : goal.returns-then-is_ascii_alphabetic
returns-then-is_ascii_alphabetic c =
    let is = word (goal.at.returns-then-is_ascii_alphabetic c).After-is_ascii_alphabetic ∙ c.if-is_ascii_alphabetic.true in
    c.word_class.ensures ∙ sym (class_of_word (lexicon_of c.args.self.now) c.args.bytes.now is)

pub returns-then-is_ascii_digit : goal.returns-then-is_ascii_digit
returns-then-is_ascii_digit c =
    let no_word = word (goal.at.returns-then-is_ascii_digit c).After-is_ascii_alphabetic ∙ c.if-is_ascii_alphabetic.false in
    let is = number (goal.at.returns-then-is_ascii_digit c).After-is_ascii_digit ∙ c.if-is_ascii_digit.true in
    c.number_class.ensures ∙ sym (class_of_number (lexicon_of c.args.self.now) c.args.bytes.now no_word is)
