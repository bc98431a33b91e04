use Rattle.std.proofs.Common.{◌∙◌, sym, refl, nat_eq, ◌∷◌, []}
use Rattle.std.specs.List.{starts_with}
use Rattle.std.proofs.lemmas.Bool.{and_left, and_right}
use Rattle.dcv_lexer.specs.Lexicon.{lexicon_of}
use Rattle.dcv_lexer.proofs.Longest.{IsOther}
use Rattle.dcv_lexer.proofs.Fronts.{white_front, word_front, number_front, comment_front, some_symbol, no_symbol_there}
use Rattle.dcv_lexer.proofs.pieces.first_piece.Goals as goal
use Rattle.dcv_lexer.proofs.pieces.first_piece.Goals.{After-symbol, then-lexicon+else-starts_with, else-lexicon}

pub returns-in-len1-up-clause-some : goal.returns-in-len1-up-clause-some
returns-in-len1-up-clause-some c =
    white_front (lexicon_of c.args.lexicon.now) c.requires c.args.text.now c.in-len1-up.len_at_least (sym c.is_white.ensures ∙ c.if-is_white.true)

pub returns-in-len1-up-2-clause-some : goal.returns-in-len1-up-2-clause-some
returns-in-len1-up-2-clause-some c =
    word_front (lexicon_of c.args.lexicon.now) c.requires c.args.text.now c.word.result c.in-len1-up.len_at_least
    (sym c.is_ascii_alphabetic.ensures.value ∙ c.if-is_ascii_alphabetic.true) c.word.ensures.length c.word.ensures.class

pub returns-in-len1-up-3-clause-some : goal.returns-in-len1-up-3-clause-some
returns-in-len1-up-3-clause-some c =
    number_front (lexicon_of c.args.lexicon.now) c.requires c.args.text.now c.number.result c.in-len1-up.len_at_least
    (sym c.is_ascii_digit.ensures.value ∙ c.if-is_ascii_digit.true) c.number.ensures.length c.number.ensures.class

pub returns-in_default-clause-some : goal.returns-in_default-clause-some
returns-in_default-clause-some c =
    comment_front (lexicon_of c.args.lexicon.now) c.requires c.args.text.now _ c.if-lexicon.true
    (sym c.starts_with.ensures.value ∙ c.if-starts_with.true) c.line_length.ensures refl

other : (c : After-symbol) → IsOther (lexicon_of c.args.lexicon.now) c.requires c.args.text.now
other c = record {
  some = c.in-len1-up.len_at_least;
  white = sym c.is_white.ensures ∙ c.if-is_white.false;
  letter = sym c.is_ascii_alphabetic.ensures.value ∙ c.if-is_ascii_alphabetic.false;
  digit = sym c.is_ascii_digit.ensures.value ∙ c.if-is_ascii_digit.false;
  slashes = elim c.if-lexicon.branch [
    | then-lexicon+else-starts_with w ↦ and_right c.args.lexicon.now.comments (starts_with nat_eq c.args.text.now (47 ∷ 47 ∷ [])) (sym w.starts_with.ensures.value ∙ w.if-starts_with.false)
    | else-lexicon w ↦ and_left c.args.lexicon.now.comments (starts_with nat_eq c.args.text.now (47 ∷ 47 ∷ [])) w.if-lexicon.false
  ];
}

pub returns-in_default-2-clause-none : goal.returns-in_default-2-clause-none
returns-in_default-2-clause-none c =
    no_symbol_there (lexicon_of c.args.lexicon.now) c.requires c.args.text.now c.symbol.result
    (other (goal.at.returns-in_default-2-clause-none c).After-symbol) c.symbol.ensures

pub returns-in_default-2-clause-some : goal.returns-in_default-2-clause-some
returns-in_default-2-clause-some c =
    some_symbol (lexicon_of c.args.lexicon.now) c.requires c.args.text.now c.symbol.result
    (other (goal.at.returns-in_default-2-clause-some c).After-symbol) c.symbol.ensures
