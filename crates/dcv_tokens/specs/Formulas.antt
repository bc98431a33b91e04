-- What formula files are written with.
use Rattle.std.specs.Prelude.{ℕ, true, List}
use Rattle.dcv_lexer.specs.Lexicon.{Lexicon}
use Rattle.dcv_tokens.specs.FixedTexts.{symbol_classes, word_classes, name, number, unknown}

-- each symbol with its class, the longer ones first
unfoldable pub fixed_symbols : List (List ℕ × ℕ)
fixed_symbols = symbol_classes

-- each reserved word with its class
unfoldable pub fixed_words : List (List ℕ × ℕ)
fixed_words = word_classes

abbrev pub formulas : Lexicon
formulas = record {
  symbols = fixed_symbols;
  words = fixed_words;
  name = name;
  number = number;
  unknown = unknown;
  comments = true;
  leading_zeros = true;
}
