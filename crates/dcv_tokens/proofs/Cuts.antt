-- A formula file is cut in one way, as a text of any lexicon.
use Rattle.std.proofs.Common.{◌≡◌, ℕ, ◌<◌, List, length, IsTrue, true, refl}
use Rattle.dcv_lexer.specs.Lexicon.{is_orderly}
use Rattle.dcv_lexer.proofs.Cuts as cuts
use Rattle.dcv_tokens.specs.Formulas.{fixed_symbols, formulas}
use Rattle.dcv_tokens.specs.Tokens.{is_piece, CutIsUnique, CutExists}

pub piece_has_bytes : (piece : List ℕ) → IsTrue (is_piece piece) → 0 < length piece
piece_has_bytes = cuts.piece_has_bytes formulas

pub cut_is_unique : CutIsUnique
cut_is_unique = cuts.cut_is_unique formulas

pub cut_exists : CutExists
cut_exists = cuts.cut_exists formulas

pub is_in_order : is_orderly formulas ≡ true
unfolding is_orderly fixed_symbols
is_in_order = refl
