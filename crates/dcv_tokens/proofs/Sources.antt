-- The tokens that are left of a formula file are those of its lexer.
use Rattle.std.proofs.Common.{◌≡◌, ◌↔◌, ℕ, List, [], ◌++◌, sym, subst, ◌∙◌, append-nil}
use Rattle.dcv_lexer.specs.Lexicon.{Lexicon}
use Rattle.dcv_lexer.specs.Cuts as cuts
use Rattle.dcv_lexer.specs.Reading.{lexicon_in}
use Rattle.dcv_tokens.specs.declared.lexer.Tokens.{Tokens}
use Rattle.dcv_tokens.specs.Formulas.{formulas}
use Rattle.dcv_tokens.specs.Tokens.{Token, IsCut, tokens_from, IsTokenized}
use Rattle.dcv_tokens.specs.Reading.{HasTokens}

module _ (source : Tokens) (text : List ℕ) (start : source.lexer.start ≡ 0) (whole : source.lexer.rest.now ≡ text) where
  here : (pieces : List (List ℕ)) (rest : List ℕ) → cuts.IsCut (lexicon_in source.lexer) source.lexer.rest.now pieces rest → IsCut text pieces rest
  here pieces rest cut =
      subst (λ (lexicon : Lexicon). cuts.IsCut lexicon text pieces rest) source.of_formulas
      (subst (λ (t : List ℕ). cuts.IsCut (lexicon_in source.lexer) t pieces rest) whole cut)

  back : (pieces : List (List ℕ)) (rest : List ℕ) → IsCut text pieces rest → cuts.IsCut (lexicon_in source.lexer) source.lexer.rest.now pieces rest
  back pieces rest cut =
      subst (λ (lexicon : Lexicon). cuts.IsCut lexicon source.lexer.rest.now pieces rest) (sym source.of_formulas)
      (subst (λ (t : List ℕ). cuts.IsCut formulas t pieces rest) (sym whole) cut)

  same : (pieces : List (List ℕ)) → cuts.tokens_from (lexicon_in source.lexer) source.lexer.start pieces ≡ tokens_from 0 pieces
  same pieces = λ i. cuts.tokens_from (source.of_formulas i) (start i) pieces

  of_lexer : (tokens : List Token) (rest : List ℕ) → HasTokens source tokens rest → IsTokenized text tokens rest
  of_lexer tokens rest h = record { pieces = h.pieces; cut = here h.pieces rest h.cut; among = h.among ∙ same h.pieces }

pub tokenized : (source : Tokens) (text : List ℕ) (tokens : List Token) (rest : List ℕ) → source.lexer.start ≡ 0 → source.lexer.rest.now ≡ text
    → HasTokens source (tokens ++ []) rest → IsTokenized text tokens rest
tokenized source text tokens rest start whole h =
    subst (λ (ts : List Token). IsTokenized text ts rest) (append-nil tokens) (of_lexer source text start whole (tokens ++ []) rest h)
