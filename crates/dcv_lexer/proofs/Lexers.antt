-- The tokens that a lexer has left are given by the one cut of its text, token by token.
use Rattle.std.proofs.Common.{◌≡◌, ℕ, ◌+◌, ◌≤◌, false, true, List, [], ◌∷◌, ◌++◌, length, Some, None, refl, sym, ap, subst, ◌∙◌, arith, append_assoc}
use Rattle.std.proofs.Common.{length-append, IsTrue, inl, inr}
use Rattle.std.proofs.lemmas.Bool.{or_cases, both_ways}
use Rattle.dcv_lexer.specs.declared.reading.Lexer.{Lexer}
use Rattle.dcv_lexer.specs.declared.reading.Lexeme.{Lexeme}
use Rattle.dcv_lexer.specs.Lexicon.{Lexicon, is_blank, is_token, is_piece, class_of}
use Rattle.dcv_lexer.specs.Cuts.{IsLongest, IsCut, Token, tokens_from}
use Rattle.dcv_lexer.specs.Reading.{seen, lexicon_in, HasTokens, Reads, IsFurther, GivesOne}
use Rattle.dcv_lexer.specs.Fronts.{class_if_token}
use Rattle.dcv_lexer.proofs.Cuts.{cut_exists, cut_with}
use Rattle.dcv_lexer.proofs.Fronts.{class_told, class_untold}

pub tokens_exist : (lexer : Lexer) → (tokens : List Token) × (rest : List ℕ) × HasTokens lexer tokens rest
tokens_exist lexer =
    let cut = cut_exists (lexicon_in lexer) lexer.rest.now in
    (tokens_from (lexicon_in lexer) lexer.start cut.0, cut.1, record { pieces = cut.0; cut = cut.2; among = refl })

-- ---- reading on

pub reads_nothing : (lexer : Lexer) → Reads lexer [] lexer
reads_nothing lexer tokens rest h = h

pub reads_then : (old mid new : Lexer) (first second : List Token) → Reads old first mid → Reads mid second new → Reads old (first ++ second) new
reads_then old mid new first second r s tokens rest h =
    rw append_assoc (r (second ++ tokens) rest (s tokens rest h))

-- ---- one piece

-- new is old after a piece
pub record IsBehind (old : Lexer) (piece : List ℕ) (new : Lexer) : Type 0 where
  pub lexicon : lexicon_in new ≡ lexicon_in old
  pub first : IsLongest (lexicon_in old) piece old.rest.now
  pub parts : old.rest.now ≡ piece ++ new.rest.now
  pub start : new.start ≡ old.start + length piece

module _ (old new : Lexer) (piece : List ℕ) (b : IsBehind old piece new) where
  pub further_behind : IsFurther old new
  further_behind = record {
    lexicon = b.lexicon;
    ends = omega (arith, b.start, ap length b.parts ∙ length-append piece new.rest.now);
  }

  -- the cut of what is after the piece, in old's lexicon
  behind : (pieces : List (List ℕ)) (rest : List ℕ) → IsCut (lexicon_in new) new.rest.now pieces rest
      → IsCut (lexicon_in old) old.rest.now (piece ∷ pieces) rest
  behind pieces rest cut =
      cut_with (lexicon_in old) old.rest.now piece new.rest.now pieces rest b.first b.parts
      (subst (λ (lexicon : Lexicon). IsCut lexicon new.rest.now pieces rest) b.lexicon cut)

  among_behind : (tokens : List Token) (pieces : List (List ℕ)) → tokens ≡ tokens_from (lexicon_in new) new.start pieces
      → tokens ≡ tokens_from (lexicon_in old) (old.start + length piece) pieces
  among_behind tokens pieces among = among ∙ (λ i. tokens_from (b.lexicon i) (b.start i) pieces)

  pub reads_blank : is_blank (lexicon_in old) piece ≡ true → Reads old [] new
  reads_blank blank tokens rest h = record {
    pieces = piece ∷ h.pieces;
    cut = behind h.pieces rest h.cut;
    among = rw blank (among_behind tokens h.pieces h.among);
  }

  pub reads_token : is_blank (lexicon_in old) piece ≡ false → Reads old (record { bytes = piece; start = old.start } ∷ []) new
  reads_token token tokens rest h = record {
    pieces = piece ∷ h.pieces;
    cut = behind h.pieces rest h.cut;
    among = rw token (ap (λ (ts : List Token). record { bytes = piece; start = old.start } ∷ ts) (among_behind tokens h.pieces h.among));
  }

pub further_then : (old mid new : Lexer) → IsFurther old mid → IsFurther mid new → IsFurther old new
further_then old mid new o p = record { lexicon = p.lexicon ∙ o.lexicon; ends = p.ends ∙ o.ends }

is_some_token : (lexicon : Lexicon) (piece : List ℕ) → IsTrue (is_piece lexicon piece) → is_blank lexicon piece ≡ false → IsTrue (is_token lexicon piece)
is_some_token lexicon piece is token = elim (or_cases (is_blank lexicon piece) (is_token lexicon piece) is) [
  | inl blank ↦ absurd (both_ways (is_blank lexicon piece) token blank)
  | inr found ↦ found
]

-- what `next` keeps while it passes white space and comments
pub record HasPassed (old mid : Lexer) : Type 0 where
  pub passed : Reads old [] mid
  pub further : IsFurther old mid
  pub left : length mid.rest.now ≤ length old.rest.now

pub passed_blank : (old mid new : Lexer) (piece : List ℕ) → HasPassed old mid → IsBehind mid piece new → class_if_token (lexicon_in mid) piece ≡ None
    → HasPassed old new
passed_blank old mid new piece h b untold = record {
  passed = reads_then old mid new [] [] h.passed (reads_blank mid new piece b (class_untold (lexicon_in mid) piece untold));
  further = further_then old mid new h.further (further_behind mid new piece b);
  left = omega (arith, h.left, ap length b.parts ∙ length-append piece new.rest.now);
}

pub gives_one : (old mid new : Lexer) (given : Lexeme) → HasPassed old mid → IsBehind mid given.bytes.now new → given.start ≡ mid.start
    → class_if_token (lexicon_in mid) given.bytes.now ≡ Some given.class → GivesOne old given new
gives_one old mid new given h b start told =
    let piece = given.bytes.now in
    let (token, class) = class_told (lexicon_in mid) piece given.class told in
    record {
      further = further_then old mid new h.further (further_behind mid new piece b);
      token = subst (λ (lexicon : Lexicon). IsTrue (is_token lexicon piece)) h.further.lexicon (is_some_token (lexicon_in mid) piece b.first.piece token);
      class = class ∙ ap (λ (lexicon : Lexicon). class_of lexicon piece) h.further.lexicon;
      in_range = omega (arith, mid.in_range, start, ap length b.parts ∙ length-append piece new.rest.now);
      reads = reads_then old mid new [] (seen given ∷ []) h.passed
          (subst (λ (n : ℕ). Reads mid (record { bytes = piece; start = n } ∷ []) new) (sym start) (reads_token mid new piece b token));
    }
