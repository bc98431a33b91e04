-- The pieces of a text, as a function of the text, are those into which it is cut.
use Rattle.std.proofs.Common.{◌≡◌, ℕ, zero, suc, ◌+◌, ◌<◌, ◌≤◌, Bool, true, false, cond, nat_eq, List, [], ◌∷◌, ◌++◌, inl, inr, length, take, drop, IsTrue}
use Rattle.std.proofs.Common.{refl, sym, ap, subst, ◌∙◌, arith, length-append, length-drop}
use Rattle.std.specs.List.{concat}
use Rattle.std.proofs.lemmas.Bool.{cases_Bool, cases_eq, both_ways, eqb-true, eqb-false}
use Rattle.std.proofs.lemmas.List.{take-append-drop, length-take, take_at, drop_at}
use Rattle.dcv_lexer.specs.Lexicon.{Lexicon, is_piece}
use Rattle.dcv_lexer.specs.Cuts.{BeginsWith, BeginsWithNoPiece, IsLongest, IsCut, Token, tokens_from}
use Rattle.dcv_lexer.proofs.Cuts.{piece_has_bytes, cut_nothing, cut_with, cut_is_unique}
use Rattle.dcv_observer.specs.Items.{stray_from, HasItems}
use Rattle.dcv_observer.specs.Left.{longest_within, pieces_within, pieces_of, items_from}

module _ (lexicon : Lexicon) where
  -- so many bytes are the longest piece, or it is 0 and there is none
  record IsLongestLength (text : List ℕ) (size : ℕ) : Type 0 where
    longest : 0 < size → IsLongest lexicon (take size text) text
    none : size ≡ 0 → BeginsWithNoPiece lexicon text

  longest_found : (text : List ℕ) (most : ℕ) → ((piece : List ℕ) → IsTrue (is_piece lexicon piece) → BeginsWith text piece → length piece ≤ most)
      → IsLongestLength text (longest_within lexicon text most)
  longest_found text zero short = record {
    longest = λ some. absurd (omega arith);
    none = λ is_zero piece is begins. absurd (omega (arith, short piece is begins, piece_has_bytes lexicon piece is));
  }
  longest_found text (suc most) short = elim (cases_Bool (is_piece lexicon (take (suc most) text))) [
    | inl is ↦ rw is (record {
      longest = λ some. record {
        piece = is;
        begins = (drop (suc most) text, sym (take-append-drop (suc most) text));
        longest = λ other other_is begins.
            omega (arith, short other other_is begins, length-take (suc most) text, ap length begins.1 ∙ length-append other begins.0);
      };
      none = λ never. absurd (omega (arith, never));
    })
    | inr is_not ↦ rw is_not (longest_found text most (λ piece is begins.
        elim (cases_eq (length piece) (suc most)) [
          | inl same ↦
              let front : take (suc most) text ≡ piece = ap (λ (t : List ℕ). take (suc most) t) begins.1 ∙ take_at piece begins.0 (suc most) same in
              absurd (both_ways (is_piece lexicon piece) (sym (ap (is_piece lexicon) front) ∙ is_not) is)
          | inr other ↦ omega (arith, short piece is begins, other)
        ]))
  ]

  longest_of : (text : List ℕ) → IsLongestLength text (longest_within lexicon text (length text))
  longest_of text = longest_found text (length text) (λ piece is begins. omega (arith, ap length begins.1 ∙ length-append piece begins.0))

  cut_found : (most : ℕ) (text : List ℕ) → length text ≤ most → (rest : List ℕ) × IsCut lexicon text (pieces_within lexicon most text) rest
  cut_found zero text short = (
    text,
    cut_nothing lexicon text (λ piece is begins.
        absurd (omega (arith, short, ap length begins.1 ∙ length-append piece begins.0, piece_has_bytes lexicon piece is))),
  )
  cut_found (suc most) text short =
      let size = longest_within lexicon text (length text) in
      by_size size (nat_eq size 0) refl (longest_of text) (λ follows shorter. cut_found most follows shorter)
    where
      by_size : (size : ℕ) (none : Bool) → nat_eq size 0 ≡ none → IsLongestLength text size
          → ((follows : List ℕ) → length follows ≤ most → (rest : List ℕ) × IsCut lexicon follows (pieces_within lexicon most follows) rest)
          → (rest : List ℕ) × IsCut lexicon text (cond none [] (take size text ∷ pieces_within lexicon most (drop size text))) rest
      by_size size true none is later = (text, cut_nothing lexicon text (is.none (eqb-true size 0 none)))
      by_size size false some is later =
          let differs = eqb-false size 0 some in
          let positive : 0 < size = omega (arith, differs) in
          let follows = drop size text in
          let longest = is.longest positive in
          let bytes = piece_has_bytes lexicon (take size text) longest.piece in
          let (rest, cut) = later follows (omega (arith, length-drop size text, length-take size text, bytes, short, positive)) in
          (rest, cut_with lexicon text (take size text) follows (pieces_within lexicon most follows) rest longest (sym (take-append-drop size text)) cut)

  -- the one cut of a text
  record IsOneCut (text : List ℕ) : Type 0 where
    cut : IsCut lexicon text (pieces_of lexicon text) (drop (length (concat (pieces_of lexicon text))) text)

  one_cut : (text : List ℕ) → IsOneCut text
  one_cut text =
      let (rest, cut) = cut_found (length text) text (omega arith) in
      let same : drop (length (concat (pieces_of lexicon text))) text ≡ rest =
      ap (λ (t : List ℕ). drop (length (concat (pieces_of lexicon text))) t) cut.whole ∙ drop_at (concat (pieces_of lexicon text)) rest _ refl in
      record { cut = subst (λ (r : List ℕ). IsCut lexicon text (pieces_of lexicon text) r) (sym same) cut }

  -- the items of a text that begins at an offset, by any cut of it
  pub items_are : (text rest : List ℕ) (pieces : List (List ℕ)) (start : ℕ) → IsCut lexicon text pieces rest
      → items_from lexicon start text ≡ tokens_from lexicon start pieces ++ stray_from (start + length (concat pieces)) rest
  items_are text rest pieces start cut =
      let same = cut_is_unique lexicon text (drop (length (concat (pieces_of lexicon text))) text) rest (pieces_of lexicon text) pieces (one_cut text).cut cut in
      λ i. tokens_from lexicon start (same.0 i) ++ stray_from (start + length (concat (same.0 i))) (same.1 i)

  -- ---- one list of items

  from_zero : (n : ℕ) → 0 + n ≡ n
  from_zero n = omega arith

  pub has_items : (text : List ℕ) → HasItems lexicon text (items_from lexicon 0 text)
  has_items text = record {
    pieces = pieces_of lexicon text;
    rest = drop (length (concat (pieces_of lexicon text))) text;
    cut = (one_cut text).cut;
    among = ap (λ (n : ℕ). tokens_from lexicon 0 (pieces_of lexicon text) ++ stray_from n (drop (length (concat (pieces_of lexicon text))) text)) (from_zero _);
  }

  pub are_items : (text : List ℕ) (items : List Token) → HasItems lexicon text items → items ≡ items_from lexicon 0 text
  are_items text items has =
      has.among
      ∙ ap (λ (n : ℕ). tokens_from lexicon 0 has.pieces ++ stray_from n has.rest) (sym (from_zero (length (concat has.pieces))))
      ∙ sym (items_are text has.rest has.pieces 0 has.cut)

  pub one_list : (text : List ℕ) (items others : List Token) → HasItems lexicon text items → HasItems lexicon text others → items ≡ others
  one_list text items others has have = are_items text items has ∙ sym (are_items text others have)
