-- A text is cut in one way.
use Rattle.std.proofs.Common.{◌≡◌, ℕ, zero, suc, ◌+◌, ◌<◌, ◌≤◌, List, [], ◌∷◌, ◌++◌, ◌⊎◌, inl, inr, length, take, drop, IsTrue, refl, sym, ap, subst, ◌∙◌}
use Rattle.std.proofs.Common.{arith, append_assoc, length-append}
use Rattle.std.specs.List.{concat}
use Rattle.std.proofs.lemmas.Bool.{cases_Bool, cases_eq, both_ways}
use Rattle.std.proofs.lemmas.List.{take-append-drop, length-take, take_at}
use Rattle.dcv_lexer.specs.Lexicon.{Lexicon, is_piece}
use Rattle.dcv_lexer.specs.Cuts.{BeginsWith, BeginsWithNoPiece, IsLongest, IsCut}
use Rattle.dcv_lexer.proofs.FirstBytes.{nothing_is_no_piece}

-- two beginnings of a list that are as long are one
pub same_beginning : {X : Type 0} (xs ys more others : List X) → xs ++ more ≡ ys ++ others → length xs ≡ length ys → (xs ≡ ys) × (more ≡ others)
same_beginning [] [] more others e l = (refl, e)
same_beginning [] (y ∷ ys) more others e l = absurd (omega arith)
same_beginning (x ∷ xs) [] more others e l = absurd (omega arith)
same_beginning (x ∷ xs) (y ∷ ys) more others e l =
    let tails : xs ++ more ≡ ys ++ others = cc in
    let heads : x ≡ y = cc in
    let shorter : length xs ≡ length ys = omega arith in
    let rest = same_beginning xs ys more others tails shorter in
    let front : xs ≡ ys = rest.0 in
    (cc, rest.1)

-- a cut into a first piece and the cut of what follows
pub record IsCutAfter (lexicon : Lexicon) (text piece : List ℕ) (pieces : List (List ℕ)) (rest : List ℕ) : Type 0 where
  pub first : IsLongest lexicon piece text
  pub parts : text ≡ piece ++ (concat pieces ++ rest)
  pub others : IsCut lexicon (concat pieces ++ rest) pieces rest

module _ (lexicon : Lexicon) where
  pub piece_has_bytes : (piece : List ℕ) → IsTrue (is_piece lexicon piece) → 0 < length piece
  piece_has_bytes [] h = absurd (nothing_is_no_piece lexicon h)
  piece_has_bytes (b ∷ bytes) h = omega arith

  -- ---- at most one

  longest_is_one : (piece other text : List ℕ) → IsLongest lexicon piece text → IsLongest lexicon other text → piece ≡ other
  longest_is_one piece other text l m =
      let same : length piece ≡ length other = omega (arith, l.longest other m.piece m.begins, m.longest piece l.piece l.begins) in
      (same_beginning piece other l.begins.0 m.begins.0 (sym l.begins.1 ∙ m.begins.1) same).0

  pub cut_after : (text piece : List ℕ) (pieces : List (List ℕ)) (rest : List ℕ) → IsCut lexicon text (piece ∷ pieces) rest
      → IsCutAfter lexicon text piece pieces rest
  cut_after text piece pieces rest cut =
      let parts : text ≡ piece ++ (concat pieces ++ rest) = cut.whole ∙ append_assoc piece (concat pieces) rest in
      record {
        first = subst (λ (t : List ℕ). IsLongest lexicon piece t) (sym parts) cut.longest.0;
        parts = parts;
        others = record { whole = refl; longest = cut.longest.1; stuck = cut.stuck };
      }

  -- a cut of what follows a first piece
  pub cut_with : (text piece follows : List ℕ) (pieces : List (List ℕ)) (rest : List ℕ) → IsLongest lexicon piece text → text ≡ piece ++ follows
      → IsCut lexicon follows pieces rest → IsCut lexicon text (piece ∷ pieces) rest
  cut_with text piece follows pieces rest first parts cut =
      let whole : text ≡ piece ++ (concat pieces ++ rest) = parts ∙ ap (λ (t : List ℕ). piece ++ t) cut.whole in
      record {
        whole = whole ∙ sym (append_assoc piece (concat pieces) rest);
        longest = (subst (λ (t : List ℕ). IsLongest lexicon piece t) whole first, cut.longest);
        stuck = cut.stuck;
      }

  -- nothing is cut off where no piece begins
  pub cut_nothing : (text : List ℕ) → BeginsWithNoPiece lexicon text → IsCut lexicon text [] text
  cut_nothing text stuck = record { whole = refl; longest = tt; stuck = stuck }

  no_first : (text piece rest : List ℕ) (pieces : List (List ℕ)) → IsCut lexicon text [] text → IsCut lexicon text (piece ∷ pieces) rest → ⊥
  no_first text piece rest pieces none some =
      let first = (cut_after text piece pieces rest some).first in
      none.stuck piece first.piece first.begins

  pub cut_is_unique : (text rest other_rest : List ℕ) (pieces other_pieces : List (List ℕ)) → IsCut lexicon text pieces rest
      → IsCut lexicon text other_pieces other_rest → (pieces ≡ other_pieces) × (rest ≡ other_rest)
  cut_is_unique text rest other_rest [] [] c d = (refl, sym c.whole ∙ d.whole)
  cut_is_unique text rest other_rest [] (q ∷ qs) c d =
      absurd (no_first rest q other_rest qs (cut_nothing rest c.stuck) (subst (λ (t : List ℕ). IsCut lexicon t (q ∷ qs) other_rest) c.whole d))
  cut_is_unique text rest other_rest (p ∷ ps) [] c d =
      absurd (no_first other_rest p rest ps (cut_nothing other_rest d.stuck) (subst (λ (t : List ℕ). IsCut lexicon t (p ∷ ps) rest) d.whole c))
  cut_is_unique text rest other_rest (p ∷ ps) (q ∷ qs) c d =
      let a = cut_after text p ps rest c in
      let b = cut_after text q qs other_rest d in
      let one : p ≡ q = longest_is_one p q text a.first b.first in
      let follows : concat ps ++ rest ≡ concat qs ++ other_rest = (same_beginning p q _ _ (sym a.parts ∙ b.parts) (ap length one)).1 in
      let later = cut_is_unique (concat ps ++ rest) rest other_rest ps qs a.others (subst (λ (t : List ℕ). IsCut lexicon t qs other_rest) (sym follows) b.others) in
      let ends : ps ≡ qs = later.0 in
      (cc, later.1)

  -- ---- one at least

  -- the longest of the beginnings of at most n bytes, where no longer one is a piece
  longest_up_to : (text : List ℕ) (n : ℕ) → ((piece : List ℕ) → IsTrue (is_piece lexicon piece) → BeginsWith text piece → length piece ≤ n)
      → ((piece : List ℕ) × IsLongest lexicon piece text) ⊎ BeginsWithNoPiece lexicon text
  longest_up_to text zero short = inr (λ piece is begins. absurd (omega (arith, short piece is begins, piece_has_bytes piece is)))
  longest_up_to text (suc n) short =
      elim (cases_Bool (is_piece lexicon (take (suc n) text))) [
        | inl is ↦ inl (
          take (suc n) text,
          record {
            piece = is;
            begins = (drop (suc n) text, sym (take-append-drop (suc n) text));
            longest = λ other other_is begins.
                let whole : length text ≡ length other + length begins.0 = ap length begins.1 ∙ length-append other begins.0 in
                omega (arith, short other other_is begins, length-take (suc n) text, whole);
          },
        )
        | inr is_not ↦ longest_up_to text n (λ piece is begins.
            elim (cases_eq (length piece) (suc n)) [
              | inl same ↦
                  let front : take (suc n) text ≡ piece = ap (λ (t : List ℕ). take (suc n) t) begins.1 ∙ take_at piece begins.0 (suc n) same in
                  absurd (both_ways (is_piece lexicon piece) (sym (ap (is_piece lexicon) front) ∙ is_not) is)
              | inr other ↦ omega (arith, short piece is begins, other)
            ])
      ]

  pub longest_or_none : (text : List ℕ) → ((piece : List ℕ) × IsLongest lexicon piece text) ⊎ BeginsWithNoPiece lexicon text
  longest_or_none text = longest_up_to text (length text) (λ piece is begins. omega (arith, ap length begins.1 ∙ length-append piece begins.0))

  cut_of_short : (most : ℕ) (text : List ℕ) → length text ≤ most → (pieces : List (List ℕ)) × (rest : List ℕ) × IsCut lexicon text pieces rest
  cut_of_short zero text short = ([], text, cut_nothing text (λ piece is begins. absurd (omega (arith, ap length begins.1 ∙ length-append piece begins.0, piece_has_bytes piece is))))
  cut_of_short (suc most) text short =
      elim (longest_or_none text) [
        | inl first ↦
            let longest = first.1 in
            let follows = longest.begins.0 in
            let later = cut_of_short most follows (omega (arith, ap length longest.begins.1 ∙ length-append first.0 follows, piece_has_bytes first.0 longest.piece)) in
            (first.0 ∷ later.0, later.1, cut_with text first.0 follows later.0 later.1 longest longest.begins.1 later.2)
        | inr none ↦ ([], text, cut_nothing text none)
      ]

  pub cut_exists : (text : List ℕ) → (pieces : List (List ℕ)) × (rest : List ℕ) × IsCut lexicon text pieces rest
  cut_exists text = cut_of_short (length text) text (omega arith)
