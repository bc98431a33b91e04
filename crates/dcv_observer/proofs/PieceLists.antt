-- Pieces after one another, and lists that are laid out item by item.
--     pieces_are_text layout        the pieces of a layout are its text
use Rattle.std.proofs.Common.{◌≡◌, ℕ, ◌+◌, true, List, [], ◌∷◌, ◌++◌, length, refl, sym, ap, subst, ◌∙◌, arith, append_assoc, append-nil, length-append}
use Rattle.std.specs.List.{AllByRecursion, flat_map, join_by}
use Rattle.dcv_lexer.specs.Lexicon.{Lexicon, is_orderly}
use Rattle.dcv_observer.specs.Pieces.{Piece, Blank, Text, bytes_in, bytes_of, tokens_at, IsLaidOut}
use Rattle.dcv_observer.specs.Layouts.{Layout, Empty, Space, Newline, Word, ◌<>◌, Each, Joined, joined, text_in, pieces_in}
use Rattle.dcv_observer.proofs.LaidOut.{append_laid}

-- ---- their bytes

pub bytes_append : (xs ys : List Piece) → bytes_of (xs ++ ys) ≡ bytes_of xs ++ bytes_of ys
bytes_append [] ys = refl
bytes_append (x ∷ xs) ys = ap (λ bytes. bytes_in x ++ bytes) (bytes_append xs ys) ∙ sym (append_assoc (bytes_in x) (bytes_of xs) (bytes_of ys))

each_is_text : {X : Type 0} (pieces : X → List Piece) (text : X → List ℕ) → ((x : X) → bytes_of (pieces x) ≡ text x) → (xs : List X)
    → bytes_of (flat_map pieces xs) ≡ flat_map text xs
each_is_text pieces text one [] = refl
each_is_text pieces text one (x ∷ xs) = bytes_append (pieces x) (flat_map pieces xs) ∙ (λ i. one x i ++ each_is_text pieces text one xs i)

joined_is_text : {X : Type 0} (between : List Piece) (separator : List ℕ) (pieces : X → List Piece) (text : X → List ℕ) → bytes_of between ≡ separator
    → ((x : X) → bytes_of (pieces x) ≡ text x) → (xs : List X) → bytes_of (joined between pieces xs) ≡ join_by text separator xs
joined_is_text between separator pieces text same one [] = refl
joined_is_text between separator pieces text same one (x ∷ xs) =
    bytes_append (pieces x) _
    ∙ (λ i. one x i ++ each_is_text (λ y. between ++ pieces y) (λ y. separator ++ text y) (λ y. bytes_append between (pieces y) ∙ (λ j. same j ++ one y j)) xs i)

pub pieces_are_text : (layout : Layout) → bytes_of (pieces_in layout) ≡ text_in layout
pieces_are_text Empty = refl
pieces_are_text Space = refl
pieces_are_text Newline = refl
pieces_are_text (Word bytes) = append-nil bytes
pieces_are_text (first <> second) = bytes_append (pieces_in first) (pieces_in second) ∙ (λ i. pieces_are_text first i ++ pieces_are_text second i)
pieces_are_text (Each layout xs) = each_is_text (λ x. pieces_in (layout x)) (λ x. text_in (layout x)) (λ x. pieces_are_text (layout x)) xs
pieces_are_text (Joined between layout xs) =
    joined_is_text (pieces_in between) (text_in between) (λ x. pieces_in (layout x)) (λ x. text_in (layout x)) (pieces_are_text between) (λ x. pieces_are_text (layout x)) xs

-- ---- their tokens

pub tokens_append : (xs ys : List Piece) (start : ℕ) → tokens_at start (xs ++ ys) ≡ tokens_at start xs ++ tokens_at (start + length (bytes_of xs)) ys
tokens_append [] ys start = let e : start ≡ start + 0 = omega arith in ap (λ s. tokens_at s ys) e
tokens_append (Blank b ∷ xs) ys start =
    let e : start + 1 + length (bytes_of xs) ≡ start + length (bytes_of (Blank b ∷ xs)) = omega arith in
    tokens_append xs ys (start + 1) ∙ ap (λ s. tokens_at (start + 1) xs ++ tokens_at s ys) e
tokens_append (Text bytes ∷ xs) ys start =
    let e : start + length bytes + length (bytes_of xs) ≡ start + length (bytes_of (Text bytes ∷ xs)) = omega (arith, length-append bytes (bytes_of xs)) in
    ap (λ tokens. record { bytes = bytes; start = start } ∷ tokens) (tokens_append xs ys (start + length bytes) ∙ ap (λ s. tokens_at (start + length bytes) xs ++ tokens_at s ys) e)

-- ---- whether each ends where it does

pub each_laid : (lexicon : Lexicon) → is_orderly lexicon ≡ true → {X : Type 0} (pieces : X → List Piece) (P : X → Type 0)
    → ((x : X) (next : ℕ) → P x → IsLaidOut lexicon (pieces x) next)
    → (xs : List X) (more : List Piece) (next : ℕ) → AllByRecursion P xs → IsLaidOut lexicon more next → IsLaidOut lexicon (flat_map pieces xs ++ more) next
each_laid lexicon orderly pieces P one [] more next all rest = rest
each_laid lexicon orderly pieces P one (x ∷ xs) more next all rest =
    subst (λ ps. IsLaidOut lexicon ps next) (sym (append_assoc (pieces x) (flat_map pieces xs) more))
    (append_laid lexicon orderly (pieces x) (flat_map pieces xs ++ more) next (one x _ all.0) (each_laid lexicon orderly pieces P one xs more next all.1 rest))
