-- One more name is declared.
use Rattle.std.proofs.Common.{◌≡◌, ℕ, ◌+◌, Bool, true, false, not, ◌&&◌, List, [], ◌∷◌, ◌++◌, length, take, Option, Some, refl, sym, ap, subst, ◌∙◌, arith}
use Rattle.std.proofs.Common.{append_assoc, length-append}
use Rattle.std.proofs.lemmas.Bool.{and_right}
use Rattle.std.proofs.lemmas.List.{take_at}
use Rattle.std.proofs.Math.Bool.{and-true}
use Rattle.dcv_lexer.specs.Cuts.{Token}
use Rattle.dcv_observer.specs.Conditions.{Names}
use Rattle.dcv_observer.specs.Naming.{is_among}
use Rattle.dcv_observer.proofs.Naming.{distinct_push}
use Rattle.dcv_lustre.specs.Tree.{Kind, Node}
use Rattle.dcv_lustre.specs.Rules.{declared, keeps_declared}
use Rattle.dcv_lustre_read.specs.Scope.{Told, Row, rows_from, is_within, keeps_from, IsDeclaring}
use Rattle.dcv_observer.specs.Judged.{IsLeft}
use Rattle.dcv_observer.proofs.Judging.{kept, broken}

module _ (node : Node) (whole : Option ℕ) (others : List Token) (others_keep : List Bool) (names : Names) (rows : List Row) (name word : List ℕ) (at : ℕ)
    (kind : Kind) (known : Bool) (words : List Token) (later : Names) (told : List Told)
    (d : IsDeclaring node whole others others_keep names rows (record { bytes = word; start = at } ∷ words) (name ∷ later) ((kind, known) ∷ told)) where
  keeps_is : keeps_declared node (length names) name ≡ (not (is_among names name) && is_within node (length names))
  keeps_is =
      let front : take (length names) (declared node) ≡ names = ap (λ (all : Names). take (length names) all) (sym d.all) ∙ take_at names (name ∷ later) (length names) refl in
      ap (λ (front : Names). not (is_among front name) && is_within node (length names)) front

  -- there are too many inputs
  pub declared_beyond : is_within node (length names) ≡ false → whole ≡ Some at
  declared_beyond beyond = broken (keeps_is ∙ and_right (not (is_among names name)) (is_within node (length names)) beyond) d.left

  module _ (within : is_within node (length names) ≡ true) where
    keeps_new : keeps_declared node (length names) name ≡ not (is_among names name)
    keeps_new = keeps_is ∙ ap (λ (w : Bool). not (is_among names name) && w) within ∙ and-true (not (is_among names name))

    pub declared_again : is_among names name ≡ true → whole ≡ Some at
    declared_again again = broken (keeps_new ∙ ap not again) d.left

    declared_more : is_among names name ≡ false
        → IsDeclaring node whole others others_keep (names ++ name ∷ []) (rows ++ record { place = length rows; kind = kind; is_known = known } ∷ []) words later told
    declared_more new =
        let row : Row = record { place = length rows; kind = kind; is_known = known } in
        let size : length (names ++ name ∷ []) ≡ length names + 1 = omega (arith, length-append names (name ∷ [])) in
        let count : length (rows ++ row ∷ []) ≡ length rows + 1 = omega (arith, length-append rows (row ∷ [])) in
        record {
          all = append_assoc names (name ∷ []) later ∙ d.all;
          distinct = distinct_push names name d.distinct new;
          told_all = append_assoc rows (row ∷ []) _ ∙ ap (λ n. rows ++ row ∷ rows_from n told) count ∙ d.told_all;
          numbered = omega (arith, d.numbered, size, count);
          left = subst (λ n. first_is n) (sym size) (kept (keeps_new ∙ ap not new) d.left);
        }
      where
        first_is : ℕ → Type 0
        first_is n = IsLeft whole (words ++ others) (keeps_from node n later ++ others_keep)

    -- what the code has then
    pub declared_then : {more : Names} {more_rows : List Row} → is_among names name ≡ false
        → more ≡ names ++ name ∷ [] → more_rows ≡ rows ++ record { place = length rows; kind = kind; is_known = known } ∷ []
        → IsDeclaring node whole others others_keep more more_rows words later told
    declared_then {more = more} {more_rows = more_rows} new is rows_are =
        subst (λ (ns : Names). IsDeclaring node whole others others_keep ns more_rows words later told) (sym is)
        (subst (λ (rs : List Row). IsDeclaring node whole others others_keep (names ++ name ∷ []) rs words later told) (sym rows_are) (declared_more new))
