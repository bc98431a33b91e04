-- One more name is declared.
use Rattle.std.proofs.Common.{◌≡◌, ℕ, ◌+◌, Bool, true, false, not, ◌&&◌, ◌||◌, List, [], ◌∷◌, ◌++◌, length, refl, sym, ap, subst, ◌∙◌, arith, inl, inr}
use Rattle.std.specs.Prelude.{bytes_eq}
use Rattle.std.proofs.Math.Bool.{and-true, or-false, or_assoc}
use Rattle.std.proofs.lemmas.Bool.{and_parts, and_right, or_from, or_left, or_cases, both_ways, false_from_ne_true}
use Rattle.dcv_observer.specs.Conditions.{Names}
use Rattle.dcv_observer.specs.Naming.{is_among}
use Rattle.dcv_observer.proofs.Naming.{is_itself, differs, among_append_left, among_append_right, distinct_push}
use Rattle.dcv_c.specs.Rules.{keeps_new}
use Rattle.dcv_c_read.specs.Scope.{Row, Frame, with_names, IsRow, KnowsNames}
use Rattle.dcv_observer.proofs.Rows.{rows_push}

-- ---- one more name in a list

among_push : (names : Names) (last name : List ℕ) → is_among (names ++ last ∷ []) name ≡ (is_among names name || bytes_eq name last)
among_push [] last name = or-false (bytes_eq name last)
among_push (n ∷ names) last name = ap (λ (b : Bool). bytes_eq name n || b) (among_push names last name) ∙ sym (or_assoc (bytes_eq name n) (is_among names name) (bytes_eq name last))

-- ---- what the rules ask of it

module _ (frame : Frame) (functions declared : Names) (rows : List Row) (knows : KnowsNames frame functions declared rows) (name : List ℕ) where
  pub is_new : is_among functions name ≡ false → is_among declared name ≡ false → keeps_new frame.earlier name ≡ true
  is_new no_function no_place =
      ap not (knows.all name ∙ or_from (is_among frame.functions name) (is_among frame.placed name) (subst (λ (names : Names). is_among names name ≡ false) knows.functions_are no_function)
      (subst (λ (names : Names). is_among names name ≡ false) knows.declared_are no_place))

  -- ---- a name with a place

  module _ (no_place : is_among frame.placed name ≡ false) where
    other_name : (n : List ℕ) → is_among frame.placed n ≡ true → bytes_eq n name ≡ false
    other_name n among = differs n name (λ same. both_ways (is_among frame.placed name) no_place (subst (λ (m : List ℕ). is_among frame.placed m ≡ true) same among))

    -- more of the names with places
    abbrev Grows : Names → Bool → Names → Type 0
    Grows names new more = (n : List ℕ) → is_among more n ≡ (is_among names n || (new && bytes_eq n name))

    grows : (names : Names) → Grows names true (names ++ name ∷ [])
    grows names n = among_push names name n

    stays : (names : Names) → Grows names false names
    stays names n = sym (or-false (is_among names n))

    same_here : (names more : Names) (new : Bool) → Grows names new more → (n : List ℕ) → is_among frame.placed n ≡ true → is_among names n ≡ is_among more n
    same_here names more new grown n among =
        sym (grown n ∙ ap (λ (b : Bool). is_among names n || (new && b)) (other_name n among) ∙ ap (λ (b : Bool). is_among names n || b) (and_right new false refl) ∙ or-false (is_among names n))

    new_here : (names more : Names) (new : Bool) → Grows names new more → ((n : List ℕ) → is_among names n ≡ true → is_among frame.placed n ≡ true) → new ≡ is_among more name
    new_here names more new grown within =
        sym (grown name ∙ ap (λ (b : Bool). b || (new && bytes_eq name name)) none ∙ ap (λ (b : Bool). new && b) (is_itself name) ∙ and-true new)
      where
        none : is_among names name ≡ false
        none = false_from_ne_true (is_among names name) (λ some. both_ways (is_among frame.placed name) no_place (within name some))

    within_push : (names more : Names) (new : Bool) → Grows names new more → ((n : List ℕ) → is_among names n ≡ true → is_among frame.placed n ≡ true)
        → (n : List ℕ) → is_among more n ≡ true → is_among (frame.placed ++ name ∷ []) n ≡ true
    within_push names more new grown within n some =
        elim (or_cases (is_among names n) (new && bytes_eq n name) (sym (grown n) ∙ some)) [
          | inl before ↦ among_append_left frame.placed (name ∷ []) n (within n before)
          | inr here ↦ among_append_right frame.placed (name ∷ []) n (or_left (bytes_eq n name) false (and_parts new (bytes_eq n name) here).1)
        ]

    entered : (lefts known : Names) (is_left is_known : Bool) → Grows frame.lefts is_left lefts → Grows frame.known is_known known
        → KnowsNames (record { earlier = frame.earlier ++ name ∷ []; functions = frame.functions; placed = frame.placed ++ name ∷ []; lefts = lefts; known = known })
        functions (declared ++ name ∷ []) (rows ++ record { place = length rows; is_left = is_left; is_known = is_known } ∷ [])
    entered lefts known is_left is_known left_grows known_grows =
        record {
          functions_are = knows.functions_are;
          declared_are = ap (λ (names : Names). names ++ name ∷ []) knows.declared_are;
          all = λ n.
              among_push frame.earlier name n
              ∙ ap (λ (b : Bool). b || bytes_eq n name) (knows.all n)
              ∙ or_assoc (is_among frame.functions n) (is_among frame.placed n) (bytes_eq n name)
              ∙ ap (λ (b : Bool). is_among frame.functions n || b) (sym (among_push frame.placed name n));
          distinct = distinct_push frame.placed name knows.distinct no_place;
          lefts_among = within_push frame.lefts lefts is_left left_grows knows.lefts_among;
          known_among = within_push frame.known known is_known known_grows knows.known_among;
          are_rows =
              rows_push (IsRow frame.lefts frame.known) (IsRow lefts known) 0 frame.placed rows name _
              (λ n other row among is.
              record {
                is_at = is.is_at;
                is_left = is.is_left ∙ same_here frame.lefts lefts is_left left_grows other among;
                is_known = is.is_known ∙ same_here frame.known known is_known known_grows other among;
              })
              knows.are_rows
              (record {
                is_at = let e : length rows ≡ 0 + length rows = omega arith in e;
                is_left = new_here frame.lefts lefts is_left left_grows knows.lefts_among;
                is_known = new_here frame.known known is_known known_grows knows.known_among;
              });
        }

    by_kind : (is_left : Bool) → KnowsNames (with_names is_left (name ∷ []) frame) functions (declared ++ name ∷ [])
        (rows ++ record { place = length rows; is_left = is_left; is_known = not is_left } ∷ [])
    by_kind true = entered (frame.lefts ++ name ∷ []) frame.known true false (grows frame.lefts) (stays frame.known)
    by_kind false = entered frame.lefts (frame.known ++ name ∷ []) false true (stays frame.lefts) (grows frame.known)

  -- what the code has then
  pub name_declared : (is_left : Bool) {more : Names} {more_rows : List Row} → is_among declared name ≡ false → more ≡ declared ++ name ∷ []
      → more_rows ≡ rows ++ record { place = length rows; is_left = is_left; is_known = not is_left } ∷ []
      → KnowsNames (with_names is_left (name ∷ []) frame) functions more more_rows
  name_declared is_left {more = more} {more_rows = more_rows} no_place is rows_are =
      subst (λ (ns : Names). KnowsNames (with_names is_left (name ∷ []) frame) functions ns more_rows) (sym is)
      (subst (λ (rs : List Row). KnowsNames (with_names is_left (name ∷ []) frame) functions (declared ++ name ∷ []) rs) (sym rows_are)
      (by_kind (subst (λ (names : Names). is_among names name ≡ false) knows.declared_are no_place) is_left))
