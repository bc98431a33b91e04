-- Names that are known from now on.
use Rattle.std.proofs.Common.{◌≡◌, ℕ, Bool, true, false, ◌||◌, List}
use Rattle.std.proofs.Common.{◌∷◌, sym, ap, subst, ◌∙◌, inl, inr}
use Rattle.std.specs.Prelude.{bytes_eq}
use Rattle.std.proofs.lemmas.Bool.{or_left, or_cases}
use Rattle.dcv_observer.specs.Conditions.{Names}
use Rattle.dcv_observer.specs.Naming.{is_among}
use Rattle.dcv_observer.proofs.Naming.{is_itself, one_name}
use Rattle.dcv_c_read.specs.Scope.{Row, Frame, with_known, as_known, IsRow, KnowsNames, IsNamed}
use Rattle.dcv_observer.specs.Rows.{changed}
use Rattle.dcv_observer.proofs.Rows.{change_rows, rows_as}
use Rattle.dcv_c_read.proofs.Found.{named_among}

-- ---- a name that is known from now on

module _ (lefts known : Names) (left : List ℕ) where
  known_still : (place : ℕ) (name : List ℕ) (row : Row) → bytes_eq name left ≡ false → IsRow lefts known place name row → IsRow lefts (left ∷ known) place name row
  known_still place name row other is =
      record { is_at = is.is_at; is_left = is.is_left; is_known = is.is_known ∙ ap (λ (b : Bool). b || is_among known name) (sym other) }

  known_now : (place : ℕ) (row : Row) → IsRow lefts known place left row → IsRow lefts (left ∷ known) place left (as_known row)
  known_now place row is = record { is_at = is.is_at; is_left = is.is_left; is_known = sym (or_left (bytes_eq left left) (is_among known left) (is_itself left)) }

module _ (frame : Frame) (functions declared : Names) (rows : List Row) (knows : KnowsNames frame functions declared rows) where
  marked_knows : (name : List ℕ) (place : ℕ) → IsNamed frame.placed name place → KnowsNames (with_known (name ∷ frame.known) frame) functions declared (changed as_known place rows)
  marked_knows name place named =
      record {
        functions_are = knows.functions_are;
        declared_are = knows.declared_are;
        all = knows.all;
        distinct = knows.distinct;
        lefts_among = knows.lefts_among;
        known_among = λ n some.
            elim (or_cases (bytes_eq n name) (is_among frame.known n) some) [
              | inl here ↦ subst (λ (m : List ℕ). is_among frame.placed m ≡ true) (sym (one_name n name here)) (named_among frame.placed name place named)
              | inr before ↦ knows.known_among n before
            ];
        are_rows =
            change_rows (IsRow frame.lefts frame.known) (IsRow frame.lefts (name ∷ frame.known)) as_known name (known_still frame.lefts frame.known name) (known_now frame.lefts frame.known name)
            0 frame.placed rows place knows.distinct knows.are_rows named.within named.is;
      }

  pub marked_then : (name : List ℕ) (place : ℕ) {functions_then declared_then : Names} {rows_then : List Row} → IsNamed frame.placed name place
      → functions_then ≡ functions → declared_then ≡ declared → rows_then ≡ changed as_known place rows
      → KnowsNames (with_known (name ∷ frame.known) frame) functions_then declared_then rows_then
  marked_then name place {functions_then = functions_then} {declared_then = declared_then} {rows_then = rows_then} named same_functions same_names marks =
      let after = with_known (name ∷ frame.known) frame in
      subst (λ (fs : Names). KnowsNames after fs declared_then rows_then) (sym same_functions)
      (subst (λ (ns : Names). KnowsNames after functions ns rows_then) (sym same_names)
      (subst (λ (rs : List Row). KnowsNames after functions declared rs) (sym marks) (marked_knows name place named)))

  -- the same names are known
  pub known_as : (other : Names) → ((name : List ℕ) → is_among frame.known name ≡ is_among other name) → KnowsNames (with_known other frame) functions declared rows
  known_as other same =
      record {
        functions_are = knows.functions_are;
        declared_are = knows.declared_are;
        all = knows.all;
        distinct = knows.distinct;
        lefts_among = knows.lefts_among;
        known_among = λ n some. knows.known_among n (same n ∙ some);
        are_rows =
            rows_as (IsRow frame.lefts frame.known) (IsRow frame.lefts other) 0 frame.placed rows
            (λ n name row among is. record { is_at = is.is_at; is_left = is.is_left; is_known = is.is_known ∙ same name }) knows.are_rows;
      }
