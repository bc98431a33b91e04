-- Rows of names: one is found, one is changed, and one is added.
use Rattle.std.proofs.Common.{◌≡◌, ℕ, zero, suc, ◌+◌, ◌<◌, ◌≤◌, Bool, true, false, ◌&&◌, List, [], ◌∷◌, ◌++◌, length, map, get_or, Option, Some, refl, ap, sym, subst, ◌∙◌, arith}
use Rattle.std.specs.Prelude.{bytes_eq, slice_get, slice_set}
use Rattle.std.specs.List.{list_all}
use Rattle.std.proofs.lemmas.Bool.{or_left, or_right, both_ways}
use Rattle.dcv_observer.specs.Conditions.{Names}
use Rattle.dcv_observer.specs.Naming.{is_among, AreDistinct}
use Rattle.dcv_observer.proofs.Naming.{is_itself, differs}
use Rattle.dcv_observer.specs.Rows.{AreRows, changed}

-- a name that is there
pub among_at : (names : Names) (k : ℕ) → k < length names → is_among names (get_or names k []) ≡ true
among_at [] k within = absurd (omega arith)
among_at (n ∷ names) zero within = or_left _ _ (is_itself n)
among_at (n ∷ names) (suc k) within = or_right (bytes_eq (get_or names k []) n) _ (among_at names k (omega arith))

-- ---- rows as the code keeps them

module _ {Kept Row : Type 0} (see : Kept → Row) where
  pub record RowAt (Is : ℕ → List ℕ → Row → Type 0) (place : ℕ) (name : List ℕ) (found : Option Kept) : Type 0 where
    pub kept : Kept
    pub is : found ≡ Some kept
    pub row : Is place name (see kept)

  pub row_at : (Is : ℕ → List ℕ → Row → Type 0) (names : Names) (items : List Kept) (place k : ℕ) → AreRows Is place names (map see items) → k < length names
      → RowAt Is (place + k) (get_or names k []) (slice_get items k)
  row_at Is [] items place k rows within = absurd (omega arith)
  row_at Is (name ∷ names) [] place k rows within = absurd rows
  row_at Is (name ∷ names) (item ∷ items) place zero rows within =
      record { kept = item; is = refl; row = subst (λ n. Is n name (see item)) (let e : place ≡ place + 0 = omega arith in e) rows.0 }
  row_at Is (name ∷ names) (item ∷ items) place (suc k) rows within =
      let later = row_at Is names items (place + 1) k rows.1 (omega arith) in
      record {
        kept = later.kept;
        is = later.is;
        row = subst (λ n. Is n (get_or names k []) (see later.kept)) (let e : place + 1 + k ≡ place + suc k = omega arith in e) later.row;
      }

  pub set_row : (change : Row → Row) (items : List Kept) (place : ℕ) (x other : Kept) → see x ≡ change (see (get_or items place other)) → place < length items
      → map see (slice_set items place x) ≡ changed change place (map see items)
  set_row change [] place x other is within = absurd (omega arith)
  set_row change (item ∷ items) zero x other is within = ap (λ (row : Row). row ∷ map see items) is
  set_row change (item ∷ items) (suc place) x other is within = ap (λ (rows : List Row). see item ∷ rows) (set_row change items place x other is (omega arith))

  -- a test of all rows is one of all names
  pub all_rows : (Is : ℕ → List ℕ → Row → Type 0) (p : Kept → Bool) (q : List ℕ → Bool) → ((n : ℕ) (name : List ℕ) (item : Kept) → Is n name (see item) → p item ≡ q name)
      → (place : ℕ) (names : Names) (items : List Kept) → AreRows Is place names (map see items) → list_all p items ≡ list_all q names
  all_rows Is p q each place [] [] are = refl
  all_rows Is p q each place [] (item ∷ items) are = absurd are
  all_rows Is p q each place (name ∷ names) [] are = absurd are
  all_rows Is p q each place (name ∷ names) (item ∷ items) are =
      let here = each place name item are.0 in
      let more = all_rows Is p q each (place + 1) names items are.1 in
      λ i. here i && more i

-- ---- what is told of them

module _ {Row : Type 0} where
  pub none_changed : (change : Row → Row) (place : ℕ) (rows : List Row) → length rows ≤ place → rows ≡ changed change place rows
  none_changed change place [] beyond = refl
  none_changed change zero (row ∷ rows) beyond = absurd (omega arith)
  none_changed change (suc place) (row ∷ rows) beyond = ap (λ (more : List Row). row ∷ more) (none_changed change place rows (omega arith))

  module _ (Is As : ℕ → List ℕ → Row → Type 0) where
    -- something else is told of each name among these
    pub rows_as : (place : ℕ) (names : Names) (rows : List Row)
        → ((n : ℕ) (name : List ℕ) (row : Row) → is_among names name ≡ true → Is n name row → As n name row) → AreRows Is place names rows → AreRows As place names rows
    rows_as place [] [] each are = tt
    rows_as place [] (row ∷ rows) each are = absurd are
    rows_as place (name ∷ names) [] each are = absurd are
    rows_as place (name ∷ names) (row ∷ rows) each are = (
      each place name row (or_left _ _ (is_itself name)) are.0,
      rows_as (place + 1) names rows (λ n other row among. each n other row (or_right (bytes_eq other name) _ among)) are.1,
    )

    -- one more name
    pub rows_push : (place : ℕ) (names : Names) (rows : List Row) (last : List ℕ) (row : Row)
        → ((n : ℕ) (name : List ℕ) (row : Row) → is_among names name ≡ true → Is n name row → As n name row) → AreRows Is place names rows → As (place + length rows) last row
        → AreRows As place (names ++ last ∷ []) (rows ++ row ∷ [])
    rows_push place [] [] last row each are new = (subst (λ n. As n last row) (let e : place + 0 ≡ place = omega arith in e) new, tt)
    rows_push place [] (r ∷ rows) last row each are new = absurd are
    rows_push place (name ∷ names) [] last row each are new = absurd are
    rows_push place (name ∷ names) (r ∷ rows) last row each are new = (
      each place name r (or_left _ _ (is_itself name)) are.0,
      rows_push (place + 1) names rows last row (λ n other row among. each n other row (or_right (bytes_eq other name) _ among)) are.1
          (subst (λ n. As n last row) (let e : place + length (r ∷ rows) ≡ place + 1 + length rows = omega arith in e) new),
    )

    -- the row of a name is changed
    pub change_rows : (change : Row → Row) (left : List ℕ) → ((n : ℕ) (name : List ℕ) (row : Row) → bytes_eq name left ≡ false → Is n name row → As n name row)
        → ((n : ℕ) (row : Row) → Is n left row → As n left (change row)) → (place : ℕ) (names : Names) (rows : List Row) (k : ℕ) → AreDistinct names
        → AreRows Is place names rows → k < length names → get_or names k [] ≡ left → AreRows As place names (changed change k rows)
    change_rows change left others here place [] rows k distinct are within is = absurd (omega arith)
    change_rows change left others here place (name ∷ names) [] k distinct are within is = absurd are
    change_rows change left others here place (name ∷ names) (row ∷ rows) zero distinct are within is = (
      subst (λ (n : List ℕ). As place n (change row)) (sym is) (here place row (subst (λ (n : List ℕ). Is place n row) is are.0)),
      rows_as (place + 1) names rows (λ n other row among.
          others n other row (differs other left (λ same.
          both_ways (is_among names name) distinct.0 (subst (λ (m : List ℕ). is_among names m ≡ true) (same ∙ sym is) among)))) are.1,
    )
    change_rows change left others here place (name ∷ names) (row ∷ rows) (suc k) distinct are within is = (
      others place name row (differs name left (λ same.
          both_ways (is_among names name) distinct.0 (subst (λ (n : List ℕ). is_among names n ≡ true) (is ∙ sym same) (among_at names k (omega arith))))) are.0,
      change_rows change left others here (place + 1) names rows k distinct.1 are.1 (omega arith) is,
    )
