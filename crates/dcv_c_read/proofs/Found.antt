-- The row of a name is found by its place among the names.
use Rattle.std.proofs.Common.{◌≡◌, ℕ, ◌+◌, ◌<◌, true, false, List}
use Rattle.std.proofs.Common.{[], length, map, get_or, Some, None, sym, ap, subst, ◌∙◌, arith}
use Rattle.std.specs.Prelude.{bytes_eq, slice_get}
use Rattle.std.specs.List.{position}
use Rattle.std.proofs.lemmas.List.Quantifiers.{position-Some}
use Rattle.dcv_observer.specs.Conditions.{Names}
use Rattle.dcv_observer.specs.Naming.{is_among}
use Rattle.dcv_observer.proofs.Declaring.{not_there}
use Rattle.dcv_observer.proofs.Naming.{one_name}
use Rattle.dcv_observer.proofs.Rows.{among_at, row_at}
use Rattle.dcv_c_read.specs.declared.scope.Declaration.{Declaration}
use Rattle.dcv_c_read.specs.Scope.{Frame, seen_row, IsRow, KnowsNames, IsNamed, IsFound}

-- a name that is there
pub named_among : (placed : Names) (name : List ℕ) (place : ℕ) → IsNamed placed name place → is_among placed name ≡ true
named_among placed name place named = subst (λ (n : List ℕ). is_among placed n ≡ true) named.is (among_at placed place named.within)

module _ (frame : Frame) (functions declared : Names) (items : List Declaration) (name : List ℕ) (knows : KnowsNames frame functions declared (map seen_row items)) where
  at_place : (k : ℕ) → position (bytes_eq name) frame.placed ≡ Some k → IsFound frame name (slice_get items k)
  at_place k is =
      let facts = position-Some (bytes_eq name) frame.placed k [] is in
      let within : k < length frame.placed = facts.0 in
      let here = row_at seen_row (IsRow frame.lefts frame.known) frame.placed items 0 k knows.are_rows within in
      let same : name ≡ get_or frame.placed k [] = one_name name _ facts.1 in
      let at : (seen_row here.kept).place ≡ k = here.row.is_at ∙ (let e : 0 + k ≡ k = omega arith in e) in
      subst (IsFound frame name) (sym here.is)
      (record {
        named = record { within = omega (arith, at, within); is = ap (λ n. get_or frame.placed n []) at ∙ sym same };
        is_left = subst (λ (n : List ℕ). (seen_row here.kept).is_left ≡ is_among frame.lefts n) (sym same) here.row.is_left;
        is_known = subst (λ (n : List ℕ). (seen_row here.kept).is_known ≡ is_among frame.known n) (sym same) here.row.is_known;
      })

  pub found_there : (k : ℕ) → position (bytes_eq name) declared ≡ Some k → IsFound frame name (slice_get items k)
  found_there k is = at_place k (subst (λ (names : Names). position (bytes_eq name) names ≡ Some k) knows.declared_are is)

  pub found_nowhere : position (bytes_eq name) declared ≡ None → is_among frame.placed name ≡ false
  found_nowhere none = not_there (bytes_eq name) frame.placed (subst (λ (names : Names). position (bytes_eq name) names ≡ None) knows.declared_are none)
