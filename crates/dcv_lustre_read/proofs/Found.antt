-- The row of a name is found by its place among the declared names.
use Rattle.std.proofs.Common.{◌≡◌, ℕ, zero, suc, ◌+◌, ◌-◌, ◌<◌, true, false, ◌++◌, List}
use Rattle.std.proofs.Common.{[], length, map, get_or, Some, None, refl, sym, ap, subst, ◌∙◌, arith}
use Rattle.std.specs.Prelude.{bytes_eq, slice_get}
use Rattle.std.specs.List.{position}
use Rattle.std.proofs.lemmas.List.Quantifiers.{position-Some}
use Rattle.std.proofs.lemmas.Bool.{or_parts}
use Rattle.dcv_observer.specs.Conditions.{Names}
use Rattle.dcv_observer.specs.Naming.{is_among}
use Rattle.dcv_observer.proofs.Declaring.{not_there}
use Rattle.dcv_observer.proofs.Naming.{one_name}
use Rattle.dcv_observer.proofs.Rows.{among_at, row_at}
use Rattle.dcv_lustre.specs.Tree.{Node}
use Rattle.dcv_lustre.specs.Meaning.{names_of}
use Rattle.dcv_lustre.specs.Rules.{declared, kind_of}
use Rattle.dcv_lustre_read.specs.declared.scope.Declaration.{Declaration}
use Rattle.dcv_lustre_read.specs.Scope.{seen_row, IsRow, Knows, IsFound}

module _ (node : Node) (earlier names : Names) (items : List Declaration) (name : List ℕ) (knows : Knows node earlier names (map seen_row items)) where
  at_place : (k : ℕ) → position (bytes_eq name) (declared node) ≡ Some (suc k) → IsFound node earlier name (slice_get items k)
  at_place k is =
      let facts = position-Some (bytes_eq name) (declared node) (suc k) [] is in
      let within : k < length (names_of node) = omega (arith, facts.0) in
      let here = row_at seen_row (IsRow node earlier) (names_of node) items 0 k knows.are_rows within in
      let same : name ≡ get_or (names_of node) k [] = one_name name _ facts.1 in
      subst (IsFound node earlier name) (sym here.is)
      (record {
        within = omega (arith, here.row.is_at, within);
        is = ap (λ n. get_or (names_of node) n []) (here.row.is_at ∙ (let e : 0 + k ≡ k = omega arith in e)) ∙ sym same;
        among = subst (λ (n : List ℕ). is_among (names_of node) n ≡ true) (sym same) (among_at (names_of node) k within);
        kind = subst (λ (n : List ℕ). (seen_row here.kept).kind ≡ kind_of node n) (sym same) here.row.kind;
        is_known = subst (λ (n : List ℕ). (seen_row here.kept).is_known ≡ is_among (node.inputs ++ earlier) n) (sym same) here.row.is_known;
      })

  pub found_behind : (place : ℕ) → (place ≡ 0 → ⊥) → position (bytes_eq name) names ≡ Some place → IsFound node earlier name (slice_get items (place - 1))
  found_behind zero some is = absurd (some refl)
  found_behind (suc k) some is =
      subst (λ n. IsFound node earlier name (slice_get items n)) (let e : k ≡ suc k - 1 = omega arith in e)
      (at_place k (ap (position (bytes_eq name)) (sym knows.all) ∙ is))

  pub found_nowhere : position (bytes_eq name) names ≡ None → is_among (names_of node) name ≡ false
  found_nowhere none =
      (or_parts (bytes_eq name node.name) _ (not_there (bytes_eq name) (declared node) (ap (position (bytes_eq name)) (sym knows.all) ∙ none))).1
