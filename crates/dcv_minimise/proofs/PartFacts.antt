-- What inserting a part leaves where it is not there: the parts with it at their end.
use Rattle.std.proofs.Common.{◌≡◌, ◌≢◌, ℕ, ◌+◌, Bool, true, false, if◌then◌else◌, List, [], ◌∷◌, ◌++◌, length, Some, slice_get, nat_eq, inl, inr, refl, sym, ap, ◌∙◌}
use Rattle.std.proofs.lemmas.Bool.{false≢true}
use Rattle.std.specs.Bool.{Decides}
use Rattle.std.specs.Cmp.{unsigned_Decides}
use Rattle.std.specs.List.{list_any}
use Rattle.std.proofs.lemmas.Bool.Decides.{Decides-and}
use Rattle.std.proofs.lemmas.Map.Keys.{any_passes_from_place}
use Rattle.indexmap.specs.IndexSet.{insert_key}
use Rattle.dcv_arena.proofs.Same.{same_refs}
use Rattle.dcv_arena.specs.contracts.nodes.RefPartialEq.TheImpl.{eq-value as ref_eq}
use Rattle.dcv_minimise.specs.Division.{IsAdded}
use Rattle.dcv_minimise.specs.declared.refine.division.Part.{Part}
use Rattle.dcv_minimise.specs.contracts.refine.division.PartPartialEq.TheImpl.{eq-value as part_eq}
use Rattle.dcv_minimise.proofs.Places.{pushed_cases}

pub same_parts : (a b : Part) → Decides (part_eq.it a b) (a ≡ b)
same_parts a b =
    let both = Decides-and (nat_eq a.block b.block) (ref_eq.it a.key b.key) (unsigned_Decides a.block b.block) (same_refs a.key b.key) in (
      λ t. let parts = both.0 t in λ i. record { block = parts.0 i; key = parts.1 i },
      λ e. both.1 (ap (λ part. part.block) e, ap (λ part. part.key) e),
    )

absent_there : (parts : List Part) (part : Part) → list_any (part_eq.it part) parts ≡ false → (place : ℕ) → slice_get parts place ≢ Some part
absent_there parts part none place e = false≢true (sym none ∙ any_passes_from_place (part_eq.it part) parts place part e ((same_parts part part).1 refl))

module _ (count : ℕ) (old new : List Part) (was : List ℕ) (part : Part) (place : ℕ) (inserted : new ≡ insert_key part_eq.it old part)
    (stored : (one : Part) × (slice_get new place ≡ Some one) × (part_eq.it part one ≡ true)) where
  there : slice_get new place ≡ Some part
  there = stored.1 ∙ ap Some (sym ((same_parts part stored.0).0 stored.2))

  chosen : (found : Bool) → list_any (part_eq.it part) old ≡ found → new ≡ (if found then old else old ++ part ∷ [])
  chosen found e = inserted ∙ ap (λ found. if found then old else old ++ part ∷ []) e

  pub is_added : (state : ℕ) → list_any (part_eq.it part) old ≡ false → IsAdded count old new was (was ++ state ∷ []) part state (count + place)
  is_added state none =
      let more : new ≡ old ++ part ∷ [] = chosen false none in
      let absent = absent_there old part none in
      let last : place ≡ length old = elim (pushed_cases old part place part (ap (λ parts. slice_get parts place) (sym more) ∙ there)) [
        | inl before ↦ absurd (absent place before)
        | inr last ↦ last.0
      ] in
      record {
        absent = absent;
        number_is = ap (λ place. count + place) last;
        parts = more;
        witness = refl;
      }
