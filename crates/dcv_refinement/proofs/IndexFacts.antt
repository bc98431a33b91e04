-- What stands above the leaves has all rows that lead to one of them, and all nodes.
use Rattle.std.proofs.Common.{◌≡◌, ℕ, zero, suc, ◌<◌, ◌≤◌, ◌+◌, Bool, false, if◌then◌else◌, List, length, slice_index_or, Result, Ok, Err, OnOk, Contains, inl, inr, ap, subst, ◌∙◌, arith}
use Rattle.std.proofs.lemmas.Bool.{cases_Bool}
use Rattle.dcv_arena.specs.Arena.{ArenaValue, IsRef, level_of, value_of}
use Rattle.dcv_arena.specs.declared.nodes.Ref.{Ref}
use Rattle.dcv_arena.specs.declared.nodes.Ref.TheVariants.{Leaf, Place}
use Rattle.dcv_refinement.specs.Lists.{listed_at}
use Rattle.dcv_refinement.specs.Leads.{row_at, index_of, LeadsInto, IsRowInto}
use Rattle.dcv_refinement.specs.Index.{IsWithin, IsIndex, IsFollowed, IsClosed}
use Rattle.dcv_refinement.specs.declared.lists.Lists.{Lists}

pub on_ok_two : {X E : Type 0} (result : Result X E) (P Q R : Type 0) → (P → Q → R) → OnOk result P → OnOk result Q → OnOk result R
on_ok_two (Ok x) P Q R join p q = join p q
on_ok_two (Err e) P Q R join p q = tt

-- one of the leaves, or a place that is marked
abbrev IsAmong : List ℕ → List ℕ → Ref → Type 0
IsAmong leaves marked (Leaf leaf) = Contains leaves leaf
IsAmong leaves marked (Place place) = Contains marked place

module _ (arena : ArenaValue) (refs : List Ref) (nodes rows : Lists) (index : IsIndex arena refs nodes rows) (leaves marked looked : List ℕ) (closed : IsClosed nodes rows leaves marked looked) where
  followed : (ref : Ref) → IsAmong leaves marked ref → IsFollowed nodes rows ref marked looked
  followed (Leaf leaf) c = closed.at_leaves leaf c
  followed (Place place) c = closed.places place c

  within_by_value : (ref : Ref) (letter : List Bool) → IsRef arena ref → value_of arena ref letter < length refs → IsWithin arena (length refs) ref
  within_by_value (Leaf leaf) letter is_ref inside = inside
  within_by_value (Place place) letter is_ref inside = is_ref

  node_met : (place : ℕ) (ref : Ref) → Contains (listed_at nodes ref) place → IsAmong leaves marked ref → Contains marked place
  node_met place ref at c = (followed ref c).each_node place at

  met_by : (k : ℕ) (ref : Ref) (letter : List Bool) → IsRef arena ref → arena.slots ≤ k + level_of arena ref → value_of arena ref letter < length refs
      → Contains leaves (value_of arena ref letter) → IsAmong leaves marked ref
  met_by k (Leaf leaf) letter is_ref enough inside c = c
  met_by zero (Place place) letter is_ref enough inside c = absurd (omega (arith, (index.of_nodes.above place is_ref).inner, enough))
  met_by (suc k) (Place place) letter is_ref enough inside c =
      let above = index.of_nodes.above place is_ref in
      elim (cases_Bool (slice_index_or letter above.slot false)) [
        | inl at_true ↦
            let same : value_of arena (Place place) letter ≡ value_of arena above.hi letter =
            above.value letter ∙ ap (λ side. if side then value_of arena above.hi letter else value_of arena above.lo letter) at_true in
            let there = subst (λ number. number < length refs) same inside in
            node_met place above.hi (above.at_hi (within_by_value above.hi letter above.hi_is_ref there))
            (met_by k above.hi letter above.hi_is_ref (omega (arith, enough, above.hi_level)) there (subst (Contains leaves) same c))
        | inr at_false ↦
            let same : value_of arena (Place place) letter ≡ value_of arena above.lo letter =
            above.value letter ∙ ap (λ side. if side then value_of arena above.hi letter else value_of arena above.lo letter) at_false in
            let there = subst (λ number. number < length refs) same inside in
            node_met place above.lo (above.at_lo (within_by_value above.lo letter above.lo_is_ref there))
            (met_by k above.lo letter above.lo_is_ref (omega (arith, enough, above.lo_level)) there (subst (Contains leaves) same c))
      ]

  among : (ref : Ref) → LeadsInto (index_of arena refs) leaves ref → IsAmong leaves marked ref
  among ref leads = met_by arena.slots ref leads.letter leads.is_ref (omega arith) leads.below leads.leaf

  -- a node that leads to one of the leaves is marked
  pub all_marked : (place : ℕ) → LeadsInto (index_of arena refs) leaves (Place place) → Contains marked place
  all_marked place leads = among (Place place) leads

  -- and a row is looked at
  pub all_looked : (row : ℕ) → IsRowInto (index_of arena refs) leaves row → Contains looked row
  all_looked row into =
      let ref = row_at refs row in
      let at = index.of_rows.above row into.below (within_by_value ref into.leads.letter into.leads.is_ref into.leads.below) in
      (followed ref (among ref into.leads)).each_row row at
