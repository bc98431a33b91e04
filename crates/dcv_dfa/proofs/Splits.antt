-- What an arena's `split` gives at a node's own slot: the node's children.
use Rattle.std.proofs.Common.{◌≡◌, ℕ, Bool, true, false, cond, nat_eq, List, [], ◌∷◌, ◌++◌, length, set, Contains, sym, ap, subst, ◌∙◌}
use Rattle.std.proofs.lemmas.Bool.{false≢true}
use Rattle.indexmap.specs.IndexSet.{insert_key}
use Rattle.dcv_arena.specs.Arena.{ArenaValue, IsReduced, IsRef, level_of, value_of}
use Rattle.dcv_arena.specs.declared.nodes.Ref.{Ref}
use Rattle.dcv_arena.specs.declared.nodes.Ref.TheVariants.{Place}
use Rattle.dcv_arena.proofs.Refs.{rank_before, is_ref, same_ref}
use Rattle.dcv_dfa.specs.NodeLines.{lo_of, hi_of, is_numbered, visit, child_of, line_of}
use Rattle.dcv_dfa.proofs.Visits.{has_children, visit-node}
use Rattle.dcv_dfa.proofs.Numberings.{there_numbered, absent_numbered, still_absent, visited}

-- what the call says of the two
pub record IsSplit (arena : ArenaValue) (root : Ref) (at : ℕ) (lo hi : Ref) : Type 0 where
  pub slot : at ≡ level_of arena root
  pub lo_is_ref : IsRef arena lo
  pub hi_is_ref : IsRef arena hi
  pub lo_value : (letter : List Bool) → length letter ≡ arena.slots → value_of arena lo letter ≡ value_of arena root (set letter at false)
  pub hi_value : (letter : List Bool) → length letter ≡ arena.slots → value_of arena hi letter ≡ value_of arena root (set letter at true)

module _ (arena : ArenaValue) (is : IsReduced arena) where
  pub split_is : (place slot : ℕ) (lo hi : Ref) → IsRef arena (Place place) → IsSplit arena (Place place) slot lo hi
      → (lo ≡ lo_of arena place) × (hi ≡ hi_of arena place)
  split_is place slot lo hi one split =
      let facts = has_children arena is place one in (
        same_ref arena is lo (lo_of arena place) split.lo_is_ref (is_ref arena is place (lo_of arena place) one facts.lo_before) (λ letter size.
            split.lo_value letter size ∙ ap (λ slot. value_of arena (Place place) (set letter slot false)) split.slot ∙ sym (facts.lo_value letter size)),
        same_ref arena is hi (hi_of arena place) split.hi_is_ref (is_ref arena is place (hi_of arena place) one facts.hi_before) (λ letter size.
            split.hi_value letter size ∙ ap (λ slot. value_of arena (Place place) (set letter slot true)) split.slot ∙ sym (facts.hi_value letter size)),
      )

  -- a node that has a number is visited at once
  pub visit-seen : (place : ℕ) (root : Ref) (places : List ℕ) → root ≡ Place place → IsRef arena root → is_numbered places place ≡ true → places ≡ visit arena places root
  visit-seen place root places at one seen =
      let within = subst (IsRef arena) at one in
      sym (ap (visit arena places) at
      ∙ visit-node arena is place within places
      ∙ ap (λ found. cond found places (visit arena (visit arena places (lo_of arena place)) (hi_of arena place) ++ place ∷ [])) seen)

  -- what the two visits and the insertion give
  pub visit-split : (place slot : ℕ) (root lo hi : Ref) (places : List ℕ) → root ≡ Place place → IsRef arena root → is_numbered places place ≡ false → IsSplit arena (Place place) slot lo hi
      → insert_key nat_eq (visit arena (visit arena places lo) hi) place ≡ visit arena places root
  visit-split place slot root lo hi places at one fresh split =
      let within = subst (IsRef arena) at one in
      let facts = has_children arena is place within in
      let parts = split_is place slot lo hi within split in
      let absent : Contains places place → ⊥ = λ there. false≢true (sym fresh ∙ there_numbered places place there) in
      let its_lo = lo_of arena place in
      let its_hi = hi_of arena place in
      let middle = visit arena places its_lo in
      let new = visit arena middle its_hi in
      let first = visited arena is its_lo (is_ref arena is place its_lo within facts.lo_before) places in
      let last = visited arena is its_hi (is_ref arena is place its_hi within facts.hi_before) middle in
      let still : is_numbered new place ≡ false = absent_numbered new place
      (still_absent last place (rank_before place its_hi facts.hi_before) (still_absent first place (rank_before place its_lo facts.lo_before) absent)) in
      (λ i. insert_key nat_eq (visit arena (visit arena places (parts.0 i)) (parts.1 i)) place)
      ∙ ap (λ found. cond found new (new ++ place ∷ [])) still
      ∙ sym (ap (visit arena places) at ∙ visit-node arena is place within places ∙ ap (λ found. cond found places (new ++ place ∷ [])) fresh)

  -- the line that a node's slot and children make
  pub line-split : (place slot : ℕ) (lo hi : Ref) (places : List ℕ) → IsRef arena (Place place) → IsSplit arena (Place place) slot lo hi
      → record { slot = slot; hi = child_of places hi; lo = child_of places lo } ≡ line_of arena places place
  line-split place slot lo hi places within split =
      let parts = split_is place slot lo hi within split in
      λ i. record { slot = split.slot i; hi = child_of places (parts.1 i); lo = child_of places (parts.0 i) }
