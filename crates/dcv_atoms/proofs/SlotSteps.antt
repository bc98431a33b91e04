-- The diagram of one slot: a node over the two leaves, or false where letters do not have the slot.
use Rattle.std.proofs.Common.{◌≡◌, ◌<◌, ◌≤◌, ℕ, Bool, false, cond, List, [], ◌∷◌, length, get_or, ap, sym, ◌∙◌, arith}
use Rattle.std.proofs.Math.ListN.{get_or-eq_default}
use Rattle.dcv_arena.specs.Arena.{ArenaValue, IsArena, IsRef, IsNew, value_of, level_of, KeepsRefs, AddsOnlyNodesOf}
use Rattle.dcv_arena.specs.declared.nodes.Ref.{Ref}
use Rattle.dcv_arena.proofs.Together.{new_is_one_more}
use Rattle.dcv_core.specs.Core.{TruthSlot}
use Rattle.dcv_atoms.specs.Parts.{number_of_truth, number_at}
use Rattle.dcv_atoms.specs.Built.{Builds, Exceeds}
use Rattle.dcv_atoms.proofs.Building.{builds_one, builds_there, exceeds_one}

module _ (arena : ArenaValue) (slot : ℕ) (lo : Ref) (lo_ref : IsRef arena lo) (lo_value : (letter : List Bool) → value_of arena lo letter ≡ 0) where
  -- a slot that letters do not have
  pub none_builds : arena.slots ≤ slot → Builds arena arena (TruthSlot slot ∷ [])
  none_builds beyond = builds_there arena lo (TruthSlot slot) (record {
    is_ref = lo_ref;
    slots_are = λ i. arena.slots;
    value = λ letter size. lo_value letter ∙ sym (ap number_of_truth (get_or-eq_default letter false (omega (arith, size, beyond))));
  })

  module _ (hi : Ref) (hi_ref : IsRef arena hi) (hi_value : (letter : List Bool) → value_of arena hi letter ≡ 1) where
    -- what the children say at a letter is what the slot says
    by_children : (letter : List Bool) → cond (get_or letter slot false) (value_of arena hi letter) (value_of arena lo letter) ≡ number_at (TruthSlot slot) letter
    by_children letter = λ i. cond (get_or letter slot false) (hi_value letter i) (lo_value letter i)

    pub slot_builds : (new : ArenaValue) (node : Ref) → KeepsRefs arena new → AddsOnlyNodesOf arena new node → IsRef new node
        → ((letter : List Bool) → value_of new node letter ≡ cond (get_or letter slot false) (value_of arena hi letter) (value_of arena lo letter))
        → Builds arena new (TruthSlot slot ∷ [])
    slot_builds new node kept adds is_ref value = builds_one arena new node (TruthSlot slot) kept adds (record {
      is_ref = is_ref;
      slots_are = kept.slots;
      value = λ letter size. value letter ∙ by_children letter;
    })

    pub slot_exceeds : (limit : ℕ) → IsArena arena → slot < arena.slots → level_of arena lo ≡ arena.slots → level_of arena hi ≡ arena.slots
        → (limit ≡ arena.limit) × IsNew arena slot lo hi × (length arena.nodes ≡ arena.limit) → Exceeds arena (TruthSlot slot ∷ []) limit
    slot_exceeds limit is inner lo_level hi_level full =
        let more = new_is_one_more arena slot lo hi [] (number_at (TruthSlot slot)) is lo_ref hi_ref inner (omega (arith, inner, lo_level)) (omega (arith, inner, hi_level))
        full.1 (omega arith) (λ letter size. sym (by_children letter)) in
        exceeds_one arena (TruthSlot slot) limit is full.0 (omega (arith, more, full.0, full.2))
