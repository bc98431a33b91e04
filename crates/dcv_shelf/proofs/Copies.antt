-- What was copied stays a copy where the arena grows, and a node of copies is a copy of the node.
use Rattle.std.proofs.Common.{◌≡◌, ℕ, zero, suc, ◌<◌, ◌≤◌, Bool, true, false, cond, List, [], ◌∷◌, ◌++◌, length, set, get_or, inl, inr, Result, Ok, Err, IfOk, refl, sym, subst, ◌∙◌, arith}
use Rattle.std.proofs.lemmas.Bool.{cases_order}
use Rattle.std.proofs.lemmas.List.{length_push}
use Rattle.dcv_arena.specs.Arena.{ArenaValue, IsReduced, IsRef, IsBefore, level_of, value_of, KeepsRefs}
use Rattle.dcv_arena.specs.declared.faults.ArenaFault.{ArenaFault}
use Rattle.dcv_arena.specs.declared.nodes.Ref.{Ref}
use Rattle.dcv_arena.specs.declared.nodes.Ref.TheVariants.{Leaf, Place}
use Rattle.dcv_arena.proofs.Refs.{is_ref, same_ref}
use Rattle.dcv_dfa.specs.NodeLines.{lo_of, hi_of}
use Rattle.dcv_dfa.proofs.Visits.{has_children}
use Rattle.dcv_shelf.specs.Copies.{IsCopy, copied_ref, HasCopies}

pub copy_kept : (from old new : ArenaValue) (there here : Ref) → KeepsRefs old new → IsCopy from old there here → IsCopy from new there here
copy_kept from old new there here kept is = record {
  is_ref = kept.refs here is.is_ref;
  level = omega (arith, is.level, kept.levels here is.is_ref);
  value = λ letter. kept.values here letter is.is_ref ∙ is.value letter;
}

pub copies_kept : (from old new : ArenaValue) (copies : List Ref) → KeepsRefs old new → HasCopies from old copies → HasCopies from new copies
copies_kept from old new copies kept has = record {
  slots = omega (arith, has.slots, kept.slots);
  each = λ place within. copy_kept from old new (Place place) (get_or copies place (Leaf 0)) kept (has.each place within);
}

-- of any ref that stands before those that have none
pub copy_of : (from arena : ArenaValue) (copies : List Ref) → HasCopies from arena copies → (old : Ref) → IsBefore (length copies) old → IsCopy from arena old (copied_ref copies old)
copy_of from arena copies has (Leaf number) before = record { is_ref = tt; level = has.slots; value = λ letter. refl }
copy_of from arena copies has (Place place) before = has.each place before

-- ---- one more

push_before : (copies : List Ref) (new d : Ref) (place : ℕ) → place < length copies → get_or (copies ++ new ∷ []) place d ≡ get_or copies place d
push_before [] new d place within = absurd (omega arith)
push_before (first ∷ copies) new d zero within = refl
push_before (first ∷ copies) new d (suc place) within = push_before copies new d place (omega arith)

push_last : (copies : List Ref) (new d : Ref) → get_or (copies ++ new ∷ []) (length copies) d ≡ new
push_last [] new d = refl
push_last (first ∷ copies) new d = push_last copies new d

pub one_more_copy : (from arena : ArenaValue) (copies : List Ref) (new : Ref) → HasCopies from arena copies → IsCopy from arena (Place (length copies)) new
    → HasCopies from arena (copies ++ new ∷ [])
one_more_copy from arena copies new has is = record {
  slots = has.slots;
  each = λ place within. elim (cases_order place (length copies)) [
    | inl same ↦
        subst (λ (at : ℕ). IsCopy from arena (Place at) (get_or (copies ++ new ∷ []) at (Leaf 0))) (sym same)
        (subst (IsCopy from arena (Place (length copies))) (sym (push_last copies new (Leaf 0))) is)
    | inr (inl before) ↦ subst (IsCopy from arena (Place place)) (sym (push_before copies new (Leaf 0) place before)) (has.each place before)
    | inr (inr behind) ↦ absurd (omega (arith, length_push copies new))
  ];
}

-- ---- a node

module _ (from : ArenaValue) (is : IsReduced from) (place : ℕ) (there : place < length from.nodes) where
  -- what has a child's function is the child
  child_stands_before : (child given : Ref) → IsBefore place child → IsRef from given → ((letter : List Bool) → length letter ≡ from.slots → value_of from child letter ≡ value_of from given letter)
      → IsBefore place given
  child_stands_before child given before one same = subst (IsBefore place) (same_ref from is child given (is_ref from is place child there before) one same) before

  -- what the split at the node's own slot gives are its children, so they stand before it
  pub lo_stands_before : (lo : Ref) → IsRef from lo
      → ((letter : List Bool) → length letter ≡ from.slots → value_of from lo letter ≡ value_of from (Place place) (set letter (level_of from (Place place)) false))
      → IsBefore place lo
  lo_stands_before lo one means =
      let facts = has_children from is place there in
      child_stands_before (lo_of from place) lo facts.lo_before one (λ letter size. facts.lo_value letter size ∙ sym (means letter size))

  pub hi_stands_before : (hi : Ref) → IsRef from hi
      → ((letter : List Bool) → length letter ≡ from.slots → value_of from hi letter ≡ value_of from (Place place) (set letter (level_of from (Place place)) true))
      → IsBefore place hi
  hi_stands_before hi one means =
      let facts = has_children from is place there in
      child_stands_before (hi_of from place) hi facts.hi_before one (λ letter size. facts.hi_value letter size ∙ sym (means letter size))

-- the node that is made of the children's copies, where there is memory for it
pub node_copied : (from old arena : ArenaValue) (place slot : ℕ) (lo hi new_lo new_hi : Ref) (result : Result Ref ArenaFault) → slot ≡ level_of from (Place place)
    → ((letter : List Bool) → value_of from (Place place) letter ≡ cond (get_or letter slot false) (value_of from hi letter) (value_of from lo letter))
    → IsCopy from old lo new_lo → IsCopy from old hi new_hi
    → IfOk result (IsRef arena) → IfOk result (λ new. slot ≤ level_of arena new)
    → IfOk result (λ new. (letter : List Bool) → value_of arena new letter ≡ cond (get_or letter slot false) (value_of old new_hi letter) (value_of old new_lo letter))
    → IfOk result (IsCopy from arena (Place place))
node_copied from old arena place slot lo hi new_lo new_hi (Ok new) at goes lo_is hi_is one level means = record {
  is_ref = one;
  level = omega (arith, level, at);
  value = λ letter.
      means letter
      ∙ (λ i. cond (get_or letter slot false) (hi_is.value letter i) (lo_is.value letter i))
      ∙ sym (goes letter);
}
node_copied from old arena place slot lo hi new_lo new_hi (Err fault) at goes lo_is hi_is one level means = tt

pub before_count : {count place : ℕ} (ref : Ref) → count ≡ place → IsBefore place ref → IsBefore count ref
before_count ref same before = subst (λ n. IsBefore n ref) (sym same) before
