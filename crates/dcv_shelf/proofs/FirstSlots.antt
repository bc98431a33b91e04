-- Functions that depend on the first slots alone.
use Rattle.std.proofs.Common.{◌≡◌, ℕ, zero, suc, ◌<◌, ◌≤◌, Bool, false, cond, List, take, get_or, refl, sym, ◌∙◌, arith}
use Rattle.std.proofs.lemmas.List.{get_or-take, length-take-le}
use Rattle.dcv_arena.specs.Arena.{ArenaValue, IsReduced, IsArena, IsRef, level_of, value_of}
use Rattle.dcv_arena.specs.Diagram.{as_table}
use Rattle.dcv_arena.specs.declared.nodes.Ref.{Ref}
use Rattle.dcv_arena.specs.declared.nodes.Ref.TheVariants.{Leaf, Place}
use Rattle.dcv_arena.proofs.Refs.{rank, rank_before, is_ref, same_ref}
use Rattle.dcv_arena.proofs.Tables.{same_values}
use Rattle.dcv_dfa.specs.NodeLines.{lo_of, hi_of}
use Rattle.dcv_dfa.proofs.Visits.{has_children}
use Rattle.dcv_shelf.specs.Copies.{DependsOnFirst}

-- no function depends on slots that its arena does not have
module _ (arena : ArenaValue) (is : IsReduced arena) where
  ignores_by : (count : ℕ) (ref : Ref) → IsRef arena ref → rank ref ≤ count → DependsOnFirst arena arena.slots ref
  ignores_by count (Leaf number) one h first second same = refl
  ignores_by zero (Place place) one h first second same = absurd (omega arith)
  ignores_by (suc count) (Place place) one h first second same =
      let facts = has_children arena is place one in
      let lo = lo_of arena place in
      let hi = hi_of arena place in
      let low = ignores_by count lo (is_ref arena is place lo one facts.lo_before) (omega (arith, rank_before place lo facts.lo_before)) first second same in
      let high = ignores_by count hi (is_ref arena is place hi one facts.hi_before) (omega (arith, rank_before place hi facts.hi_before)) first second same in
      let side = same (level_of arena (Place place)) facts.slot in
      facts.value first ∙ (λ i. cond (side i) (high i) (low i)) ∙ sym (facts.value second)

  pub depends_on_slots : (ref : Ref) → IsRef arena ref → DependsOnFirst arena arena.slots ref
  depends_on_slots ref one = ignores_by (rank ref) ref one (omega arith)

-- ---- one ref

module _ (slots : ℕ) (letter : List Bool) where
  first_alike : (slot : ℕ) → slot < slots → get_or letter slot false ≡ get_or (take slots letter) slot false
  first_alike slot within = sym (get_or-take slots letter slot false within)

-- functions of the first slots that have one table over these are one ref
pub one_by_first : (arena : ArenaValue) (slots : ℕ) (first second : Ref) → IsArena arena → slots ≤ arena.slots → IsRef arena first → IsRef arena second
    → DependsOnFirst arena slots first → DependsOnFirst arena slots second → as_table slots (value_of arena first) ≡ as_table slots (value_of arena second) → first ≡ second
one_by_first arena slots first second is few one one' of_first of_second same =
    same_ref arena is.reduced first second one one' (λ letter size.
    let front = take slots letter in
    of_first letter front (first_alike slots letter)
    ∙ same_values slots (value_of arena first) (value_of arena second) same front (length-take-le slots letter (omega (arith, size, few)))
    ∙ sym (of_second letter front (first_alike slots letter)))
