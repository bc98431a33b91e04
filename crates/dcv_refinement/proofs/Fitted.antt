-- A letter of any length, cut or made longer to the arena's slots: a slot that a letter does not have is false, and no function asks for one that
-- its arena does not have.
use Rattle.std.proofs.Common.{◌≡◌, ℕ, zero, suc, ◌<◌, ◌≤◌, Bool, false, cond, List, [], ◌∷◌, ◌++◌, length, take, replicate, get_or, Contains, refl, sym, subst, ◌∙◌, arith}
use Rattle.std.proofs.lemmas.List.{get_or-take, length-take-le, length-append, length-replicate}
use Rattle.dcv_arena.specs.Arena.{ArenaValue, IsArena, IsReduced, IsRef, value_of}
use Rattle.dcv_arena.specs.declared.nodes.Ref.{Ref}
use Rattle.dcv_arena.specs.declared.nodes.Ref.TheVariants.{Leaf, Place}
use Rattle.dcv_arena.proofs.Refs.{rank, rank_before, is_ref, node_there, value_of-place}
use Rattle.dcv_refinement.specs.Leads.{IndexedRows, LeadsInto}

false_there : (count slot : ℕ) → get_or (replicate count false) slot false ≡ false
false_there zero slot = refl
false_there (suc count) zero = refl
false_there (suc count) (suc slot) = false_there count slot

longer : (letter : List Bool) (count slot : ℕ) → get_or (letter ++ replicate count false) slot false ≡ get_or letter slot false
longer [] count slot = false_there count slot
longer (value ∷ letter) count zero = refl
longer (value ∷ letter) count (suc slot) = longer letter count slot

-- two letters that are alike in the arena's slots
module _ (arena : ArenaValue) (is : IsReduced arena) (first second : List Bool) (same : (slot : ℕ) → slot < arena.slots → get_or first slot false ≡ get_or second slot false) where
  alike_by : (count : ℕ) (ref : Ref) → IsRef arena ref → rank ref ≤ count → value_of arena ref first ≡ value_of arena ref second
  alike_by count (Leaf number) one h = refl
  alike_by zero (Place place) one h = absurd (omega arith)
  alike_by (suc count) (Place place) one h =
      let there = node_there arena is place one in
      let node = there.0 in
      let facts = is.nodes place node there.1 in
      let lo = alike_by count node.lo (is_ref arena is place node.lo one facts.lo_before) (omega (arith, rank_before place node.lo facts.lo_before)) in
      let hi = alike_by count node.hi (is_ref arena is place node.hi one facts.hi_before) (omega (arith, rank_before place node.hi facts.hi_before)) in
      let side = same node.slot facts.slot in
      value_of-place arena is place node there.1 first ∙ (λ i. cond (side i) (hi i) (lo i)) ∙ sym (value_of-place arena is place node there.1 second)

-- what leads to the leaves at a letter of any length does so at one of the arena's slots
pub leads_at : (index : IndexedRows) (leaves : List ℕ) (ref : Ref) (letter : List Bool) → IsArena index.arena → IsRef index.arena ref → value_of index.arena ref letter < length index.rows
    → Contains leaves (value_of index.arena ref letter) → LeadsInto index leaves ref
leads_at index leaves ref letter is one below leaf =
    let slots = index.arena.slots in
    let long = letter ++ replicate slots false in
    let size : slots ≤ length long = omega (arith, length-append letter (replicate slots false), length-replicate slots false) in
    let fitted = take slots long in
    let alike : value_of index.arena ref letter ≡ value_of index.arena ref fitted =
    alike_by index.arena is.reduced letter fitted (λ slot within. sym (get_or-take slots long slot false within ∙ longer letter slots slot)) (rank ref) ref one (omega arith) in
    record {
      is_ref = one;
      letter = fitted;
      width = length-take-le slots long size;
      below = subst (λ number. number < length index.rows) alike below;
      leaf = subst (Contains leaves) alike leaf;
    }
