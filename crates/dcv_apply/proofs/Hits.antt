-- What a hit tells: the ref that was remembered does not depend on the slots that its operands do not depend on.
use Rattle.std.proofs.Common.{◌≡◌, ◌≢◌, ℕ, ◌<◌, ◌≤◌, ◌==◌, Bool, true, false, cond, List, [], ◌∷◌, ◌++◌, length, set, inl, inr, refl, sym, ap, subst, ◌∙◌, arith}
use Rattle.std.specs.List.{All}
use Rattle.std.proofs.lemmas.Bool.{cases_order}
use Rattle.std.proofs.lemmas.List.{get_or-set_other, set-append_left, length-set}
use Rattle.std.proofs.lemmas.List.Elements.{All-head, All-tail}
use Rattle.dcv_arena.specs.Arena.{ArenaValue, IsArena, IsRef, level_of, value_of}
use Rattle.dcv_arena.specs.declared.nodes.Ref.{Ref}
use Rattle.dcv_arena.proofs.Refs.{own_slot_matters}
use Rattle.dcv_arena.specs.Pointwise.{MeansMerged}
use Rattle.dcv_apply.specs.Operands.{arena_at, IsOperandFrom, number_at, numbers_at, merged_at}
use Rattle.dcv_apply.specs.Sources.{HasArenas, IsFrom, merged_by}
use Rattle.dcv_apply.specs.declared.operands.LastSlot.{LastSlot}
use Rattle.dcv_apply.specs.declared.operands.LastSlot.TheVariants.{Kept, Merged}
use Rattle.dcv_apply.specs.declared.merging.Operation.{Operation}
use Rattle.dcv_apply.proofs.OperandFacts.{ignores_before}

module _ (first second : ArenaValue) (is_first : IsArena first) (is_second : IsArena second) (slot early : ℕ) (before : early < slot) (a b : Bool) where
  either : (test : Bool) → IsArena (cond test first second)
  either true = is_first
  either false = is_second

  number_same : (letter : List Bool) (operand : ℕ × Ref) → IsOperandFrom first second slot operand
      → number_at first second (set letter early a) operand ≡ number_at first second (set letter early b) operand
  number_same letter operand from =
      ignores_before (arena_at first second operand.0) (either (operand.0 == 0)) slot operand.1 from.is_operand from.depends (set letter early a) (set letter early b)
      (λ later h. let other : later ≢ early = λ e. omega arith in get_or-set_other letter early later a false other ∙ sym (get_or-set_other letter early later b false other))

  numbers_same : (operands : List (ℕ × Ref)) (letter : List Bool) → All (IsOperandFrom first second slot) operands
      → numbers_at first second operands (set letter early a) ≡ numbers_at first second operands (set letter early b)
  numbers_same [] letter from = refl
  numbers_same (operand ∷ operands) letter from =
      let one = number_same letter operand (All-head (IsOperandFrom first second slot) operand operands from) in
      let more = numbers_same operands letter (All-tail (IsOperandFrom first second slot) operand operands from) in
      λ i. one i ∷ more i

  merged_same : (last_slot : LastSlot) (operands : List (ℕ × Ref)) (letter : List Bool) → early < length letter → All (IsOperandFrom first second slot) operands
      → merged_at last_slot first second operands (set letter early a) ≡ merged_at last_slot first second operands (set letter early b)
  merged_same Kept operands letter inside from = numbers_same operands letter from
  merged_same Merged operands letter inside from =
      let at : (last : Bool) → numbers_at first second operands (set letter early a ++ last ∷ []) ≡ numbers_at first second operands (set letter early b ++ last ∷ []) = λ last.
      ap (numbers_at first second operands) (sym (set-append_left letter (last ∷ []) early a inside))
      ∙ numbers_same operands (letter ++ last ∷ []) from
      ∙ ap (numbers_at first second operands) (set-append_left letter (last ∷ []) early b inside) in
      λ i. at false i ++ at true i

-- a merge gives one number for operands that ignore the slots before this one, so the ref ignores them too
level_not_before : (operation : Operation) (operands : List (ℕ × Ref)) (gives : List ℕ → ℕ → Type 0) (arena : ArenaValue) (root : Ref) (slot : ℕ)
    → HasArenas operation.sources → All (IsFrom operation.sources slot) operands → slot ≤ arena.slots
    → ((numbers : List ℕ) (first second : ℕ) → gives numbers first → gives numbers second → first ≡ second)
    → IsArena arena → IsRef arena root → MeansMerged gives (merged_by operation operands) arena root
    → level_of arena root < slot → ⊥
level_not_before operation operands gives arena root slot has from within one is ref merged before =
    let first = operation.sources.first.now in
    let second = operation.sources.second.now in
    let level = level_of arena root in
    own_slot_matters arena is.reduced root ref (omega arith) (λ letter size.
    let inside : level < length letter = omega arith in
    let low = set letter level false in
    let high = set letter level true in
    let same = merged_same first second has.first has.second slot level before false true operation.last_slot operands letter inside from in
    one (merged_by operation operands high) (value_of arena root low) (value_of arena root high)
    (subst (λ numbers. gives numbers (value_of arena root low)) same (merged low (length-set letter level false ∙ size)))
    (merged high (length-set letter level true ∙ size)))

pub level_at_hit : (operation : Operation) (operands : List (ℕ × Ref)) (gives : List ℕ → ℕ → Type 0) (arena : ArenaValue) (root : Ref) (slot : ℕ)
    → HasArenas operation.sources → All (IsFrom operation.sources slot) operands → slot ≤ arena.slots
    → ((numbers : List ℕ) (first second : ℕ) → gives numbers first → gives numbers second → first ≡ second)
    → IsArena arena → IsRef arena root → MeansMerged gives (merged_by operation operands) arena root
    → slot ≤ level_of arena root
level_at_hit operation operands gives arena root slot has from within one is ref merged =
    elim (cases_order (level_of arena root) slot) [
      | inl equal ↦ omega arith
      | inr (inl before) ↦ absurd (level_not_before operation operands gives arena root slot has from within one is ref merged before)
      | inr (inr after) ↦ omega arith
    ]
