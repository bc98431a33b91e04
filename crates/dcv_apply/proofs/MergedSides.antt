-- What is merged of the operands with a slot fixed is what is merged of them at the letters with that value in the slot.
use Rattle.std.proofs.Common.{◌≡◌, ℕ, ◌<◌, Bool, true, false, List, [], ◌∷◌, ◌++◌, length, set, ap, ◌∙◌, arith}
use Rattle.std.proofs.lemmas.List.{length-append, set-append_left}
use Rattle.dcv_arena.specs.Arena.{ArenaValue}
use Rattle.dcv_arena.specs.Pointwise.{FixesSlot}
use Rattle.dcv_arena.specs.declared.nodes.Ref.{Ref}
use Rattle.dcv_apply.specs.Operands.{numbers_at, merged_at}
use Rattle.dcv_apply.specs.Sources.{numbers_in, merged_by}
use Rattle.dcv_apply.specs.declared.merging.Operation.{Operation}
use Rattle.dcv_apply.specs.declared.operands.LastSlot.{LastSlot}
use Rattle.dcv_apply.specs.declared.operands.LastSlot.TheVariants.{Kept, Merged}

-- operands with the slot fixed are merged so
merged_with : (last_slot : LastSlot) (first second : ArenaValue) (operands parts : List (ℕ × Ref)) (slot : ℕ) (value : Bool)
    → ((letter : List Bool) → slot < length letter → numbers_at first second parts letter ≡ numbers_at first second operands (set letter slot value))
    → (letter : List Bool) → slot < length letter → merged_at last_slot first second parts letter ≡ merged_at last_slot first second operands (set letter slot value)
merged_with Kept first second operands parts slot value numbers letter inside = numbers letter inside
merged_with Merged first second operands parts slot value numbers letter inside =
    let at : (last : Bool) → numbers_at first second parts (letter ++ last ∷ []) ≡ numbers_at first second operands (set letter slot value ++ last ∷ []) = λ last.
    numbers (letter ++ last ∷ []) (omega (arith, length-append letter (last ∷ []))) ∙ ap (numbers_at first second operands) (set-append_left letter (last ∷ []) slot value inside) in
    λ i. at false i ++ at true i

pub merged_side : (operation : Operation) (operands given parts : List (ℕ × Ref)) (slot : ℕ) (value : Bool) → given ≡ operands
    → ((letter : List Bool) → slot < length letter → numbers_in operation.sources parts letter ≡ numbers_in operation.sources given (set letter slot value))
    → FixesSlot (merged_by operation operands) (merged_by operation parts) slot value
merged_side operation operands given parts slot value same numbers = record {
  at = merged_with operation.last_slot operation.sources.first.now operation.sources.second.now operands parts slot value
      (λ letter inside. numbers letter inside ∙ ap (λ list. numbers_in operation.sources list (set letter slot value)) same);
}
