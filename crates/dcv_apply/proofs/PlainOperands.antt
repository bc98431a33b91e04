-- Operands with plain places have the numbers that the operands have, and depend on the same slots.
use Rattle.std.proofs.Common.{◌≡◌, ℕ, ◌+◌, ◌<◌, ◌==◌, Bool, true, false, cond, List, [], ◌∷◌, ◌++◌, length, map, set, get_or, refl, sym, subst, ◌∙◌, arith}
use Rattle.std.specs.List.{All}
use Rattle.std.proofs.lemmas.List.Elements.{All-head, All-tail, All-cons, All-nil}
use Rattle.dcv_arena.specs.Arena.{ArenaValue, IsRef, value_of}
use Rattle.dcv_arena.specs.declared.nodes.Ref.{Ref}
use Rattle.dcv_arena.specs.declared.nodes.Ref.TheVariants.{Leaf, Place}
use Rattle.dcv_apply.specs.Operands.{arena_at, IsOperand, DependsFrom, IsOperandFrom, number_at, numbers_at, merged_at}
use Rattle.dcv_apply.specs.Pairs.{plain}
use Rattle.dcv_apply.specs.Sources.{IsIn, IsFrom, IsSide, number_in, merged_by}
use Rattle.dcv_apply.proofs.MergedSides.{merged_side}
use Rattle.dcv_apply.specs.declared.operands.LastSlot.{LastSlot}
use Rattle.dcv_apply.specs.declared.operands.LastSlot.TheVariants.{Kept, Merged}
use Rattle.dcv_apply.specs.declared.operands.Sources.{Sources}
use Rattle.dcv_apply.specs.declared.merging.Operation.{Operation}

module _ (first second : ArenaValue) where
  same_arena : (test : Bool) → arena_at first second (cond test 0 1) ≡ cond test first second
  same_arena true = refl
  same_arena false = refl

  same_number : (letter : List Bool) (place : ℕ) (root : Ref) → number_at first second letter (plain (place, root)) ≡ number_at first second letter (place, root)
  same_number letter place (Leaf number) = refl
  same_number letter place (Place number) = λ i. value_of (same_arena (place == 0) i) (Place number) letter

  same_numbers : (operands : List (ℕ × Ref)) (letter : List Bool) → numbers_at first second (map plain operands) letter ≡ numbers_at first second operands letter
  same_numbers [] letter = refl
  same_numbers (operand ∷ operands) letter = λ i. same_number letter operand.0 operand.1 i ∷ same_numbers operands letter i

  same_merged : (last_slot : LastSlot) (operands : List (ℕ × Ref)) (letter : List Bool) → merged_at last_slot first second (map plain operands) letter ≡ merged_at last_slot first second operands letter
  same_merged Kept operands letter = same_numbers operands letter
  same_merged Merged operands letter = λ i. same_numbers operands (letter ++ false ∷ []) i ++ same_numbers operands (letter ++ true ∷ []) i

  is_operand : (place : ℕ) (root : Ref) → IsOperand first second (place, root) → IsOperand first second (plain (place, root))
  is_operand place (Leaf number) is = tt
  is_operand place (Place number) is = subst (λ arena. IsRef arena (Place number)) (sym (same_arena (place == 0))) is

  pub from_plain : (slot place : ℕ) (root : Ref) → IsOperandFrom first second slot (place, root) → IsOperandFrom first second slot (plain (place, root))
  from_plain slot place (Leaf number) from = record { is_operand = tt; depends = tt }
  from_plain slot place (Place number) from = record {
    is_operand = subst (λ arena. IsRef arena (Place number)) (sym (same_arena (place == 0))) from.is_operand;
    depends = subst (λ arena. DependsFrom arena slot (Place number)) (sym (same_arena (place == 0))) from.depends;
  }

  pub number_plain : (letter : List Bool) (operand : ℕ × Ref) → number_at first second letter (plain operand) ≡ number_at first second letter operand
  number_plain letter operand = same_number letter operand.0 operand.1

  all_plain : (operands : List (ℕ × Ref)) → All (IsOperand first second) operands → All (IsOperand first second) (map plain operands)
  all_plain [] all = all
  all_plain (operand ∷ operands) all =
      let one = is_operand operand.0 operand.1 (All-head (IsOperand first second) operand operands all) in
      All-cons (IsOperand first second) (plain operand) (map plain operands) one (all_plain operands (All-tail (IsOperand first second) operand operands all))

  depends_at_start : (arena : ArenaValue) (root : Ref) → DependsFrom arena 0 root
  depends_at_start arena (Leaf number) = tt
  depends_at_start arena (Place place) = omega arith

  pub from_start : (operands : List (ℕ × Ref)) → All (IsOperand first second) operands → All (IsOperandFrom first second 0) operands
  from_start operands all k d inside = record {
    is_operand = all k d inside;
    depends = depends_at_start (arena_at first second (get_or operands k d).0) (get_or operands k d).1;
  }

-- the same for what an operation is given
pub plain_in : (sources : Sources) (operands : List (ℕ × Ref)) → All (IsIn sources) operands → All (IsIn sources) (map plain operands)
plain_in sources = all_plain sources.first.now sources.second.now

pub plain_merged : (operation : Operation) (operands : List (ℕ × Ref)) → merged_by operation (map plain operands) ≡ merged_by operation operands
plain_merged operation operands = λ i letter. same_merged operation.sources.first.now operation.sources.second.now operation.last_slot operands letter i

-- the plain parts of two operands are a side of them
pub plain_side : (operation : Operation) (one other one_part other_part : ℕ × Ref) (slot : ℕ) (value : Bool) (round : ℕ) → round ≡ operation.round
    → IsFrom operation.sources (slot + 1) one_part → IsFrom operation.sources (slot + 1) other_part
    → ((letter : List Bool) → slot < length letter → number_in operation.sources letter one_part ≡ number_in operation.sources (set letter slot value) one)
    → ((letter : List Bool) → slot < length letter → number_in operation.sources letter other_part ≡ number_in operation.sources (set letter slot value) other)
    → IsSide operation (one ∷ other ∷ []) slot value round (plain one_part ∷ plain other_part ∷ [])
plain_side operation one other one_part other_part slot value round same one_from other_from one_number other_number =
    let first = operation.sources.first.now in
    let second = operation.sources.second.now in
    let From = IsFrom operation.sources (slot + 1) in
    record {
      round = same;
      from = All-cons From (plain one_part) (plain other_part ∷ []) (from_plain first second (slot + 1) one_part.0 one_part.1 one_from)
          (All-cons From (plain other_part) [] (from_plain first second (slot + 1) other_part.0 other_part.1 other_from) (All-nil From));
      fixed = merged_side operation (one ∷ other ∷ []) (one ∷ other ∷ []) (plain one_part ∷ plain other_part ∷ []) slot value refl
          (λ letter inside i. (number_plain first second letter one_part ∙ one_number letter inside) i ∷ (number_plain first second letter other_part ∙ other_number letter inside) i ∷ []);
    }
