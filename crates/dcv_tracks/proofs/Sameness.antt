-- Propositions that are the same but for their places have the same values.
use Rattle.std.proofs.Common.{◌≡◌, ℕ, Bool, true, false, length, refl, sym, ap, ◌∙◌, arith, true≢false}
use Rattle.std.specs.Prelude.{◌&&◌, not, nat_eq}
use Rattle.std.specs.Bool.{beq}
use Rattle.std.proofs.lemmas.Bool.Decides.{nat_tests}
use Rattle.dcv_word.specs.Behaviour.{Word}
use Rattle.dcv_logic.specs.Track.{truth_at}
use Rattle.dcv_syntax.specs.declared.propositions.Direction.{Direction}
use Rattle.dcv_syntax.specs.declared.propositions.Direction.TheVariants.{Prior, Next}
use Rattle.dcv_core.specs.Core.{PlainTruth, TruthConstant, TruthSlot, TruthNot, TruthJoined, TruthShift, PlainTruths, no_truths, truth_operand}
use Rattle.dcv_core.specs.Holds.{letter_at, value_at, joined_values}
use Rattle.dcv_logic.specs.Value.{shifted}
use Rattle.dcv_logic.specs.Connectives.{joins, of_none}
use Rattle.dcv_syntax.specs.declared.propositions.Connective.{Connective}
use Rattle.dcv_syntax.specs.declared.propositions.Connective.TheVariants.{And, Or, Iff}
use Rattle.dcv_core.proofs.Chops.{and-parts}
use Rattle.dcv_tracks.specs.Shifting.{Shift, same_direction, same_connective, same_truth, same_truths, same_shift}

truth_same : (a b : Bool) → beq a b ≡ true → a ≡ b
truth_same true true is = refl
truth_same false false is = refl
truth_same true false is = sym is
truth_same false true is = is

slot_same : (a b : ℕ) → nat_eq a b ≡ true → a ≡ b
slot_same a b is = grind (arith, nat_tests)

connective_same : (connective other : Connective) → same_connective connective other ≡ true → connective ≡ other
connective_same And And is = refl
connective_same Or Or is = refl
connective_same Iff Iff is = refl
connective_same _ _ is = absurd (true≢false (sym is))

direction_same : (direction other : Direction) → same_direction direction other ≡ true → direction ≡ other
direction_same Prior Prior is = refl
direction_same Next Next is = refl
direction_same _ _ is = absurd (true≢false (sym is))

module _ (word : Word) where
  mutual
    pub same_value : (p q : PlainTruth) → same_truth p q ≡ true → (i : ℕ) → value_at p word i ≡ value_at q word i
    same_value (TruthConstant truth) (TruthConstant other) is i = truth_same truth other is
    same_value (TruthSlot slot) (TruthSlot other) is i = ap (truth_at (letter_at word i)) (slot_same slot other is)
    same_value (TruthNot p) (TruthNot q) is i = ap not (same_value p q is i)
    same_value (TruthJoined connective operands) (TruthJoined other others) is i =
        let parts = and-parts (same_connective connective other) (same_truths operands others) is in
        same_joined connective operands others parts.1 i (of_none connective)
        ∙ ap (λ c. joined_values c (of_none c) others word i) (connective_same connective other parts.0)
    same_value (TruthShift direction p span) (TruthShift other q other_span) is i =
        let parts = and-parts (same_direction direction other) (same_truth p q) is in
        λ j. shifted (direction_same direction other parts.0 j) (length word) (λ m. same_value p q parts.1 m j) i
    same_value _ _ is i = absurd (true≢false (sym is))

    same_joined : (connective : Connective) (ps qs : PlainTruths) → same_truths ps qs ≡ true → (i : ℕ) (so_far : Bool)
        → joined_values connective so_far ps word i ≡ joined_values connective so_far qs word i
    same_joined connective no_truths no_truths is i so_far = refl
    same_joined connective (truth_operand p ps) (truth_operand q qs) is i so_far =
        let parts = and-parts (same_truth p q) (same_truths ps qs) is in
        ap (λ b. joined_values connective (joins connective so_far b) ps word i) (same_value p q parts.0 i)
        ∙ same_joined connective ps qs parts.1 i (joins connective so_far (value_at q word i))
    same_joined connective _ _ is i so_far = absurd (true≢false (sym is))

-- ---- a proposition is the same as itself

truth_itself : (a : Bool) → beq a a ≡ true
truth_itself true = refl
truth_itself false = refl

slot_itself : (a : ℕ) → nat_eq a a ≡ true
slot_itself a = grind (arith, nat_tests)

both_are : (a b : Bool) → a ≡ true → b ≡ true → (a && b) ≡ true
both_are a b one other = λ i. one i && other i

connective_itself : (connective : Connective) → same_connective connective connective ≡ true
connective_itself And = refl
connective_itself Or = refl
connective_itself Iff = refl

direction_itself : (direction : Direction) → same_direction direction direction ≡ true
direction_itself Prior = refl
direction_itself Next = refl

mutual
  pub same_itself : (p : PlainTruth) → same_truth p p ≡ true
  same_itself (TruthConstant truth) = truth_itself truth
  same_itself (TruthSlot slot) = slot_itself slot
  same_itself (TruthNot p) = same_itself p
  same_itself (TruthJoined connective operands) = both_are (same_connective connective connective) (same_truths operands operands) (connective_itself connective) (same_themselves operands)
  same_itself (TruthShift direction p span) = both_are (same_direction direction direction) (same_truth p p) (direction_itself direction) (same_itself p)

  same_themselves : (ps : PlainTruths) → same_truths ps ps ≡ true
  same_themselves no_truths = refl
  same_themselves (truth_operand p ps) = both_are (same_truth p p) (same_truths ps ps) (same_itself p) (same_themselves ps)

pub shift_itself : (shift : Shift) → same_shift shift shift ≡ true
shift_itself shift = both_are (same_direction shift.direction shift.direction) (same_truth shift.operand shift.operand) (direction_itself shift.direction) (same_itself shift.operand)
