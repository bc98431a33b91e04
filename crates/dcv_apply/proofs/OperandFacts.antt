-- Of operands that depend on no slot before some slot: their numbers at letters that agree from there on, and their cofactors.
use Rattle.std.proofs.Common.{◌≡◌, ◌≢◌, ℕ, ◌+◌, ◌<◌, ◌≤◌, Bool, true, false, cond, List, length, set, get_or, take, refl, sym, subst, ◌∙◌, arith}
use Rattle.std.proofs.lemmas.List.{get_or-set_same, get_or-set_other, get_or_past}
use Rattle.std.proofs.lemmas.List.Elements.{All-more, All-weaker}
use Rattle.std.specs.List.{All}
use Rattle.dcv_word.specs.Letter.{letter_of}
use Rattle.dcv_arena.specs.Arena.{ArenaValue, IsArena, IsRef, level_of, value_of}
use Rattle.dcv_arena.specs.declared.nodes.Ref.{Ref}
use Rattle.dcv_arena.specs.declared.nodes.Ref.TheVariants.{Leaf, Place}
use Rattle.dcv_arena.proofs.Refs.{AgreeFrom, ignores_earlier, level_of-place, node_there}
use Rattle.dcv_arena.proofs.Blank.{no_values}
use Rattle.dcv_apply.specs.Operands.{arena_at, DependsFrom, IsOperandFrom, number_at}

-- ---- from which slot on a ref depends

depends_smaller : (arena : ArenaValue) (small large : ℕ) (root : Ref) → small ≤ large → DependsFrom arena large root → DependsFrom arena small root
depends_smaller arena small large (Leaf number) h from = tt
depends_smaller arena small large (Place place) h from = omega arith

from_smaller : (first second : ArenaValue) (small large : ℕ) (operand : ℕ × Ref) → small ≤ large
    → IsOperandFrom first second large operand → IsOperandFrom first second small operand
from_smaller first second small large operand h from = record {
  is_operand = from.is_operand;
  depends = depends_smaller (arena_at first second operand.0) small large operand.1 h from.depends;
}

-- one more operand, in a loop that takes the smaller slot
pub all_from_more : (first second : ArenaValue) (operands : List (ℕ × Ref)) (index : ℕ) (default : ℕ × Ref) (before here slot : ℕ) → index < length operands → slot ≤ before → slot ≤ here
    → All (IsOperandFrom first second before) (take index operands) → IsOperandFrom first second here (get_or operands index default)
    → All (IsOperandFrom first second slot) (take (index + 1) operands)
all_from_more first second operands index default before here slot within h k earlier one =
    All-more (IsOperandFrom first second slot) operands index default within
    (All-weaker (IsOperandFrom first second before) (IsOperandFrom first second slot) (λ operand. from_smaller first second slot before operand h) (take index operands) earlier)
    (from_smaller first second slot here (get_or operands index default) k one)

-- a node stands at a slot
level_of-lt : (arena : ArenaValue) → IsArena arena → (place : ℕ) → IsRef arena (Place place) → level_of arena (Place place) < arena.slots
level_of-lt arena is place one =
    let there = node_there arena is.reduced place one in
    omega (arith, level_of-place arena is.reduced place there.0 there.1, (is.reduced.nodes place there.0 there.1).slot)

-- so an earlier slot is one too
slot-lt : (arena : ArenaValue) (slot : ℕ) (root : Ref) (place : ℕ) → IsArena arena → IsRef arena root → DependsFrom arena slot root → root ≡ Place place → slot < arena.slots
slot-lt arena slot (Leaf number) place is one from same = cc
slot-lt arena slot (Place other) place is one from same = omega (arith, level_of-lt arena is other one)

depends_after : (arena : ArenaValue) (slot : ℕ) (root : Ref) → slot < level_of arena root → DependsFrom arena (slot + 1) root
depends_after arena slot (Leaf number) later = tt
depends_after arena slot (Place place) later = omega arith

-- ---- numbers at letters that agree from that slot on

pub ignores_before : (arena : ArenaValue) → IsArena arena → (slot : ℕ) (root : Ref) → IsRef arena root → DependsFrom arena slot root
    → (letter other : List Bool) → AgreeFrom slot letter other → value_of arena root letter ≡ value_of arena root other
ignores_before arena is slot (Leaf number) one from letter other same = refl
ignores_before arena is slot (Place place) one from letter other same = ignores_earlier arena is.reduced slot (Place place) one from letter other same

-- one of two refs has its numbers
at_side : (arena : ArenaValue) (lo hi : Ref) (value : Bool) (letter : List Bool) → value_of arena (cond value hi lo) letter ≡ cond value (value_of arena hi letter) (value_of arena lo letter)
at_side arena lo hi true letter = refl
at_side arena lo hi false letter = refl

-- ---- of an operand whose arena is known

module _ {first second arena : ArenaValue} {operand : ℕ × Ref} {slot : ℕ} (is : IsArena arena) (from : IsOperandFrom first second slot operand) (e : arena ≡ arena_at first second operand.0) where
  one : IsRef arena operand.1
  one = subst (λ arena. IsRef arena operand.1) (sym e) from.is_operand

  depends : DependsFrom arena slot operand.1
  depends = subst (λ arena. DependsFrom arena slot operand.1) (sym e) from.depends

  -- its number at a letter that has no other slots
  pub number_from : (letter : List Bool) → length letter ≤ slot → value_of arena operand.1 (letter_of arena.slots 0) ≡ number_at first second letter operand
  number_from letter size =
      ignores_before arena is slot operand.1 one depends (letter_of arena.slots 0) letter
      (λ later h. no_values arena.slots later ∙ sym (get_or_past letter later false (omega arith)))
      ∙ (λ i. value_of (e i) operand.1 letter)

  -- a part of the split of a node, at a later slot if the slot is one of the arena
  module _ {place : ℕ} (node : operand.1 ≡ Place place) (part : Ref) (part_is_ref : IsRef arena part) (at_later : slot < arena.slots → slot < level_of arena part) where
    later : slot < level_of arena part
    later = at_later (slot-lt arena slot operand.1 place is one depends node)

    pub part_from : IsOperandFrom first second (slot + 1) (operand.0, part)
    part_from = record {
      is_operand = subst (λ arena. IsRef arena part) e part_is_ref;
      depends = subst (λ arena. DependsFrom arena (slot + 1) part) e (depends_after arena slot part later);
    }

    pub part_number : (lo hi : Ref) (value : Bool) → cond value hi lo ≡ part
        → ((letter : List Bool) → value_of arena operand.1 letter ≡ cond (get_or letter slot false) (value_of arena hi letter) (value_of arena lo letter))
        → (letter : List Bool) → slot < length letter → number_at first second letter (operand.0, part) ≡ number_at first second (set letter slot value) operand
    part_number lo hi value is_part sides letter size =
        let fixed = set letter slot value in
        let same : AgreeFrom (slot + 1) letter fixed = λ after h. let other : after ≢ slot = λ e. omega arith in sym (get_or-set_other letter slot after value false other) in
        (λ i. value_of (sym e i) part letter)
        ∙ ignores_before arena is (slot + 1) part part_is_ref (depends_after arena slot part later) letter fixed same
        ∙ (λ i. value_of arena (sym is_part i) fixed)
        ∙ at_side arena lo hi value fixed
        ∙ (λ i. cond (sym (get_or-set_same letter slot value false size) i) (value_of arena hi fixed) (value_of arena lo fixed))
        ∙ sym (sides fixed)
        ∙ (λ i. value_of (e i) operand.1 fixed)
