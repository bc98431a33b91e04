-- Two operands in a round, in the form in which visits pass them on.
--     plain operand             the operand with the place 0 or 1, and 0 for a leaf, which is the same in both arenas
--     operand_at kind number    the operand of a kind that has a number
--     pair_operands pair        the two operands as a list
use Rattle.std.specs.Prelude.{ℕ, ◌==◌, if◌then◌else◌, List, [], ◌∷◌}
use Rattle.dcv_arena.specs.declared.nodes.Ref.{Ref}
use Rattle.dcv_arena.specs.declared.nodes.Ref.TheVariants.{Leaf, Place}
use Rattle.dcv_apply.specs.declared.keys.Pair.{Pair}
use Rattle.dcv_apply.specs.declared.operands.Kind.{Kind}
use Rattle.dcv_apply.specs.declared.operands.Kind.TheVariants as kind

abbrev pub plain_at : ℕ → Ref → ℕ × Ref
plain_at place (Leaf number) = (0, Leaf number)
plain_at place (Place number) = (if place == 0 then 0 else 1, Place number)

abbrev pub plain : ℕ × Ref → ℕ × Ref
plain operand = plain_at operand.0 operand.1

abbrev pub operand_at : Kind → ℕ → ℕ × Ref
operand_at kind.Leaf number = (0, Leaf number)
operand_at kind.First number = (0, Place number)
operand_at kind.Second number = (1, Place number)

abbrev pub pair_operands : Pair → List (ℕ × Ref)
pair_operands pair = operand_at pair.one_kind pair.one ∷ operand_at pair.other_kind pair.other ∷ []

abbrev pub code_of : Kind → ℕ
code_of kind.Leaf = 0
code_of kind.First = 1
code_of kind.Second = 2
