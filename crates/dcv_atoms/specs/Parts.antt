-- The parts of a proposition, and how many nodes their diagrams have. A part is each node of the proposition's tree, and is seen as
-- a function from letters to numbers: 1 where it holds, and 0 where it does not.
--     number_of_truth holds          1 or 0
--     number_at p letter             1 where the proposition holds in the letter
--     parts p, all_parts operands    a proposition's parts, each after those of its operands
--     parts_by, proposition_parts    the parts of a form's proposition, and none where it has no proposition
--     slot_parts basic               the slot of a shift, and none of another form
--     basic_parts basic              all of these
--     part_nodes slots parts         how many nodes their diagrams have together, each counted once
--     atom_nodes slots basic         how many those of the parts of a form's proposition have
use Rattle.std.specs.Prelude.{ℕ, Bool, List, [], ◌∷◌, ◌++◌, Option, None, Some, map, if◌then◌else◌}
use Rattle.dcv_arena.specs.Diagram.{as_table, node_count}
use Rattle.dcv_core.specs.Core.{PlainTruth, TruthConstant, TruthSlot, TruthNot, TruthJoined, TruthShift, PlainTruths, no_truths, truth_operand, PlainBasic, BasicTrack, truth_in}
use Rattle.dcv_core.specs.Holds.{truth_holds}

abbrev pub number_of_truth : Bool → ℕ
number_of_truth holds = if holds then 1 else 0

abbrev pub number_at : PlainTruth → List Bool → ℕ
number_at p letter = number_of_truth (truth_holds p letter)

abbrev mutual
  pub parts : PlainTruth → List PlainTruth
  parts (TruthConstant truth) = TruthConstant truth ∷ []
  parts (TruthSlot slot) = TruthSlot slot ∷ []
  parts (TruthNot p) = parts p ++ TruthNot p ∷ []
  parts (TruthJoined connective operands) = all_parts operands ++ TruthJoined connective operands ∷ []
  -- of no core
  parts (TruthShift direction p span) = []

  pub all_parts : PlainTruths → List PlainTruth
  all_parts no_truths = []
  all_parts (truth_operand p operands) = parts p ++ all_parts operands

abbrev pub parts_by : Option PlainTruth → List PlainTruth
parts_by None = []
parts_by (Some p) = parts p

abbrev pub proposition_parts : PlainBasic → List PlainTruth
proposition_parts basic = parts_by (truth_in basic)

abbrev pub slot_parts : PlainBasic → List PlainTruth
slot_parts (BasicTrack direction p slot) = TruthSlot slot ∷ []
slot_parts basic = []

abbrev pub basic_parts : PlainBasic → List PlainTruth
basic_parts basic = proposition_parts basic ++ slot_parts basic

abbrev pub part_nodes : ℕ → List PlainTruth → ℕ
part_nodes slots listed = node_count slots (map (λ p. as_table slots (number_at p)) listed)

abbrev pub atom_nodes : ℕ → PlainBasic → ℕ
atom_nodes slots basic = part_nodes slots (basic_parts basic)
