-- The machine of each operator, over canonical tables of its operands' words, accepts its step's words.
use Rattle.std.proofs.Common.{◌≡◌, ℕ, suc, ◌<◌, List, Some, slice_get, refl, sym, subst, ◌∙◌, arith}
use Rattle.dcv_language.specs.Automaton.{Automaton, accepts}
use Rattle.dcv_language.specs.Language.{Language, outside, HaveSameBehaviours}
use Rattle.dcv_language.specs.MachineLaws.{JoinsSets}
use Rattle.dcv_language.specs.Operations.{intersection, union, agreement, chop, star, projection}
use Rattle.dcv_language.specs.OperationMachines.{not_machine, pair_machine, and_machine, or_machine, iff_machine, chop_machine, star_machine, exists_machine}
use Rattle.dcv_language.proofs.OperationRuns.{not_accepts, and_accepts, or_accepts, iff_accepts, chop_accepts, star_accepts, exists_accepts}
use Rattle.dcv_language.proofs.OperationSets.{of_set}
use Rattle.dcv_language.proofs.Sameness.{outside_same, intersection_same, union_same, agreement_same, chop_same, star_same, projection_same}
use Rattle.dcv_syntax.specs.declared.propositions.Connective.{Connective}
use Rattle.dcv_syntax.specs.declared.propositions.Connective.TheVariants.{And, Or, Iff}
use Rattle.dcv_logic.specs.Connectives.{joins}
use Rattle.dcv_core.specs.Core.{CoreTree}
use Rattle.dcv_core.specs.Holds.{words_of}
use Rattle.dcv_core.specs.Laws.{StepsAreOperations}
use Rattle.dcv_core.specs.Steps.{PlainOp, OpAtom, OpNot, OpJoined, OpChop, OpStar, OpExists, PlainStep, steps_of}
use Rattle.dcv_core.specs.StepWords.{joined_words, TakesOne, TakesTwo, IsOperation}
use Rattle.dcv_language.specs.Table.{Table}
use Rattle.dcv_atoms.specs.Laws.{MachineAcceptsStep as MachineAcceptsAtomStep}
use Rattle.dcv_build.specs.Rows.{row_of, operand_at}
use Rattle.dcv_build.specs.Laws.{AreCanonicalBefore, MachineAcceptsStep}

-- ---- what the machines accept of operands that accept the behaviours of given sets

joined_sets : (connective : Connective) (slots : ℕ) → JoinsSets (pair_machine slots (joins connective)) (joined_words connective)
joined_sets And slots k first second L M one two =
    of_set (and_machine slots first second).automaton k (intersection (accepts first) (accepts second)) (intersection L M) (and_accepts slots first second)
    (intersection_same k (accepts first) L (accepts second) M one two)
joined_sets Or slots k first second L M one two =
    of_set (or_machine slots first second).automaton k (union (accepts first) (accepts second)) (union L M) (or_accepts slots first second)
    (union_same k (accepts first) L (accepts second) M one two)
joined_sets Iff slots k first second L M one two =
    of_set (iff_machine slots first second).automaton k (agreement (accepts first) (accepts second)) (agreement L M) (iff_accepts slots first second)
    (agreement_same k (accepts first) L (accepts second) M one two)

chop_sets : (slots : ℕ) → JoinsSets (chop_machine slots) chop
chop_sets slots k first second L M one two =
    of_set (chop_machine slots first second).automaton k (chop (accepts first) (accepts second)) (chop L M) (chop_accepts slots first second)
    (chop_same k (accepts first) L (accepts second) M one two)

not_set : (slots : ℕ) (operand : Automaton ℕ) (L : Language) → HaveSameBehaviours slots (accepts operand) L → HaveSameBehaviours slots (accepts (not_machine slots operand).automaton) (outside L)
not_set slots operand L same =
    of_set (not_machine slots operand).automaton slots (outside (accepts operand)) (outside L) (not_accepts slots operand) (outside_same slots (accepts operand) L same)

star_set : (slots : ℕ) (operand : Automaton ℕ) (L : Language) → HaveSameBehaviours slots (accepts operand) L → HaveSameBehaviours slots (accepts (star_machine slots operand).automaton) (star L)
star_set slots operand L same =
    of_set (star_machine slots operand).automaton slots (star (accepts operand)) (star L) (star_accepts slots operand) (star_same slots (accepts operand) L same)

exists_set : (slots : ℕ) (operand : Automaton ℕ) (L : Language) → HaveSameBehaviours (suc slots) (accepts operand) L
    → HaveSameBehaviours slots (accepts (exists_machine slots operand).automaton) (projection L)
exists_set slots operand L same =
    of_set (exists_machine slots operand).automaton slots (projection (accepts operand)) (projection L) (exists_accepts slots operand) (projection_same slots (accepts operand) L same)

-- ---- by the operator

module _ (k : ℕ) (core : CoreTree) (n : ℕ) (step : PlainStep) (tables : List Table) (before : AreCanonicalBefore (steps_of k core) n tables) where
  -- the table of an earlier step accepts that step's words
  operand_accepts : (number : ℕ) (earlier : PlainStep) → number < n → slice_get (steps_of k core) number ≡ Some earlier
      → HaveSameBehaviours earlier.slots (accepts (operand_at tables number)) (words_of earlier.core)
  operand_accepts number earlier below there = let (access, is) = before number earlier below there in is.exact

  one_accepts : (d slots : ℕ) (operation : Language → Language) (accepted : Language) → TakesOne (steps_of k core) n step d slots operation
      → ((L : Language) → HaveSameBehaviours slots (accepts (operand_at tables d)) L → HaveSameBehaviours step.slots accepted (operation L))
      → HaveSameBehaviours step.slots accepted (words_of step.core)
  one_accepts d slots operation accepted takes join =
      let own = operand_accepts d takes.step_before (omega (arith, takes.is_before)) takes.is_there in
      let same = join (words_of takes.step_before.core)
      (subst (λ width. HaveSameBehaviours width (accepts (operand_at tables d)) (words_of takes.step_before.core)) takes.width own) in
      λ word behaves. same word behaves ∙ sym (takes.words word behaves)

  two_accept : (c d : ℕ) (operation : Language → Language → Language) (accepted : Language) → TakesTwo (steps_of k core) n step c d operation
      → ((L M : Language) → HaveSameBehaviours step.slots (accepts (operand_at tables c)) L → HaveSameBehaviours step.slots (accepts (operand_at tables d)) M
      → HaveSameBehaviours step.slots accepted (operation L M))
      → HaveSameBehaviours step.slots accepted (words_of step.core)
  two_accept c d operation accepted takes join =
      let first = operand_accepts c takes.first_step (omega (arith, takes.first_is_before, takes.second_is_before)) takes.first_is_there in
      let second = operand_accepts d takes.second_step (omega (arith, takes.second_is_before)) takes.second_is_there in
      let same = join (words_of takes.first_step.core) (words_of takes.second_step.core)
      (subst (λ width. HaveSameBehaviours width (accepts (operand_at tables c)) (words_of takes.first_step.core)) takes.first_width first)
      (subst (λ width. HaveSameBehaviours width (accepts (operand_at tables d)) (words_of takes.second_step.core)) takes.second_width second) in
      λ word behaves. same word behaves ∙ sym (takes.words word behaves)

  by_operator : MachineAcceptsAtomStep → slice_get (steps_of k core) n ≡ Some step → (op : PlainOp) → step.op ≡ op → IsOperation (steps_of k core) n step op
      → HaveSameBehaviours step.slots (accepts (row_of op step.slots tables).machine.automaton) (words_of step.core)
  by_operator atoms there (OpAtom basic) is words = atoms k core n step basic there is
  by_operator atoms there (OpNot d) is takes = one_accepts d step.slots outside _ takes (not_set step.slots (operand_at tables d))
  by_operator atoms there (OpJoined connective c d) is takes =
      two_accept c d (joined_words connective) _ takes (joined_sets connective step.slots step.slots (operand_at tables c) (operand_at tables d))
  by_operator atoms there (OpChop c d) is takes = two_accept c d chop _ takes (chop_sets step.slots step.slots (operand_at tables c) (operand_at tables d))
  by_operator atoms there (OpStar d) is takes = one_accepts d step.slots star _ takes (star_set step.slots (operand_at tables d))
  by_operator atoms there (OpExists d) is takes = one_accepts d (suc step.slots) projection _ takes (exists_set step.slots (operand_at tables d))

pub machine_accepts_step : StepsAreOperations → MachineAcceptsAtomStep → MachineAcceptsStep
machine_accepts_step operations atoms k core n step tables there before =
    by_operator k core n step tables before atoms there step.op refl (operations k core n step there)
