-- The core of a file: an equation for each form, below the form as it is written in a file.
--
-- A call stands for the macro's body, a parameter for the core of its argument, and each other name for a slot: declared
-- variables for the first, in order, and a quantified name for the one after those in use where it stands. The defaults
-- are those of satisfaction: a name without a meaning is false, and a list without operands is true, false or one instant.
--     Sight, Expansion     what is in sight, and what a macro stands for
--     truth_of             the core of a proposition
--     core_of              the core of a formula that stands in a place
--     expanded_file        a file's goal without its macros, in which shifts stand as they are
--     core_of_file         the core of a file's goal, in which each shift has a slot
use Rattle.std.specs.Prelude.{ℕ, ◌+◌, true, false, List, [], ◌∷◌, ◌++◌, Option, Some, None, map, length}
use Rattle.std.specs.List.{zip}
use Rattle.dcv_syntax.specs.declared.names.Name.{Name}
use Rattle.dcv_syntax.specs.declared.names.Span.{Span}
use Rattle.dcv_syntax.specs.Spans.{covering}
use Rattle.dcv_syntax.specs.declared.propositions.Connective.TheVariants.{Or}
use Rattle.dcv_syntax.specs.declared.formulas.Bracket.TheVariants.{Point, Run}
use Rattle.dcv_syntax.specs.declared.formulas.Unary.{Unary}
use Rattle.dcv_syntax.specs.declared.formulas.Unary.TheVariants.{Not, Star, Somewhere, Everywhere}
use Rattle.dcv_syntax.specs.declared.formulas.Quantifier.{Quantifier}
use Rattle.dcv_syntax.specs.declared.formulas.Quantifier.TheVariants.{Exists, ForAll}
use Rattle.dcv_syntax.specs.Plain.{PlainPropKind, PropConstant, PropCall, PropNot, PropJoined, PropImplies, PropShifted, PlainArguments, no_arguments, argument}
use Rattle.dcv_syntax.specs.Plain.{PlainPropOperands, no_prop_operands, prop_operand, PlainFormulaKind, FormulaConstant, FormulaPt, FormulaExt, FormulaBracketed}
use Rattle.dcv_syntax.specs.Plain.{FormulaSlen, FormulaCounted, FormulaCall, FormulaApplied, FormulaJoined, FormulaImplies, FormulaChop, FormulaQuantified}
use Rattle.dcv_syntax.specs.Plain.{PlainFormulaOperands, no_formula_operands, formula_operand, arguments_of, PlainMacroBody, FormulaBody, PropBody, PlainMacro, PlainFile}
use Rattle.dcv_logic.specs.Environment.{found}
use Rattle.dcv_logic.specs.Connectives.{of_none}
use Rattle.dcv_tracks.specs.Shifting.{shifted_core}
use Rattle.dcv_core.specs.Core.{PlainTruth, TruthConstant, TruthSlot, TruthNot, TruthJoined, TruthShift, PlainTruths, no_truths, truth_operand}
use Rattle.dcv_core.specs.Core.{PlainBasic, BasicConstant, BasicBracketed, BasicSlen, BasicCounted}
use Rattle.dcv_core.specs.Core.{CoreTree, CoreAtom, CoreNot, CoreJoined, CoreChop, CoreStar, CoreExists}

-- What a macro stands for is a function of its arguments, and knows nothing of its caller but the number of slots in use.
pub data Expansion : Type 0 where
  PropExpansion : (List PlainTruth → PlainTruth) → Expansion
  FormulaExpansion : (ℕ → List PlainTruth → CoreTree) → Expansion

-- what is in sight; each list has the newest first, so a name hides what stands after it under the same name
pub record Sight : Type 0 where
  -- how many slots are in use
  pub slots : ℕ
  -- variables, parameters and quantified names
  pub truths : List (List ℕ × PlainTruth)
  pub macros : List (List ℕ × Expansion)

-- the name stands for a further slot
abbrev pub bind_slot : Sight → List ℕ → Sight
bind_slot sight name = record sight { slots = sight.slots + 1; truths = (name, TruthSlot sight.slots) ∷ sight.truths }

-- each parameter stands for the argument at its place
abbrev pub bind_arguments : Sight → List (List ℕ) → List PlainTruth → Sight
bind_arguments sight parameters arguments = record sight { truths = zip parameters arguments ++ sight.truths }

-- ---- propositions

abbrev pub truth_of_macro : Option Expansion → List PlainTruth → PlainTruth
truth_of_macro None arguments = TruthConstant false
truth_of_macro (Some (PropExpansion m)) arguments = m arguments
truth_of_macro (Some (FormulaExpansion m)) arguments = TruthConstant false

abbrev pub truth_without : PlainTruth → List PlainTruth → PlainTruth
truth_without truth [] = truth
truth_without truth (other ∷ arguments) = TruthConstant false

-- a name with its arguments: a variable, parameter or quantified name in sight hides a macro
abbrev pub truth_of_call : Option PlainTruth → Option Expansion → List PlainTruth → PlainTruth
truth_of_call (Some truth) macro arguments = truth_without truth arguments
truth_of_call None macro arguments = truth_of_macro macro arguments

abbrev mutual
  pub truth_of : Sight → PlainPropKind → PlainTruth
  -- true, false
  truth_of sight (PropConstant truth) = TruthConstant truth
  -- p, m(P, Q, ..)
  truth_of sight (PropCall name arguments) =
      truth_of_call (found sight.truths name.text) (found sight.macros name.text) (argument_truths sight arguments)
  -- !P
  truth_of sight (PropNot p span) = TruthNot (truth_of sight p)
  -- P && Q && .., P || Q || .., P <=> Q <=> ..
  truth_of sight (PropJoined connective operands) = TruthJoined connective (operand_truths sight operands)
  -- P => Q, which is !P || Q
  truth_of sight (PropImplies p p_span q q_span) =
      TruthJoined Or (truth_operand (TruthNot (truth_of sight p)) (truth_operand (truth_of sight q) no_truths))
  -- -P, +P
  truth_of sight (PropShifted direction form p span) = TruthShift direction (truth_of sight p) form

  pub argument_truths : Sight → PlainArguments → List PlainTruth
  argument_truths sight no_arguments = []
  argument_truths sight (argument p span arguments) = truth_of sight p ∷ argument_truths sight arguments

  pub operand_truths : Sight → PlainPropOperands → PlainTruths
  operand_truths sight no_prop_operands = no_truths
  operand_truths sight (prop_operand p span outer operands) = truth_operand (truth_of sight p) (operand_truths sight operands)

-- ---- formulas

abbrev pub core_of_macro : Option Expansion → ℕ → List PlainTruth → Span → CoreTree
core_of_macro None slots arguments span = CoreAtom (BasicConstant false) span
core_of_macro (Some (PropExpansion m)) slots arguments span = CoreAtom (BasicConstant false) span
core_of_macro (Some (FormulaExpansion m)) slots arguments span = m slots arguments

-- true ^ D ^ true, in the place of the form that stands for it
abbrev pub somewhere_core : CoreTree → Span → CoreTree
somewhere_core d span =
    CoreChop (CoreChop (CoreAtom (BasicConstant true) span) d span) (CoreAtom (BasicConstant true) span) span

abbrev pub applied_core : Unary → CoreTree → Span → CoreTree
-- !D
applied_core Not d span = CoreNot d span
-- D*
applied_core Star d span = CoreStar d span
-- <>D
applied_core Somewhere d span = somewhere_core d span
-- []D, which is !<>!D
applied_core Everywhere d span = CoreNot (somewhere_core (CoreNot d span) span) span

abbrev pub quantified_core : Quantifier → CoreTree → Span → CoreTree
-- ex p. D
quantified_core Exists d span = CoreExists d span
-- all p. D, which is !(ex p. !D)
quantified_core ForAll d span = CoreNot (CoreExists (CoreNot d span) span) span

abbrev mutual
  -- the core of a form that stands in this place
  pub core_of : Sight → PlainFormulaKind → Span → CoreTree
  -- true, false
  core_of sight (FormulaConstant truth) span = CoreAtom (BasicConstant truth) span
  -- pt
  core_of sight FormulaPt span = CoreAtom (BasicBracketed Point (TruthConstant true)) span
  -- ext
  core_of sight FormulaExt span = CoreAtom (BasicBracketed Run (TruthConstant true)) span
  -- <P>, [P], [[P]], {{P}}
  core_of sight (FormulaBracketed bracket p) span = CoreAtom (BasicBracketed bracket (truth_of sight p.kind)) span
  -- slen R n
  core_of sight (FormulaSlen relation n) span = CoreAtom (BasicSlen relation n.value) span
  -- scount P R n, sdur P R n
  core_of sight (FormulaCounted counting p relation n) span = CoreAtom (BasicCounted counting (truth_of sight p.kind) relation n.value) span
  -- f(P, Q, ..)
  core_of sight (FormulaCall name arguments) span =
      core_of_macro (found sight.macros name.text) sight.slots (argument_truths sight (arguments_of arguments)) span
  -- !D, D*, <>D, []D
  core_of sight (FormulaApplied unary d d_span) span = applied_core unary (core_of sight d d_span) span
  -- D && E && .., D || E || .., D <=> E <=> ..
  core_of sight (FormulaJoined connective operands) span = list_core sight (CoreJoined connective) (BasicConstant (of_none connective)) operands span
  -- C => D, which is !C || D
  core_of sight (FormulaImplies c c_span d d_span) span = CoreJoined Or (CoreNot (core_of sight c c_span) span) (core_of sight d d_span) span
  -- D ^ E ^ ..
  core_of sight (FormulaChop operands) span = list_core sight CoreChop (BasicBracketed Point (TruthConstant true)) operands span
  -- ex p. D, all p. D
  core_of sight (FormulaQuantified quantifier name d d_span) span = quantified_core quantifier (core_of (bind_slot sight name.text) d d_span) span

  -- the operands of a list, joined from the left
  pub list_core : Sight → (CoreTree → CoreTree → Span → CoreTree) → PlainBasic → PlainFormulaOperands → Span → CoreTree
  list_core sight join unit no_formula_operands span = CoreAtom unit span
  list_core sight join unit (formula_operand d d_span outer operands) span =
      joined sight join outer operands (core_of sight d d_span)

  -- Each join reaches from the first operand to the one that it adds, the parentheses of both in it.
  pub joined : Sight → (CoreTree → CoreTree → Span → CoreTree) → Span → PlainFormulaOperands → CoreTree → CoreTree
  joined sight join first no_formula_operands so_far = so_far
  joined sight join first (formula_operand d d_span outer operands) so_far =
      joined sight join first operands (join so_far (core_of sight d d_span) (covering first outer))

-- ---- files

-- what a body stands for where it sees this and its parameters
abbrev pub body_expansion : Sight → List (List ℕ) → PlainMacroBody → Expansion
-- define f(a, b) as D;
body_expansion sight parameters (FormulaBody d) = FormulaExpansion
    (λ slots arguments. core_of (record (bind_arguments sight parameters arguments) { slots = slots }) d.kind d.span)
-- prop m(a, b) as P;
body_expansion sight parameters (PropBody p) = PropExpansion (λ arguments. truth_of (bind_arguments sight parameters arguments) p.kind)

-- A macro sees the declared variables, its own parameters and the macros before it.
abbrev pub expansion_of : Sight → PlainMacro → Expansion
expansion_of sight m = body_expansion sight (map (λ (p : Name). p.text) m.parameters) m.body

abbrev pub with_expansions : Sight → List PlainMacro → Sight
with_expansions sight [] = sight
with_expansions sight (m ∷ macros) =
    with_expansions (record sight { macros = (m.name.text, expansion_of sight m) ∷ sight.macros }) macros

-- the declared variables from a slot on
abbrev pub declared_slots : ℕ → List Name → List (List ℕ × PlainTruth)
declared_slots slot [] = []
declared_slots slot (name ∷ names) = (name.text, TruthSlot slot) ∷ declared_slots (slot + 1) names

-- what the goal sees
abbrev pub goal_sight : PlainFile → Sight
goal_sight file =
    with_expansions (record { slots = length file.variables; truths = declared_slots 0 file.variables; macros = [] }) file.macros

-- the goal
abbrev pub expanded_file : PlainFile → CoreTree
expanded_file file = core_of (goal_sight file) file.goal.formula.kind file.goal.formula.span

-- the core of the goal
abbrev pub core_of_file : PlainFile → CoreTree
core_of_file file = shifted_core (length file.variables) (expanded_file file)
