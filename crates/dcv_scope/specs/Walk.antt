-- For private functions and proofs: the exact linear measures of a text, which the walk over it computes as far as numbers go.
use Rattle.std.specs.Prelude.{◌≡◌, ℕ, ◌+◌, ◌*◌, max, List, [], ◌∷◌, ◌++◌, Option, Some, None, map, replicate, slice_set}
use denote.Bor.{Bor}
use Rattle.dcv_syntax.specs.declared.names.Name.{Name}
use Rattle.dcv_syntax.specs.Views.{plain_macro}
use Rattle.dcv_syntax.specs.Plain.{PlainPropKind, PropConstant, PropCall, PropNot, PropJoined, PropImplies, PropShifted, PlainArguments, no_arguments, argument}
use Rattle.dcv_syntax.specs.Plain.{PlainPropOperands, no_prop_operands, prop_operand, PlainFormulaKind, FormulaConstant, FormulaPt, FormulaExt, FormulaBracketed}
use Rattle.dcv_syntax.specs.Plain.{FormulaSlen, FormulaCounted, FormulaCall, FormulaApplied, FormulaJoined, FormulaImplies, FormulaChop, FormulaQuantified}
use Rattle.dcv_syntax.specs.Plain.{PlainFormulaOperands, no_formula_operands, formula_operand, arguments_of, PlainMacroBody, FormulaBody, PropBody, PlainMacro}
use Rattle.dcv_logic.specs.Environment.{found}
use Rattle.dcv_scope.specs.declared.measures.Measure.{Measure as Numbers}
use Rattle.dcv_scope.specs.declared.measures.Share.{Share}
use Rattle.dcv_scope.specs.declared.measures.MacroMeasure.{MacroMeasure}
use Rattle.dcv_scope.specs.declared.measures.Sight.{Sight}
use Rattle.dcv_scope.specs.Measures.{Measure, leaf, nothing, beside, unary_nodes, unary_depth, quantifier_nodes}
use Rattle.dcv_scope.specs.Linear.{measure_with, numbers_of, share_of, capped_macro}

-- ---- what may be done with numbers

abbrev pub numbers_beside : Numbers → Numbers → Numbers
numbers_beside m n = numbers_of (beside (measure_with m) (measure_with n))

-- so many nodes more, so much deeper, below so many quantifiers more
abbrev pub numbers_under : ℕ → ℕ → ℕ → Numbers → Numbers
numbers_under nodes deeper quantifiers m = record { size = nodes + m.size; depth = deeper + m.depth; quantifiers = quantifiers + m.quantifiers }

abbrev pub shares_beside : Option Share → Option Share → Option Share
shares_beside None t = t
shares_beside (Some s) None = Some s
shares_beside (Some s) (Some t) =
    Some (record { uses = s.uses + t.uses; depth = max s.depth t.depth; quantifiers = max s.quantifiers t.quantifiers })

abbrev pub share_under : ℕ → ℕ → Option Share → Option Share
share_under deeper quantifiers None = None
share_under deeper quantifiers (Some s) = Some (record { uses = s.uses; depth = deeper + s.depth; quantifiers = quantifiers + s.quantifiers })

-- a share of what has this share
abbrev pub share_within : Share → Option Share → Option Share
share_within s None = None
share_within s (Some t) = Some (record { uses = s.uses * t.uses; depth = s.depth + t.depth; quantifiers = s.quantifiers + t.quantifiers })

-- ---- what may be done with linear measures

abbrev pub all_beside : List (Option Share) → List (Option Share) → List (Option Share)
all_beside [] ts = ts
all_beside (s ∷ ss) [] = s ∷ ss
all_beside (s ∷ ss) (t ∷ ts) = shares_beside s t ∷ all_beside ss ts

-- the same whatever the arguments
unfoldable pub constant : Measure → MacroMeasure
constant m = record { own = numbers_of m; shares = replicate 8 None }

-- that of the argument at a place
unfoldable pub argument_at : ℕ → MacroMeasure
argument_at j = record {
  own = numbers_of nothing;
  shares = slice_set (replicate 8 None) j (Some (record { uses = 1; depth = 0; quantifiers = 0 }));
}

unfoldable pub linear_beside : MacroMeasure → MacroMeasure → MacroMeasure
linear_beside m n = record { own = numbers_beside m.own n.own; shares = all_beside m.shares n.shares }

unfoldable pub linear_under : ℕ → ℕ → ℕ → MacroMeasure → MacroMeasure
linear_under nodes deeper quantifiers m = record {
  own = numbers_under nodes deeper quantifiers m.own;
  shares = map (share_under deeper quantifiers) m.shares;
}

unfoldable pub linear_within : Share → MacroMeasure → MacroMeasure
linear_within s m = record { own = numbers_of (share_of s (measure_with m.own)); shares = map (share_within s) m.shares }

-- at arguments that are linear measures themselves
abbrev pub linear_with : MacroMeasure → Option Share → MacroMeasure → MacroMeasure
linear_with m None inner = m
linear_with m (Some s) inner = linear_beside m (linear_within s inner)

abbrev pub first_linear : List MacroMeasure → MacroMeasure
first_linear [] = constant leaf
first_linear (m ∷ arguments) = m

abbrev pub later_linear : List MacroMeasure → List MacroMeasure
later_linear [] = []
later_linear (m ∷ arguments) = arguments

abbrev pub linear_with_all : MacroMeasure → List (Option Share) → List MacroMeasure → MacroMeasure
linear_with_all m [] arguments = m
linear_with_all m (s ∷ shares) arguments = linear_with_all (linear_with m s (first_linear arguments)) shares (later_linear arguments)

abbrev pub linear_at : MacroMeasure → List MacroMeasure → MacroMeasure
linear_at m arguments = linear_with_all (constant (measure_with m.own)) m.shares arguments

-- of a list, one after another, beside what came before
abbrev pub all_in_turn : {X : Type 0} → (X → MacroMeasure) → MacroMeasure → List X → MacroMeasure
all_in_turn f before [] = before
all_in_turn f before (x ∷ xs) = all_in_turn f (linear_beside before (f x)) xs

-- ---- what is in sight

pub record LinearSight : Type 0 where
  pub names : List (List ℕ × MacroMeasure)
  pub macros : List (List ℕ × MacroMeasure)

abbrev pub linear_of_macro : Option MacroMeasure → List MacroMeasure → MacroMeasure
linear_of_macro None arguments = constant leaf
linear_of_macro (Some m) arguments = linear_at m arguments

abbrev pub linear_of_name : Option MacroMeasure → Option MacroMeasure → List MacroMeasure → MacroMeasure
linear_of_name (Some m) macro arguments = m
linear_of_name None macro arguments = linear_of_macro macro arguments

-- ---- the text

abbrev mutual
  pub linear_of_prop : LinearSight → PlainPropKind → MacroMeasure
  linear_of_prop sight (PropConstant truth) = constant leaf
  linear_of_prop sight (PropCall name arguments) =
      linear_of_name (found sight.names name.text) (found sight.macros name.text) (linear_of_arguments sight arguments)
  linear_of_prop sight (PropNot p span) = linear_under 1 1 0 (linear_of_prop sight p)
  linear_of_prop sight (PropJoined connective operands) = linear_under 1 1 0 (linear_of_prop_operands sight (constant nothing) operands)
  linear_of_prop sight (PropImplies p p_span q q_span) =
      linear_under 1 1 0 (linear_beside (linear_under 1 1 0 (linear_of_prop sight p)) (linear_of_prop sight q))
  linear_of_prop sight (PropShifted direction form p span) = linear_under 1 1 0 (linear_of_prop sight p)

  pub linear_of_arguments : LinearSight → PlainArguments → List MacroMeasure
  linear_of_arguments sight no_arguments = []
  linear_of_arguments sight (argument p span arguments) = linear_of_prop sight p ∷ linear_of_arguments sight arguments

  -- beside what came before
  pub linear_of_prop_operands : LinearSight → MacroMeasure → PlainPropOperands → MacroMeasure
  linear_of_prop_operands sight before no_prop_operands = before
  linear_of_prop_operands sight before (prop_operand p span outer operands) =
      linear_of_prop_operands sight (linear_beside before (linear_of_prop sight p)) operands

abbrev pub name_too : LinearSight → List ℕ → LinearSight
name_too sight name = record sight { names = (name, constant leaf) ∷ sight.names }

abbrev mutual
  pub linear_of_formula : LinearSight → PlainFormulaKind → MacroMeasure
  linear_of_formula sight (FormulaConstant truth) = constant leaf
  linear_of_formula sight FormulaPt = linear_under 1 1 0 (constant leaf)
  linear_of_formula sight FormulaExt = linear_under 1 1 0 (constant leaf)
  linear_of_formula sight (FormulaBracketed bracket p) = linear_under 1 1 0 (linear_of_prop sight p.kind)
  linear_of_formula sight (FormulaSlen relation n) = constant leaf
  linear_of_formula sight (FormulaCounted counting p relation n) = linear_under 1 1 0 (linear_of_prop sight p.kind)
  linear_of_formula sight (FormulaCall name arguments) =
      linear_of_macro (found sight.macros name.text) (linear_of_arguments sight (arguments_of arguments))
  linear_of_formula sight (FormulaApplied unary d span) = linear_under (unary_nodes unary) (unary_depth unary) 0 (linear_of_formula sight d)
  linear_of_formula sight (FormulaJoined connective operands) = linear_under 1 1 0 (linear_of_operands sight (constant nothing) operands)
  linear_of_formula sight (FormulaImplies c c_span d d_span) =
      linear_under 1 1 0 (linear_beside (linear_under 1 1 0 (linear_of_formula sight c)) (linear_of_formula sight d))
  linear_of_formula sight (FormulaChop operands) = linear_under 1 1 0 (linear_of_operands sight (constant nothing) operands)
  linear_of_formula sight (FormulaQuantified quantifier name d span) =
      linear_under (quantifier_nodes quantifier) (quantifier_nodes quantifier) 1 (linear_of_formula (name_too sight name.text) d)

  pub linear_of_operands : LinearSight → MacroMeasure → PlainFormulaOperands → MacroMeasure
  linear_of_operands sight before no_formula_operands = before
  linear_of_operands sight before (formula_operand d span outer operands) =
      linear_of_operands sight (linear_beside before (linear_of_formula sight d)) operands

-- ---- macros

abbrev pub linear_of_body : LinearSight → PlainMacroBody → MacroMeasure
linear_of_body sight (FormulaBody d) = linear_of_formula sight d.kind
linear_of_body sight (PropBody p) = linear_of_prop sight p.kind

-- parameters from a place on
abbrev pub parameters_from : ℕ → List Name → List (List ℕ × MacroMeasure)
parameters_from j [] = []
parameters_from j (name ∷ names) = (name.text, argument_at j) ∷ parameters_from (j + 1) names

abbrev pub linear_of : LinearSight → PlainMacro → MacroMeasure
linear_of sight m = linear_of_body (record sight { names = parameters_from 0 m.parameters ++ sight.names }) m.body

abbrev pub macro_too : LinearSight → PlainMacro → LinearSight
macro_too sight m = record sight { macros = (m.name.text, linear_of sight m) ∷ sight.macros }

abbrev pub with_linears : LinearSight → List PlainMacro → LinearSight
with_linears sight [] = sight
with_linears sight (m ∷ macros) = with_linears (macro_too sight m) macros

-- of each macro, in order
abbrev pub linears_of : LinearSight → List PlainMacro → List MacroMeasure
linears_of sight [] = []
linears_of sight (m ∷ macros) = linear_of sight m ∷ linears_of (macro_too sight m) macros

-- ---- what the walk has in sight

abbrev pub leaves : List Name → List (List ℕ × MacroMeasure)
leaves = map (λ (n : Name). (n.text, constant leaf))

abbrev pub quantified_leaves : List (Bor Name) → List (List ℕ × MacroMeasure)
quantified_leaves = map (λ (n : Bor Name). (n.now.text, constant leaf))

abbrev pub declared_alone : List Name → LinearSight
declared_alone names = record { names = leaves names; macros = [] }

abbrev pub linear_in_sight : Sight → LinearSight
linear_in_sight sight = record {
  names = quantified_leaves sight.quantified.items ++ (parameters_from 0 sight.parameters.now ++ leaves sight.declared.now);
  macros = (with_linears (declared_alone sight.declared.now) (map plain_macro sight.macros.now)).macros;
}

-- the numbers of macros over these variables
abbrev pub linear_measures : List Name → List PlainMacro → List MacroMeasure
linear_measures declared macros = map capped_macro (linears_of (declared_alone declared) macros)

-- the numbers of the macros in sight are those of their exact measures, capped
abbrev pub IsMeasured : Sight → Type 0
IsMeasured sight = sight.measures.now ≡ linear_measures sight.declared.now (map plain_macro sight.macros.now)
