-- Names: where they stand, what is in sight there, and the first fault.
--     Occurrence           a name, what it does there, and what is in sight there
--     occurrences_in_file  the occurrences of a file, in text order
--     fault_at             the fault of an occurrence, if it has one
--     fault_of_names       the first fault of a file; a file is well-named where it has none
use Rattle.std.specs.Prelude.{ℕ, ◌+◌, Bool, true, false, ◌||◌, ◌==◌, nat_le, List, [], ◌∷◌, ◌++◌, Option, Some, None, length, map, bytes_eq, if◌then◌else◌}
use Rattle.std.specs.List.{list_any}
use Rattle.std.specs.Option.{option_or}
use Rattle.dcv_syntax.specs.declared.names.Name.{Name}
use Rattle.dcv_syntax.specs.Plain.{PlainPropKind, PropConstant, PropCall, PropNot, PropJoined, PropImplies, PropShifted, PlainArguments, no_arguments, argument}
use Rattle.dcv_syntax.specs.Plain.{PlainPropOperands, no_prop_operands, prop_operand, PlainFormulaKind, FormulaConstant, FormulaPt, FormulaExt, FormulaBracketed}
use Rattle.dcv_syntax.specs.Plain.{FormulaSlen, FormulaCounted, FormulaCall, FormulaApplied, FormulaJoined, FormulaImplies, FormulaChop, FormulaQuantified}
use Rattle.dcv_syntax.specs.Plain.{PlainFormulaOperands, no_formula_operands, formula_operand, arguments_of, PlainMacroBody, FormulaBody, PropBody, PlainMacro, PlainFile}
use Rattle.dcv_language.specs.Limits.{most_variables}
use Rattle.dcv_logic.specs.Environment.{found}
use Rattle.dcv_scope.specs.declared.faults.ScopeFault.{ScopeFault}
use Rattle.dcv_scope.specs.declared.faults.ScopeFault.TheVariants.{TooMany, Duplicate, Taken, Unknown, Kind, Arity}

-- ---- what is in sight

pub data MacroKind : Type 0 where
  FormulaMacro : MacroKind
  PropMacro : MacroKind

abbrev pub same_kind : MacroKind → MacroKind → Bool
same_kind FormulaMacro FormulaMacro = true
same_kind FormulaMacro PropMacro = false
same_kind PropMacro FormulaMacro = false
same_kind PropMacro PropMacro = true

-- how a macro is called
pub record Signature : Type 0 where
  pub kind : MacroKind
  pub parameters : ℕ

-- No two macros before the first fault have one name, nor has a macro that of a variable.
pub record InSight : Type 0 where
  -- declared variables, parameters and quantified names
  pub variables : List (List ℕ)
  -- the macros before this one, in order
  pub macros : List (List ℕ × Signature)
  -- the macro that is being defined, or nothing in the goal
  pub defining : List (List ℕ)

-- what a name may stand for
pub data Sense : Type 0 where
  Variable : Sense
  Macro : Signature → Sense

abbrev pub macro_sense : Option Signature → Option Sense
macro_sense None = None
macro_sense (Some signature) = Some (Macro signature)

abbrev pub stands_in : List ℕ → List (List ℕ) → Bool
stands_in name names = list_any (λ other. bytes_eq other name) names

-- a variable, parameter or quantified name hides a macro
abbrev pub sense_of : InSight → List ℕ → Option Sense
sense_of sight name = if stands_in name sight.variables then Some Variable else macro_sense (found sight.macros name)

-- the names of macros that are taken, that of the macro being defined too
abbrev pub taken_names : InSight → List (List ℕ)
taken_names sight = sight.defining ++ map (λ (m : List ℕ × Signature). m.0) sight.macros

-- ---- occurrences

pub data Role : Type 0 where
  -- in the list of variables, or in a macro's list of parameters, after these
  Declared : (before : List (List ℕ)) → Role
  Parameter : (before : List (List ℕ)) → Role
  -- the name of a macro where it is defined, and of a quantifier
  Defined : Role
  Quantified : Role
  -- used with so many arguments, where a formula or a proposition is asked for
  AtFormula : (arguments : ℕ) → Role
  AtProposition : (arguments : ℕ) → Role

pub record Occurrence : Type 0 where
  pub name : Name
  pub role : Role
  pub sight : InSight

abbrev pub occurs : Name → Role → InSight → Occurrence
occurs name role sight = record { name = name; role = role; sight = sight }

-- ---- faults, in the order in which they count at one offset

-- the 17th variable, the 9th parameter of a macro, the 257th macro
abbrev pub is_one_too_many : Role → InSight → Bool
is_one_too_many (Declared before) sight = nat_le most_variables (length before)
is_one_too_many (Parameter before) sight = nat_le 8 (length before)
is_one_too_many Defined sight = nat_le 256 (length sight.macros)
is_one_too_many Quantified sight = false
is_one_too_many (AtFormula arguments) sight = false
is_one_too_many (AtProposition arguments) sight = false

-- a second time in one list
abbrev pub is_duplicate : Role → List ℕ → Bool
is_duplicate (Declared before) name = stands_in name before
is_duplicate (Parameter before) name = stands_in name before
is_duplicate Defined name = false
is_duplicate Quantified name = false
is_duplicate (AtFormula arguments) name = false
is_duplicate (AtProposition arguments) name = false

-- A parameter or quantified name may not be that of a macro, and a macro not that of a variable or an earlier macro.
abbrev pub is_taken : Role → InSight → List ℕ → Bool
is_taken (Declared before) sight name = false
is_taken (Parameter before) sight name = stands_in name (taken_names sight)
is_taken Defined sight name = stands_in name sight.variables || stands_in name (taken_names sight)
is_taken Quantified sight name = stands_in name (taken_names sight)
is_taken (AtFormula arguments) sight name = false
is_taken (AtProposition arguments) sight name = false

-- with as many arguments as it has parameters, where a macro of this kind is asked for
abbrev pub macro_fault : ℕ → MacroKind → ℕ → Signature → Option ScopeFault
macro_fault at asked arguments signature =
    if same_kind asked signature.kind then (if arguments == signature.parameters then None else Some (Arity at)) else Some (Kind at)

-- A formula place asks for a formula macro, a proposition place for a proposition macro or a variable, which has no arguments.
abbrev pub use_fault : ℕ → Role → Option Sense → Option ScopeFault
use_fault at (AtFormula arguments) None = Some (Unknown at)
use_fault at (AtFormula arguments) (Some Variable) = Some (Kind at)
use_fault at (AtFormula arguments) (Some (Macro signature)) = macro_fault at FormulaMacro arguments signature
use_fault at (AtProposition arguments) None = Some (Unknown at)
use_fault at (AtProposition arguments) (Some Variable) = if arguments == 0 then None else Some (Arity at)
use_fault at (AtProposition arguments) (Some (Macro signature)) = macro_fault at PropMacro arguments signature
use_fault at (Declared before) sense = None
use_fault at (Parameter before) sense = None
use_fault at Defined sense = None
use_fault at Quantified sense = None

-- each at the offset of the name
abbrev pub fault_at : Occurrence → Option ScopeFault
fault_at o =
    let at = o.name.span.start in
    if is_one_too_many o.role o.sight then Some (TooMany at)
    else if is_duplicate o.role o.name.text then Some (Duplicate at)
    else if is_taken o.role o.sight o.name.text then Some (Taken at)
    else use_fault at o.role (sense_of o.sight o.name.text)

-- ---- occurrences in text order

abbrev pub in_sight_too : InSight → List ℕ → InSight
in_sight_too sight name = record sight { variables = name ∷ sight.variables }

-- how many arguments stand in a call
abbrev pub count_arguments : PlainArguments → ℕ
count_arguments no_arguments = 0
count_arguments (argument p span arguments) = 1 + count_arguments arguments

abbrev mutual
  pub occurrences_in_prop : InSight → PlainPropKind → List Occurrence
  occurrences_in_prop sight (PropConstant truth) = []
  occurrences_in_prop sight (PropCall name arguments) =
      occurs name (AtProposition (count_arguments arguments)) sight ∷ occurrences_in_arguments sight arguments
  occurrences_in_prop sight (PropNot p span) = occurrences_in_prop sight p
  occurrences_in_prop sight (PropJoined connective operands) = occurrences_in_prop_operands sight operands
  occurrences_in_prop sight (PropImplies p p_span q q_span) = occurrences_in_prop sight p ++ occurrences_in_prop sight q
  occurrences_in_prop sight (PropShifted direction form p span) = occurrences_in_prop sight p

  pub occurrences_in_arguments : InSight → PlainArguments → List Occurrence
  occurrences_in_arguments sight no_arguments = []
  occurrences_in_arguments sight (argument p span arguments) = occurrences_in_prop sight p ++ occurrences_in_arguments sight arguments

  pub occurrences_in_prop_operands : InSight → PlainPropOperands → List Occurrence
  occurrences_in_prop_operands sight no_prop_operands = []
  occurrences_in_prop_operands sight (prop_operand p span outer operands) =
      occurrences_in_prop sight p ++ occurrences_in_prop_operands sight operands

abbrev mutual
  pub occurrences_in_formula : InSight → PlainFormulaKind → List Occurrence
  occurrences_in_formula sight (FormulaConstant truth) = []
  occurrences_in_formula sight FormulaPt = []
  occurrences_in_formula sight FormulaExt = []
  occurrences_in_formula sight (FormulaBracketed bracket p) = occurrences_in_prop sight p.kind
  occurrences_in_formula sight (FormulaSlen relation n) = []
  occurrences_in_formula sight (FormulaCounted counting p relation n) = occurrences_in_prop sight p.kind
  occurrences_in_formula sight (FormulaCall name arguments) =
      occurs name (AtFormula (length arguments)) sight ∷ occurrences_in_arguments sight (arguments_of arguments)
  occurrences_in_formula sight (FormulaApplied unary d span) = occurrences_in_formula sight d
  occurrences_in_formula sight (FormulaJoined connective operands) = occurrences_in_operands sight operands
  occurrences_in_formula sight (FormulaImplies c c_span d d_span) = occurrences_in_formula sight c ++ occurrences_in_formula sight d
  occurrences_in_formula sight (FormulaChop operands) = occurrences_in_operands sight operands
  occurrences_in_formula sight (FormulaQuantified quantifier name d span) =
      occurs name Quantified sight ∷ occurrences_in_formula (in_sight_too sight name.text) d

  pub occurrences_in_operands : InSight → PlainFormulaOperands → List Occurrence
  occurrences_in_operands sight no_formula_operands = []
  occurrences_in_operands sight (formula_operand d span outer operands) =
      occurrences_in_formula sight d ++ occurrences_in_operands sight operands

-- the names of a list of variables or parameters, the names before each with it
abbrev pub occurrences_in_list : (List (List ℕ) → Role) → InSight → List (List ℕ) → List Name → List Occurrence
occurrences_in_list role sight before [] = []
occurrences_in_list role sight before (name ∷ names) =
    occurs name (role before) sight ∷ occurrences_in_list role sight (before ++ name.text ∷ []) names

abbrev pub occurrences_in_body : InSight → PlainMacroBody → List Occurrence
occurrences_in_body sight (FormulaBody d) = occurrences_in_formula sight d.kind
occurrences_in_body sight (PropBody p) = occurrences_in_prop sight p.kind

abbrev pub texts : List Name → List (List ℕ)
texts = map (λ (n : Name). n.text)

-- the name of a macro, its parameters, and its body, which sees them
abbrev pub occurrences_in_macro : InSight → PlainMacro → List Occurrence
occurrences_in_macro sight m =
    let inside = record sight { defining = m.name.text ∷ [] } in
    let body = record inside { variables = texts m.parameters ++ sight.variables } in
    (occurs m.name Defined sight ∷ occurrences_in_list Parameter inside [] m.parameters) ++ occurrences_in_body body m.body

abbrev pub body_kind : PlainMacroBody → MacroKind
body_kind (FormulaBody d) = FormulaMacro
body_kind (PropBody p) = PropMacro

abbrev pub macro_in_sight : PlainMacro → List ℕ × Signature
macro_in_sight m = (m.name.text, record { kind = body_kind m.body; parameters = length m.parameters })

-- what is in sight after a macro
abbrev pub behind_macro : InSight → PlainMacro → InSight
behind_macro sight m = record sight { macros = sight.macros ++ macro_in_sight m ∷ [] }

-- the macros from here on, and then the goal
abbrev pub occurrences_from : InSight → List PlainMacro → PlainFormulaKind → List Occurrence
occurrences_from sight [] goal = occurrences_in_formula sight goal
occurrences_from sight (m ∷ macros) goal = occurrences_in_macro sight m ++ occurrences_from (behind_macro sight m) macros goal

abbrev pub nothing_in_sight : InSight
nothing_in_sight = record { variables = []; macros = []; defining = [] }

abbrev pub occurrences_in_file : PlainFile → List Occurrence
occurrences_in_file file =
    occurrences_in_list Declared nothing_in_sight [] file.variables
    ++ occurrences_from (record nothing_in_sight { variables = texts file.variables }) file.macros file.goal.formula.kind

-- ---- the first fault

abbrev pub first_fault : List Occurrence → Option ScopeFault
first_fault [] = None
first_fault (o ∷ occurrences) = option_or (fault_at o) (first_fault occurrences)

abbrev pub fault_of_names : PlainFile → Option ScopeFault
fault_of_names file = first_fault (occurrences_in_file file)
