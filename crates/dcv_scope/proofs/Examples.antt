-- The definitions tried on worked files, whose answers were worked out by hand.
use Rattle.std.proofs.Common.{◌≡◌, ℕ, zero, suc, ◌+◌, Bool, true, false, List, [], ◌∷◌, ◌++◌, Some, None, map, refl}
use Rattle.dcv_syntax.specs.declared.names.Name.{Name}
use Rattle.dcv_syntax.specs.declared.names.Span.{Span}
use Rattle.dcv_syntax.specs.declared.formulas.Relation.{Relation}
use Rattle.dcv_syntax.specs.declared.formulas.Number.{Number}
use Rattle.dcv_syntax.specs.declared.propositions.Connective.{Connective}
use Rattle.dcv_syntax.specs.declared.propositions.Connective.TheVariants.{And, Or, Iff}
use Rattle.dcv_syntax.specs.declared.formulas.Bracket.{Bracket}
use Rattle.dcv_syntax.specs.declared.formulas.Bracket.TheVariants.{Point, Run, Every}
use Rattle.dcv_syntax.specs.declared.formulas.Count.{Count}
use Rattle.dcv_syntax.specs.declared.formulas.Unary.TheVariants.{Not, Star, Somewhere, Everywhere}
use Rattle.dcv_syntax.specs.declared.formulas.Quantifier.TheVariants.{Exists, ForAll}
use Rattle.dcv_syntax.specs.Plain.{PlainPropKind, PropConstant, PropCall, PropNot, PropJoined, PropImplies, no_arguments}
use Rattle.dcv_syntax.specs.Plain.{PlainPropOperands, no_prop_operands, prop_operand, PlainProp, PlainFormulaKind, FormulaConstant, FormulaPt, FormulaExt}
use Rattle.dcv_syntax.specs.Plain.{FormulaBracketed, FormulaSlen, FormulaCounted, FormulaCall, FormulaApplied, FormulaJoined, FormulaImplies, FormulaChop}
use Rattle.dcv_syntax.specs.Plain.{FormulaQuantified, PlainFormulaOperands, no_formula_operands, formula_operand, FormulaBody, PropBody, PlainMacro, PlainFile}
use Rattle.dcv_word.specs.Behaviour.{Word}
use Rattle.dcv_logic.specs.Models.{models}
use Rattle.dcv_scope.specs.declared.faults.ScopeFault.TheVariants.{TooMany, Duplicate, Taken, Unknown, Kind, Arity, Size, Depth, Slots}
use Rattle.dcv_core.specs.Core.{TruthConstant, TruthSlot, BasicBracketed, BasicConstant}
use Rattle.dcv_core.specs.Holds.{words_of}
use Rattle.dcv_scope.specs.CoreOf.{core_of_file}
use Rattle.dcv_core.specs.Steps.{PlainOp, OpAtom, OpNot, OpJoined, OpChop, OpStar, PlainStep, steps_of}
use Rattle.dcv_scope.specs.Names.{fault_of_names}
use Rattle.dcv_scope.specs.Faults.{fault_of_goal}
use Rattle.dcv_scope.specs.Measures.{Measure, leaf, Measured, measure_of_prop, name_in_sight, measure_of_formula, measure_of_file, slots_of_file}

-- ---- to write files by hand

abbrev place : ℕ → ℕ → Span
place start end = record { start = start; end = end }

-- a name of one letter, and its place
abbrev named : ℕ → ℕ → Name
named letter start = record { text = letter ∷ []; span = place start (start + 1) }

-- a name of letters of its own, where the place does not matter
abbrev anywhere : List ℕ → Name
anywhere text = record { text = text; span = place 0 0 }

-- a proposition or formula where the place does not matter
abbrev prop_of : PlainPropKind → PlainProp
prop_of kind = record { kind = kind; span = place 0 0 }

abbrev file_of : List Name → List PlainMacro → PlainFormulaKind → Span → Span → PlainFile
file_of variables macros goal span outer =
    record { variables = variables; macros = macros; goal = record { formula = record { kind = goal; span = span }; span = outer } }

abbrev formula_macro : Name → List Name → PlainFormulaKind → PlainMacro
formula_macro name parameters kind =
    record { name = name; parameters = parameters; body = FormulaBody (record { kind = kind; span = place 0 0 }); span = place 0 0 }

abbrev prop_macro : Name → List Name → PlainPropKind → PlainMacro
prop_macro name parameters kind =
    record { name = name; parameters = parameters; body = PropBody (prop_of kind); span = place 0 0 }

abbrev file_with : List Name → List PlainMacro → PlainFormulaKind → PlainFile
file_with variables macros goal = file_of variables macros goal (place 0 0) (place 0 0)

-- a name without arguments
abbrev plain_name : Name → PlainPropKind
plain_name name = PropCall name no_arguments

abbrev two : PlainFormulaKind → PlainFormulaKind → PlainFormulaOperands
two c d = formula_operand c (place 0 0) (place 0 0) (formula_operand d (place 0 0) (place 0 0) no_formula_operands)

abbrev two_props : PlainPropKind → PlainPropKind → PlainPropOperands
two_props p q = prop_operand p (place 0 0) (place 0 0) (prop_operand q (place 0 0) (place 0 0) no_prop_operands)

-- ---- steps and spans

-- var p; infer (pt && <p>) ^ [](pt => ext)*;
abbrev many_forms : PlainFile
many_forms = file_of (named 112 4 ∷ []) [] (FormulaChop (
    formula_operand (FormulaJoined And (
    formula_operand FormulaPt (place 14 16) (place 14 16) (
    formula_operand (FormulaBracketed Point (record { kind = plain_name (named 112 21); span = place 21 22 })) (place 20 23) (place 20 23)
    no_formula_operands))) (place 14 23) (place 13 24) (
    formula_operand (FormulaApplied Everywhere
    (FormulaApplied Star (FormulaImplies FormulaPt (place 30 32) FormulaExt (place 36 39)) (place 30 39)) (place 29 41)) (place 27 41) (place 27 41)
    no_formula_operands))) (place 13 41) (place 13 41)

record Row : Type 0 where
  op : PlainOp
  start : ℕ
  end : ℕ

abbrev row : PlainOp → ℕ → ℕ → Row
row op start end = record { op = op; start = start; end = end }

abbrev rows : PlainFile → List Row
rows file = map (λ (s : PlainStep). row s.op s.span.start s.span.end) (steps_of 1 (core_of_file file))

steps_of_many_forms : rows many_forms ≡
    row (OpAtom (BasicBracketed Point (TruthConstant true))) 14 16
    ∷ row (OpAtom (BasicBracketed Point (TruthSlot 0))) 20 23
    ∷ row (OpJoined And 0 1) 14 23
    ∷ row (OpAtom (BasicConstant true)) 27 41
    ∷ row (OpAtom (BasicBracketed Point (TruthConstant true))) 30 32
    ∷ row (OpNot 4) 30 39
    ∷ row (OpAtom (BasicBracketed Run (TruthConstant true))) 36 39
    ∷ row (OpJoined Or 5 6) 30 39
    ∷ row (OpStar 7) 29 41
    ∷ row (OpNot 8) 27 41
    ∷ row (OpChop 3 9) 27 41
    ∷ row (OpAtom (BasicConstant true)) 27 41
    ∷ row (OpChop 10 11) 27 41
    ∷ row (OpNot 12) 27 41
    ∷ row (OpChop 2 13) 13 41
    ∷ []
steps_of_many_forms = refl

-- ---- an argument is not captured

-- var q; define F(a) as (ex q. [[q <=> a]]); infer F(!q);
abbrev captures : PlainFile
captures = file_with (named 113 4 ∷ [])
    (formula_macro (named 70 14) (named 97 16 ∷ []) (FormulaQuantified Exists (named 113 26) (FormulaBracketed Every (prop_of (PropJoined Iff (two_props (plain_name (named 113 31)) (plain_name (named 97 37)))))) (place 0 0)) ∷ [])
    (FormulaCall (named 70 49) (prop_of (PropNot (plain_name (named 113 52)) (place 0 0)) ∷ []))

abbrev false_true : Word
false_true = (false ∷ []) ∷ (true ∷ []) ∷ []

argument_is_not_captured : words_of (core_of_file captures) false_true ≡ true
argument_is_not_captured = refl

model_is_not_captured : models captures false_true ≡ true
model_is_not_captured = refl

captures_has_no_fault : fault_of_names captures ≡ None
captures_has_no_fault = refl

captures_is_measured : measure_of_file captures ≡ record { size = 6; depth = 5; quantifiers = 1 }
captures_is_measured = refl

-- ---- faults

-- infer [[r]];
name_is_unknown : fault_of_names (file_with [] [] (FormulaBracketed Every (prop_of (plain_name (named 114 8))))) ≡ Some (Unknown 8)
name_is_unknown = refl

-- var p,p;infer pt;
variable_is_there_twice : fault_of_names (file_with (named 112 4 ∷ named 112 6 ∷ []) [] FormulaPt) ≡ Some (Duplicate 6)
variable_is_there_twice = refl

-- var p; define p as pt; infer pt;
macro_takes_a_variable : fault_of_names (file_with (named 112 4 ∷ []) (formula_macro (named 112 14) [] FormulaPt ∷ []) FormulaPt) ≡ Some (Taken 14)
macro_takes_a_variable = refl

-- define f as pt; define g(f) as pt; infer pt;
parameter_takes_a_macro : fault_of_names (file_with []
    (formula_macro (named 102 7) [] FormulaPt ∷ formula_macro (named 103 23) (named 102 25 ∷ []) FormulaPt ∷ []) FormulaPt) ≡ Some (Taken 25)
parameter_takes_a_macro = refl

-- define f as ex f. pt; infer pt;
quantifier_takes_its_macro : fault_of_names (file_with []
    (formula_macro (named 102 7) [] (FormulaQuantified Exists (named 102 15) FormulaPt (place 0 0)) ∷ []) FormulaPt) ≡ Some (Taken 15)
quantifier_takes_its_macro = refl

-- var p; define f(p) as [[p]]; infer f(p);
parameter_hides_a_variable : fault_of_names (file_with (named 112 4 ∷ [])
    (formula_macro (named 102 14) (named 112 16 ∷ []) (FormulaBracketed Every (prop_of (plain_name (named 112 24)))) ∷ [])
    (FormulaCall (named 102 35) (prop_of (plain_name (named 112 37)) ∷ []))) ≡ None
parameter_hides_a_variable = refl

-- define f as f; infer f;
macro_does_not_see_itself : fault_of_names (file_with [] (formula_macro (named 102 7) [] (FormulaCall (named 102 12) []) ∷ []) (FormulaCall (named 102 21) [])) ≡ Some (Unknown 12)
macro_does_not_see_itself = refl

-- var p; infer p;
variable_is_no_formula : fault_of_names (file_with (named 112 4 ∷ []) [] (FormulaCall (named 112 13) [])) ≡ Some (Kind 13)
variable_is_no_formula = refl

-- define f(a) as [[a]]; infer f;
call_lacks_an_argument : fault_of_names (file_with []
    (formula_macro (named 102 7) (named 97 9 ∷ []) (FormulaBracketed Every (prop_of (plain_name (named 97 17)))) ∷ []) (FormulaCall (named 102 28) [])) ≡ Some (Arity 28)
call_lacks_an_argument = refl

-- prop g(a) as a; infer g; : a formula is asked for, and that counts before the missing argument
kind_before_arity : fault_of_names (file_with []
    (prop_macro (named 103 5) (named 97 7 ∷ []) (plain_name (named 97 13)) ∷ []) (FormulaCall (named 103 22) [])) ≡ Some (Kind 22)
kind_before_arity = refl

abbrev sixteen : List Name
sixteen =
    named 97 4 ∷ named 98 6 ∷ named 99 8 ∷ named 100 10 ∷ named 101 12 ∷ named 102 14 ∷ named 103 16 ∷ named 104 18
    ∷ named 105 20 ∷ named 106 22 ∷ named 107 24 ∷ named 108 26 ∷ named 109 28 ∷ named 110 30 ∷ named 111 32 ∷ named 112 34 ∷ []

sixteen_variables : fault_of_names (file_with sixteen [] FormulaPt) ≡ None
sixteen_variables = refl

-- the 17th variable has the name of the first, and is one too many before it is there twice
seventeen_variables : fault_of_names (file_with (sixteen ++ named 97 36 ∷ []) [] FormulaPt) ≡ Some (TooMany 36)
seventeen_variables = refl

-- ---- measures

abbrev doubled : ℕ → PlainFormulaKind
doubled name = FormulaJoined And (two (FormulaCall (anywhere (name ∷ [])) []) (FormulaCall (anywhere (name ∷ [])) []))

-- define m0 as pt; define m1 as m0 && m0; .. , each with its number as its name
abbrev chain : List ℕ → List PlainMacro
chain [] = []
chain (m ∷ ms) = formula_macro (anywhere (suc m ∷ [])) [] (doubled m) ∷ chain ms

abbrev chain_file : List ℕ → ℕ → PlainFile
chain_file ms last = file_with [] (formula_macro (anywhere (0 ∷ [])) [] FormulaPt ∷ chain ms) (FormulaCall (anywhere (last ∷ [])) [])

chain_of_14 : measure_of_file (chain_file (0 ∷ 1 ∷ 2 ∷ 3 ∷ 4 ∷ 5 ∷ 6 ∷ 7 ∷ 8 ∷ 9 ∷ 10 ∷ 11 ∷ 12 ∷ 13 ∷ []) 14) ≡ record { size = 49151; depth = 16; quantifiers = 0 }
chain_of_14 = refl

-- define F0(a) as pt; define F1(a) as F0(a && a); define F2(a) as F1(a && a); infer F2(p); : no argument is used
abbrev unused : ℕ → PlainMacro
unused n = formula_macro (anywhere (suc n ∷ [])) (named 97 0 ∷ [])
    (FormulaCall (anywhere (n ∷ [])) (prop_of (PropJoined And (two_props (plain_name (named 97 0)) (plain_name (named 97 0)))) ∷ []))

arguments_that_are_not_used : measure_of_file (file_with (named 112 0 ∷ [])
    (formula_macro (anywhere (0 ∷ [])) (named 97 0 ∷ []) FormulaPt ∷ unused 0 ∷ unused 1 ∷ [])
    (FormulaCall (anywhere (2 ∷ [])) (prop_of (plain_name (named 112 0)) ∷ []))) ≡ record { size = 2; depth = 2; quantifiers = 0 }
arguments_that_are_not_used = refl

-- define F0(a) as <a>; and the rest as before: four times p, joined by three nodes, below a point
arguments_that_are_used : measure_of_file (file_with (named 112 0 ∷ [])
    (formula_macro (anywhere (0 ∷ [])) (named 97 0 ∷ []) (FormulaBracketed Point (prop_of (plain_name (named 97 0)))) ∷ unused 0 ∷ unused 1 ∷ [])
    (FormulaCall (anywhere (2 ∷ [])) (prop_of (plain_name (named 112 0)) ∷ []))) ≡ record { size = 8; depth = 4; quantifiers = 0 }
arguments_that_are_used = refl

-- var p; infer ex a. ex b. pt; has three slots
slots_of_two_quantifiers : slots_of_file (file_with (named 112 4 ∷ []) []
    (FormulaQuantified Exists (named 97 0) (FormulaQuantified Exists (named 98 0) FormulaPt (place 0 0)) (place 0 0))) ≡ 3
slots_of_two_quantifiers = refl

-- [] of [] of pt: 5 and 5 and 2 nodes, 3 and 3 and 2 deep
everywhere_twice : measure_of_file (file_with [] [] (FormulaApplied Everywhere (FormulaApplied Everywhere FormulaPt (place 0 0)) (place 0 0)))
    ≡ record { size = 12; depth = 8; quantifiers = 0 }
everywhere_twice = refl

-- ---- the table of sizes and depths, a line for each row

-- of a size and a depth, without quantifiers
abbrev sized : ℕ → ℕ → Measure
sized size depth = record { size = size; depth = depth; quantifiers = 0 }

-- what is in sight where p is declared
abbrev p_alone : Measured
p_alone = record { names = (112 ∷ [], leaf) ∷ []; macros = [] }

abbrev p : PlainPropKind
p = plain_name (named 112 4)

abbrev three : PlainFormulaKind → PlainFormulaKind → PlainFormulaKind → PlainFormulaOperands
three c d e = formula_operand c (place 0 0) (place 0 0) (two d e)

abbrev three_props : PlainPropKind → PlainPropKind → PlainPropKind → PlainPropOperands
three_props p q r = prop_operand p (place 0 0) (place 0 0) (two_props q r)

-- true, false, p
size_of_prop_constant : (truth : Bool) → measure_of_prop p_alone (PropConstant truth) ≡ sized 1 1
size_of_prop_constant truth = refl

size_of_variable : measure_of_prop p_alone p ≡ sized 1 1
size_of_variable = refl

-- true, false, slen R n
size_of_constant : (sight : Measured) (truth : Bool) → measure_of_formula sight (FormulaConstant truth) ≡ sized 1 1
size_of_constant sight truth = refl

size_of_slen : (sight : Measured) (relation : Relation) (n : Number) → measure_of_formula sight (FormulaSlen relation n) ≡ sized 1 1
size_of_slen sight relation n = refl

-- pt, ext
size_of_pt : (sight : Measured) → measure_of_formula sight FormulaPt ≡ sized 2 2
size_of_pt sight = refl

size_of_ext : (sight : Measured) → measure_of_formula sight FormulaExt ≡ sized 2 2
size_of_ext sight = refl

-- of a form with one operand, the operand's numbers being those of any operand
module _ (sight : Measured) (q : PlainPropKind) (span : Span) where
  -- of what has so many nodes more than q, and is so much deeper
  abbrev over_prop : ℕ → ℕ → Measure
  over_prop nodes deeper =
      let m = measure_of_prop sight q in
      record { size = nodes + m.size; depth = deeper + m.depth; quantifiers = m.quantifiers }

  -- !P
  size_of_prop_not : measure_of_prop sight (PropNot q span) ≡ over_prop 1 1
  size_of_prop_not = refl

  -- <P>, [P], [[P]], {{P}}
  size_of_bracketed : (bracket : Bracket) → measure_of_formula sight (FormulaBracketed bracket (record { kind = q; span = span })) ≡ over_prop 1 1
  size_of_bracketed bracket = refl

  -- scount P R n, sdur P R n
  size_of_counted : (counting : Count) (relation : Relation) (n : Number) → measure_of_formula sight (FormulaCounted counting (record { kind = q; span = span }) relation n) ≡ over_prop 1 1
  size_of_counted counting relation n = refl

module _ (sight : Measured) (d : PlainFormulaKind) (span : Span) where
  abbrev over : ℕ → ℕ → Measure
  over nodes deeper =
      let m = measure_of_formula sight d in
      record { size = nodes + m.size; depth = deeper + m.depth; quantifiers = m.quantifiers }

  -- !D, D*
  size_of_not : measure_of_formula sight (FormulaApplied Not d span) ≡ over 1 1
  size_of_not = refl

  size_of_star : measure_of_formula sight (FormulaApplied Star d span) ≡ over 1 1
  size_of_star = refl

  -- <>D
  size_of_somewhere : measure_of_formula sight (FormulaApplied Somewhere d span) ≡ over 3 1
  size_of_somewhere = refl

  -- []D
  size_of_everywhere : measure_of_formula sight (FormulaApplied Everywhere d span) ≡ over 5 3
  size_of_everywhere = refl

module _ (sight : Measured) (name : Name) (d : PlainFormulaKind) (span : Span) where
  -- of what is one quantifier over D
  abbrev over_quantified : ℕ → ℕ → Measure
  over_quantified nodes deeper =
      let m = measure_of_formula (name_in_sight sight name.text) d in
      record { size = nodes + m.size; depth = deeper + m.depth; quantifiers = 1 + m.quantifiers }

  -- ex q. D
  size_of_exists : measure_of_formula sight (FormulaQuantified Exists name d span) ≡ over_quantified 1 1
  size_of_exists = refl

  -- all q. D
  size_of_for_all : measure_of_formula sight (FormulaQuantified ForAll name d span) ≡ over_quantified 3 3
  size_of_for_all = refl

-- lists of propositions of 1, 3 and 2 nodes, which are 1, 3 and 2 deep
abbrev not_p : PlainPropKind
not_p = PropNot p (place 0 0)

abbrev not_not_p : PlainPropKind
not_not_p = PropNot not_p (place 0 0)

size_of_prop_joined : (connective : Connective) → measure_of_prop p_alone (PropJoined connective (three_props p not_not_p not_p)) ≡ sized 7 4
size_of_prop_joined connective = refl

-- P => Q, where the depth is that of P, and where it is that of Q
depth_of_premise : measure_of_prop p_alone (PropImplies not_p (place 0 0) not_p (place 0 0)) ≡ sized 6 4
depth_of_premise = refl

depth_of_conclusion : measure_of_prop p_alone (PropImplies p (place 0 0) not_not_p (place 0 0)) ≡ sized 6 4
depth_of_conclusion = refl

-- lists of formulas of 1, 5 and 2 nodes, which are 1, 3 and 2 deep
abbrev truth : PlainFormulaKind
truth = FormulaConstant true

abbrev somewhere_pt : PlainFormulaKind
somewhere_pt = FormulaApplied Somewhere FormulaPt (place 0 0)

size_of_joined : (connective : Connective) → measure_of_formula p_alone (FormulaJoined connective (three truth somewhere_pt FormulaPt)) ≡ sized 9 4
size_of_joined connective = refl

size_of_chop : measure_of_formula p_alone (FormulaChop (three truth somewhere_pt FormulaPt)) ≡ sized 9 4
size_of_chop = refl

-- D => E, where the depth is that of D, and where it is that of E
depth_of_left : measure_of_formula p_alone (FormulaImplies FormulaPt (place 0 0) FormulaPt (place 0 0)) ≡ sized 6 4
depth_of_left = refl

depth_of_right : measure_of_formula p_alone (FormulaImplies truth (place 0 0) somewhere_pt (place 0 0)) ≡ sized 8 4
depth_of_right = refl

-- quantifiers side by side take no more slots than the deepest of them, and `all` takes one
quantifiers_side_by_side : measure_of_formula p_alone (FormulaJoined And (two
    (FormulaQuantified Exists (named 97 0) (FormulaQuantified ForAll (named 98 0) truth (place 0 0)) (place 0 0))
    (FormulaQuantified ForAll (named 97 0) truth (place 0 0)))) ≡ record { size = 10; depth = 6; quantifiers = 2 }
quantifiers_side_by_side = refl

-- ---- limits

-- define F0(a) as <a>; define F1(a) as F0(a && a); .. : the argument of the n-th has 2^(n+1) - 1 nodes below the point
abbrev doubling : ℕ → List PlainMacro
doubling zero = []
doubling (suc n) = doubling n ++ unused n ∷ []

abbrev goal_of_doubled : ℕ → PlainFormulaKind
goal_of_doubled n = FormulaCall (anywhere (n ∷ [])) (prop_of p ∷ [])

-- var p; and these macros, with the goal at offset 9
abbrev with_doubled : ℕ → PlainFormulaKind → PlainFile
with_doubled n goal = file_of (named 112 4 ∷ [])
    (formula_macro (anywhere (0 ∷ [])) (named 97 0 ∷ []) (FormulaBracketed Point (prop_of (plain_name (named 97 0)))) ∷ doubling n) goal (place 9 10) (place 9 10)

size_65536 : fault_of_goal (with_doubled 15 (goal_of_doubled 15)) ≡ None
size_65536 = refl

size_65537 : fault_of_goal (with_doubled 15 (FormulaApplied Not (goal_of_doubled 15) (place 0 0))) ≡ Some (Size 9)
size_65537 = refl

-- `!` so many times over pt
abbrev denied : ℕ → PlainFormulaKind
denied zero = FormulaPt
denied (suc n) = FormulaApplied Not (denied n) (place 0 0)

-- `ex p.` so many times over pt
abbrev quantified_times : ℕ → PlainFormulaKind
quantified_times zero = FormulaPt
quantified_times (suc n) = FormulaQuantified Exists (named 112 0) (quantified_times n) (place 0 0)

abbrev goal_alone : PlainFormulaKind → PlainFile
goal_alone goal = file_of [] [] goal (place 6 8) (place 6 8)

depth_512 : fault_of_goal (goal_alone (denied 510)) ≡ None
depth_512 = refl

depth_513 : fault_of_goal (goal_alone (denied 511)) ≡ Some (Depth 6)
depth_513 = refl

slots_32 : fault_of_goal (goal_alone (quantified_times 32)) ≡ None
slots_32 = refl

slots_33 : fault_of_goal (goal_alone (quantified_times 33)) ≡ Some (Slots 6)
slots_33 = refl

-- a goal that is too deep and has too many slots is too deep first
depth_before_slots : fault_of_goal (goal_alone (quantified_times 511)) ≡ Some (Depth 6)
depth_before_slots = refl
