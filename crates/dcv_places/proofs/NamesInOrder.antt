-- The occurrences of names of a file that a text spells ascend by offset.
use Rattle.std.proofs.Common.{◌≡◌, ℕ, zero, suc, ◌+◌, ◌<◌, List, [], ◌∷◌, ◌++◌, map, get_or, refl, sym, ap, ◌∙◌, subst, arith}
use Rattle.std.specs.List.Sorted.{IsStrictlyIncreasing}
use Rattle.std.proofs.lemmas.List.{map-append, append_assoc}
use Rattle.dcv_syntax.specs.declared.names.Name.{Name}
use Rattle.dcv_syntax.specs.Plain.{PlainPropKind, PropConstant, PropCall, PropNot, PropJoined, PropImplies, PropShifted, PlainArguments, no_arguments}
use Rattle.dcv_syntax.specs.Plain.{argument, arguments_of, PlainPropOperands, no_prop_operands, prop_operand}
use Rattle.dcv_syntax.specs.Plain.{PlainFormulaKind, FormulaConstant, FormulaPt, FormulaExt, FormulaBracketed, FormulaSlen, FormulaCounted}
use Rattle.dcv_syntax.specs.Plain.{FormulaCall, FormulaApplied, FormulaJoined, FormulaImplies, FormulaChop, FormulaQuantified}
use Rattle.dcv_syntax.specs.Plain.{PlainFormulaOperands, no_formula_operands, formula_operand}
use Rattle.dcv_syntax.specs.Plain.{PlainMacroBody, FormulaBody, PropBody, PlainMacro, PlainFile}
use Rattle.dcv_scope.specs.Names.{InSight, Role, Declared, Parameter, Defined, Occurrence, occurs, in_sight_too, occurrences_in_prop}
use Rattle.dcv_scope.specs.Names.{occurrences_in_arguments, occurrences_in_prop_operands, occurrences_in_formula, occurrences_in_operands}
use Rattle.dcv_scope.specs.Names.{occurrences_in_list, occurrences_in_body, texts, occurrences_in_macro, behind_macro, occurrences_from}
use Rattle.dcv_scope.specs.Names.{nothing_in_sight, occurrences_in_file}
use Rattle.dcv_places.proofs.NamesRead.{prop_names, argument_names, prop_operand_names, formula_names, operand_names, body_names, macro_names}
use Rattle.dcv_places.proofs.NamesRead.{macros_names, file_names, Within, names_in_order}
use Rattle.dcv_places.specs.Laws.{NamesAscend}

-- ---- the names of the occurrences are those of the trees

abbrev names : List Occurrence → List Name
names = map (λ (o : Occurrence). o.name)

-- of two lists of occurrences
joined : (one two : List Occurrence) (first second : List Name) → names one ≡ first → names two ≡ second → names (one ++ two) ≡ first ++ second
joined one two first second same also = map-append (λ (o : Occurrence). o.name) one two ∙ (λ i. same i ++ also i)

mutual
  in_prop : (sight : InSight) (p : PlainPropKind) → names (occurrences_in_prop sight p) ≡ prop_names p
  in_prop sight (PropConstant truth) = refl
  in_prop sight (PropCall name arguments) = ap (λ ns. name ∷ ns) (in_arguments sight arguments)
  in_prop sight (PropNot p span) = in_prop sight p
  in_prop sight (PropJoined connective operands) = in_prop_operands sight operands
  in_prop sight (PropImplies p p_span q q_span) =
      joined (occurrences_in_prop sight p) (occurrences_in_prop sight q) (prop_names p) (prop_names q) (in_prop sight p) (in_prop sight q)
  in_prop sight (PropShifted direction form p span) = in_prop sight p

  in_arguments : (sight : InSight) (arguments : PlainArguments) → names (occurrences_in_arguments sight arguments) ≡ argument_names arguments
  in_arguments sight no_arguments = refl
  in_arguments sight (argument p span arguments) =
      joined (occurrences_in_prop sight p) (occurrences_in_arguments sight arguments) (prop_names p) (argument_names arguments) (in_prop sight p)
      (in_arguments sight arguments)

  in_prop_operands : (sight : InSight) (operands : PlainPropOperands)
      → names (occurrences_in_prop_operands sight operands) ≡ prop_operand_names operands
  in_prop_operands sight no_prop_operands = refl
  in_prop_operands sight (prop_operand p span outer operands) =
      joined (occurrences_in_prop sight p) (occurrences_in_prop_operands sight operands) (prop_names p) (prop_operand_names operands)
      (in_prop sight p) (in_prop_operands sight operands)

mutual
  in_formula : (d : PlainFormulaKind) (sight : InSight) → names (occurrences_in_formula sight d) ≡ formula_names d
  in_formula (FormulaConstant truth) sight = refl
  in_formula FormulaPt sight = refl
  in_formula FormulaExt sight = refl
  in_formula (FormulaBracketed bracket p) sight = in_prop sight p.kind
  in_formula (FormulaSlen relation n) sight = refl
  in_formula (FormulaCounted which p relation n) sight = in_prop sight p.kind
  in_formula (FormulaCall name arguments) sight = ap (λ ns. name ∷ ns) (in_arguments sight (arguments_of arguments))
  in_formula (FormulaApplied unary d span) sight = in_formula d sight
  in_formula (FormulaJoined connective operands) sight = in_operands operands sight
  in_formula (FormulaImplies c c_span d d_span) sight =
      joined (occurrences_in_formula sight c) (occurrences_in_formula sight d) (formula_names c) (formula_names d) (in_formula c sight)
      (in_formula d sight)
  in_formula (FormulaChop operands) sight = in_operands operands sight
  in_formula (FormulaQuantified quantifier name d span) sight = ap (λ ns. name ∷ ns) (in_formula d (in_sight_too sight name.text))

  in_operands : (operands : PlainFormulaOperands) (sight : InSight) → names (occurrences_in_operands sight operands) ≡ operand_names operands
  in_operands no_formula_operands sight = refl
  in_operands (formula_operand d span outer operands) sight =
      joined (occurrences_in_formula sight d) (occurrences_in_operands sight operands) (formula_names d) (operand_names operands)
      (in_formula d sight) (in_operands operands sight)

in_list : (role : List (List ℕ) → Role) (sight : InSight) (list : List Name) (before : List (List ℕ))
    → names (occurrences_in_list role sight before list) ≡ list
in_list role sight [] before = refl
in_list role sight (name ∷ list) before = ap (λ ns. name ∷ ns) (in_list role sight list (before ++ name.text ∷ []))

in_body : (sight : InSight) (body : PlainMacroBody) → names (occurrences_in_body sight body) ≡ body_names body
in_body sight (FormulaBody d) = in_formula d.kind sight
in_body sight (PropBody p) = in_prop sight p.kind

in_macro : (sight : InSight) (m : PlainMacro) → names (occurrences_in_macro sight m) ≡ macro_names m
in_macro sight m =
    let inside : InSight = record sight { defining = m.name.text ∷ [] } in
    let body : InSight = record inside { variables = texts m.parameters ++ sight.variables } in
    joined (occurs m.name Defined sight ∷ occurrences_in_list Parameter inside [] m.parameters) (occurrences_in_body body m.body)
    (m.name ∷ m.parameters) (body_names m.body)
    (ap (λ ns. m.name ∷ ns) (in_list Parameter inside m.parameters [])) (in_body body m.body)

-- the names of the macros and of the goal
behind_variables : (macros : List PlainMacro) (sight : InSight) (goal : PlainFormulaKind)
    → names (occurrences_from sight macros goal) ≡ macros_names macros ++ formula_names goal
behind_variables [] sight goal = in_formula goal sight
behind_variables (m ∷ macros) sight goal =
    joined (occurrences_in_macro sight m) (occurrences_from (behind_macro sight m) macros goal) (macro_names m)
    (macros_names macros ++ formula_names goal)
    (in_macro sight m) (behind_variables macros (behind_macro sight m) goal)
    ∙ sym (append_assoc (macro_names m) (macros_names macros) (formula_names goal))

in_file : (file : PlainFile) → names (occurrences_in_file file) ≡ file_names file
in_file file =
    let sight : InSight = record nothing_in_sight { variables = texts file.variables } in
    joined (occurrences_in_list Declared nothing_in_sight [] file.variables) (occurrences_from sight file.macros file.goal.formula.kind)
    file.variables (macros_names file.macros ++ formula_names file.goal.formula.kind)
    (in_list Declared nothing_in_sight file.variables []) (behind_variables file.macros sight file.goal.formula.kind)

-- ---- what is in order ascends

abbrev starts : List Occurrence → List ℕ
starts = map (λ (o : Occurrence). o.name.span.start)

ascending : (low : ℕ) (occurrences : List Occurrence) (high : ℕ) → Within low (names occurrences) high → IsStrictlyIncreasing (starts occurrences)
ascending low [] high h k within = absurd (omega (arith, within))
ascending low (o ∷ []) high h k within = absurd (omega (arith, within))
ascending low (o ∷ p ∷ occurrences) high h zero within = omega (arith, h.1.0)
ascending low (o ∷ p ∷ occurrences) high h (suc k) within =
    let rest = ascending (suc o.name.span.start) (p ∷ occurrences) high h.1 k (omega (arith, within)) in
    let e : suc (k + 1) ≡ suc k + 1 = omega arith in
    subst (λ n. get_or (starts (p ∷ occurrences)) k 0 < get_or (starts (o ∷ p ∷ occurrences)) n 0) e rest

pub names_ascend : NamesAscend
names_ascend text file spelled =
    let (high, order) = names_in_order text file spelled in
    ascending 0 (occurrences_in_file file) high (subst (λ (ns : List Name). Within 0 ns high) (sym (in_file file)) order)
