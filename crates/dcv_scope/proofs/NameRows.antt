-- Faults along the code's lists are those along the plain tree's operands.
use Rattle.std.proofs.Common.{◌≡◌, ℕ, List, [], ◌∷◌, ◌++◌, Option, Some, None, Vec, Global, length, map, refl, sym, ap, ◌∙◌, ◌+◌, ◌<◌, zero, suc, drop, arith}
use Rattle.std.specs.Option.{option_or}
use Rattle.std.proofs.lemmas.List.{length-map, map-append, append-nil, append_assoc}
use Rattle.std.specs.Prelude.{slice_index_or}
use Rattle.dcv_syntax.specs.declared.names.Name.{Name}
use Rattle.dcv_syntax.specs.declared.files.Macro.{Macro}
use Rattle.dcv_syntax.specs.declared.files.File.{File}
use Rattle.dcv_syntax.specs.declared.propositions.Prop.{Prop}
use Rattle.dcv_syntax.specs.declared.propositions.PropOperand.{PropOperand}
use Rattle.dcv_syntax.specs.declared.propositions.Connective.{Connective}
use Rattle.dcv_syntax.specs.declared.propositions.PropKind.{Call, Joined}
use Rattle.dcv_syntax.specs.declared.formulas.FormulaOperand.{FormulaOperand}
use Rattle.dcv_syntax.specs.declared.formulas.FormulaKind.{Call as CallFormula, Joined as JoinedFormula, Chop}
use Rattle.dcv_syntax.specs.Plain.{PlainMacro, PlainFormulaKind, arguments_of, prop_operands_of, formula_operands_of}
use Rattle.dcv_syntax.specs.Views.{plain_prop_kind, plain_prop, plain_prop_operand, plain_formula_kind, plain_formula_operand, plain_macro, plain_file}
use Rattle.dcv_syntax.proofs.PlainRows.{plain_call, plain_prop_joined, plain_joined, plain_chop}
use Rattle.dcv_scope.specs.declared.faults.ScopeFault.{ScopeFault}
use Rattle.dcv_scope.specs.Names.{InSight, Occurrence, Declared, Parameter, Defined, texts, nothing_in_sight, macro_in_sight, behind_macro, occurrences_in_macro, occurrences_in_body, occurrences_from, fault_of_names, occurrences_in_list, AtFormula, AtProposition, occurs, fault_at, count_arguments, occurrences_in_prop, occurrences_in_arguments, occurrences_in_prop_operands, occurrences_in_formula, occurrences_in_operands, first_fault}
use Rattle.dcv_scope.specs.Sights.{first_of, top_sight, faults_of_macros}

or-assoc : (a b c : Option ScopeFault) → option_or (option_or a b) c ≡ option_or a (option_or b c)
or-assoc None b c = refl
or-assoc (Some a) b c = refl

-- the first fault of two lists
pub first_fault-append : (xs ys : List Occurrence) → first_fault (xs ++ ys) ≡ option_or (first_fault xs) (first_fault ys)
first_fault-append [] ys = refl
first_fault-append (x ∷ xs) ys = ap (option_or (fault_at x)) (first_fault-append xs ys) ∙ sym (or-assoc (fault_at x) (first_fault xs) (first_fault ys))

count_arguments-list : (props : List Prop) → count_arguments (arguments_of (map plain_prop props)) ≡ length props
count_arguments-list [] = refl
count_arguments-list (p ∷ props) = ap (λ n. 1 + n) (count_arguments-list props) ∙ omega arith

module _ (sight : InSight) where
  abbrev pub fault_in : Prop → Option ScopeFault
  fault_in p = first_fault (occurrences_in_prop sight (plain_prop_kind p.kind))

  abbrev pub fault_in_formula : FormulaOperand → Option ScopeFault
  fault_in_formula o = first_fault (occurrences_in_formula sight (plain_formula_kind o.formula.kind))

  pub arguments-list : (props : List Prop) → first_fault (occurrences_in_arguments sight (arguments_of (map plain_prop props))) ≡ first_of fault_in props
  arguments-list [] = refl
  arguments-list (p ∷ props) =
      first_fault-append (occurrences_in_prop sight (plain_prop_kind p.kind)) (occurrences_in_arguments sight (arguments_of (map plain_prop props)))
      ∙ ap (option_or (fault_in p)) (arguments-list props)

  operands-list : (operands : List PropOperand) → first_fault (occurrences_in_prop_operands sight (prop_operands_of (map plain_prop_operand operands)))
      ≡ first_of (λ (o : PropOperand). first_fault (occurrences_in_prop sight (plain_prop_kind o.prop.kind))) operands
  operands-list [] = refl
  operands-list (o ∷ operands) =
      first_fault-append (occurrences_in_prop sight (plain_prop_kind o.prop.kind)) (occurrences_in_prop_operands sight (prop_operands_of (map plain_prop_operand operands)))
      ∙ ap (option_or (first_fault (occurrences_in_prop sight (plain_prop_kind o.prop.kind)))) (operands-list operands)

  formulas-list : (operands : List FormulaOperand) → first_fault (occurrences_in_operands sight (formula_operands_of (map plain_formula_operand operands))) ≡ first_of fault_in_formula operands
  formulas-list [] = refl
  formulas-list (o ∷ operands) =
      first_fault-append (occurrences_in_formula sight (plain_formula_kind o.formula.kind)) (occurrences_in_operands sight (formula_operands_of (map plain_formula_operand operands)))
      ∙ ap (option_or (fault_in_formula o)) (formulas-list operands)

  pub names-Call : (name : Name) (arguments : Vec Prop Global) → first_fault (occurrences_in_prop sight (plain_prop_kind (Call name arguments)))
      ≡ option_or (fault_at (occurs name (AtProposition (length arguments.items)) sight)) (first_of fault_in arguments.items)
  names-Call name arguments =
      ap (λ kind. first_fault (occurrences_in_prop sight kind)) (plain_call name arguments)
      ∙ (λ i. option_or (fault_at (occurs name (AtProposition (count_arguments-list arguments.items i)) sight)) (arguments-list arguments.items i))

  pub names-Joined : (connective : Connective) (operands : Vec PropOperand Global) → first_fault (occurrences_in_prop sight (plain_prop_kind (Joined connective operands)))
      ≡ first_of (λ (o : PropOperand). first_fault (occurrences_in_prop sight (plain_prop_kind o.prop.kind))) operands.items
  names-Joined connective operands = ap (λ kind. first_fault (occurrences_in_prop sight kind)) (plain_prop_joined connective operands) ∙ operands-list operands.items

  pub formula-Call : (name : Name) (arguments : Vec Prop Global) → first_fault (occurrences_in_formula sight (plain_formula_kind (CallFormula name arguments)))
      ≡ option_or (fault_at (occurs name (AtFormula (length arguments.items)) sight)) (first_of fault_in arguments.items)
  formula-Call name arguments =
      (λ i. option_or (fault_at (occurs name (AtFormula (length-map arguments.items plain_prop i)) sight)) (arguments-list arguments.items i))

  pub formula-Joined : (connective : Connective) (operands : Vec FormulaOperand Global)
      → first_fault (occurrences_in_formula sight (plain_formula_kind (JoinedFormula connective operands))) ≡ first_of fault_in_formula operands.items
  formula-Joined connective operands = ap (λ kind. first_fault (occurrences_in_formula sight kind)) (plain_joined operands connective) ∙ formulas-list operands.items

  pub formula-Chop : (operands : Vec FormulaOperand Global) → first_fault (occurrences_in_formula sight (plain_formula_kind (Chop operands))) ≡ first_of fault_in_formula operands.items
  formula-Chop operands = ap (λ kind. first_fault (occurrences_in_formula sight kind)) (plain_chop operands) ∙ formulas-list operands.items

pub ruleset rows = (names-Call, names-Joined, first_fault-append)

pub ruleset formula_rows = (formula-Call, formula-Joined, formula-Chop, first_fault-append)

-- ---- lists of names, one after another

pub drop-more : {X : Type 0} (xs : List X) (i : ℕ) (d : X) → i < length xs → drop i xs ≡ slice_index_or xs i d ∷ drop (i + 1) xs
drop-more [] i d lt = absurd (omega (arith, lt))
drop-more (x ∷ xs) zero d lt = refl
drop-more (x ∷ xs) (suc i) d lt =
    let next : suc (i + 1) ≡ suc i + 1 = omega arith in
    drop-more xs i d (omega (arith, lt)) ∙ ap (λ k. slice_index_or xs i d ∷ drop k (x ∷ xs)) next

-- ---- macros and files

pub macro_faults : (sight : InSight) (m : PlainMacro) → first_fault (occurrences_in_macro sight m)
    ≡ option_or (option_or (fault_at (occurs m.name Defined sight)) (first_fault (occurrences_in_list Parameter (record sight { defining = m.name.text ∷ [] }) [] m.parameters)))
    (first_fault (occurrences_in_body (record sight { defining = m.name.text ∷ []; variables = texts m.parameters ++ sight.variables }) m.body))
macro_faults sight m =
    first_fault-append (occurs m.name Defined sight ∷ occurrences_in_list Parameter (record sight { defining = m.name.text ∷ [] }) [] m.parameters)
    (occurrences_in_body (record sight { defining = m.name.text ∷ []; variables = texts m.parameters ++ sight.variables }) m.body)

faults_from : (variables : List Name) (macros earlier : List Macro) (goal : PlainFormulaKind)
    → first_fault (occurrences_from (top_sight variables earlier) (map plain_macro macros) goal)
    ≡ option_or (faults_of_macros variables earlier macros) (first_fault (occurrences_in_formula (top_sight variables (earlier ++ macros)) goal))
faults_from variables [] earlier goal = ap (λ (ms : List Macro). first_fault (occurrences_in_formula (top_sight variables ms) goal)) (sym (append-nil earlier))
faults_from variables (m ∷ macros) earlier goal =
    let here = top_sight variables earlier in
    let first = first_fault (occurrences_in_macro here (plain_macro m)) in
    let later = first_fault (occurrences_in_formula (top_sight variables (earlier ++ (m ∷ macros))) goal) in
    let behind : behind_macro here (plain_macro m) ≡ top_sight variables (earlier ++ m ∷ []) =
    ap (λ ms. record here { macros = ms }) (sym (map-append (λ (x : Macro). macro_in_sight (plain_macro x)) earlier (m ∷ []))) in
    first_fault-append (occurrences_in_macro here (plain_macro m)) (occurrences_from (behind_macro here (plain_macro m)) (map plain_macro macros) goal)
    ∙ ap (λ sight. option_or first (first_fault (occurrences_from sight (map plain_macro macros) goal))) behind
    ∙ ap (option_or first) (faults_from variables macros (earlier ++ m ∷ []) goal)
    ∙ ap (λ (ms : List Macro). option_or first (option_or (faults_of_macros variables (earlier ++ m ∷ []) macros) (first_fault (occurrences_in_formula (top_sight variables ms) goal)))) (append_assoc earlier (m ∷ []) macros)
    ∙ sym (or-assoc first (faults_of_macros variables (earlier ++ m ∷ []) macros) later)

pub file_faults : (file : File) → fault_of_names (plain_file file)
    ≡ option_or (option_or (first_fault (occurrences_in_list Declared nothing_in_sight [] file.variables.items)) (faults_of_macros file.variables.items [] file.macros.items))
    (first_fault (occurrences_in_formula (top_sight file.variables.items file.macros.items) (plain_formula_kind file.goal.formula.kind)))
file_faults file =
    let variables = file.variables.items in
    let list = occurrences_in_list Declared nothing_in_sight [] variables in
    let goal = plain_formula_kind file.goal.formula.kind in
    first_fault-append list (occurrences_from (top_sight variables []) (map plain_macro file.macros.items) goal)
    ∙ ap (option_or (first_fault list)) (faults_from variables file.macros.items [] goal)
    ∙ sym (or-assoc (first_fault list) (faults_of_macros variables [] file.macros.items) (first_fault (occurrences_in_formula (top_sight variables file.macros.items) goal)))
