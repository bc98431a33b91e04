-- The measure of a text bounds its core: the number of its steps, the depth of its quantifiers, and the slots that its propositions name.
use Rattle.std.proofs.Common.{◌≡◌, ℕ, suc, true, false, ◌+◌, ◌*◌, ◌≤◌, max, List, [], ◌∷◌, ◌++◌, Option, Some, None, length, map, refl, sym, subst, arith}
use Rattle.std.specs.List.{zip}
use Rattle.dcv_syntax.specs.declared.names.Name.{Name}
use Rattle.dcv_syntax.specs.declared.names.Span.{Span}
use Rattle.dcv_syntax.specs.declared.propositions.Connective.{Connective}
use Rattle.dcv_syntax.specs.declared.formulas.Bracket.TheVariants.{Point}
use Rattle.dcv_syntax.specs.declared.formulas.Unary.{Unary}
use Rattle.dcv_syntax.specs.declared.formulas.Unary.TheVariants.{Not, Star, Somewhere, Everywhere}
use Rattle.dcv_syntax.specs.declared.formulas.Quantifier.{Quantifier}
use Rattle.dcv_syntax.specs.declared.formulas.Quantifier.TheVariants.{Exists, ForAll}
use Rattle.dcv_syntax.specs.Spans.{covering}
use Rattle.dcv_syntax.specs.Plain.{PlainPropKind, PropConstant, PropCall, PropNot, PropJoined, PropImplies, PropShifted, PlainArguments, no_arguments, argument}
use Rattle.dcv_syntax.specs.Plain.{PlainPropOperands, no_prop_operands, prop_operand, PlainFormulaKind, FormulaConstant, FormulaPt, FormulaExt, FormulaBracketed}
use Rattle.dcv_syntax.specs.Plain.{FormulaSlen, FormulaCounted, FormulaCall, FormulaApplied, FormulaJoined, FormulaImplies, FormulaChop, FormulaQuantified}
use Rattle.dcv_syntax.specs.Plain.{PlainFormulaOperands, no_formula_operands, formula_operand, arguments_of, PlainMacroBody, FormulaBody, PropBody, PlainMacro, PlainFile}
use Rattle.dcv_logic.specs.Environment.{found}
use Rattle.dcv_logic.specs.Connectives.{of_none}
use Rattle.dcv_core.specs.Core.{PlainTruth, TruthConstant, TruthSlot, TruthNot, TruthJoined, TruthShift, PlainTruths, no_truths, truth_operand}
use Rattle.dcv_core.specs.Core.{PlainBasic, BasicConstant, BasicBracketed, CoreTree, CoreAtom, CoreJoined, CoreChop}
use Rattle.dcv_core.specs.Steps.{steps_before, nesting}
use Rattle.dcv_core.specs.Slots.{IsBelow, AreBelow, BasicIsBelow, CoreIsBelow}
use Rattle.dcv_scope.specs.CoreOf.{Expansion, PropExpansion, FormulaExpansion, Sight, bind_slot, bind_arguments, truth_of_call, truth_of, argument_truths, operand_truths}
use Rattle.dcv_scope.specs.CoreOf.{core_of_macro, applied_core, quantified_core, core_of, list_core, joined, body_expansion, with_expansions, declared_slots}
use Rattle.dcv_scope.specs.CoreOf.{goal_sight, expanded_file}
use Rattle.dcv_scope.specs.Measures.{Measure, leaf, under, quantified, nothing, beside, Measured, measure_of_macro, measure_of_name, measure_of_prop, measures_of_arguments}
use Rattle.dcv_scope.specs.Measures.{unary_nodes, unary_depth, quantifier_nodes, name_in_sight, measure_of_formula, measure_of_operands, measure_of_body, with_measures}
use Rattle.dcv_scope.specs.Measures.{measure_of_file}
use Rattle.dcv_scope.proofs.Matching.{Both, AllBoth, Matched, found_both, parameters_match, match_still}

-- over k slots the core has fewer than twice as many steps as the measure has nodes
pub record Fits (k : ℕ) (core : CoreTree) (m : Measure) : Type 0 where
  pub steps : steps_before core + 2 ≤ 2 * m.size
  pub depth : nesting core ≤ m.quantifiers
  pub below : CoreIsBelow k core

-- a proposition has a node
abbrev TruthFits : ℕ → Measure → PlainTruth → Type 0
TruthFits k m p = (1 ≤ m.size) × IsBelow k p

mutual
  more_slots : (p : PlainTruth) (k j : ℕ) → k ≤ j → IsBelow k p → IsBelow j p
  more_slots (TruthConstant truth) k j le b = tt
  more_slots (TruthSlot slot) k j le b = omega (arith, le, b)
  more_slots (TruthNot p) k j le b = more_slots p k j le b
  more_slots (TruthJoined connective operands) k j le b = more_slots_in operands k j le b
  more_slots (TruthShift direction p span) k j le b = more_slots p k j le b

  more_slots_in : (operands : PlainTruths) (k j : ℕ) → k ≤ j → AreBelow k operands → AreBelow j operands
  more_slots_in no_truths k j le b = tt
  more_slots_in (truth_operand p operands) k j le b = (more_slots p k j le b.0, more_slots_in operands k j le b.1)

-- wherever a macro is called over the declared slots or more, with arguments that fit
abbrev MacroFits : ℕ → (List Measure → Measure) → Expansion → Type 0
MacroFits declared m (PropExpansion c) =
    (k : ℕ) → declared ≤ k → (ms : List Measure) (truths : List PlainTruth) → AllBoth (TruthFits k) ms truths → TruthFits k (m ms) (c truths)
MacroFits declared m (FormulaExpansion c) =
    (k : ℕ) → declared ≤ k → (ms : List Measure) (truths : List PlainTruth) → AllBoth (TruthFits k) ms truths → Fits k (c k truths) (m ms)

record SightFits (declared k : ℕ) (measured : Measured) (sight : Sight) : Type 0 where
  enough : declared ≤ k
  names : Matched (TruthFits k) measured.names sight.truths
  macros : Matched (MacroFits declared) measured.macros sight.macros

more_names : (k j : ℕ) (measured : Measured) (sight : Sight) → k ≤ j → Matched (TruthFits k) measured.names sight.truths → Matched (TruthFits j) measured.names sight.truths
more_names k j measured sight le names = match_still (λ m p fits. (fits.0, more_slots p k j le fits.1)) measured.names sight.truths names

-- ---- propositions

call_fits : (declared k : ℕ) (n : Option Measure) (p : Option PlainTruth) (m : Option (List Measure → Measure)) (c : Option Expansion) (ms : List Measure) (truths : List PlainTruth)
    → declared ≤ k → Both (TruthFits k) n p → Both (MacroFits declared) m c → AllBoth (TruthFits k) ms truths → TruthFits k (measure_of_name n m ms) (truth_of_call p c truths)
call_fits declared k (Some n) (Some p) m c ms [] le name macro all = name
call_fits declared k (Some n) (Some p) m c ms (q ∷ truths) le name macro all = (name.0, tt)
call_fits declared k None None None None ms truths le name macro all = (omega arith, tt)
call_fits declared k None None (Some m) (Some (PropExpansion c)) ms truths le name macro all = macro k le ms truths all
call_fits declared k None None (Some m) (Some (FormulaExpansion c)) ms truths le name macro all = (omega (arith, (macro k le ms truths all).steps), tt)
call_fits declared k None None None (Some c) ms truths le name macro all = absurd macro
call_fits declared k None None (Some m) None ms truths le name macro all = absurd macro
call_fits declared k None (Some p) m c ms truths le name macro all = absurd name
call_fits declared k (Some n) None m c ms truths le name macro all = absurd name

module _ (declared k : ℕ) (measured : Measured) (sight : Sight) (fits : SightFits declared k measured sight) where
  mutual
    truth_fits : (kind : PlainPropKind) → TruthFits k (measure_of_prop measured kind) (truth_of sight kind)
    truth_fits (PropConstant truth) = (omega arith, tt)
    truth_fits (PropCall name arguments) =
        call_fits declared k (found measured.names name.text) (found sight.truths name.text) (found measured.macros name.text) (found sight.macros name.text)
        (measures_of_arguments measured arguments) (argument_truths sight arguments) fits.enough
        (found_both (TruthFits k) measured.names sight.truths name.text fits.names) (found_both (MacroFits declared) measured.macros sight.macros name.text fits.macros)
        (arguments_fit arguments)
    truth_fits (PropNot p span) = (omega arith, (truth_fits p).1)
    truth_fits (PropJoined connective operands) = (omega arith, operands_fit operands)
    truth_fits (PropImplies p p_span q q_span) = (omega arith, ((truth_fits p).1, ((truth_fits q).1, tt)))
    truth_fits (PropShifted direction form p span) = (omega arith, (truth_fits p).1)

    arguments_fit : (arguments : PlainArguments) → AllBoth (TruthFits k) (measures_of_arguments measured arguments) (argument_truths sight arguments)
    arguments_fit no_arguments = tt
    arguments_fit (argument p span arguments) = (truth_fits p, arguments_fit arguments)

    operands_fit : (operands : PlainPropOperands) → AreBelow k (operand_truths sight operands)
    operands_fit no_prop_operands = tt
    operands_fit (prop_operand p span outer operands) = ((truth_fits p).1, operands_fit operands)

-- ---- formulas

atom_fits : (k : ℕ) (basic : PlainBasic) (span : Span) (m : Measure) → 1 ≤ m.size → BasicIsBelow k basic → Fits k (CoreAtom basic span) m
atom_fits k basic span m some below = record { steps = omega (arith, some); depth = omega arith; below = below }

macro_fits : (declared k : ℕ) (m : Option (List Measure → Measure)) (c : Option Expansion) (ms : List Measure) (truths : List PlainTruth) (span : Span)
    → declared ≤ k → Both (MacroFits declared) m c → AllBoth (TruthFits k) ms truths → Fits k (core_of_macro c k truths span) (measure_of_macro m ms)
macro_fits declared k None None ms truths span le macro all = atom_fits k (BasicConstant false) span leaf (omega arith) tt
macro_fits declared k (Some m) (Some (PropExpansion c)) ms truths span le macro all = atom_fits k (BasicConstant false) span (m ms) (macro k le ms truths all).0 tt
macro_fits declared k (Some m) (Some (FormulaExpansion c)) ms truths span le macro all = macro k le ms truths all
macro_fits declared k None (Some c) ms truths span le macro all = absurd macro
macro_fits declared k (Some m) None ms truths span le macro all = absurd macro

applied_fits : (unary : Unary) (k : ℕ) (core : CoreTree) (span : Span) (m : Measure) → Fits k core m → Fits k (applied_core unary core span) (under (unary_nodes unary) (unary_depth unary) m)
applied_fits Not k core span m f = record { steps = omega (arith, f.steps); depth = f.depth; below = f.below }
applied_fits Star k core span m f = record { steps = omega (arith, f.steps); depth = f.depth; below = f.below }
applied_fits Somewhere k core span m f = record { steps = omega (arith, f.steps); depth = omega (arith, f.depth); below = ((tt, f.below), tt) }
applied_fits Everywhere k core span m f = record { steps = omega (arith, f.steps); depth = omega (arith, f.depth); below = ((tt, f.below), tt) }

quantified_fits : (quantifier : Quantifier) (k : ℕ) (core : CoreTree) (span : Span) (m : Measure) → Fits (k + 1) core m
    → Fits k (quantified_core quantifier core span) (quantified (under (quantifier_nodes quantifier) (quantifier_nodes quantifier) m))
quantified_fits Exists k core span m f = record { steps = omega (arith, f.steps); depth = omega (arith, f.depth); below = f.below }
quantified_fits ForAll k core span m f = record { steps = omega (arith, f.steps); depth = omega (arith, f.depth); below = f.below }

-- a join of two cores that is one step more
record IsJoin (join : CoreTree → CoreTree → Span → CoreTree) : Type 0 where
  steps : (c d : CoreTree) (span : Span) → steps_before (join c d span) ≡ suc (suc (steps_before c + steps_before d))
  depth : (c d : CoreTree) (span : Span) → nesting (join c d span) ≡ max (nesting c) (nesting d)
  below : (k : ℕ) (c d : CoreTree) (span : Span) → CoreIsBelow k c → CoreIsBelow k d → CoreIsBelow k (join c d span)

connective_joins : (connective : Connective) → IsJoin (CoreJoined connective)
connective_joins connective = record { steps = λ c d span. refl; depth = λ c d span. refl; below = λ k c d span one two. (one, two) }

chop_joins : IsJoin CoreChop
chop_joins = record { steps = λ c d span. refl; depth = λ c d span. refl; below = λ k c d span one two. (one, two) }

name_fits : (declared : ℕ) (measured : Measured) (sight : Sight) (name : List ℕ) → SightFits declared sight.slots measured sight
    → SightFits declared (sight.slots + 1) (name_in_sight measured name) (bind_slot sight name)
name_fits declared measured sight name fits = record {
  enough = omega (arith, fits.enough);
  names = (refl, ((omega arith, omega arith), more_names sight.slots (sight.slots + 1) measured sight (omega arith) fits.names));
  macros = fits.macros;
}

module _ (declared : ℕ) where
  mutual
    formula_fits : (kind : PlainFormulaKind) (span : Span) (measured : Measured) (sight : Sight) → SightFits declared sight.slots measured sight
        → Fits sight.slots (core_of sight kind span) (measure_of_formula measured kind)
    formula_fits (FormulaConstant truth) span measured sight fits = atom_fits sight.slots _ span leaf (omega arith) tt
    formula_fits FormulaPt span measured sight fits = atom_fits sight.slots _ span (under 1 1 leaf) (omega arith) tt
    formula_fits FormulaExt span measured sight fits = atom_fits sight.slots _ span (under 1 1 leaf) (omega arith) tt
    formula_fits (FormulaBracketed bracket p) span measured sight fits =
        atom_fits sight.slots _ span (under 1 1 (measure_of_prop measured p.kind)) (omega arith) (truth_fits declared sight.slots measured sight fits p.kind).1
    formula_fits (FormulaSlen relation n) span measured sight fits = atom_fits sight.slots _ span leaf (omega arith) tt
    formula_fits (FormulaCounted counting p relation n) span measured sight fits =
        atom_fits sight.slots _ span (under 1 1 (measure_of_prop measured p.kind)) (omega arith) (truth_fits declared sight.slots measured sight fits p.kind).1
    formula_fits (FormulaCall name arguments) span measured sight fits =
        macro_fits declared sight.slots (found measured.macros name.text) (found sight.macros name.text) (measures_of_arguments measured (arguments_of arguments))
        (argument_truths sight (arguments_of arguments)) span fits.enough (found_both (MacroFits declared) measured.macros sight.macros name.text fits.macros)
        (arguments_fit declared sight.slots measured sight fits (arguments_of arguments))
    formula_fits (FormulaApplied unary d d_span) span measured sight fits =
        applied_fits unary sight.slots (core_of sight d d_span) span (measure_of_formula measured d) (formula_fits d d_span measured sight fits)
    formula_fits (FormulaJoined connective operands) span measured sight fits =
        list_fits operands (CoreJoined connective) (connective_joins connective) (BasicConstant (of_none connective)) (λ k. tt) span measured sight fits
    formula_fits (FormulaImplies c c_span d d_span) span measured sight fits =
        let one = formula_fits c c_span measured sight fits in
        let two = formula_fits d d_span measured sight fits in
        record { steps = omega (arith, one.steps, two.steps); depth = omega (arith, one.depth, two.depth); below = (one.below, two.below) }
    formula_fits (FormulaChop operands) span measured sight fits =
        list_fits operands CoreChop chop_joins (BasicBracketed Point (TruthConstant true)) (λ k. tt) span measured sight fits
    formula_fits (FormulaQuantified quantifier name d d_span) span measured sight fits =
        quantified_fits quantifier sight.slots (core_of (bind_slot sight name.text) d d_span) span (measure_of_formula (name_in_sight measured name.text) d)
        (formula_fits d d_span (name_in_sight measured name.text) (bind_slot sight name.text) (name_fits declared measured sight name.text fits))

    list_fits : (operands : PlainFormulaOperands) (join : CoreTree → CoreTree → Span → CoreTree) → IsJoin join → (unit : PlainBasic) → ((k : ℕ) → BasicIsBelow k unit) → (span : Span)
        (measured : Measured) (sight : Sight) → SightFits declared sight.slots measured sight
        → Fits sight.slots (list_core sight join unit operands span) (under 1 1 (measure_of_operands measured operands))
    list_fits no_formula_operands join is unit below span measured sight fits = atom_fits sight.slots unit span (under 1 1 nothing) (omega arith) (below sight.slots)
    list_fits (formula_operand d d_span outer operands) join is unit below span measured sight fits =
        let whole = joined_fits operands join is outer (core_of sight d d_span) (measure_of_formula measured d) measured sight fits (formula_fits d d_span measured sight fits) in
        record { steps = omega (arith, whole.steps); depth = whole.depth; below = whole.below }

    -- what is joined so far fits, and so does the join with those to come
    joined_fits : (operands : PlainFormulaOperands) (join : CoreTree → CoreTree → Span → CoreTree) → IsJoin join → (first : Span) (so_far : CoreTree) (m : Measure)
        (measured : Measured) (sight : Sight) → SightFits declared sight.slots measured sight → Fits sight.slots so_far m
        → Fits sight.slots (joined sight join first operands so_far) (beside m (measure_of_operands measured operands))
    joined_fits no_formula_operands join is first so_far m measured sight fits f =
        record { steps = omega (arith, f.steps); depth = omega (arith, f.depth); below = f.below }
    joined_fits (formula_operand d d_span outer operands) join is first so_far m measured sight fits f =
        let here = formula_fits d d_span measured sight fits in
        let core = core_of sight d d_span in
        let reach = covering first outer in
        let whole = joined_fits operands join is first (join so_far core reach) (beside m (measure_of_formula measured d)) measured sight fits (record {
          steps = omega (arith, f.steps, here.steps, is.steps so_far core reach);
          depth = omega (arith, f.depth, here.depth, is.depth so_far core reach);
          below = is.below sight.slots so_far core reach f.below here.below;
        }) in
        record { steps = omega (arith, whole.steps); depth = omega (arith, whole.depth); below = whole.below }

  -- ---- files

  arguments_known : (k : ℕ) (measured : Measured) (sight : Sight) (parameters : List (List ℕ)) (ms : List Measure) (truths : List PlainTruth) (slots : ℕ) → declared ≤ k
      → SightFits declared declared measured sight → AllBoth (TruthFits k) ms truths
      → SightFits declared k (record measured { names = zip parameters ms ++ measured.names }) (record (bind_arguments sight parameters truths) { slots = slots })
  arguments_known k measured sight parameters ms truths slots le fits all = record {
    enough = le;
    names = parameters_match (TruthFits k) parameters ms truths measured.names sight.truths all (more_names declared k measured sight le fits.names);
    macros = fits.macros;
  }

  body_fits : (measured : Measured) (sight : Sight) (parameters : List (List ℕ)) (body : PlainMacroBody) → SightFits declared declared measured sight
      → MacroFits declared (λ ms. measure_of_body (record measured { names = zip parameters ms ++ measured.names }) body) (body_expansion sight parameters body)
  body_fits measured sight parameters (FormulaBody d) fits = λ k le ms truths all. formula_fits d.kind d.span _ _ (arguments_known k measured sight parameters ms truths k le fits all)
  body_fits measured sight parameters (PropBody p) fits = λ k le ms truths all.
      truth_fits declared k _ _ (arguments_known k measured sight parameters ms truths sight.slots le fits all) p.kind

  macros_fit : (macros : List PlainMacro) (measured : Measured) (sight : Sight) → SightFits declared declared measured sight
      → SightFits declared declared (with_measures measured macros) (with_expansions sight macros)
  macros_fit [] measured sight fits = fits
  macros_fit (m ∷ macros) measured sight fits = macros_fit macros _ _ (record {
    enough = fits.enough;
    names = fits.names;
    macros = (refl, (body_fits measured sight (map (λ (p : Name). p.text) m.parameters) m.body fits, fits.macros));
  })

declared_fit : (k : ℕ) (names : List Name) (slot : ℕ) → slot + length names ≤ k → Matched (TruthFits k) (map (λ (n : Name). (n.text, leaf)) names) (declared_slots slot names)
declared_fit k [] slot le = tt
declared_fit k (n ∷ names) slot le = (refl, ((omega arith, omega (arith, le)), declared_fit k names (slot + 1) (omega (arith, le))))

pub goal_slots : (macros : List PlainMacro) (sight : Sight) → (with_expansions sight macros).slots ≡ sight.slots
goal_slots [] sight = refl
goal_slots (m ∷ macros) sight = goal_slots macros _

pub file_fits : (file : PlainFile) → Fits (length file.variables) (expanded_file file) (measure_of_file file)
file_fits file =
    let k = length file.variables in
    let slots : (goal_sight file).slots ≡ k = goal_slots file.macros _ in
    let measured : Measured = with_measures (record { names = map (λ (n : Name). (n.text, leaf)) file.variables; macros = [] }) file.macros in
    let fits : SightFits k k measured (goal_sight file) =
    macros_fit k file.macros _ _ (record { enough = omega arith; names = declared_fit k file.variables 0 (omega arith); macros = tt }) in
    subst (λ n. Fits n (expanded_file file) (measure_of_file file)) slots
    (formula_fits k file.goal.formula.kind file.goal.formula.span measured (goal_sight file) (subst (λ n. SightFits k n measured (goal_sight file)) (sym slots) fits))
