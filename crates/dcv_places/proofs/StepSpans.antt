-- Each step of a file's core begins where some form of the file does, a formula or a prior or next proposition.
use Rattle.std.proofs.Common.{◌≡◌, ℕ, zero, suc, ◌+◌, ◌<◌, Bool, true, false, List, [], ◌∷◌, ◌++◌, Option, None, Some, map, length, subst}
use Rattle.std.specs.Prelude.{⊤, slice_get, if◌then◌else◌}
use Rattle.std.specs.List.{AllByRecursion, zip, list_any}
use Rattle.std.specs.Option.{IfSome}
use Rattle.std.specs.Str.{bytes_eq}
use Rattle.dcv_logic.specs.Environment.{found}
use Rattle.dcv_logic.specs.Connectives.{of_none}
use Rattle.dcv_syntax.specs.declared.names.Name.{Name}
use Rattle.dcv_syntax.specs.declared.names.Span.{Span}
use Rattle.dcv_syntax.specs.Spans.{covering}
use Rattle.dcv_syntax.specs.declared.formulas.Bracket.TheVariants.{Point}
use Rattle.dcv_syntax.specs.declared.formulas.Unary.{Unary}
use Rattle.dcv_syntax.specs.declared.formulas.Unary.TheVariants.{Not, Star, Somewhere, Everywhere}
use Rattle.dcv_syntax.specs.declared.formulas.Quantifier.{Quantifier}
use Rattle.dcv_syntax.specs.declared.formulas.Quantifier.TheVariants.{Exists, ForAll}
use Rattle.dcv_syntax.specs.Plain.{PlainPropKind, PropConstant, PropCall, PropNot, PropJoined, PropImplies, PropShifted}
use Rattle.dcv_syntax.specs.Plain.{PlainArguments, no_arguments, argument, PlainPropOperands, no_prop_operands, prop_operand}
use Rattle.dcv_syntax.specs.Plain.{PlainFormulaKind, FormulaConstant, FormulaPt, FormulaExt, FormulaBracketed, FormulaSlen, FormulaCounted}
use Rattle.dcv_syntax.specs.Plain.{FormulaCall, FormulaApplied, FormulaJoined, FormulaImplies, FormulaChop, FormulaQuantified, arguments_of}
use Rattle.dcv_syntax.specs.Plain.{PlainFormulaOperands, no_formula_operands, formula_operand, PlainMacroBody, FormulaBody, PropBody, PlainMacro, PlainFile}
use Rattle.dcv_core.specs.Core.{PlainTruth, TruthConstant, TruthSlot, TruthNot, TruthJoined, TruthShift, PlainTruths, no_truths, truth_operand}
use Rattle.dcv_core.specs.Core.{PlainBasic, BasicConstant, BasicBracketed, BasicSlen, BasicCounted, BasicTrack, truth_in}
use Rattle.dcv_core.specs.Core.{CoreTree, CoreAtom, CoreNot, CoreJoined, CoreChop, CoreStar, CoreExists}
use Rattle.dcv_core.specs.Steps.{PlainStep, steps_before, steps_from, steps_of}
use Rattle.dcv_tracks.specs.Shifting.{Shift, same_shift, with_shift, collected, all_collected, collected_by, collected_of, shifts_in}
use Rattle.dcv_tracks.specs.Shifting.{placed, all_placed, placed_basic, placed_core, closed_from}
use Rattle.dcv_scope.specs.CoreOf.{Expansion, PropExpansion, FormulaExpansion, Sight, bind_slot, bind_arguments, truth_of_call, truth_of, argument_truths, operand_truths}
use Rattle.dcv_scope.specs.CoreOf.{core_of_macro, somewhere_core, applied_core, quantified_core, core_of, list_core, joined, body_expansion, expansion_of, with_expansions, declared_slots}
use Rattle.dcv_scope.specs.CoreOf.{goal_sight, expanded_file, core_of_file}
use Rattle.dcv_places.specs.Laws.{StepsBeginInText}
use Rattle.dcv_places.proofs.SpansRead.{file_begins, Begins, PropBegins, ArgumentsBegin, PropOperandsBegin, FormsBegin, OperandsBegin, BodyBegins, MacrosBegin, FileBegins}

-- ---- cores

abbrev mutual
  -- the shifts in a proposition do
  TruthBegins : ℕ → PlainTruth → Type 0
  TruthBegins high (TruthConstant truth) = ⊤
  TruthBegins high (TruthSlot slot) = ⊤
  TruthBegins high (TruthNot p) = TruthBegins high p
  TruthBegins high (TruthJoined connective operands) = TruthsBegin high operands
  TruthBegins high (TruthShift direction p span) = Begins high span × TruthBegins high p

  TruthsBegin : ℕ → PlainTruths → Type 0
  TruthsBegin high no_truths = ⊤
  TruthsBegin high (truth_operand p operands) = TruthBegins high p × TruthsBegin high operands

abbrev AllBegin : ℕ → List PlainTruth → Type 0
AllBegin high = AllByRecursion (TruthBegins high)

abbrev BasicBegins : ℕ → PlainBasic → Type 0
BasicBegins high basic = IfSome (truth_in basic) (TruthBegins high)

-- each form does, and each shift in its propositions
abbrev CoreBegins : ℕ → CoreTree → Type 0
CoreBegins high (CoreAtom basic span) = Begins high span × BasicBegins high basic
CoreBegins high (CoreNot d span) = Begins high span × CoreBegins high d
CoreBegins high (CoreJoined connective c d span) = Begins high span × (CoreBegins high c × CoreBegins high d)
CoreBegins high (CoreChop c d span) = Begins high span × (CoreBegins high c × CoreBegins high d)
CoreBegins high (CoreStar d span) = Begins high span × CoreBegins high d
CoreBegins high (CoreExists d span) = Begins high span × CoreBegins high d

-- ---- what is in sight

abbrev NamesBegin : ℕ → List (List ℕ × PlainTruth) → Type 0
NamesBegin high = AllByRecursion (λ named. TruthBegins high named.1)

-- what a macro stands for, wherever it is called with arguments that begin there
abbrev ExpansionBegins : ℕ → Expansion → Type 0
ExpansionBegins high (PropExpansion m) = (arguments : List PlainTruth) → AllBegin high arguments → TruthBegins high (m arguments)
ExpansionBegins high (FormulaExpansion m) = (slots : ℕ) (arguments : List PlainTruth) → AllBegin high arguments → CoreBegins high (m slots arguments)

record SightBegins (high : ℕ) (sight : Sight) : Type 0 where
  names : NamesBegin high sight.truths
  macros : AllByRecursion (λ named. ExpansionBegins high named.1) sight.macros

-- what holds of each entry holds of what a name is found to stand for
found_is : {X : Type 0} (P : X → Type 0) (entries : List (List ℕ × X)) (name : List ℕ) → AllByRecursion (λ entry. P entry.1) entries
    → IfSome (found entries name) P
found_is P [] name each = tt
found_is P (entry ∷ entries) name each = by (bytes_eq entry.0 name) (found_is P entries name each.1)
  where
    by : (same : Bool) → IfSome (found entries name) P → IfSome (if same then Some entry.1 else found entries name) P
    by true later = each.0
    by false later = later

-- each parameter stands for an argument that begins there
arguments_named : (high : ℕ) (parameters : List (List ℕ)) (arguments : List PlainTruth) (truths : List (List ℕ × PlainTruth)) → AllBegin high arguments
    → NamesBegin high truths → NamesBegin high (zip parameters arguments ++ truths)
arguments_named high [] arguments truths a h = h
arguments_named high (parameter ∷ parameters) [] truths a h = h
arguments_named high (parameter ∷ parameters) (p ∷ arguments) truths a h = (a.0, arguments_named high parameters arguments truths a.1 h)

declared_begin : (high slot : ℕ) (names : List Name) → NamesBegin high (declared_slots slot names)
declared_begin high slot [] = tt
declared_begin high slot (name ∷ names) = (tt, declared_begin high (slot + 1) names)

slot_bound : (high : ℕ) (sight : Sight) (name : List ℕ) → SightBegins high sight → SightBegins high (bind_slot sight name)
slot_bound high sight name s = record { names = (tt, s.names); macros = s.macros }

-- ---- propositions

call_begins : (high : ℕ) (truth : Option PlainTruth) (macro : Option Expansion) (arguments : List PlainTruth) → IfSome truth (TruthBegins high)
    → IfSome macro (ExpansionBegins high) → AllBegin high arguments → TruthBegins high (truth_of_call truth macro arguments)
call_begins high (Some p) macro [] h m a = h
call_begins high (Some p) macro (other ∷ arguments) h m a = tt
call_begins high None None arguments h m a = tt
call_begins high None (Some (PropExpansion macro)) arguments h m a = m arguments a
call_begins high None (Some (FormulaExpansion macro)) arguments h m a = tt

module _ (high : ℕ) (sight : Sight) (s : SightBegins high sight) where
  mutual
    truth_begins : (p : PlainPropKind) → PropBegins high p → TruthBegins high (truth_of sight p)
    truth_begins (PropConstant truth) h = tt
    truth_begins (PropCall name arguments) h =
        call_begins high (found sight.truths name.text) (found sight.macros name.text) (argument_truths sight arguments)
        (found_is (TruthBegins high) sight.truths name.text s.names) (found_is (ExpansionBegins high) sight.macros name.text s.macros) (arguments_begin arguments h)
    truth_begins (PropNot p span) h = truth_begins p h
    truth_begins (PropJoined connective operands) h = truths_begin operands h
    truth_begins (PropImplies p p_span q q_span) h = (truth_begins p h.0, (truth_begins q h.1, tt))
    truth_begins (PropShifted direction form p span) h = (h.0, truth_begins p h.1)

    arguments_begin : (arguments : PlainArguments) → ArgumentsBegin high arguments → AllBegin high (argument_truths sight arguments)
    arguments_begin no_arguments h = tt
    arguments_begin (argument p span arguments) h = (truth_begins p h.0, arguments_begin arguments h.1)

    truths_begin : (operands : PlainPropOperands) → PropOperandsBegin high operands → TruthsBegin high (operand_truths sight operands)
    truths_begin no_prop_operands h = tt
    truths_begin (prop_operand p span outer operands) h = (truth_begins p h.0, truths_begin operands h.1)

-- ---- formulas

somewhere_begins : (high : ℕ) (d : CoreTree) (span : Span) → Begins high span → CoreBegins high d → CoreBegins high (somewhere_core d span)
somewhere_begins high d span h core = (h, ((h, ((h, tt), core)), (h, tt)))

applied_begins : (high : ℕ) (unary : Unary) (d : CoreTree) (span : Span) → Begins high span → CoreBegins high d → CoreBegins high (applied_core unary d span)
applied_begins high Not d span h core = (h, core)
applied_begins high Star d span h core = (h, core)
applied_begins high Somewhere d span h core = somewhere_begins high d span h core
applied_begins high Everywhere d span h core = (h, somewhere_begins high (CoreNot d span) span h (h, core))

quantified_begins : (high : ℕ) (quantifier : Quantifier) (d : CoreTree) (span : Span) → Begins high span → CoreBegins high d
    → CoreBegins high (quantified_core quantifier d span)
quantified_begins high Exists d span h core = (h, core)
quantified_begins high ForAll d span h core = (h, (h, (h, core)))

macro_begins : (high : ℕ) (macro : Option Expansion) (slots : ℕ) (arguments : List PlainTruth) (span : Span) → IfSome macro (ExpansionBegins high) → AllBegin high arguments
    → Begins high span → CoreBegins high (core_of_macro macro slots arguments span)
macro_begins high None slots arguments span m a h = (h, tt)
macro_begins high (Some (PropExpansion macro)) slots arguments span m a h = (h, tt)
macro_begins high (Some (FormulaExpansion macro)) slots arguments span m a h = m slots arguments a

-- a join of two cores
abbrev Joins : ℕ → (CoreTree → CoreTree → Span → CoreTree) → Type 0
Joins high join = (c d : CoreTree) (span : Span) → Begins high span → CoreBegins high c → CoreBegins high d → CoreBegins high (join c d span)

mutual
  core_begins : (d : PlainFormulaKind) (sight : Sight) (span : Span) (high : ℕ) → SightBegins high sight → Begins high span → FormsBegin high d
      → CoreBegins high (core_of sight d span)
  core_begins (FormulaConstant truth) sight span high seen h forms = (h, tt)
  core_begins FormulaPt sight span high seen h forms = (h, tt)
  core_begins FormulaExt sight span high seen h forms = (h, tt)
  core_begins (FormulaBracketed bracket p) sight span high seen h forms = (h, truth_begins high sight seen p.kind forms)
  core_begins (FormulaSlen relation n) sight span high seen h forms = (h, tt)
  core_begins (FormulaCounted which p relation n) sight span high seen h forms = (h, truth_begins high sight seen p.kind forms)
  core_begins (FormulaCall name arguments) sight span high seen h forms =
      macro_begins high (found sight.macros name.text) sight.slots (argument_truths sight (arguments_of arguments)) span
      (found_is (ExpansionBegins high) sight.macros name.text seen.macros) (arguments_begin high sight seen (arguments_of arguments) forms) h
  core_begins (FormulaApplied unary d d_span) sight span high seen h forms =
      applied_begins high unary (core_of sight d d_span) span h (core_begins d sight d_span high seen forms.0 forms.1)
  core_begins (FormulaJoined connective operands) sight span high seen h forms =
      list_begins operands sight (CoreJoined connective) (BasicConstant (of_none connective)) span high seen h tt (λ c d span h one other. (h, (one, other))) forms
  core_begins (FormulaImplies c c_span d d_span) sight span high seen h forms =
      (h, ((h, core_begins c sight c_span high seen forms.0.0 forms.0.1), core_begins d sight d_span high seen forms.1.0 forms.1.1))
  core_begins (FormulaChop operands) sight span high seen h forms =
      list_begins operands sight CoreChop (BasicBracketed Point (TruthConstant true)) span high seen h tt (λ c d span h one other. (h, (one, other))) forms
  core_begins (FormulaQuantified quantifier name d d_span) sight span high seen h forms =
      quantified_begins high quantifier (core_of (bind_slot sight name.text) d d_span) span h
      (core_begins d (bind_slot sight name.text) d_span high (slot_bound high sight name.text seen) forms.0 forms.1)

  list_begins : (operands : PlainFormulaOperands) (sight : Sight) (join : CoreTree → CoreTree → Span → CoreTree) (unit : PlainBasic) (span : Span) (high : ℕ)
      → SightBegins high sight → Begins high span → BasicBegins high unit → Joins high join → OperandsBegin high operands → CoreBegins high (list_core sight join unit operands span)
  list_begins no_formula_operands sight join unit span high seen h units joins forms = (h, units)
  list_begins (formula_operand d d_span outer operands) sight join unit span high seen h units joins forms =
      joined_begins operands sight join outer (core_of sight d d_span) high seen forms.0.0 joins forms.1
      (core_begins d sight d_span high seen forms.0.1.0 forms.0.1.1)

  joined_begins : (operands : PlainFormulaOperands) (sight : Sight) (join : CoreTree → CoreTree → Span → CoreTree) (first : Span) (so_far : CoreTree) (high : ℕ)
      → SightBegins high sight → Begins high first → Joins high join → OperandsBegin high operands → CoreBegins high so_far
      → CoreBegins high (joined sight join first operands so_far)
  joined_begins no_formula_operands sight join first so_far high seen h joins forms core = core
  joined_begins (formula_operand d d_span outer operands) sight join first so_far high seen h joins forms core =
      joined_begins operands sight join first (join so_far (core_of sight d d_span) (covering first outer)) high seen h joins forms.1
      (joins so_far (core_of sight d d_span) (covering first outer) h core (core_begins d sight d_span high seen forms.0.1.0 forms.0.1.1))

-- ---- files

sight_with : (high : ℕ) (sight : Sight) (parameters : List (List ℕ)) (slots : ℕ) (arguments : List PlainTruth) → SightBegins high sight → AllBegin high arguments
    → SightBegins high (record (bind_arguments sight parameters arguments) { slots = slots })
sight_with high sight parameters slots arguments seen a =
    record { names = arguments_named high parameters arguments sight.truths a seen.names; macros = seen.macros }

body_begins : (high : ℕ) (sight : Sight) (parameters : List (List ℕ)) (body : PlainMacroBody) → SightBegins high sight → BodyBegins high body
    → ExpansionBegins high (body_expansion sight parameters body)
body_begins high sight parameters (FormulaBody d) seen h = λ slots arguments a.
    core_begins d.kind (record (bind_arguments sight parameters arguments) { slots = slots }) d.span high
    (sight_with high sight parameters slots arguments seen a) h.0 h.1
body_begins high sight parameters (PropBody p) seen h = λ arguments a.
    truth_begins high (bind_arguments sight parameters arguments) (sight_with high sight parameters sight.slots arguments seen a) p.kind h

macros_begin : (high : ℕ) (macros : List PlainMacro) (sight : Sight) → SightBegins high sight → MacrosBegin high macros
    → SightBegins high (with_expansions sight macros)
macros_begin high [] sight seen h = seen
macros_begin high (m ∷ macros) sight seen h =
    macros_begin high macros (record sight { macros = (m.name.text, expansion_of sight m) ∷ sight.macros })
    (record { names = seen.names; macros = (body_begins high sight (map (λ (p : Name). p.text) m.parameters) m.body seen h.0, seen.macros) }) h.1

goal_begins : (high : ℕ) (file : PlainFile) → FileBegins high file → CoreBegins high (expanded_file file)
goal_begins high file is =
    core_begins file.goal.formula.kind (goal_sight file) file.goal.formula.span high
    (macros_begin high file.macros _ (record { names = declared_begin high 0 file.variables; macros = tt }) is.macros) is.goal.1.0 is.goal.1.1

-- ---- shifts

abbrev ShiftsBegin : ℕ → List Shift → Type 0
ShiftsBegin high = AllByRecursion (λ shift. Begins high shift.span)

all_append : {X : Type 0} (P : X → Type 0) (xs ys : List X) → AllByRecursion P xs → AllByRecursion P ys → AllByRecursion P (xs ++ ys)
all_append P [] ys h k = k
all_append P (x ∷ xs) ys h k = (h.0, all_append P xs ys h.1 k)

added_begins : (high : ℕ) (seen : List Shift) (shift : Shift) → ShiftsBegin high seen → Begins high shift.span → ShiftsBegin high (with_shift seen shift)
added_begins high seen shift h here = added (list_any (same_shift shift) seen)
  where
    added : (there : Bool) → ShiftsBegin high (if there then seen else seen ++ shift ∷ [])
    added true = h
    added false = all_append (λ one. Begins high one.span) seen (shift ∷ []) h (here, tt)

mutual
  collected_begin : (p : PlainTruth) (high : ℕ) (seen : List Shift) → TruthBegins high p → ShiftsBegin high seen → ShiftsBegin high (collected seen p)
  collected_begin (TruthConstant truth) high seen h s = s
  collected_begin (TruthSlot slot) high seen h s = s
  collected_begin (TruthNot p) high seen h s = collected_begin p high seen h s
  collected_begin (TruthJoined connective operands) high seen h s = all_collected_begin operands high seen h s
  collected_begin (TruthShift direction p span) high seen h s =
      added_begins high (collected seen p) (record { direction = direction; operand = p; span = span }) (collected_begin p high seen h.1 s) h.0

  all_collected_begin : (operands : PlainTruths) (high : ℕ) (seen : List Shift) → TruthsBegin high operands → ShiftsBegin high seen
      → ShiftsBegin high (all_collected seen operands)
  all_collected_begin no_truths high seen h s = s
  all_collected_begin (truth_operand p operands) high seen h s = all_collected_begin operands high (collected seen p) h.1 (collected_begin p high seen h.0 s)

collected_by_begin : (p : Option PlainTruth) (high : ℕ) (seen : List Shift) → IfSome p (TruthBegins high) → ShiftsBegin high seen
    → ShiftsBegin high (collected_by seen p)
collected_by_begin None high seen h s = s
collected_by_begin (Some p) high seen h s = collected_begin p high seen h s

shifts_begin : (core : CoreTree) (high : ℕ) (seen : List Shift) → CoreBegins high core → ShiftsBegin high seen → ShiftsBegin high (collected_of seen core)
shifts_begin (CoreAtom basic span) high seen h s = collected_by_begin (truth_in basic) high seen h.1 s
shifts_begin (CoreNot d span) high seen h s = shifts_begin d high seen h.1 s
shifts_begin (CoreJoined connective c d span) high seen h s = shifts_begin d high (collected_of seen c) h.1.1 (shifts_begin c high seen h.1.0 s)
shifts_begin (CoreChop c d span) high seen h s = shifts_begin d high (collected_of seen c) h.1.1 (shifts_begin c high seen h.1.0 s)
shifts_begin (CoreStar d span) high seen h s = shifts_begin d high seen h.1 s
shifts_begin (CoreExists d span) high seen h s = shifts_begin d high seen h.1 s

-- ---- slots for shifts

module _ (high k : ℕ) (all : List Shift) where
  -- in a proposition none is left
  mutual
    placed_begins : (p : PlainTruth) → TruthBegins high (placed k all p)
    placed_begins (TruthConstant truth) = tt
    placed_begins (TruthSlot slot) = tt
    placed_begins (TruthNot p) = placed_begins p
    placed_begins (TruthJoined connective operands) = all_placed_begin operands
    placed_begins (TruthShift direction p span) = tt

    all_placed_begin : (operands : PlainTruths) → TruthsBegin high (all_placed k all operands)
    all_placed_begin no_truths = tt
    all_placed_begin (truth_operand p operands) = (placed_begins p, all_placed_begin operands)

  basic_placed_begins : (basic : PlainBasic) → BasicBegins high (placed_basic k all basic)
  basic_placed_begins (BasicConstant truth) = tt
  basic_placed_begins (BasicBracketed bracket p) = placed_begins p
  basic_placed_begins (BasicSlen relation n) = tt
  basic_placed_begins (BasicCounted which p relation n) = placed_begins p
  basic_placed_begins (BasicTrack direction p slot) = placed_begins p

  placed_core_begins : (core : CoreTree) → CoreBegins high core → CoreBegins high (placed_core k all core)
  placed_core_begins (CoreAtom basic span) h = (h.0, basic_placed_begins basic)
  placed_core_begins (CoreNot d span) h = (h.0, placed_core_begins d h.1)
  placed_core_begins (CoreJoined connective c d span) h = (h.0, (placed_core_begins c h.1.0, placed_core_begins d h.1.1))
  placed_core_begins (CoreChop c d span) h = (h.0, (placed_core_begins c h.1.0, placed_core_begins d h.1.1))
  placed_core_begins (CoreStar d span) h = (h.0, placed_core_begins d h.1)
  placed_core_begins (CoreExists d span) h = (h.0, placed_core_begins d h.1)

  closed_begins : (shifts : List Shift) (slot : ℕ) (core : CoreTree) → ShiftsBegin high shifts → CoreBegins high core
      → CoreBegins high (closed_from k all slot shifts core)
  closed_begins [] slot core s h = h
  closed_begins (shift ∷ shifts) slot core s h = (s.0, (s.0, (closed_begins shifts (suc slot) core s.1 h, (s.0, placed_begins shift.operand))))

core_of_file_begins : (high : ℕ) (file : PlainFile) → FileBegins high file → CoreBegins high (core_of_file file)
core_of_file_begins high file is =
    let k = length file.variables in
    let goal = goal_begins high file is in
    let all = shifts_in (expanded_file file) in
    closed_begins high k all all k (placed_core k all (expanded_file file)) (shifts_begin (expanded_file file) high [] goal tt)
    (placed_core_begins high k all (expanded_file file) goal)

-- ---- steps

abbrev StepsBegin : ℕ → List PlainStep → Type 0
StepsBegin high = AllByRecursion (λ step. Begins high step.span)

both_begin : (high : ℕ) (one two : List PlainStep) → StepsBegin high one → StepsBegin high two → StepsBegin high (one ++ two)
both_begin high one two h k = all_append (λ step. Begins high step.span) one two h k

-- two cores, and the step that joins them
pair_begins : (c d : CoreTree) (high n k : ℕ) (last : PlainStep) → Begins high last.span → StepsBegin high (steps_from n k c)
    → StepsBegin high (steps_from (suc (n + steps_before c)) k d)
    → StepsBegin high ((steps_from n k c ++ steps_from (suc (n + steps_before c)) k d) ++ last ∷ [])
pair_begins c d high n k last h one other =
    both_begin high (steps_from n k c ++ steps_from (suc (n + steps_before c)) k d) (last ∷ []) (both_begin high (steps_from n k c) _ one other) (h, tt)

steps_begin : (core : CoreTree) (high n k : ℕ) → CoreBegins high core → StepsBegin high (steps_from n k core)
steps_begin (CoreAtom basic span) high n k h = (h.0, tt)
steps_begin (CoreNot d span) high n k h = both_begin high (steps_from n k d) _ (steps_begin d high n k h.1) (h.0, tt)
steps_begin (CoreJoined connective c d span) high n k h = pair_begins c d high n k _ h.0 (steps_begin c high n k h.1.0) (steps_begin d high _ k h.1.1)
steps_begin (CoreChop c d span) high n k h = pair_begins c d high n k _ h.0 (steps_begin c high n k h.1.0) (steps_begin d high _ k h.1.1)
steps_begin (CoreStar d span) high n k h = both_begin high (steps_from n k d) _ (steps_begin d high n k h.1) (h.0, tt)
steps_begin (CoreExists d span) high n k h = both_begin high (steps_from n (k + 1) d) _ (steps_begin d high n (k + 1) h.1) (h.0, tt)

step_begins : (high : ℕ) (steps : List PlainStep) (number : ℕ) (step : PlainStep) → StepsBegin high steps → slice_get steps number ≡ Some step → Begins high step.span
step_begins high [] number step h there = let wrong : None ≡ Some step = there in cc
step_begins high (first ∷ steps) zero step h there = let same : first ≡ step = some_same first step there in subst (λ (one : PlainStep). Begins high one.span) same h.0
  where
    some_same : (one other : PlainStep) → Some one ≡ Some other → one ≡ other
    some_same one other e = cc
step_begins high (first ∷ steps) (suc number) step h there = step_begins high steps number step h.1 there

-- so does each step of what a file's core is
pub step_of_file_begins : (high : ℕ) (file : PlainFile) (number : ℕ) (step : PlainStep) → FileBegins high file
    → slice_get (steps_of (length file.variables) (core_of_file file)) number ≡ Some step → step.span.start < high
step_of_file_begins high file number step is there =
    step_begins high (steps_of (length file.variables) (core_of_file file)) number step
    (steps_begin (core_of_file file) high 0 (length file.variables) (core_of_file_begins high file is)) there

-- so each step begins in the text that spells the file
pub steps_begin_in_text : StepsBeginInText
steps_begin_in_text text file spelled number step = step_of_file_begins (length text) file number step (file_begins text file spelled)
