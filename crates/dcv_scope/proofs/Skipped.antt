-- What a macro stands for does not depend on an argument that its measure passes over.
-- Two lists of names agree below a bound where names of a size below it stand for the same. Then so do the propositions and formulas of a size below
-- the bound, where macros at arguments that agree do.
use Rattle.std.proofs.Common.{◌≡◌, ℕ, suc, ◌+◌, ◌<◌, Bool, true, false, cond, List, [], ◌∷◌, ◌++◌, Option, Some, None, length, map, refl, ap, ◌∙◌}
use Rattle.std.proofs.Common.{arith}
use Rattle.std.specs.Prelude.{bytes_eq}
use Rattle.std.specs.List.{zip}
use Rattle.dcv_syntax.specs.declared.names.Name.{Name}
use Rattle.dcv_syntax.specs.declared.names.Span.{Span}
use Rattle.dcv_syntax.specs.declared.propositions.Connective.TheVariants.{Or}
use Rattle.dcv_syntax.specs.declared.formulas.Bracket.TheVariants.{Point}
use Rattle.dcv_syntax.specs.Spans.{covering}
use Rattle.dcv_syntax.specs.Plain.{PlainPropKind, PropConstant, PropCall, PropNot, PropJoined, PropImplies, PropShifted, PlainArguments, no_arguments, argument}
use Rattle.dcv_syntax.specs.Plain.{PlainPropOperands, no_prop_operands, prop_operand, PlainFormulaKind, FormulaConstant, FormulaPt, FormulaExt, FormulaBracketed}
use Rattle.dcv_syntax.specs.Plain.{FormulaSlen, FormulaCounted, FormulaCall, FormulaApplied, FormulaJoined, FormulaImplies, FormulaChop, FormulaQuantified}
use Rattle.dcv_syntax.specs.Plain.{PlainFormulaOperands, no_formula_operands, formula_operand, arguments_of, PlainMacroBody, FormulaBody, PropBody, PlainMacro}
use Rattle.dcv_logic.specs.Environment.{found}
use Rattle.dcv_logic.specs.Connectives.{of_none}
use Rattle.dcv_core.specs.Core.{PlainTruth, TruthConstant, TruthSlot, TruthNot, TruthJoined, TruthShift, no_truths, truth_operand}
use Rattle.dcv_core.specs.Core.{PlainBasic, BasicConstant, BasicBracketed, BasicCounted, CoreTree, CoreAtom, CoreNot, CoreJoined, CoreChop}
use Rattle.dcv_scope.specs.CoreOf.{Expansion, PropExpansion, FormulaExpansion, Sight, bind_slot, bind_arguments, truth_of_call}
use Rattle.dcv_scope.specs.CoreOf.{truth_of, argument_truths, operand_truths, core_of_macro, applied_core, quantified_core, core_of, list_core, joined, body_expansion}
use Rattle.dcv_scope.specs.CoreOf.{expansion_of, with_expansions, declared_slots}
use Rattle.dcv_scope.specs.Measures.{Measure, leaf, Measured, measure_of_macro, measure_of_name, measure_of_prop, measures_of_arguments}
use Rattle.dcv_scope.specs.Measures.{measure_of_prop_operands, name_in_sight, measure_of_formula, measure_of_operands, measure_of_body, macro_measure}
use Rattle.dcv_scope.specs.Measures.{with_measures}
use Rattle.dcv_scope.specs.Unused.{PassesOver}
use Rattle.dcv_scope.specs.Linear.{variables_alone}
use Rattle.dcv_scope.specs.Expansions.{ExpansionPassesOver}
use Rattle.dcv_scope.proofs.Matching.{Both, Matched, found_both}

module _ (bound : ℕ) where
  abbrev NamesAgree : Option Measure → Option PlainTruth → Option PlainTruth → Type 0
  NamesAgree None None None = Unit {0}
  NamesAgree (Some m) (Some p) (Some q) = m.size < bound → p ≡ q
  NamesAgree _ _ _ = ⊥

  abbrev ArgumentsAgree : List Measure → List PlainTruth → List PlainTruth → Type 0
  ArgumentsAgree [] [] [] = Unit {0}
  ArgumentsAgree (m ∷ ms) (p ∷ ps) (q ∷ qs) = (m.size < bound → p ≡ q) × ArgumentsAgree ms ps qs
  ArgumentsAgree _ _ _ = ⊥

  -- at arguments that agree a macro stands for the same
  abbrev MacroKeeps : (List Measure → Measure) → Expansion → Type 0
  MacroKeeps m (PropExpansion c) = (ms : List Measure) (ps qs : List PlainTruth) → ArgumentsAgree ms ps qs → (m ms).size < bound → c ps ≡ c qs
  MacroKeeps m (FormulaExpansion c) = (k : ℕ) (ms : List Measure) (ps qs : List PlainTruth) → ArgumentsAgree ms ps qs → (m ms).size < bound → c k ps ≡ c k qs

  -- the names in sight, and others that they may have
  record SightKeeps (measured : Measured) (sight : Sight) (others : List (List ℕ × PlainTruth)) : Type 0 where
    names : (name : List ℕ) → NamesAgree (found measured.names name) (found sight.truths name) (found others name)
    macros : Matched MacroKeeps measured.macros sight.macros

  -- ---- propositions

  call_agrees : (n : Option Measure) (p q : Option PlainTruth) (m : Option (List Measure → Measure)) (c : Option Expansion) (ms : List Measure) (ps qs : List PlainTruth)
      → NamesAgree n p q → Both MacroKeeps m c → ArgumentsAgree ms ps qs → (measure_of_name n m ms).size < bound → truth_of_call p c ps ≡ truth_of_call q c qs
  call_agrees (Some x) (Some p) (Some q) m c [] [] [] n h a lt = n lt
  call_agrees (Some x) (Some p) (Some q) m c (y ∷ ms) (r ∷ ps) (s ∷ qs) n h a lt = refl
  call_agrees (Some x) (Some p) (Some q) m c _ _ _ n h a lt = absurd a
  call_agrees None None None None None ms ps qs n h a lt = refl
  call_agrees None None None (Some m) (Some (PropExpansion c)) ms ps qs n h a lt = h ms ps qs a lt
  call_agrees None None None (Some m) (Some (FormulaExpansion c)) ms ps qs n h a lt = refl
  call_agrees None None None _ _ ms ps qs n h a lt = absurd h
  call_agrees _ _ _ m c ms ps qs n h a lt = absurd n

  module _ (measured : Measured) (sight : Sight) (others : List (List ℕ × PlainTruth)) (keeps : SightKeeps measured sight others) where
    abbrev other : Sight
    other = record sight { truths = others }

    mutual
      truth_agrees : (kind : PlainPropKind) → (measure_of_prop measured kind).size < bound → truth_of sight kind ≡ truth_of other kind
      truth_agrees (PropConstant truth) lt = refl
      truth_agrees (PropCall name arguments) lt =
          call_agrees (found measured.names name.text) (found sight.truths name.text) (found others name.text) (found measured.macros name.text) (found sight.macros name.text)
          (measures_of_arguments measured arguments) (argument_truths sight arguments) (argument_truths other arguments)
          (keeps.names name.text) (found_both MacroKeeps measured.macros sight.macros name.text keeps.macros) (arguments_agree arguments) lt
      truth_agrees (PropNot p span) lt = ap TruthNot (truth_agrees p (omega (arith, lt)))
      truth_agrees (PropJoined connective operands) lt = ap (TruthJoined connective) (operands_agree operands (omega (arith, lt)))
      truth_agrees (PropImplies p p_span q q_span) lt =
          let one = truth_agrees p (omega (arith, lt)) in
          let two = truth_agrees q (omega (arith, lt)) in
          λ i. TruthJoined Or (truth_operand (TruthNot (one i)) (truth_operand (two i) no_truths))
      truth_agrees (PropShifted direction form p span) lt = ap (λ truth. TruthShift direction truth form) (truth_agrees p (omega (arith, lt)))

      arguments_agree : (arguments : PlainArguments) → ArgumentsAgree (measures_of_arguments measured arguments) (argument_truths sight arguments) (argument_truths other arguments)
      arguments_agree no_arguments = tt
      arguments_agree (argument p span arguments) = (truth_agrees p, arguments_agree arguments)

      operands_agree : (operands : PlainPropOperands) → (measure_of_prop_operands measured operands).size < bound → operand_truths sight operands ≡ operand_truths other operands
      operands_agree no_prop_operands lt = refl
      operands_agree (prop_operand p span outer operands) lt =
          let one = truth_agrees p (omega (arith, lt)) in
          let rest = operands_agree operands (omega (arith, lt)) in
          λ i. truth_operand (one i) (rest i)

  -- ---- formulas

  macro_core_agrees : (m : Option (List Measure → Measure)) (c : Option Expansion) (k : ℕ) (ms : List Measure) (ps qs : List PlainTruth) (span : Span)
      → Both MacroKeeps m c → ArgumentsAgree ms ps qs → (measure_of_macro m ms).size < bound → core_of_macro c k ps span ≡ core_of_macro c k qs span
  macro_core_agrees None None k ms ps qs span h a lt = refl
  macro_core_agrees (Some m) (Some (PropExpansion c)) k ms ps qs span h a lt = refl
  macro_core_agrees (Some m) (Some (FormulaExpansion c)) k ms ps qs span h a lt = h k ms ps qs a lt
  macro_core_agrees _ _ k ms ps qs span h a lt = absurd h

  name_keeps : (measured : Measured) (sight : Sight) (others : List (List ℕ × PlainTruth)) (name : List ℕ) → SightKeeps measured sight others
      → SightKeeps (name_in_sight measured name) (bind_slot sight name) ((name, TruthSlot sight.slots) ∷ others)
  name_keeps measured sight others name keeps = record {
    names = λ other. new_or_old (bytes_eq name other) (found measured.names other) (found sight.truths other) (found others other) (keeps.names other);
    macros = keeps.macros;
  }
    where
      new_or_old : (here : Bool) (m : Option Measure) (p q : Option PlainTruth) → NamesAgree m p q
          → NamesAgree (cond here (Some leaf) m) (cond here (Some (TruthSlot sight.slots)) p) (cond here (Some (TruthSlot sight.slots)) q)
      new_or_old true m p q old = λ lt. refl
      new_or_old false m p q old = old

  mutual
    core_agrees : (kind : PlainFormulaKind) (span : Span) (measured : Measured) (sight : Sight) (others : List (List ℕ × PlainTruth)) → SightKeeps measured sight others
        → (measure_of_formula measured kind).size < bound → core_of sight kind span ≡ core_of (record sight { truths = others }) kind span
    core_agrees (FormulaConstant truth) span measured sight others keeps lt = refl
    core_agrees FormulaPt span measured sight others keeps lt = refl
    core_agrees FormulaExt span measured sight others keeps lt = refl
    core_agrees (FormulaBracketed bracket p) span measured sight others keeps lt =
        ap (λ x. CoreAtom (BasicBracketed bracket x) span) (truth_agrees measured sight others keeps p.kind (omega (arith, lt)))
    core_agrees (FormulaSlen relation n) span measured sight others keeps lt = refl
    core_agrees (FormulaCounted counting p relation n) span measured sight others keeps lt =
        ap (λ x. CoreAtom (BasicCounted counting x relation n.value) span) (truth_agrees measured sight others keeps p.kind (omega (arith, lt)))
    core_agrees (FormulaCall name arguments) span measured sight others keeps lt =
        macro_core_agrees (found measured.macros name.text) (found sight.macros name.text) sight.slots (measures_of_arguments measured (arguments_of arguments))
        (argument_truths sight (arguments_of arguments)) (argument_truths (record sight { truths = others }) (arguments_of arguments)) span
        (found_both MacroKeeps measured.macros sight.macros name.text keeps.macros) (arguments_agree measured sight others keeps (arguments_of arguments)) lt
    core_agrees (FormulaApplied unary d d_span) span measured sight others keeps lt =
        ap (λ x. applied_core unary x span) (core_agrees d d_span measured sight others keeps (omega (arith, lt)))
    core_agrees (FormulaJoined connective operands) span measured sight others keeps lt =
        list_agrees operands (CoreJoined connective) (BasicConstant (of_none connective)) span measured sight others keeps (omega (arith, lt))
    core_agrees (FormulaImplies c c_span d d_span) span measured sight others keeps lt =
        let one = core_agrees c c_span measured sight others keeps (omega (arith, lt)) in
        let two = core_agrees d d_span measured sight others keeps (omega (arith, lt)) in
        λ i. CoreJoined Or (CoreNot (one i) span) (two i) span
    core_agrees (FormulaChop operands) span measured sight others keeps lt =
        list_agrees operands CoreChop (BasicBracketed Point (TruthConstant true)) span measured sight others keeps (omega (arith, lt))
    core_agrees (FormulaQuantified quantifier name d d_span) span measured sight others keeps lt =
        ap (λ x. quantified_core quantifier x span)
        (core_agrees d d_span (name_in_sight measured name.text) (bind_slot sight name.text) ((name.text, TruthSlot sight.slots) ∷ others) (name_keeps measured sight others name.text keeps)
        (omega (arith, lt)))

    list_agrees : (operands : PlainFormulaOperands) (join : CoreTree → CoreTree → Span → CoreTree) (unit : PlainBasic) (span : Span) (measured : Measured) (sight : Sight)
        (others : List (List ℕ × PlainTruth)) → SightKeeps measured sight others → (measure_of_operands measured operands).size < bound
        → list_core sight join unit operands span ≡ list_core (record sight { truths = others }) join unit operands span
    list_agrees no_formula_operands join unit span measured sight others keeps lt = refl
    list_agrees (formula_operand d d_span outer operands) join unit span measured sight others keeps lt =
        joined_agrees operands join outer _ _ measured sight others keeps (core_agrees d d_span measured sight others keeps (omega (arith, lt))) (omega (arith, lt))

    joined_agrees : (operands : PlainFormulaOperands) (join : CoreTree → CoreTree → Span → CoreTree) (first : Span) (x y : CoreTree) (measured : Measured) (sight : Sight)
        (others : List (List ℕ × PlainTruth)) → SightKeeps measured sight others → x ≡ y → (measure_of_operands measured operands).size < bound
        → joined sight join first operands x ≡ joined (record sight { truths = others }) join first operands y
    joined_agrees no_formula_operands join first x y measured sight others keeps e lt = e
    joined_agrees (formula_operand d d_span outer operands) join first x y measured sight others keeps e lt =
        let here = core_agrees d d_span measured sight others keeps (omega (arith, lt)) in
        joined_agrees operands join first _ _ measured sight others keeps (λ i. join (e i) (here i) (covering first outer)) (omega (arith, lt))

  -- ---- macros

  arguments_keep : (parameters : List (List ℕ)) (ms : List Measure) (ps qs : List PlainTruth) (name : List ℕ)
      (measures : List (List ℕ × Measure)) (first second : List (List ℕ × PlainTruth)) → ArgumentsAgree ms ps qs → NamesAgree (found measures name) (found first name) (found second name)
      → NamesAgree (found (zip parameters ms ++ measures) name) (found (zip parameters ps ++ first) name) (found (zip parameters qs ++ second) name)
  arguments_keep [] ms ps qs name measures first second a old = old
  arguments_keep (x ∷ parameters) [] [] [] name measures first second a old = old
  arguments_keep (x ∷ parameters) (m ∷ ms) (p ∷ ps) (q ∷ qs) name measures first second a old =
      new_or_old (bytes_eq x name) (found (zip parameters ms ++ measures) name) (found (zip parameters ps ++ first) name) (found (zip parameters qs ++ second) name)
      (arguments_keep parameters ms ps qs name measures first second a.1 old)
    where
      new_or_old : (here : Bool) (n : Option Measure) (v w : Option PlainTruth) → NamesAgree n v w → NamesAgree (cond here (Some m) n) (cond here (Some p) v) (cond here (Some q) w)
      new_or_old true n v w rest = a.0
      new_or_old false n v w rest = rest
  arguments_keep (x ∷ parameters) _ _ _ name measures first second a old = absurd a

  body_keeps : (measured : Measured) (sight : Sight) (parameters : List (List ℕ)) (body : PlainMacroBody) → SightKeeps measured sight sight.truths
      → MacroKeeps (λ ms. measure_of_body (record measured { names = zip parameters ms ++ measured.names }) body) (body_expansion sight parameters body)
  body_keeps measured sight parameters (FormulaBody d) keeps = λ k ms ps qs a lt.
      core_agrees d.kind d.span (record measured { names = zip parameters ms ++ measured.names }) (record (bind_arguments sight parameters ps) { slots = k }) (zip parameters qs ++ sight.truths)
      (record { names = λ name. arguments_keep parameters ms ps qs name measured.names sight.truths sight.truths a (keeps.names name); macros = keeps.macros }) lt
  body_keeps measured sight parameters (PropBody p) keeps = λ ms ps qs a lt.
      truth_agrees (record measured { names = zip parameters ms ++ measured.names }) (bind_arguments sight parameters ps) (zip parameters qs ++ sight.truths)
      (record { names = λ name. arguments_keep parameters ms ps qs name measured.names sight.truths sight.truths a (keeps.names name); macros = keeps.macros }) p.kind lt

  macros_keep : (macros : List PlainMacro) (measured : Measured) (sight : Sight) → SightKeeps measured sight sight.truths
      → SightKeeps (with_measures measured macros) (with_expansions sight macros) (with_expansions sight macros).truths
  macros_keep [] measured sight keeps = keeps
  macros_keep (m ∷ macros) measured sight keeps =
      macros_keep macros _ _ (record { names = keeps.names; macros = (refl, (body_keeps measured sight (map (λ (p : Name). p.text) m.parameters) m.body keeps, keeps.macros)) })

  declared_keep : (names : List Name) (slot : ℕ) (name : List ℕ)
      → NamesAgree (found (map (λ (n : Name). (n.text, leaf)) names) name) (found (declared_slots slot names) name) (found (declared_slots slot names) name)
  declared_keep [] slot name = tt
  declared_keep (n ∷ names) slot name =
      new_or_old (bytes_eq n.text name) (found (map (λ (x : Name). (x.text, leaf)) names) name) (found (declared_slots (slot + 1) names) name) (declared_keep names (slot + 1) name)
    where
      new_or_old : (here : Bool) (m : Option Measure) (p : Option PlainTruth) → NamesAgree m p p → NamesAgree (cond here (Some leaf) m) (cond here (Some (TruthSlot slot)) p) (cond here (Some (TruthSlot slot)) p)
      new_or_old true m p old = λ lt. refl
      new_or_old false m p old = old

-- ---- what a macro stands for, at one place

-- a leaf for each argument
abbrev leaves : List PlainTruth → List Measure
leaves [] = []
leaves (p ∷ truths) = leaf ∷ leaves truths

leaves-length : (truths : List PlainTruth) → length (leaves truths) ≡ length truths
leaves-length [] = refl
leaves-length (p ∷ truths) = ap suc (leaves-length truths)

abbrev of_size : ℕ → Measure
of_size n = record leaf { size = n }

same_arguments : (bound : ℕ) (truths : List PlainTruth) → ArgumentsAgree bound (leaves truths) truths truths
same_arguments bound [] = tt
same_arguments bound (p ∷ truths) = (λ lt. refl, same_arguments bound truths)

-- the one argument whose measure reaches the bound may be any
but_one : (bound : ℕ) (before : List PlainTruth) (one other : PlainTruth) (after : List PlainTruth)
    → ArgumentsAgree bound (leaves before ++ of_size bound ∷ leaves after) (before ++ one ∷ after) (before ++ other ∷ after)
but_one bound [] one other after = (λ lt. absurd (omega (arith, lt)), same_arguments bound after)
but_one bound (p ∷ before) one other after = (λ lt. refl, but_one bound before one other after)

module _ (j : ℕ) (m : List Measure → Measure) (passes : PassesOver j m) where
  -- one more than the size that the macro has with leaves as arguments
  abbrev above : List PlainTruth → List PlainTruth → ℕ
  above before after = suc (m (leaves before ++ leaf ∷ leaves after)).size

  is_below : (before after : List PlainTruth) → length before ≡ j → (m (leaves before ++ of_size (above before after) ∷ leaves after)).size < above before after
  is_below before after at =
      let same : (m (leaves before ++ of_size (above before after) ∷ leaves after)).size ≡ (m (leaves before ++ leaf ∷ leaves after)).size =
      ap (λ (x : Measure). x.size) (passes (leaves before) (leaves-length before ∙ at) (of_size (above before after)) leaf (leaves after)) in
      omega (arith, same)

  expansion_skips : (e : Expansion) → ((bound : ℕ) → MacroKeeps bound m e) → ExpansionPassesOver j e
  expansion_skips (PropExpansion c) keeps = λ before at one other after.
      keeps (above before after) (leaves before ++ of_size (above before after) ∷ leaves after) (before ++ one ∷ after) (before ++ other ∷ after)
      (but_one (above before after) before one other after) (is_below before after at)
  expansion_skips (FormulaExpansion c) keeps = λ k before at one other after.
      keeps (above before after) k (leaves before ++ of_size (above before after) ∷ leaves after) (before ++ one ∷ after) (before ++ other ∷ after)
      (but_one (above before after) before one other after) (is_below before after at)

-- a macro after some others stands for a function that passes over what its measure passes over
module _ (variables : List Name) (macros : List PlainMacro) where
  abbrev measured : Measured
  measured = with_measures (variables_alone variables) macros

  abbrev sight : Sight
  sight = with_expansions (record { slots = length variables; truths = declared_slots 0 variables; macros = [] }) macros

  pub macro_skips : (m : PlainMacro) (j : ℕ) → PassesOver j (macro_measure measured m) → ExpansionPassesOver j (expansion_of sight m)
  macro_skips m j passes =
      expansion_skips j (macro_measure measured m) passes (expansion_of sight m)
      (λ bound. body_keeps bound measured sight (map (λ (p : Name). p.text) m.parameters) m.body
      (macros_keep bound macros _ _ (record { names = declared_keep bound variables 0; macros = tt })))
