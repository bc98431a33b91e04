-- The core means what the text means: by induction on the text, where what is in sight agrees over the word, and over each
-- word with further slots.
use Rattle.std.proofs.Common.{◌≡◌, ℕ, ◌+◌, ◌-◌, ◌<◌, ◌≤◌, Bool, true, false, List, [], ◌∷◌, ◌++◌, Option, Some, None, length, map, refl, sym, ap, ◌∙◌, arith, length-append}
use Rattle.std.specs.Prelude.{◌||◌, ◌&&◌, ◌==◌, not, nat_lt}
use Rattle.dcv_syntax.specs.declared.names.Name.{Name}
use Rattle.dcv_syntax.specs.declared.names.Span.{Span}
use Rattle.dcv_syntax.specs.declared.propositions.Connective.{Connective}
use Rattle.dcv_syntax.specs.declared.propositions.Connective.TheVariants.{And, Or, Iff}
use Rattle.dcv_syntax.specs.declared.propositions.Direction.TheVariants.{Prior, Next}
use Rattle.dcv_syntax.specs.declared.formulas.Unary.{Unary}
use Rattle.dcv_syntax.specs.declared.formulas.Unary.TheVariants.{Not, Star, Somewhere, Everywhere}
use Rattle.dcv_syntax.specs.declared.formulas.Quantifier.{Quantifier}
use Rattle.dcv_syntax.specs.declared.formulas.Quantifier.TheVariants.{Exists, ForAll}
use Rattle.dcv_syntax.specs.Spans.{covering}
use Rattle.dcv_syntax.specs.Plain.{PlainPropKind, PropConstant, PropCall, PropNot, PropJoined, PropImplies, PropShifted, PlainArguments, no_arguments, argument}
use Rattle.dcv_syntax.specs.Plain.{PlainPropOperands, no_prop_operands, prop_operand, PlainFormulaKind, FormulaConstant, FormulaPt, FormulaExt, FormulaBracketed}
use Rattle.dcv_syntax.specs.Plain.{FormulaSlen, FormulaCounted, FormulaCall, FormulaApplied, FormulaJoined, FormulaImplies, FormulaChop, FormulaQuantified}
use Rattle.dcv_syntax.specs.Plain.{PlainFormulaOperands, no_formula_operands, formula_operand, arguments_of, PlainMacroBody, FormulaBody, PropBody, PlainMacro, PlainFile}
use Rattle.dcv_word.specs.Behaviour.{Word}
use Rattle.dcv_language.specs.Operations.{with_track, some_track}
use Rattle.dcv_logic.specs.Track.{Track, truth_at}
use Rattle.dcv_logic.specs.Search.{some_between}
use Rattle.dcv_logic.specs.Environment.{Environment, Meaning, PropMeaning, FormulaMeaning, found, bind, bind_all}
use Rattle.dcv_logic.specs.Connectives.{joins, of_none, somewhere, applied, quantified}
use Rattle.dcv_logic.specs.Value.{value, call_value, argument_tracks, joined_value}
use Rattle.dcv_logic.specs.Satisfaction.{compares, satisfies, macro_holds, joined_holds, chop_holds}
use Rattle.dcv_logic.specs.Models.{declared_from, body_meaning, with_macros, goal_environment}
use Rattle.dcv_logic.proofs.InWords.{track-values}
use Rattle.dcv_core.specs.Core.{PlainTruth, TruthSlot, CoreTree, CoreNot, CoreJoined, CoreChop, CoreExists}
use Rattle.dcv_core.specs.Holds.{letter_at, value_at, joined_values, core_holds, expanded_holds}
use Rattle.dcv_scope.specs.CoreOf.{Expansion, PropExpansion, FormulaExpansion, Sight, bind_slot, bind_arguments, truth_of_call, truth_of, argument_truths, operand_truths}
use Rattle.dcv_scope.specs.CoreOf.{core_of_macro, somewhere_core, applied_core, quantified_core, core_of, joined, body_expansion, with_expansions, declared_slots}
use Rattle.dcv_scope.specs.CoreOf.{goal_sight, expanded_file, core_of_file}
use Rattle.dcv_tracks.proofs.Closing.{goal_holds_on_tracks, core_holds_on_word}
use Rattle.dcv_scope.specs.Laws.{GoalMeansText, CoreMeansText, WordsAreModels}
use Rattle.dcv_core.proofs.Tracks.{with_track-length, with_track-letter, slot_track-truth, Further, further_itself, further_on, further_by_track, slot_further, slot_behind}
use Rattle.dcv_core.proofs.Chops.{and-true, chop-one, chop-assoc, somewhere-chop, each_true}
use Rattle.dcv_core.proofs.Aligned.{some_between-same, bracket-same, counted-same, star-same}
use Rattle.dcv_language.proofs.Behaviours.{some_track-same}
use Rattle.std.proofs.lemmas.Bool.Decides.{nat_tests}
use Rattle.dcv_scope.proofs.Fits.{goal_slots}
use Rattle.dcv_scope.proofs.Matching.{Both, AllBoth, Matched, found_both, parameters_match, match_still}

-- ---- what it is to agree

-- a truth has the truths of a track over a word, and over each further one
abbrev Reads : Word → Track → PlainTruth → Type 0
Reads word track truth = (further : Word) → Further word further → (i : ℕ) → i < length word → truth_at track i ≡ value_at truth further i

abbrev Widths : ℕ → Word → Type 0
Widths k word = (i : ℕ) → i < length word → length (letter_at word i) ≡ k

-- the same for all arguments that agree, over each further word
abbrev MacroAgrees : Word → Meaning → Expansion → Type 0
MacroAgrees word (PropMeaning m) (PropExpansion c) =
    (further : Word) → Further word further → (tracks : List Track) (truths : List PlainTruth) → AllBoth (Reads further) tracks truths
    → (i : ℕ) → i < length further → m tracks i ≡ value_at (c truths) further i
MacroAgrees word (FormulaMeaning m) (FormulaExpansion c) =
    (further : Word) → Further word further → (tracks : List Track) (truths : List PlainTruth) → AllBoth (Reads further) tracks truths
    → (k : ℕ) → Widths k further → (b e : ℕ) → b ≤ e → e < length further → m tracks b e ≡ expanded_holds (c k truths) further b e
MacroAgrees word _ _ = ⊥

record Agree (word : Word) (env : Environment) (sight : Sight) : Type 0 where
  instants : env.instants ≡ length word
  tracks : Matched (Reads word) env.tracks sight.truths
  macros : Matched (MacroAgrees word) env.macros sight.macros

-- agreement stays over further words
module _ (word further : Word) (f : Further word further) where
  reads_further : (track : Track) (truth : PlainTruth) → Reads word track truth → Reads further track truth
  reads_further track truth r last g i lt = r last (further_on word further last f g) i (omega (arith, lt, f.level))

  macro_further : (m : Meaning) (c : Expansion) → MacroAgrees word m c → MacroAgrees further m c
  macro_further (PropMeaning m) (PropExpansion c) a = λ last g. a last (further_on word further last f g)
  macro_further (FormulaMeaning m) (FormulaExpansion c) a = λ last g. a last (further_on word further last f g)
  macro_further _ _ a = absurd a

  agree_further : (env : Environment) (sight : Sight) → Agree word env sight → Agree further env sight
  agree_further env sight a = record {
    instants = a.instants ∙ sym f.level;
    tracks = match_still reads_further env.tracks sight.truths a.tracks;
    macros = match_still macro_further env.macros sight.macros a.macros;
  }

-- a quantified name
slot_reads : (word : Word) (k : ℕ) (track : Track) → Widths k word → length track ≡ length word → Reads (with_track word track) track (TruthSlot k)
slot_reads word k track w e last f i lt =
    let below : i < length word = omega (arith, lt, with_track-length word track e) in
    let more = f.more i lt in
    let letter = letter_at word i in
    let truth = truth_at track i in
    let here : letter_at last i ≡ (letter ++ truth ∷ []) ++ more.0 = more.1 ∙ ap (λ l. l ++ more.0) (with_track-letter word track i e below) in
    let behind : truth_at (letter ++ truth ∷ []) (length letter) ≡ truth = slot_behind letter [] truth in
    let lower : k < length (letter ++ truth ∷ []) = omega (arith, w i below, length-append letter (truth ∷ [])) in
    sym behind
    ∙ ap (truth_at (letter ++ truth ∷ [])) (w i below)
    ∙ sym (slot_further (letter ++ truth ∷ []) more.0 k lower)
    ∙ ap (λ l. truth_at l k) (sym here)

agree_bind : (word : Word) (env : Environment) (sight : Sight) (name : List ℕ) (track : Track) → Agree word env sight → Widths sight.slots word → length track ≡ length word
    → Agree (with_track word track) (bind env name track) (bind_slot sight name)
agree_bind word env sight name track a w e =
    let further = agree_further word (with_track word track) (further_by_track word track e) env sight a in
    record { instants = further.instants; tracks = (refl, (slot_reads word sight.slots track w e, further.tracks)); macros = further.macros }

widths_bind : (word : Word) (k : ℕ) (track : Track) → Widths k word → length track ≡ length word → Widths (k + 1) (with_track word track)
widths_bind word k track w e i lt =
    let below : i < length word = omega (arith, lt, with_track-length word track e) in
    ap length (with_track-letter word track i e below)
    ∙ omega (arith, length-append (letter_at word i) (truth_at track i ∷ []), w i below)

-- ---- propositions

-- what is asked only where there is a next instant
and_later : (i n : ℕ) (x y : Bool) → (i < n → x ≡ y) → (nat_lt i n && x) ≡ (nat_lt i n && y)
and_later i n x y same = where_there (nat_lt i n) refl
  where
    where_there : (there : Bool) → nat_lt i n ≡ there → (there && x) ≡ (there && y)
    where_there true is = same (grind (arith, nat_tests))
    where_there false is = refl

module _ (env : Environment) (sight : Sight) where
  -- a name with its arguments
  call_means : (word : Word) (track : Option Track) (truth : Option PlainTruth) (m : Option Meaning) (c : Option Expansion) (tracks : List Track) (truths : List PlainTruth)
      → Both (Reads word) track truth → Both (MacroAgrees word) m c → AllBoth (Reads word) tracks truths → (i : ℕ) → i < length word
      → call_value track m tracks i ≡ value_at (truth_of_call truth c truths) word i
  call_means word (Some track) (Some truth) m c [] [] t a r i lt = t word (further_itself word) i lt
  call_means word (Some track) (Some truth) m c (x ∷ tracks) (y ∷ truths) t a r i lt = refl
  call_means word (Some track) (Some truth) m c _ _ t a r i lt = absurd r
  call_means word None None None None tracks truths t a r i lt = refl
  call_means word None None (Some (PropMeaning m)) (Some (PropExpansion c)) tracks truths t a r i lt = a word (further_itself word) tracks truths r i lt
  call_means word None None (Some (FormulaMeaning m)) (Some (FormulaExpansion c)) tracks truths t a r i lt = refl
  call_means word None None _ _ tracks truths t a r i lt = absurd a
  call_means word _ _ m c tracks truths t a r i lt = absurd t

  mutual
    prop_means : (kind : PlainPropKind) (word : Word) → Agree word env sight → (i : ℕ) → i < length word → value env kind i ≡ value_at (truth_of sight kind) word i
    prop_means (PropConstant truth) word a i lt = refl
    prop_means (PropCall name arguments) word a i lt =
        call_means word (found env.tracks name.text) (found sight.truths name.text) (found env.macros name.text) (found sight.macros name.text)
        (argument_tracks env arguments) (argument_truths sight arguments) (found_both (Reads word) env.tracks sight.truths name.text a.tracks)
        (found_both (MacroAgrees word) env.macros sight.macros name.text a.macros) (arguments_read arguments word a) i lt
    prop_means (PropNot p span) word a i lt = ap not (prop_means p word a i lt)
    prop_means (PropJoined connective operands) word a i lt = joined_means operands connective word a i lt (of_none connective) (of_none connective) refl
    prop_means (PropImplies p p_span q q_span) word a i lt =
        let one = prop_means p word a i lt in
        let two = prop_means q word a i lt in
        λ j. not (one j) || two j
    prop_means (PropShifted Prior form p span) word a i lt = ap (λ b. nat_lt 0 i && b) (prop_means p word a (i - 1) (omega (arith, lt)))
    prop_means (PropShifted Next form p span) word a i lt =
        ap (λ n. nat_lt (i + 1) n && value env p (i + 1)) a.instants
        ∙ and_later (i + 1) (length word) (value env p (i + 1)) (value_at (truth_of sight p) word (i + 1)) (prop_means p word a (i + 1))

    arguments_read : (arguments : PlainArguments) (word : Word) → Agree word env sight → AllBoth (Reads word) (argument_tracks env arguments) (argument_truths sight arguments)
    arguments_read no_arguments word a = tt
    arguments_read (argument p span arguments) word a = (
      (λ last f i lt.
          let here : i < env.instants = omega (arith, lt, a.instants) in
          track-values env.instants (value env p) i here
          ∙ prop_means p last (agree_further word last f env sight a) i (omega (arith, lt, f.level))),
      arguments_read arguments word a,
    )

    joined_means : (operands : PlainPropOperands) (connective : Connective) (word : Word) → Agree word env sight → (i : ℕ) → i < length word → (x y : Bool) → x ≡ y
        → joined_value env connective x operands i ≡ joined_values connective y (operand_truths sight operands) word i
    joined_means no_prop_operands connective word a i lt x y same = same
    joined_means (prop_operand p span outer operands) connective word a i lt x y same =
        let one = prop_means p word a i lt in
        joined_means operands connective word a i lt (joins connective x (value env p i)) (joins connective y (value_at (truth_of sight p) word i))
        (λ j. joins connective (same j) (one j))

-- ---- what tags make of truths that agree

joins_none : (connective : Connective) (truth : Bool) → joins connective (of_none connective) truth ≡ truth
joins_none And truth = refl
joins_none Or truth = refl
joins_none Iff truth = refl

somewhere_means : (d : ℕ → ℕ → Bool) (core : CoreTree) (span : Span) (word : Word) (b e : ℕ)
    → ((x y : ℕ) → b ≤ x → x ≤ y → y ≤ e → d x y ≡ expanded_holds core word x y) → somewhere d b e ≡ expanded_holds (somewhere_core core span) word b e
somewhere_means d core span word b e same =
    some_between-same b e _ _ (λ x lo hi. some_between-same x e _ _ (λ y up high. same x y lo up high)) ∙ sym (somewhere-chop (expanded_holds core word) b e)

applied_means : (unary : Unary) (d : ℕ → ℕ → Bool) (core : CoreTree) (span : Span) (word : Word) (b e : ℕ) → b ≤ e
    → ((x y : ℕ) → b ≤ x → x ≤ y → y ≤ e → d x y ≡ expanded_holds core word x y) → applied unary d b e ≡ expanded_holds (applied_core unary core span) word b e
applied_means Not d core span word b e le same = ap not (same b e (omega arith) le (omega arith))
applied_means Star d core span word b e le same = star-same d (expanded_holds core word) (e - b) b e same
applied_means Somewhere d core span word b e le same = somewhere_means d core span word b e same
applied_means Everywhere d core span word b e le same =
    ap not (somewhere_means (λ x y. not (d x y)) (CoreNot core span) span word b e (λ x y lo up high. ap not (same x y lo up high)))

exists_means : (n : ℕ) (d : Track → Bool) (core : CoreTree) (span : Span) (word : Word) (b e : ℕ) → n ≡ length word
    → ((track : Track) → length track ≡ length word → d track ≡ expanded_holds core (with_track word track) b e) → some_track n d ≡ expanded_holds (CoreExists core span) word b e
exists_means n d core span word b e is same =
    ap (λ k. some_track k d) is ∙ some_track-same (length word) d (λ track. expanded_holds core (with_track word track) b e) same

quantified_means : (quantifier : Quantifier) (n : ℕ) (d : Track → Bool) (core : CoreTree) (span : Span) (word : Word) (b e : ℕ) → n ≡ length word
    → ((track : Track) → length track ≡ length word → d track ≡ expanded_holds core (with_track word track) b e)
    → quantified quantifier n d ≡ expanded_holds (quantified_core quantifier core span) word b e
quantified_means Exists n d core span word b e is same = exists_means n d core span word b e is same
quantified_means ForAll n d core span word b e is same =
    ap not (exists_means n (λ track. not (d track)) (CoreNot core span) span word b e is (λ track level. ap not (same track level)))

formula_call_means : (word : Word) (k : ℕ) (span : Span) (m : Option Meaning) (c : Option Expansion) (tracks : List Track) (truths : List PlainTruth)
    → Both (MacroAgrees word) m c → AllBoth (Reads word) tracks truths → Widths k word → (b e : ℕ) → b ≤ e → e < length word
    → macro_holds m tracks b e ≡ expanded_holds (core_of_macro c k truths span) word b e
formula_call_means word k span None None tracks truths a r w b e le lt = refl
formula_call_means word k span (Some (PropMeaning m)) (Some (PropExpansion c)) tracks truths a r w b e le lt = refl
formula_call_means word k span (Some (FormulaMeaning m)) (Some (FormulaExpansion c)) tracks truths a r w b e le lt =
    a word (further_itself word) tracks truths r k w b e le lt
formula_call_means word k span _ _ tracks truths a r w b e le lt = absurd a

-- ---- formulas

-- joined from the left, the core of a list says of the operands after the first what the text says
mutual
  formula_means : (kind : PlainFormulaKind) (span : Span) (env : Environment) (sight : Sight) (word : Word) → Agree word env sight → Widths sight.slots word
      → (b e : ℕ) → b ≤ e → e < length word → satisfies env kind b e ≡ expanded_holds (core_of sight kind span) word b e
  formula_means (FormulaConstant truth) span env sight word a w b e le lt = refl
  formula_means FormulaPt span env sight word a w b e le lt = sym (and-true (b == e))
  formula_means FormulaExt span env sight word a w b e le lt = sym (and-true (nat_lt b e)) ∙ ap (λ t. nat_lt b e && t) (sym (each_true b (e - 1)))
  formula_means (FormulaBracketed bracket p) span env sight word a w b e le lt =
      bracket-same b e (value env p.kind) (value_at (truth_of sight p.kind) word) (λ i lo hi. prop_means env sight p.kind word a i (omega (arith, hi, lt))) le bracket
  formula_means (FormulaSlen relation n) span env sight word a w b e le lt = refl
  formula_means (FormulaCounted counting p relation n) span env sight word a w b e le lt =
      ap (λ c. compares relation c n.value)
      (counted-same b e (value env p.kind) (value_at (truth_of sight p.kind) word) (λ i lo hi. prop_means env sight p.kind word a i (omega (arith, hi, lt))) le counting)
  formula_means (FormulaCall name arguments) span env sight word a w b e le lt =
      formula_call_means word sight.slots span (found env.macros name.text) (found sight.macros name.text) (argument_tracks env (arguments_of arguments))
      (argument_truths sight (arguments_of arguments)) (found_both (MacroAgrees word) env.macros sight.macros name.text a.macros)
      (arguments_read env sight (arguments_of arguments) word a) w b e le lt
  formula_means (FormulaApplied unary d d_span) span env sight word a w b e le lt =
      applied_means unary (satisfies env d) (core_of sight d d_span) span word b e le
      (λ x y lo up high. formula_means d d_span env sight word a w x y up (omega (arith, high, lt)))
  formula_means (FormulaJoined connective no_formula_operands) span env sight word a w b e le lt = refl
  formula_means (FormulaJoined connective (formula_operand d d_span outer operands)) span env sight word a w b e le lt =
      ap (λ t. joined_holds env connective t operands b e) (joins_none connective (satisfies env d b e) ∙ formula_means d d_span env sight word a w b e le lt)
      ∙ list_means operands connective outer (core_of sight d d_span) env sight word a w b e le lt
  formula_means (FormulaImplies c c_span d d_span) span env sight word a w b e le lt =
      let one = formula_means c c_span env sight word a w b e le lt in
      let two = formula_means d d_span env sight word a w b e le lt in
      λ i. not (one i) || two i
  formula_means (FormulaChop no_formula_operands) span env sight word a w b e le lt = sym (and-true (b == e))
  formula_means (FormulaChop (formula_operand d d_span outer operands)) span env sight word a w b e le lt =
      some_between-same b e (λ m. satisfies env d b m && chop_holds env operands m e) (λ m. expanded_holds (core_of sight d d_span) word b m && chop_holds env operands m e)
      (λ m lo hi. ap (λ t. t && chop_holds env operands m e) (formula_means d d_span env sight word a w b m lo (omega (arith, hi, lt))))
      ∙ chops_mean operands outer (core_of sight d d_span) env sight word a w b e le lt
  formula_means (FormulaQuantified quantifier name d d_span) span env sight word a w b e le lt =
      quantified_means quantifier env.instants (λ track. satisfies (bind env name.text track) d b e) (core_of (bind_slot sight name.text) d d_span) span word b e a.instants
      (λ track level. formula_means d d_span (bind env name.text track) (bind_slot sight name.text) (with_track word track)
      (agree_bind word env sight name.text track a w level) (widths_bind word sight.slots track w level) b e le (omega (arith, lt, with_track-length word track level)))

  list_means : (operands : PlainFormulaOperands) (connective : Connective) (first : Span) (so_far : CoreTree) (env : Environment) (sight : Sight) (word : Word) → Agree word env sight
      → Widths sight.slots word → (b e : ℕ) → b ≤ e → e < length word
      → joined_holds env connective (expanded_holds so_far word b e) operands b e ≡ expanded_holds (joined sight (CoreJoined connective) first operands so_far) word b e
  list_means no_formula_operands connective first so_far env sight word a w b e le lt = refl
  list_means (formula_operand d d_span outer operands) connective first so_far env sight word a w b e le lt =
      ap (λ t. joined_holds env connective (joins connective (expanded_holds so_far word b e) t) operands b e) (formula_means d d_span env sight word a w b e le lt)
      ∙ list_means operands connective first (CoreJoined connective so_far (core_of sight d d_span) (covering first outer)) env sight word a w b e le lt

  chops_mean : (operands : PlainFormulaOperands) (first : Span) (so_far : CoreTree) (env : Environment) (sight : Sight) (word : Word) → Agree word env sight → Widths sight.slots word
      → (b e : ℕ) → b ≤ e → e < length word
      → some_between b e (λ m. expanded_holds so_far word b m && chop_holds env operands m e) ≡ expanded_holds (joined sight CoreChop first operands so_far) word b e
  chops_mean no_formula_operands first so_far env sight word a w b e le lt = chop-one (λ m. expanded_holds so_far word b m) b e le
  chops_mean (formula_operand d d_span outer operands) first so_far env sight word a w b e le lt =
      let front = expanded_holds so_far word in
      let here = expanded_holds (core_of sight d d_span) word in
      some_between-same b e _ _ (λ l lo hi. ap (λ t. front b l && t)
      (some_between-same l e _ _ (λ m low high. ap (λ t. t && chop_holds env operands m e) (formula_means d d_span env sight word a w l m low (omega (arith, high, lt))))))
      ∙ sym (chop-assoc front here (chop_holds env operands) b e)
      ∙ chops_mean operands first (CoreChop so_far (core_of sight d d_span) (covering first outer)) env sight word a w b e le lt

-- ---- files

-- what a body means and what it stands for
body_agrees : (word : Word) (env : Environment) (sight : Sight) (parameters : List (List ℕ)) (body : PlainMacroBody) → Agree word env sight
    → MacroAgrees word (body_meaning env parameters body) (body_expansion sight parameters body)
body_agrees word env sight parameters (FormulaBody d) a = λ further f tracks truths r k w b e le lt.
    let here = agree_further word further f env sight a in
    formula_means d.kind d.span (bind_all env parameters tracks) (record (bind_arguments sight parameters truths) { slots = k }) further
    (record { instants = here.instants; tracks = parameters_match (Reads further) parameters tracks truths env.tracks sight.truths r here.tracks; macros = here.macros })
    w b e le lt
body_agrees word env sight parameters (PropBody p) a = λ further f tracks truths r i lt.
    let here = agree_further word further f env sight a in
    prop_means (bind_all env parameters tracks) (bind_arguments sight parameters truths) p.kind further
    (record { instants = here.instants; tracks = parameters_match (Reads further) parameters tracks truths env.tracks sight.truths r here.tracks; macros = here.macros })
    i lt

macros_agree : (word : Word) (macros : List PlainMacro) (env : Environment) (sight : Sight) → Agree word env sight → Agree word (with_macros env macros) (with_expansions sight macros)
macros_agree word [] env sight a = a
macros_agree word (m ∷ macros) env sight a =
    macros_agree word macros _ _ (record {
      instants = a.instants;
      tracks = a.tracks;
      macros = (refl, (body_agrees word env sight (map (λ (p : Name). p.text) m.parameters) m.body a, a.macros));
    })

-- the declared variables
declared_agree : (word : Word) (k : ℕ) → Widths k word → (names : List Name) (slot : ℕ) → slot + length names ≤ k
    → Matched (Reads word) (declared_from slot names word) (declared_slots slot names)
declared_agree word k w [] slot le = tt
declared_agree word k w (n ∷ names) slot le = (
  refl,
  (
    (λ further f i lt.
        let more = f.more i lt in
        slot_track-truth word slot i lt
        ∙ sym (slot_further (letter_at word i) more.0 slot (omega (arith, le, w i lt)))
        ∙ ap (λ l. truth_at l slot) (sym more.1)),
    declared_agree word k w names (slot + 1) (omega (arith, le)),
  ),
)

goal_agrees : (file : PlainFile) (word : Word) → Widths (length file.variables) word → Agree word (goal_environment file word) (goal_sight file)
goal_agrees file word w =
    macros_agree word file.macros _ _ (record { instants = refl; tracks = declared_agree word (length file.variables) w file.variables 0 (omega arith); macros = tt })

pub goal_means_text : GoalMeansText
goal_means_text file word widths b e le lt =
    let w : Widths (length file.variables) word = λ i below. widths i [] below in
    let slots : (goal_sight file).slots ≡ length file.variables = goal_slots file.macros _ in
    sym (formula_means file.goal.formula.kind file.goal.formula.span (goal_environment file word) (goal_sight file) word (goal_agrees file word w) (λ i below. w i below ∙ sym slots) b e le lt)

-- ---- the core

pub core_means_text : CoreMeansText
core_means_text file word tracks behaves none are b e le lt =
    goal_holds_on_tracks (length file.variables) (expanded_file file) word tracks behaves none are b e le lt ∙ goal_means_text file word behaves.widths b e le lt

pub words_are_models : WordsAreModels
words_are_models file [] none behaves = refl
words_are_models file (letter ∷ letters) none behaves =
    let k = length file.variables in
    let last : length (letter ∷ letters) - 1 ≡ length letters = omega arith in
    ap (core_holds (core_of_file file) (letter ∷ letters) 0) (sym last)
    ∙ core_holds_on_word k (expanded_file file) (letter ∷ letters) behaves none
    ∙ ap (expanded_holds (expanded_file file) (letter ∷ letters) 0) last
    ∙ goal_means_text file (letter ∷ letters) behaves.widths 0 (length letters) (omega arith) (omega arith)
