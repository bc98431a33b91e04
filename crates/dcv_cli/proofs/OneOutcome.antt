-- One outcome at most is right.
use Rattle.dcv_cli.proofs.Common.{◌≡◌, ◌⊎◌, inl, inr, refl, ℕ, suc, List, [], ◌∷◌, ◌++◌, length, Option, None, Some, sym, ap, ◌∙◌}
use Rattle.dcv_cli.proofs.Common.{subst, arith, IsSomeAnd, append-nil, append_assoc, true≢false, PlainFile, models}
use Rattle.dcv_cli.proofs.Common.{OneVerdict, SpellsOne, core_of_file, fault_of_file, ScopeFault}
use Rattle.dcv_cli.proofs.Common.{Limits, WithinExcludesOver, Excess}
use Rattle.dcv_cli.proofs.Common.{Refusal, Product, kind_of}
use Rattle.dcv_cli.proofs.Common.{limit_of, IsBudgeted, OverBudget, WithinBudget, OneAutomaton, Kind as ReportKind, IsReport}
use Rattle.dcv_cli.proofs.Common.{IsRefused, TooLong, Faulty, HasNoCore, IsFormulaFile, OnText, Refused, Read, Texts, Outcome, refused}
use Rattle.dcv_cli.proofs.Common.{refusal_of_reading, refusal_of_scope, Which, Only, First, Second}
use Rattle.dcv_cli.proofs.Common.{OneFile as OneAutomatonText, OneAnswer, IsCompared, Undeclared, Declared, IsDifference, OverProduct}
use Rattle.dcv_cli.proofs.Common.{WithinProduct, compared, OnHeld, Request, Report, Certify, Convert, Implies, Stuck, Synth, Replay, Sweep}
use Rattle.dcv_command.specs.Request.{Set}
use Rattle.dcv_command.specs.declared.words.SetQuestion.{SetQuestion}
use Rattle.dcv_cli.proofs.Common.{TooMany, Least, OneTraceVerdict, OneTextOfAnswers, summary_text, IsStuckReport, IsSwept, default_limits}
use Rattle.dcv_cli.proofs.Common.{IsSynthesised, Undivided, Divided, IsSynthesisOf, texts_of, Fulfils, IsRight, Misused, Fulfilled}
use Rattle.dcv_cli.proofs.Common.{status_of_verdict}
use Rattle.dcv_sentence.specs.Faults.{FaultIsUnique}
use Rattle.dcv_scope.specs.declared.faults.ScopeFault.TheVariants.{TooMany}
use Rattle.dcv_build.specs.Laws.{OneStepIsOver, OneListOfCounts}
use Rattle.dcv_print.specs.Laws.{OneNode, OneUnit, OneTables}
use Rattle.dcv_cli.proofs.Texts.{one_text}
use Rattle.dcv_implies.specs.Comparison.{IsProductOver}
use Rattle.dcv_together.specs.Laws.{OneLeastWithin, OneStuckOf}
use Rattle.dcv_cli.specs.FileSet.{IsOfSet, OnFiles}
use Rattle.dcv_cli.specs.Laws.{AreHeldFiles, DifferInStep, DifferInProduct, DifferOnFile, DifferOnFiles, AgreeOn, InAll, ButForSuffixes, ButForTheLimit, Agree, Misusing, Asking, OneOutcome}
use Rattle.dcv_cli.proofs.FormulaFiles.{long_or_read, one_sentence, one_file, refused_or_read}
use Rattle.dcv_cli.proofs.OneRequest.{one_request}
use Rattle.dcv_cli.proofs.OneCertificate.{same_outcome, one_held_certificate}
use Rattle.dcv_cli.proofs.ConvertedBack.{one_held_conversion}
use Rattle.dcv_cli.proofs.OneOver.{both_kinds, one_over, same_or_other}
use Rattle.dcv_cli.proofs.OneReplay.{AreSubsets, one_held_replay}
use Rattle.dcv_cli.proofs.OneSet.{one_of_set}
use Rattle.dcv_cli.specs.declared.refused.Which.TheVariants.{Number}
use Rattle.dcv_implies.specs.Laws.{OneAnswer as OneComparison}
use Rattle.dcv_stuck.proofs.Answers.{one_least_stuck}
use Rattle.dcv_sweep.specs.Laws.{OneSummary}
use Rattle.dcv_cli.specs.Stuck.{stuck_outcome}

-- two outcomes that differ so for a formula file do for the text that is held
on_file : (limits : Limits) (which : Which) (text : Option (List ℕ)) (bytes : List ℕ) (file : PlainFile) → text ≡ Some bytes → IsFormulaFile bytes file
    → (a b : Outcome) → DifferInStep limits which file a b → DifferOnFile limits which text a b
on_file limits which text bytes file there formula a b differ =
    subst (λ (found : Option (List ℕ)). DifferOnFile limits which found a b) (sym there) (file, formula, differ)

on_files : (limits : Limits) (text another_text : Option (List ℕ)) (bytes others : List ℕ) (file another : PlainFile) → text ≡ Some bytes → another_text ≡ Some others
    → IsFormulaFile bytes file → IsFormulaFile others another → (a b : Outcome) → DifferInProduct limits file another a b → DifferOnFiles limits text another_text a b
on_files limits text another_text bytes others file another there other_there formula other_formula a b differ =
    subst (λ (found : Option (List ℕ)). DifferOnFiles limits found another_text a b) (sym there)
    (subst (λ (found : Option (List ℕ)). DifferOnFiles limits (Some bytes) found a b) (sym other_there) (file, another, formula, other_formula, differ))

module _ (one_tree : SpellsOne) (one_fault : FaultIsUnique) (one_verdict : OneVerdict) (one_step : OneStepIsOver) (none_over : WithinExcludesOver) (one_list : OneListOfCounts) (one_automaton : OneAutomaton) (one_node : OneNode) (one_unit : OneUnit) (one_tables : OneTables)
    (one_automaton_text : OneAutomatonText) (one_answer : OneAnswer) (one_comparison : OneComparison) (subsets : AreSubsets) (one_trace_verdict : OneTraceVerdict)
    (one_text_of_answers : OneTextOfAnswers) (one_summary : OneSummary) (one_least : OneLeastWithin) (one_stuck_of : OneStuckOf)
    (one_synthesis_of : (inputs : ℕ) (file : PlainFile) (a b : Outcome) → IsSynthesisOf inputs file a → IsSynthesisOf inputs file b → a ≡ b) where
  -- one file has one first fault
  one_scope_fault : (f g : PlainFile) (fault other : ScopeFault) → f ≡ g → fault_of_file f ≡ Some fault → fault_of_file g ≡ Some other
      → refusal_of_scope fault ≡ refusal_of_scope other
  one_scope_fault f g fault other same has has' = let one : fault ≡ other = cc in ap refusal_of_scope one

  one_refusal : (text : List ℕ) (r s : Refusal) → IsRefused text r → IsRefused text s → r ≡ s
  one_refusal text r s (TooLong long e) (TooLong long' e') = e ∙ sym e'
  one_refusal text r s (TooLong long e) (Faulty short fault is e') = absurd (omega arith)
  one_refusal text r s (Faulty short fault is e) (TooLong long e') = absurd (omega arith)
  one_refusal text r s (Faulty short fault is e) (Faulty short' other is' e') = e ∙ ap refusal_of_reading (one_fault text fault other is is') ∙ sym e'
  one_refusal text r s (TooLong long e) (HasNoCore file is fault has e') = absurd (long_or_read text file long is)
  one_refusal text r s (HasNoCore file is fault has e) (TooLong long e') = absurd (long_or_read text file long is)
  one_refusal text r s (Faulty short fault first e) (HasNoCore file is other has e') = absurd (is.no_fault fault first.has)
  one_refusal text r s (HasNoCore file is other has e) (Faulty short fault first e') = absurd (is.no_fault fault first.has)
  one_refusal text r s (HasNoCore f is fault has e) (HasNoCore g is' other has' e') =
      e ∙ one_scope_fault f g fault other (one_sentence one_tree text f g is is') has has' ∙ sym e'

  -- two outcomes of one product are the same, or name one excess each
  one_difference : (limits : Limits) (one other : PlainFile) (a b : Outcome) → IsDifference limits one other a → IsDifference limits one other b
      → (a ≡ b) ⊎ DifferInProduct limits one other a b
  one_difference limits one other a b (OverProduct excess over e) (OverProduct excess' over' e') = elim (same_or_other excess excess') [
    | inl same ↦ inl (e ∙ ap (λ (x : Excess). refused (Product x (limit_of x limits)) Only) same ∙ sym e')
    | inr differ ↦ inr (record {
      first = excess;
      second = excess';
      differ = differ;
      both = λ kind. both_kinds (IsProductOver limits (length one.variables) (models one) (models other)) excess excess' over over' differ kind;
      one_is = e;
      other_is = e';
    })
  ]
  one_difference limits one other a b (OverProduct excess over e) (WithinProduct within is) =
      absurd (one_comparison limits (length one.variables) (models one) (models other) (TooMany (kind_of excess)) (Least is.least) over (within, is.is_least))
  one_difference limits one other a b (WithinProduct within is) (OverProduct excess over e) =
      absurd (one_comparison limits (length one.variables) (models one) (models other) (Least is.least) (TooMany (kind_of excess)) (within, is.is_least) over)
  one_difference limits one other a b (WithinProduct within is) (WithinProduct within' is') =
      let same : is.least ≡ is'.least =
      one_comparison limits (length one.variables) (models one) (models other) (Least is.least) (Least is'.least) (within, is.is_least) (within', is'.is_least) in
      inl (is.says ∙ ap compared same ∙ sym is'.says)

  one_stuck : (file : PlainFile) (a b : Outcome) → IsStuckReport file a → IsStuckReport file b → a ≡ b
  one_stuck file a b p q =
      let same = one_least_stuck (length file.variables) (models file) p.least q.least p.is_least q.is_least in
      p.says ∙ ap stuck_outcome same ∙ sym q.says

  one_swept : (seed count : ℕ) (a b : Outcome) → IsSwept seed count a → IsSwept seed count b → a ≡ b
  one_swept seed count a b p q =
      let same = one_summary default_limits seed count p.summary q.summary p.is q.is in
      same_outcome a b (p.status ∙ sym q.status) (p.says ∙ ap summary_text same ∙ sym q.says) (p.no_message ∙ sym q.no_message)

  -- ---- a request

  module _ (request : Request) (held : Texts) where
    one_on_file : (text : Option (List ℕ)) (which : Which) (RightFor : PlainFile → Outcome → Type 0)
        → ((bytes : List ℕ) (file : PlainFile) → text ≡ Some bytes → IsFormulaFile bytes file → (a b : Outcome) → RightFor file a → RightFor file b → AgreeOn request held a b)
        → (a b : Outcome) → IsSomeAnd text (λ bytes. OnText bytes which RightFor a) → IsSomeAnd text (λ bytes. OnText bytes which RightFor b) → AgreeOn request held a b
    one_on_file text which RightFor one a b p q = by text refl p q
      where
        on_text : (bytes : List ℕ) → text ≡ Some bytes → OnText bytes which RightFor a → OnText bytes which RightFor b → AgreeOn request held a b
        on_text bytes there (Refused r is e) (Refused s is' e') = InAll (e ∙ ap (λ r. refused r which) (one_refusal bytes r s is is') ∙ sym e')
        on_text bytes there (Refused r is e) (Read file is' right) = absurd (refused_or_read one_tree bytes r file is is')
        on_text bytes there (Read file is right) (Refused s is' e') = absurd (refused_or_read one_tree bytes s file is' is)
        on_text bytes there (Read f is right) (Read g is' right') =
            one bytes f there is a b right (subst (λ (file : PlainFile). RightFor file b) (one_file one_tree bytes g f is' is) right')

        by : (found : Option (List ℕ)) → text ≡ found → IsSomeAnd found (λ bytes. OnText bytes which RightFor a) → IsSomeAnd found (λ bytes. OnText bytes which RightFor b)
            → AgreeOn request held a b
        by None there p q = absurd p
        by (Some bytes) there p q = on_text bytes there p q

    one_budgeted : (limits : Limits) (which : Which) (RightFor : PlainFile → Outcome → Type 0) (file : PlainFile)
        → ((a b : Outcome) → RightFor file a → RightFor file b → AgreeOn request held a b)
        → ((a b : Outcome) → DifferInStep limits which file a b → AgreeOn request held a b)
        → (a b : Outcome) → IsBudgeted limits which RightFor file a → IsBudgeted limits which RightFor file b → AgreeOn request held a b
    one_budgeted limits which RightFor file one over_both a b (OverBudget over is e) (OverBudget another is' e') = elim (one_over one_step (length file.variables) (core_of_file file) limits which a b over another is is' e e') [
      | inl same ↦ InAll same
      | inr differ ↦ over_both a b differ
    ]
    one_budgeted limits which RightFor file one over_both a b (OverBudget over is e) (WithinBudget within right) =
        absurd (none_over (length file.variables) (core_of_file file) limits (kind_of over.excess) over.step within is.is_over)
    one_budgeted limits which RightFor file one over_both a b (WithinBudget within right) (OverBudget over is e) =
        absurd (none_over (length file.variables) (core_of_file file) limits (kind_of over.excess) over.step within is.is_over)
    one_budgeted limits which RightFor file one over_both a b (WithinBudget within right) (WithinBudget within' right') = one a b right right'

    -- of files that are held, each at its time
    one_on_files : (names : List (List ℕ)) (time : ℕ) (read : List PlainFile) (RightFor : List PlainFile → Outcome → Type 0)
        → ((files : List PlainFile) → AreHeldFiles held time names files → (a b : Outcome) → RightFor (read ++ files) a → RightFor (read ++ files) b → AgreeOn request held a b)
        → (a b : Outcome) → OnFiles held time read names RightFor a → OnFiles held time read names RightFor b → AgreeOn request held a b
    one_on_files [] time read RightFor one a b p q =
        let all = sym (append-nil read) in one [] tt a b (subst (λ files. RightFor files a) all p) (subst (λ files. RightFor files b) all q)
    one_on_files (name ∷ names) time read RightFor one a b p q =
        one_on_file (held time name) (Number (suc time)) (λ file. OnFiles held (suc time) (read ++ file ∷ []) names RightFor)
        (λ bytes file there formula. one_on_files names (suc time) (read ++ file ∷ []) RightFor
        (λ files are a b p q.
        let all = append_assoc read (file ∷ []) files in
        let here = subst (λ (found : Option (List ℕ)). IsSomeAnd found (λ bytes. IsFormulaFile bytes file)) (sym there) formula in
        one (file ∷ files) (here, are) a b (subst (λ files. RightFor files a) all p) (subst (λ files. RightFor files b) all q))) a b p q

    -- of a request with one formula file, whose steps are counted first
    one_of_file : (name : List ℕ) (limits : Limits) (RightFor : PlainFile → Outcome → Type 0)
        → ((a b : Outcome) → DifferOnFile limits Only (held 0 name) a b → AgreeOn request held a b)
        → ((file : PlainFile) (a b : Outcome) → RightFor file a → RightFor file b → AgreeOn request held a b)
        → (a b : Outcome) → OnHeld (held 0) name (λ text. OnText text Only (IsBudgeted limits Only RightFor)) a
        → OnHeld (held 0) name (λ text. OnText text Only (IsBudgeted limits Only RightFor)) b → AgreeOn request held a b
    one_of_file name limits RightFor over_both one a b p q =
        one_on_file (held 0 name) Only (IsBudgeted limits Only RightFor)
        (λ bytes file there formula. one_budgeted limits Only RightFor file (one file)
        (λ a b differ. over_both a b (on_file limits Only (held 0 name) bytes file there formula a b differ))) a b p q

  one_report : (kind : ReportKind) (name : List ℕ) (limits : Limits) (held : Texts) (file : PlainFile) (a b : Outcome) → IsReport kind limits file a → IsReport kind limits file b
      → AgreeOn (Report kind name limits) held a b
  one_report kind name limits held file a b r s =
      let same : r.verdict ≡ s.verdict = one_verdict (length file.variables) (models file) r.verdict s.verdict r.is_verdict s.is_verdict in
      let counts : r.counts ≡ s.counts = one_list (length file.variables) (core_of_file file) limits r.counts s.counts r.are_counts s.are_counts in
      let status = r.status ∙ ap status_of_verdict same ∙ sym s.status in
      let message = r.no_message ∙ sym s.no_message in
      elim (one_text one_automaton one_node one_unit one_tables (length file.variables) (models file) (texts_of file.variables) r.verdict s.verdict r.counts s.counts a.out b.out kind same
      counts r.says s.says) [
        | inl out ↦ InAll (same_outcome a b status out message)
        | inr differ ↦ ButForSuffixes differ.0 status differ.1 message
      ]

  one_synthesised : (name : List ℕ) (inputs : ℕ) (limits : Limits) (held : Texts) (bytes : List ℕ) (file : PlainFile) → held 0 name ≡ Some bytes → IsFormulaFile bytes file
      → (a b : Outcome) → IsSynthesised inputs limits file a → IsSynthesised inputs limits file b → AgreeOn (Synth name inputs limits) held a b
  one_synthesised name inputs limits held bytes file there formula a b (Undivided not e) (Undivided not' e') = InAll (e ∙ sym e')
  one_synthesised name inputs limits held bytes file there formula a b (Undivided not e) (Divided fits is) = absurd (true≢false (sym fits ∙ not))
  one_synthesised name inputs limits held bytes file there formula a b (Divided fits is) (Undivided not e) = absurd (true≢false (sym fits ∙ not))
  one_synthesised name inputs limits held bytes file there formula a b (Divided fits is) (Divided fits' is') =
      one_budgeted (Synth name inputs limits) held limits Only (IsSynthesisOf inputs) file (λ a b p q. InAll (one_synthesis_of inputs file a b p q))
      (λ a b differ. ButForTheLimit (on_file limits Only (held 0 name) bytes file there formula a b differ)) a b is is'

  module _ (first second : List ℕ) (limits : Limits) (held : Texts) (bytes others : List ℕ) (one other : PlainFile) (there : held 0 first ≡ Some bytes)
      (other_there : held 1 second ≡ Some others) (formula : IsFormulaFile bytes one) (other_formula : IsFormulaFile others other) where
    one_within : (a b : Outcome) → IsDifference limits one other a → IsDifference limits one other b → AgreeOn (Implies first second limits) held a b
    one_within a b p q = elim (one_difference limits one other a b p q) [
      | inl same ↦ InAll same
      | inr differ ↦ ButForTheLimit (inr (inr (on_files limits (held 0 first) (held 1 second) bytes others one other there other_there formula other_formula a b differ)))
    ]

    one_compared : (a b : Outcome) → IsCompared limits one other a → IsCompared limits one other b → AgreeOn (Implies first second limits) held a b
    one_compared a b (Undeclared differ e) (Undeclared differ' e') = InAll (e ∙ sym e')
    one_compared a b (Undeclared differ e) (Declared same is) = absurd (differ same)
    one_compared a b (Declared same is) (Undeclared differ e) = absurd (differ same)
    one_compared a b (Declared same is) (Declared same' is') =
        one_budgeted (Implies first second limits) held limits First (λ first. IsBudgeted limits Second (IsDifference limits first) other) one
        (λ a b p q. one_budgeted (Implies first second limits) held limits Second (IsDifference limits one) other one_within
        (λ a b differ. ButForTheLimit (inr (inl (on_file limits Second (held 1 second) others other other_there other_formula a b differ)))) a b p q)
        (λ a b differ. ButForTheLimit (inl (on_file limits First (held 0 first) bytes one there formula a b differ))) a b is is'

  one_of_files : (question : SetQuestion) (names : List (List ℕ)) (limits : Limits) (tuples : ℕ) (held : Texts) (files : List PlainFile) → AreHeldFiles held 0 names files
      → (a b : Outcome) → IsOfSet question limits tuples files a → IsOfSet question limits tuples files b → AgreeOn (Set question names limits tuples) held a b
  one_of_files question names limits tuples held files are a b p q = elim (one_of_set one_least one_stuck_of one_step none_over question limits tuples files a b p q) [
    | inl same ↦ InAll same
    | inr differ ↦ ButForTheLimit (files, are, differ)
  ]

  one_fulfilled : (request : Request) (held : Texts) (a b : Outcome) → Fulfils request held a → Fulfils request held b → AgreeOn request held a b
  one_fulfilled (Report kind name limits) held a b p q =
      one_of_file (Report kind name limits) held name limits (IsReport kind limits) (λ a b differ. ButForTheLimit differ) (one_report kind name limits held) a b p q
  one_fulfilled (Certify name) held a b p q = InAll (one_held_certificate one_automaton_text one_answer (held 0 name) a b p q)
  one_fulfilled (Convert name to) held a b p q = InAll (one_held_conversion one_automaton_text to (held 0 name) a b p q)
  one_fulfilled (Implies first second limits) held a b p q =
      one_on_file (Implies first second limits) held (held 0 first) First (λ one. OnHeld (held 1) second (λ text. OnText text Second (IsCompared limits one)))
      (λ bytes one there formula a b p q. one_on_file (Implies first second limits) held (held 1 second) Second (IsCompared limits one)
      (λ others other other_there other_formula. one_compared first second limits held bytes others one other there other_there formula other_formula) a b p q) a b p q
  one_fulfilled (Stuck name limits) held a b p q =
      one_of_file (Stuck name limits) held name limits IsStuckReport (λ a b differ. ButForTheLimit differ) (λ file a b p q. InAll (one_stuck file a b p q)) a b p q
  one_fulfilled (Synth name inputs limits) held a b p q =
      one_on_file (Synth name inputs limits) held (held 0 name) Only (IsSynthesised inputs limits) (one_synthesised name inputs limits held) a b p q
  one_fulfilled (Replay subset observer trace) held a b p q =
      InAll (one_held_replay subsets one_trace_verdict one_text_of_answers subset (held 0 observer) (held 1 trace) a b p q)
  one_fulfilled (Sweep seed count) held a b p q = InAll (one_swept seed count a b p q)
  one_fulfilled (Set question names limits tuples) held a b p q =
      one_on_files (Set question names limits tuples) held names 0 [] (IsOfSet question limits tuples) (one_of_files question names limits tuples held) a b p q

  pub one_outcome : OneOutcome
  one_outcome words held one other is is' = by is is'
    where
      by : IsRight words held one → IsRight words held other → Agree words held one other
      by (Misused not s o) (Misused not' s' o') = Misusing not s s' o o'
      by (Misused not s o) (Fulfilled request asked right) = absurd (not asked.taken)
      by (Fulfilled request asked right) (Misused not s o) = absurd (not asked.taken)
      by (Fulfilled r asked right) (Fulfilled s asked' right') =
          Asking r asked (one_fulfilled r held one other right (subst (λ (request : Request). Fulfils request held other) (one_request words s r asked' asked) right'))
