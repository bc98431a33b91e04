-- Some outcome is right for all words, where the files that they name are held.
--     SomeReport         each formula file has a right report of each kind, or a step that is the first over the limits
--     SomeSynthesis      each formula file has a right answer where a controller is asked for
--     SomeSet            files have a right answer where something is asked of them together
--     some_outcome       with these, all words have a right outcome
use Rattle.dcv_cli.proofs.Common.{◌≡◌, ◌⊎◌, inl, inr, ℕ, suc, ◌<◌, ◌≤◌, List, [], ◌∷◌, ◌++◌, length, Option, None, Some, refl, sym}
use Rattle.dcv_cli.proofs.Common.{ap, append-nil, append_assoc, subst, ◌∙◌, IsSomeAnd, true≢false, PlainFile, AutomatonFile, HasForm}
use Rattle.dcv_cli.proofs.Common.{MachineAcceptsStep, HasGoodWords, IsCertified, Answer, Minimal, Access, Pair, NoneWhereIncluded}
use Rattle.dcv_cli.proofs.Common.{ComplementIsCanonical, line, WordLaws, Subset, Version, SomeVerdict, GoodLinesAreAnswered, fault_of_file}
use Rattle.dcv_cli.proofs.Common.{WordsAreModels, ScopeFault, Refusal, Formula, Syntax, Usage, Done, IsRefusedAutomaton, HasNoForm}
use Rattle.dcv_cli.proofs.Common.{BreaksARule, IsAutomatonText, OnAutomaton, IsBudgeted, IsCertificate, answer_words, status_of_answer}
use Rattle.dcv_cli.proofs.Common.{IsCompared, IsConverted, as_version, IsReport, IsRefused, TooLong, Faulty, HasNoCore, IsSentence}
use Rattle.dcv_cli.proofs.Common.{IsFormulaFile, OnText, Refused, Read, Texts, OnHeld, OnObserver, Outcome, refused, IsReplay, most_bytes}
use Rattle.dcv_cli.proofs.Common.{most_automaton_bytes, refusal_of_reading, refusal_of_scope, Which, Only, First, Second, Limits, Kind}
use Rattle.dcv_cli.proofs.Common.{Request, Report, Certify, Convert, Implies, Stuck, Synth, Replay, Sweep, AreInRange, IsTaken, request_of}
use Rattle.dcv_cli.proofs.Common.{AsksFor, Fulfils, IsRight, Misused, Fulfilled, IsStuckReport, IsSynthesised}
use Rattle.std.specs.Prelude.{IsSome}
use Rattle.std.proofs.lemmas.Bool.{cases_lt}
use Rattle.std.proofs.lemmas.List.Elements.{All-head, recursion_from_All}
use Rattle.dcv_automaton_text.specs.Rules.{first_broken, judged_words}
use Rattle.dcv_automaton_text.specs.Spelled.{spelled}
use Rattle.dcv_c.specs.Laws.{SomeReading as SomeUnit}
use Rattle.dcv_certify.specs.Certified.{HasFewestStates, WhereMinimal}
use Rattle.dcv_certify.specs.Laws.{MinimalShowsFewestStates, MinimalReachesEachState}
use Rattle.dcv_lustre.specs.Laws.{SomeReading as SomeNode}
use Rattle.dcv_reader.specs.Laws.{SomeReading}
use Rattle.dcv_stuck.specs.Laws.{NeverStuckGoesOn}
use Rattle.dcv_cli.specs.declared.refusal.Refusal.TheVariants.{Automaton as AutomatonRefusal}
use Rattle.dcv_cli.specs.declared.faults.FormulaFault.TheVariants.{Length}
use Rattle.dcv_cli.specs.declared.faults.AutomatonFault.TheVariants.{Length as AutomatonLength, Table}
use Rattle.dcv_cli.specs.AutomatonFile.{TooLong as TooLongAutomaton, Refused as RefusedAutomaton, Read as ReadAutomaton}
use Rattle.dcv_cli.specs.FileSet.{IsOfSet, OnFiles}
use Rattle.dcv_cli.specs.Laws.{AreHeld, SomeOutcome}
use Rattle.dcv_cli.specs.declared.refused.Which.TheVariants.{Number}
use Rattle.dcv_cli.proofs.SomeSet.{HaveCores}
use Rattle.clap.specs.Words.{fault_of, subcommand_of, Kinds}
use Rattle.dcv_command.specs.Laws.{TakenWordsAsk}
use Rattle.dcv_command.specs.Program.{program}
use Rattle.std.specs.List.{All, AllByRecursion}
use Rattle.dcv_command.specs.Request.{AreInputsInRange, IsInRange, Set, files_of}
use Rattle.dcv_command.specs.declared.words.SetQuestion.{SetQuestion}
use Rattle.dcv_command.proofs.Ranges.{request_is_in_range}
use Rattle.dcv_automaton_lines.proofs.ReadForms.{some_form}
use Rattle.dcv_cli.proofs.OneReplay.{some_replay}
use Rattle.dcv_tables_read.specs.Laws.{ReadUnitsKeepTheRules, SomeReading as SomeTables}
use Rattle.dcv_cli.proofs.SomeAnswers.{some_answer}
use Rattle.dcv_cli.proofs.SomeReports.{some_sweep, some_comparison}
use Rattle.dcv_cli.proofs.StuckReports.{some_stuck_report}

-- ---- texts of formula files

-- a text is refused, or is a formula file
abbrev RefusedOrFile : List ℕ → Type 0
RefusedOrFile text = ((refusal : Refusal) × IsRefused text refusal) ⊎ ((file : PlainFile) × IsFormulaFile text file)

-- a sentence is a formula file, or has no core
some_on_sentence : (text : List ℕ) (file : PlainFile) → IsSentence text file → (fault : Option ScopeFault) → fault_of_file file ≡ fault → RefusedOrFile text
some_on_sentence text file holds (Some fault) is = inl (refusal_of_scope fault, HasNoCore file holds fault is refl)
some_on_sentence text file holds None is = inr (file, record { sentence = holds; has_core = is })

module _ (some_reading : SomeReading) where
  some_on_short : (text : List ℕ) → length text ≤ most_bytes → RefusedOrFile text
  some_on_short text short =
      elim (some_reading text) [
        | inl first ↦ inl (refusal_of_reading first.0, Faulty short first.0 first.1 refl)
        | inr read ↦ some_on_sentence text read.0 (record { fits = short; no_fault = read.2; spelled = read.1 }) (fault_of_file read.0) refl
      ]

  refused_or_file : (text : List ℕ) → RefusedOrFile text
  refused_or_file text =
      elim (cases_lt most_bytes (length text)) [ inl long ↦ inl (Formula Length, TooLong long refl) | inr short ↦ some_on_short text short ]

-- ---- texts of automata

-- a text is refused, or is an automaton's
abbrev RefusedOrAutomaton : List ℕ → Type 0
RefusedOrAutomaton text = ((refusal : Refusal) × IsRefusedAutomaton text refusal) ⊎ ((file : AutomatonFile) × IsAutomatonText text file)

kept_or_broken : (text : List ℕ) (file : AutomatonFile) → length text ≤ most_automaton_bytes → HasForm text file → (broken : Option ℕ)
    → first_broken 0 (judged_words file) ≡ broken
    → RefusedOrAutomaton text
kept_or_broken text file short form None is = inr (file, record { fits = short; form = form; good = is })
kept_or_broken text file short form (Some at) is = inl (AutomatonRefusal (Table at), BreaksARule short file form at is refl)

automaton_on_short : (text : List ℕ) → length text ≤ most_automaton_bytes → RefusedOrAutomaton text
automaton_on_short text short = elim (some_form text) [
  | inl fault ↦ inl (AutomatonRefusal (Syntax fault.0), HasNoForm short fault.0 fault.1 refl)
  | inr read ↦ kept_or_broken text read.0 short read.1 (first_broken 0 (judged_words read.0)) refl
]

refused_or_automaton : (text : List ℕ) → RefusedOrAutomaton text
refused_or_automaton text = elim (cases_lt most_automaton_bytes (length text)) [
  | inl long ↦ inl (AutomatonRefusal AutomatonLength, TooLongAutomaton long refl)
  | inr short ↦ automaton_on_short text short
]

-- what is right for its file is right for the text
on_automaton : (RightFor : AutomatonFile → Outcome → Type 0) (text : List ℕ) → ((file : AutomatonFile) → IsAutomatonText text file → (outcome : Outcome) × RightFor file outcome)
    → (outcome : Outcome) × OnAutomaton text RightFor outcome
on_automaton RightFor text right = elim (refused_or_automaton text) [
  | inl refusal ↦ (refused refusal.0 Only, RefusedAutomaton refusal.0 refusal.1 refl)
  | inr read ↦ let found = right read.0 read.1 in (found.0, ReadAutomaton read.0 read.1 found.1)
]

where_minimal : (fact : Type 0) (answer : Answer) → (answer ≡ Minimal → fact) → WhereMinimal fact answer
where_minimal fact Minimal shows = shows refl
where_minimal fact (Access state) shows = tt
where_minimal fact (Pair first second) shows = tt

module _ (fewest : MinimalShowsFewestStates) (reached : MinimalReachesEachState) where
  some_certificate : (text : List ℕ) (file : AutomatonFile) → IsAutomatonText text file → (outcome : Outcome) × IsCertificate file outcome
  some_certificate text file is =
      let (answer, certified) = some_answer file in (
        record { status = status_of_answer answer; out = line (answer_words file.states answer); err = [] },
        record {
          answer = answer;
          is = certified;
          fewest = where_minimal (HasFewestStates file) answer (λ minimal. fewest file is.good (subst (IsCertified file) minimal certified));
          reached = where_minimal (HasGoodWords file) answer (λ minimal. reached file (subst (IsCertified file) minimal certified));
          status = refl;
          says = refl;
          no_message = refl;
        },
      )

some_conversion : (to : Version) (file : AutomatonFile) → (outcome : Outcome) × IsConverted to file outcome
some_conversion to file = (record { status = Done; out = spelled (as_version to file); err = [] }, record { status = refl; says = refl; no_message = refl })

-- ---- what the words ask for

-- each formula file has a right report of each kind, or a step that is the first over the limits
abbrev pub SomeReport : Type 0
SomeReport = (kind : Kind) (limits : Limits) → AreInRange limits → (text : List ℕ) (file : PlainFile) → IsFormulaFile text file
    → (outcome : Outcome) × IsBudgeted limits Only (IsReport kind limits) file outcome

-- and a right answer where a controller is asked for
abbrev pub SomeSynthesis : Type 0
SomeSynthesis = (inputs : ℕ) (limits : Limits) → AreInputsInRange inputs limits → (text : List ℕ) (file : PlainFile) → IsFormulaFile text file
    → (outcome : Outcome) × IsSynthesised inputs limits file outcome

-- and files without a fault have one where something is asked of them together
abbrev pub SomeSet : Type 0
SomeSet = (question : SetQuestion) (limits : Limits) (tuples : ℕ) (files : List PlainFile) → 0 < length files → HaveCores files
    → (outcome : Outcome) × IsOfSet question limits tuples files outcome

-- what is right for the text that is held is right for its name
held_under : (OfText : List ℕ → Outcome → Type 0) (held : List ℕ → Option (List ℕ)) (name : List ℕ) → IsSome (held name)
    → ((text : List ℕ) → (outcome : Outcome) × OfText text outcome) → (outcome : Outcome) × OnHeld held name OfText outcome
held_under OfText held name there right = by (held name) there
  where
    by : (text : Option (List ℕ)) → IsSome text → (outcome : Outcome) × IsSomeAnd text (λ one. OfText one outcome)
    by None some = absurd (true≢false (sym some))
    by (Some text) some = right text

module _ (some_reading : SomeReading) (reports : SomeReport) (syntheses : SomeSynthesis) (sets : SomeSet) (laws : WordLaws) (accept : MachineAcceptsStep)
    (outside_is : ComplementIsCanonical) (models_are : WordsAreModels) (none_included : NoneWhereIncluded) (fewest : MinimalShowsFewestStates) (reached : MinimalReachesEachState)
    (words_ask : TakenWordsAsk) (some_node : SomeNode) (some_unit : SomeUnit) (some_tables : SomeTables) (tables_rules : ReadUnitsKeepTheRules) (some_verdict : SomeVerdict) (answered : GoodLinesAreAnswered) (goes_on : NeverStuckGoesOn) where
  -- ---- a formula file

  on_text : (which : Which) (RightFor : PlainFile → Outcome → Type 0) (text : List ℕ)
      → ((file : PlainFile) → IsFormulaFile text file → (outcome : Outcome) × RightFor file outcome)
      → (outcome : Outcome) × OnText text which RightFor outcome
  on_text which RightFor text right = elim (refused_or_file some_reading text) [
    | inl refusal ↦ (refused refusal.0 which, Refused refusal.0 refusal.1 refl)
    | inr read ↦ let found = right read.0 read.1 in (found.0, Read read.0 read.1 found.1)
  ]

  -- what is right for files without a fault is right for the names under which they are held, each at its time
  files_held : (held : Texts) (RightFor : List PlainFile → Outcome → Type 0) (names : List (List ℕ)) (time : ℕ) (read : List PlainFile)
      → ((at : ℕ) → AllByRecursion (λ name. IsSome (held at name)) names)
      → ((files : List PlainFile) → length files ≡ length names → HaveCores files → (outcome : Outcome) × RightFor (read ++ files) outcome)
      → (outcome : Outcome) × OnFiles held time read names RightFor outcome
  files_held held RightFor [] time read there right =
      let found = right [] refl tt in (found.0, subst (λ files. RightFor files found.0) (append-nil read) found.1)
  files_held held RightFor (name ∷ names) time read there right =
      held_under (λ text. OnText text (Number (suc time)) (λ file. OnFiles held (suc time) (read ++ file ∷ []) names RightFor)) (held time) name (there time).0
      (λ text. on_text (Number (suc time)) (λ file. OnFiles held (suc time) (read ++ file ∷ []) names RightFor) text
      (λ file formula. files_held held RightFor names (suc time) (read ++ file ∷ []) (λ at. (there at).1)
      (λ files count cores.
      let found = right (file ∷ files) (ap suc count) (formula.has_core, cores) in
      (found.0, subst (λ all. RightFor all found.0) (sym (append_assoc read (file ∷ []) files)) found.1))))

  replay_held : (subset : Subset) (observer trace : List ℕ) (held : Texts) → IsSome (held 0 observer) → IsSome (held 1 trace)
      → (outcome : Outcome) × Fulfils (Replay subset observer trace) held outcome
  replay_held subset observer trace held there other = by (held 0 observer) (held 1 trace) there other
    where
      by : (text trace_text : Option (List ℕ)) → IsSome text → IsSome trace_text
          → (outcome : Outcome) × IsSomeAnd text (λ bytes. OnObserver subset bytes (λ o outcome. IsSomeAnd trace_text (λ t. IsReplay o t outcome)) outcome)
      by None trace_text some also = absurd (true≢false (sym some))
      by (Some text) None some also = absurd (true≢false (sym also))
      by (Some text) (Some trace_text) some also = some_replay some_node some_unit some_tables tables_rules some_verdict answered subset text trace_text

  some_for_request : (held : Texts) (request : Request) → IsInRange request → ((time : ℕ) → All (λ name. IsSome (held time name)) (files_of request))
      → (outcome : Outcome) × Fulfils request held outcome
  some_for_request held (Report kind name limits) range there =
      held_under (λ text. OnText text Only (IsBudgeted limits Only (IsReport kind limits))) (held 0) name
      (All-head (λ n. IsSome (held 0 n)) name [] (there 0))
      (λ text. on_text Only (IsBudgeted limits Only (IsReport kind limits)) text (reports kind limits range text))
  some_for_request held (Certify name) range there =
      held_under (λ text. OnAutomaton text IsCertificate) (held 0) name (All-head (λ n. IsSome (held 0 n)) name [] (there 0))
      (λ text. on_automaton IsCertificate text (some_certificate fewest reached text))
  some_for_request held (Convert name to) range there =
      held_under (λ text. OnAutomaton text (IsConverted to)) (held 0) name (All-head (λ n. IsSome (held 0 n)) name [] (there 0))
      (λ text. on_automaton (IsConverted to) text (λ file read. some_conversion to file))
  some_for_request held (Implies first second limits) range there =
      let here = recursion_from_All (λ n. IsSome (held 0 n)) (first ∷ second ∷ []) (there 0) in
      let other = recursion_from_All (λ n. IsSome (held 1 n)) (first ∷ second ∷ []) (there 1) in
      held_under (λ text. OnText text First (λ one. OnHeld (held 1) second (λ other_text. OnText other_text Second (IsCompared limits one))))
      (held 0) first here.0
      (λ text. on_text First (λ one. OnHeld (held 1) second (λ other_text. OnText other_text Second (IsCompared limits one))) text
      (λ one formula. held_under (λ other_text. OnText other_text Second (IsCompared limits one)) (held 1) second other.1.0
      (λ other_text. on_text Second (IsCompared limits one) other_text
      (λ file other_formula.
      some_comparison laws accept outside_is models_are none_included limits one file formula.has_core other_formula.has_core))))
  some_for_request held (Stuck name limits) range there =
      held_under (λ text. OnText text Only (IsBudgeted limits Only IsStuckReport)) (held 0) name
      (All-head (λ n. IsSome (held 0 n)) name [] (there 0))
      (λ text. on_text Only (IsBudgeted limits Only IsStuckReport) text
      (λ file formula. some_stuck_report goes_on laws accept models_are limits file formula.has_core))
  some_for_request held (Synth name inputs limits) range there =
      held_under (λ text. OnText text Only (IsSynthesised inputs limits)) (held 0) name
      (All-head (λ n. IsSome (held 0 n)) name [] (there 0))
      (λ text. on_text Only (IsSynthesised inputs limits) text (syntheses inputs limits range text))
  some_for_request held (Replay subset observer trace) range there =
      let one = recursion_from_All (λ n. IsSome (held 0 n)) (observer ∷ trace ∷ []) (there 0) in
      let other = recursion_from_All (λ n. IsSome (held 1 n)) (observer ∷ trace ∷ []) (there 1) in
      replay_held subset observer trace held one.0 other.1.0
  some_for_request held (Sweep seed count) range there = some_sweep laws accept outside_is seed count
  some_for_request held (Set question names limits tuples) range there =
      files_held held (IsOfSet question limits tuples) names 0 [] (λ at. recursion_from_All (λ n. IsSome (held at n)) names (there at))
      (λ files count cores. sets question limits tuples files (subst (λ n. 0 < n) (sym count) range.some_names) cores)

  some_for_taken : (words : List (List ℕ)) (held : Texts) → AreHeld words held → IsTaken words → (request : Option Request)
      → request_of words ≡ request → IsSome request → (outcome : Outcome) × IsRight words held outcome
  some_for_taken words held there taken None is asks = absurd (true≢false (sym asks))
  some_for_taken words held there taken (Some request) is asks =
      let asked : AsksFor words request = record { taken = taken; asked = is } in
      let (outcome, right) = some_for_request held request (request_is_in_range (subcommand_of program words) request is) (there request asked) in
      (outcome, Fulfilled request asked right)

  -- words are taken where no fault is found in them
  some_for : (words : List (List ℕ)) (held : Texts) → AreHeld words held → (faults : Kinds) → fault_of program words ≡ faults
      → (outcome : Outcome) × IsRight words held outcome
  some_for words held there [] is = some_for_taken words held there is (request_of words) refl (words_ask words is)
  some_for words held there (fault ∷ faults) is =
      (record { status = Usage; out = []; err = [] }, Misused (λ taken. let wrong : fault ∷ faults ≡ [] = sym is ∙ taken in cc) refl refl)

  pub some_outcome : SomeOutcome
  some_outcome words held there = some_for words held there (fault_of program words) refl
