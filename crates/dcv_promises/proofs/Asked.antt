-- A run whose words ask for something, over files that tell what they hold, ends as that request has it.
use Rattle.std.proofs.Common.{◌≡◌, ℕ, suc, List, [], ◌∷◌, ◌++◌, Bool, true, false, Option, None, Some, IfSome, ap, ◌∙◌, subst}
use Rattle.std.specs.Bool.{OnTrue}
use Rattle.std.specs.Option.{IsSomeAnd}
use Rattle.dcv_io.specs.Disk.{Disk, held_of}
use Rattle.dcv_syntax.specs.Plain.{PlainFile}
use Rattle.dcv_explore.specs.declared.explorer.Limits.{Limits}
use Rattle.dcv_language.specs.declared.kind.Kind.{Kind}
use Rattle.dcv_language.specs.declared.kind.Kind.TheVariants.{All, Tables}
use Rattle.dcv_replay.specs.Observer.{Observer}
use Rattle.dcv_command.specs.Request.{Request, Report, Certify, Implies, Set, Stuck, Synth, Replay}
use Rattle.dcv_command.specs.declared.words.SetQuestion.{SetQuestion}
use Rattle.dcv_command.specs.declared.words.Subset.{Subset}
use Rattle.dcv_cli.specs.declared.refused.Which.{Which}
use Rattle.dcv_cli.specs.declared.refused.Which.TheVariants.{First, Number, Second}
use Rattle.dcv_cli.specs.declared.status.Status.{Status}
use Rattle.dcv_cli.specs.Comparison.{IsCompared}
use Rattle.dcv_cli.specs.Ending.{EndsBy}
use Rattle.dcv_cli.specs.FileSet.{IsOfSet, OnFiles}
use Rattle.dcv_cli.specs.FormulaFile.{OnText, Refused, Read}
use Rattle.dcv_cli.specs.Headline.{AllIsSaid, TablesAreSaid, Answers, Headline, TablesHeadline, IsAnswered}
use Rattle.dcv_cli.specs.Held.{Texts, OnHeld}
use Rattle.dcv_cli.specs.ObserverFile.{OnObserver, Refused as RefusedObserver, Read as ReadObserver}
use Rattle.dcv_cli.specs.Outcome.{Outcome}
use Rattle.dcv_cli.specs.Replayed.{IsReplay}
use Rattle.dcv_cli.specs.Request.{AsksFor}
use Rattle.dcv_cli.specs.Right.{Fulfils, IsRight, Misused, Fulfilled, IsRightOver}
use Rattle.dcv_cli.proofs.OneRequest.{one_request}
use Rattle.dcv_promises.specs.Promises.{Holds, HoldEach, IsDecided, OnTexts, IsReported, IsImplied, IsContinued, IsPlayed, IsCertified, IsReplayed}

-- what is right for the words is right for their request
fulfils : (words : List (List ℕ)) (held : Texts) (outcome : Outcome) (request : Request) → AsksFor words request → IsRight words held outcome
    → Fulfils request held outcome
fulfils words held outcome request asks (Misused not s o) = absurd (not asks.taken)
fulfils words held outcome request asks (Fulfilled other asked right) =
    subst (λ (request : Request). Fulfils request held outcome) (one_request words other request asked asks) right

-- the text that the files tell under the name is the one that is right
one_text : (found : Option (List ℕ → Option (List ℕ))) (name text : List ℕ) (R : List ℕ → Outcome → Type 0) (outcome : Outcome)
    → IsSomeAnd found (λ held. held name ≡ Some text) → (texts : Texts) → IfSome found (λ held. (time : ℕ) → texts time ≡ held)
    → (time : ℕ) → OnHeld (texts time) name R outcome → R text outcome
one_text None name text R outcome there texts same time on = elim there [ ]
one_text (Some held) name text R outcome there texts same time on =
    subst (λ (one : Option (List ℕ)). IsSomeAnd one (λ text. R text outcome)) (ap (λ (held : List ℕ → Option (List ℕ)). held name) (same time) ∙ there) on

on_text : (text : List ℕ) (which : Which) (A B : PlainFile → Outcome → Type 0) (outcome : Outcome) → ((file : PlainFile) → A file outcome → B file outcome)
    → OnText text which A outcome → OnText text which B outcome
on_text text which A B outcome from (Refused refusal is e) = Refused refusal is e
on_text text which A B outcome from (Read file is right) = Read file is (from file right)

on_observer : (subset : Subset) (text : List ℕ) (A B : Observer → Outcome → Type 0) (outcome : Outcome) → ((one : Observer) → A one outcome → B one outcome)
    → OnObserver subset text A outcome → OnObserver subset text B outcome
on_observer subset text A B outcome from (RefusedObserver refusal is e) = RefusedObserver refusal is e
on_observer subset text A B outcome from (ReadObserver one is right) = ReadObserver one is (from one right)

-- and so it is of texts that are held one after another
texts_in_turn : (told : Option Disk) (texts : Texts) → IfSome (held_of told) (λ held. (time : ℕ) → texts time ≡ held) → (R : List PlainFile → Outcome → Type 0) (outcome : Outcome)
    → (time : ℕ) (read : List PlainFile) (names given : List (List ℕ)) → HoldEach told names given → OnFiles texts time read names R outcome → OnTexts time read given R outcome
texts_in_turn told texts same R outcome time read [] [] there on = on
texts_in_turn told texts same R outcome time read (name ∷ names) (text ∷ given) (is, there) on =
    on_text text (Number (suc time)) (λ file. OnFiles texts (suc time) (read ++ file ∷ []) names R) (λ file. OnTexts (suc time) (read ++ file ∷ []) given R) outcome
    (λ file. texts_in_turn told texts same R outcome (suc time) (read ++ file ∷ []) names given there)
    (one_text (held_of told) name text (λ text. OnText text (Number (suc time)) (λ file. OnFiles texts (suc time) (read ++ file ∷ []) names R)) outcome is texts same time on)
texts_in_turn told texts same R outcome time read [] (text ∷ given) there on = absurd there
texts_in_turn told texts same R outcome time read (name ∷ names) [] there on = absurd there

ends_also : (b : Bool) (Right Other : Outcome → Type 0) (status : Status) (old new : Option (List ℕ)) (P : List ℕ → Type 0)
    → ((outcome : Outcome) → Right outcome → Other outcome) → OnTrue b (EndsBy Right status old new P) → OnTrue b (EndsBy Other status old new P)
ends_also true Right Other status old new P from ended =
    record { outcome = ended.outcome; right = from ended.outcome ended.right; ends = ended.ends; report = ended.report; message = ended.message }
ends_also false Right Other status old new P from ended = tt

module _ (words : List (List ℕ)) (told : Option Disk) where
  -- a request that reads one file
  on_one : (request : Request) (name text : List ℕ) (R : List ℕ → Outcome → Type 0) → AsksFor words request → Holds told name text
      → ((held : Texts) (outcome : Outcome) → Fulfils request held outcome → OnHeld (held 0) name R outcome)
      → (outcome : Outcome) → IsRightOver words told outcome → R text outcome
  on_one request name text R asks holds is outcome right =
      one_text (held_of told) name text R outcome holds right.held right.same 0 (is right.held outcome (fulfils words right.held outcome request asks right.holds))

  pub reported : (kind : Kind) (name : List ℕ) (limits : Limits) (text : List ℕ) → AsksFor words (Report kind name limits) → Holds told name text
      → (b : Bool) (status : Status) (old new : Option (List ℕ)) (P : List ℕ → Type 0)
      → OnTrue b (EndsBy (IsRightOver words told) status old new P) → OnTrue b (EndsBy (IsReported kind text limits) status old new P)
  reported kind name limits text asks holds b status old new P = ends_also b (IsRightOver words told) (IsReported kind text limits) status old new P
      (on_one (Report kind name limits) name text (λ text. IsReported kind text limits) asks holds (λ held outcome on. on))

  answered_by : (kind : Kind) (IsSaid : PlainFile → Outcome → Type 0) → Answers kind IsSaid → (name : List ℕ) (limits : Limits) (text : List ℕ)
      → AsksFor words (Report kind name limits) → Holds told name text
      → (b : Bool) (status : Status) (old new : Option (List ℕ)) (P : List ℕ → Type 0)
      → OnTrue b (EndsBy (IsRightOver words told) status old new P) → OnTrue b (EndsBy (IsAnswered IsSaid text limits) status old new P)
  answered_by kind IsSaid answers name limits text asks holds b status old new P = ends_also b (IsRightOver words told) (IsAnswered IsSaid text limits) status old new P (λ outcome right.
      answers words right.held name limits text outcome asks (held_text (held_of told) holds right.held right.same) right.holds)
    where
      held_text : (found : Option (List ℕ → Option (List ℕ))) → IsSomeAnd found (λ held. held name ≡ Some text) → (texts : Texts)
          → IfSome found (λ held. (time : ℕ) → texts time ≡ held) → texts 0 name ≡ Some text
      held_text None there texts same = elim there [ ]
      held_text (Some held) there texts same = ap (λ (held : List ℕ → Option (List ℕ)). held name) (same 0) ∙ there

  pub answered : Headline → (name : List ℕ) (limits : Limits) (text : List ℕ) → AsksFor words (Report All name limits) → Holds told name text
      → (b : Bool) (status : Status) (old new : Option (List ℕ)) (P : List ℕ → Type 0)
      → OnTrue b (EndsBy (IsRightOver words told) status old new P) → OnTrue b (EndsBy (IsAnswered AllIsSaid text limits) status old new P)
  answered = answered_by All AllIsSaid

  pub tables_answered : TablesHeadline → (name : List ℕ) (limits : Limits) (text : List ℕ) → AsksFor words (Report Tables name limits) → Holds told name text
      → (b : Bool) (status : Status) (old new : Option (List ℕ)) (P : List ℕ → Type 0)
      → OnTrue b (EndsBy (IsRightOver words told) status old new P) → OnTrue b (EndsBy (IsAnswered TablesAreSaid text limits) status old new P)
  tables_answered = answered_by Tables TablesAreSaid

  pub certified : (name text : List ℕ) → AsksFor words (Certify name) → Holds told name text
      → (b : Bool) (status : Status) (old new : Option (List ℕ)) (P : List ℕ → Type 0)
      → OnTrue b (EndsBy (IsRightOver words told) status old new P) → OnTrue b (EndsBy (IsCertified text) status old new P)
  certified name text asks holds b status old new P = ends_also b (IsRightOver words told) (IsCertified text) status old new P (on_one (Certify name) name text IsCertified asks holds (λ held outcome on. on))

  pub continued : (name : List ℕ) (limits : Limits) (text : List ℕ) → AsksFor words (Stuck name limits) → Holds told name text
      → (b : Bool) (status : Status) (old new : Option (List ℕ)) (P : List ℕ → Type 0)
      → OnTrue b (EndsBy (IsRightOver words told) status old new P) → OnTrue b (EndsBy (IsContinued text limits) status old new P)
  continued name limits text asks holds b status old new P = ends_also b (IsRightOver words told) (IsContinued text limits) status old new P
      (on_one (Stuck name limits) name text (λ text. IsContinued text limits) asks holds (λ held outcome on. on))

  pub played : (name : List ℕ) (inputs : ℕ) (limits : Limits) (text : List ℕ) → AsksFor words (Synth name inputs limits) → Holds told name text
      → (b : Bool) (status : Status) (old new : Option (List ℕ)) (P : List ℕ → Type 0)
      → OnTrue b (EndsBy (IsRightOver words told) status old new P) → OnTrue b (EndsBy (IsPlayed text inputs limits) status old new P)
  played name inputs limits text asks holds b status old new P = ends_also b (IsRightOver words told) (IsPlayed text inputs limits) status old new P
      (on_one (Synth name inputs limits) name text (λ text. IsPlayed text inputs limits) asks holds (λ held outcome on. on))

  pub implied : (first second : List ℕ) (limits : Limits) (one other : List ℕ) → AsksFor words (Implies first second limits)
      → Holds told first one → Holds told second other
      → (b : Bool) (status : Status) (old new : Option (List ℕ)) (P : List ℕ → Type 0)
      → OnTrue b (EndsBy (IsRightOver words told) status old new P) → OnTrue b (EndsBy (IsImplied one other limits) status old new P)
  implied first second limits one other asks holds_one holds_other b status old new P = ends_also b (IsRightOver words told) (IsImplied one other limits) status old new P (λ outcome right.
      on_text one First (λ file. OnHeld (right.held 1) second (λ text. OnText text Second (IsCompared limits file)))
      (λ file. OnText other Second (IsCompared limits file)) outcome
      (λ file. one_text (held_of told) second other (λ text. OnText text Second (IsCompared limits file)) outcome holds_other right.held right.same 1)
      (one_text (held_of told) first one
      (λ text. OnText text First (λ file. OnHeld (right.held 1) second (λ also. OnText also Second (IsCompared limits file)))) outcome holds_one right.held right.same 0
      (fulfils words right.held outcome (Implies first second limits) asks right.holds)))

  pub decided : (question : SetQuestion) (names : List (List ℕ)) (limits : Limits) (tuples : ℕ) (texts : List (List ℕ)) → AsksFor words (Set question names limits tuples)
      → HoldEach told names texts → (b : Bool) (status : Status) (old new : Option (List ℕ)) (P : List ℕ → Type 0)
      → OnTrue b (EndsBy (IsRightOver words told) status old new P) → OnTrue b (EndsBy (IsDecided question texts limits tuples) status old new P)
  decided question names limits tuples texts asks there b status old new P = ends_also b (IsRightOver words told) (IsDecided question texts limits tuples) status old new P (λ outcome right.
      texts_in_turn told right.held right.same (IsOfSet question limits tuples) outcome 0 [] names texts there
      (fulfils words right.held outcome (Set question names limits tuples) asks right.holds))

  pub replayed : (subset : Subset) (observer trace : List ℕ) (one other : List ℕ) → AsksFor words (Replay subset observer trace)
      → Holds told observer one → Holds told trace other
      → (b : Bool) (status : Status) (old new : Option (List ℕ)) (P : List ℕ → Type 0)
      → OnTrue b (EndsBy (IsRightOver words told) status old new P) → OnTrue b (EndsBy (IsReplayed subset one other) status old new P)
  replayed subset observer trace one other asks holds_one holds_other b status old new P = ends_also b (IsRightOver words told) (IsReplayed subset one other) status old new P (λ outcome right.
      on_observer subset one (λ node. OnHeld (right.held 1) trace (IsReplay node)) (λ node. IsReplay node other) outcome
      (λ node. one_text (held_of told) trace other (IsReplay node) outcome holds_other right.held right.same 1)
      (one_text (held_of told) observer one (λ text. OnObserver subset text (λ node. OnHeld (right.held 1) trace (IsReplay node))) outcome holds_one right.held right.same 0
      (fulfils words right.held outcome (Replay subset observer trace) asks right.holds)))
