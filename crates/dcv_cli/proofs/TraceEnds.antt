-- What a run over a trace leads to, as the end of a command.
use Rattle.dcv_cli.proofs.Common.{◌≡◌, ◌≢◌, ◌⊎◌, ℕ, ◌<◌, ◌≤◌, Bool, true, false, List, [], ◌∷◌, ◌++◌, length, take, Some, Result, Ok, Err}
use Rattle.dcv_cli.proofs.Common.{inl, inr, refl, sym, ap, subst, ◌∙◌, arith, append_assoc, length-append, nat_tests, append-nil, IfSome}
use Rattle.dcv_cli.proofs.Common.{IsTrue, ◌-◌, Asks, held_of, RisesIf, Appends, AppendsPrefix, AppendsStrictPrefix, Word, SomeVerdict}
use Rattle.dcv_cli.proofs.Common.{GoodLinesAreAnswered, Observer, width_of, KeepsTheRules, AreAnswers, good_letters, Line, Open}
use Rattle.dcv_cli.proofs.Common.{Trace, Write, Only, Done, Status, Output, HasInputCause, NoneRises, Outcome, Outside, output_of, Performs, only}
use Rattle.dcv_cli.proofs.Common.{ending, is_input, OnTrue, has_risen, IsReplay, fault_of_trace, status_of_trace, message_of_trace, FulfilsTrace, LeavesTrace}
use Rattle.dcv_cli.proofs.Common.{LeavesOfTrace, OfOpen, OfRead}
use Rattle.std.proofs.Math.Seq.{take-append_seam}
use Rattle.dcv_replay.specs.Coming.{most_reads}
use Rattle.std.specs.Prelude.{nat_lt, ◌+◌, ◌||◌, ◌==◌, ◌^◌}
use Rattle.dcv_replay.specs.Laws.{LinesAreFront, AnswersOfFront}
use Rattle.dcv_replay.specs.Program.{ReplayValue}
use Rattle.dcv_replay.specs.Replayed.{HasLines, ReadCount, Replayed, is_open, is_write}
use Rattle.dcv_replay.specs.TraceText.{Verdict, Good, Bad, Long, Nothing, HasVerdict}
use Rattle.dcv_replay.specs.declared.fault.ReplayFault.{ReplayFault}
use Rattle.dcv_replay.specs.declared.fault.ReplayFault.TheVariants as fault
use Rattle.dcv_cli.specs.declared.faults.TraceFault.TheVariants.{Empty, Length}
use Rattle.dcv_cli.specs.declared.refusal.Refusal.TheVariants.{Read}
use Rattle.dcv_cli.specs.declared.refused.Refused.{Refused}
use Rattle.dcv_cli.specs.Ending.{OneRises}
use Rattle.dcv_cli.specs.Performed.{Ends, is_open_refusal, is_read_refusal}
use Rattle.dcv_cli.specs.Refusal.{refusal_of_replay}
use Rattle.dcv_cli.proofs.ThreeEnds.{ends_at_fault, ends_broken, ends_cut, ends_refused, ends_sent, for_any, for_text, fulfils_first}

-- what a run over the trace of this name says of the counts
pub record Counts {T : Type 0} (name : List ℕ) (result : Result T ReplayFault) (before after : Outside) : Type 0 where
  pub asked : Asks (name ∷ []) before.asked after.asked
  pub calls : after.calls ≤ before.calls + 1 + most_reads
  pub opened : RisesIf (is_open result) before.open_faults after.open_faults
  pub read : ReadCount result before.read_faults after.read_faults
  pub faults : RisesIf (is_write result) before.faults after.faults
  pub held : held_of after.told ≡ held_of before.told

-- where a write failed, a read may have failed before it
output_cause : (opened opened' read read' : ℕ) → opened' ≡ opened → read ≤ read' → HasInputCause Output opened opened' read read'
output_cause opened opened' read read' same fell = by (nat_lt read read') refl where
  risen : (b : Bool) → nat_lt read read' ≡ true → IsTrue (nat_lt read read' || b)
  risen b is = rw is refl

  by : (more : Bool) → nat_lt read read' ≡ more → NoneRises opened opened' read read' ⊎ OneRises opened opened' read read'
  by true is = inr (inr (same, record { risen = risen (read' == (2 ^ 64 - 1)) is; no_lower = fell }))
  by false is = inl (same, grind (arith, nat_tests))

module _ (observer : Observer) (name : List ℕ) (before after : Outside) where
  abbrev Right : Outcome → Type 0
  Right = FulfilsTrace observer name before.told

  abbrev IsHere : List ℕ → Type 0
  IsHere trace = IfSome (held_of before.told) (λ held. held name ≡ Some trace)

  abbrev outcome_of : Verdict → List ℕ → Outcome
  outcome_of verdict text = record { status = status_of_trace (fault_of_trace verdict); out = text; err = message_of_trace (fault_of_trace verdict) }

  right_for : (trace : List ℕ) (verdict : Verdict) (text : List ℕ) → IsHere trace → HasVerdict (width_of observer) trace verdict
      → AreAnswers observer [] (good_letters verdict) text → Right (outcome_of verdict text)
  right_for trace verdict text there is answers =
      fulfils_first before.told name trace (λ held. IsReplay observer) (outcome_of verdict text) there
      (λ held. record { verdict = verdict; is_verdict = is; answers = answers; status = refl; message = refl })

  abbrev Ran : {T : Type 0} → Result T ReplayFault → ReplayValue → Type 0
  Ran {T} result replay = Replayed {T = T} observer [] name before.told after.told before.written after.written replay result

  -- where no write failed, all answers are written
  written_whole : {T : Type 0} {result : Result T ReplayFault} {replay : ReplayValue} (ran : Ran {T = T} result replay) → is_write result ≡ false
      → Appends before.written after.written ran.text
  written_whole ran no_write =
      subst (λ (bytes : List ℕ). Appends before.written after.written bytes)
      (sym (ran.sends.all ∙ ap (λ left. ran.sends.sent ++ left) (ran.whole no_write) ∙ append-nil ran.sends.sent)) ran.sends.written

  -- the trace alone was asked for, and what is held stays
  module _ {T : Type 0} {run : Result T ReplayFault} (counts : Counts {T = T} name run before after) where
    performs : (result : Result Status Refused) → Ends Right result (output_of before) (output_of after)
        → OnTrue (is_input (ending result)) ((bytes : List ℕ) × LeavesTrace observer name before after bytes × Appends before.written after.written bytes)
        → HasInputCause (ending result) before.open_faults after.open_faults before.read_faults after.read_faults
        → OnTrue (is_open_refusal result) (IsTrue (has_risen before.open_faults after.open_faults))
        → OnTrue (is_read_refusal result) (IsTrue (has_risen before.read_faults after.read_faults))
        → Performs Right (LeavesTrace observer name) (name ∷ []) (1 + most_reads) result before after
    performs result ends left input opened read =
        record { ends = ends; left = left; asked = (1, counts.asked); calls = let few = counts.calls in omega arith; input = input; opened = opened; read = read; held = counts.held }

  pub performs_done : {T : Type 0} (done : T) {replay : ReplayValue} → Ran {T = T} (Ok done) replay → Counts {T = T} name (Ok done) before after
      → Performs Right (LeavesTrace observer name) (name ∷ []) (1 + most_reads) (Ok Done) before after
  performs_done done ran counts =
      let traced = ran.traced refl in
      let right = right_for traced.trace (Good ran.letters) ran.text traced.there traced.verdict ran.answers in
      performs counts (Ok Done) (ends_sent Right _ _ (outcome_of (Good ran.letters) ran.text) right (written_whole ran refl) counts.faults refl refl) tt (counts.opened, counts.read) tt tt

  -- a right report that goes on from these answers
  record GoesOn (text : List ℕ) : Type 0 where
    outcome : Outcome
    right : Right outcome
    rest : List ℕ
    is : outcome.out ≡ text ++ rest

  module _ (some_verdict : SomeVerdict) (lines_are_front : LinesAreFront) (answers_of_front : AnswersOfFront) (answered : GoodLinesAreAnswered)
      (rules : KeepsTheRules observer) where
    goes_on : (trace : List ℕ) (letters : Word) (text : List ℕ) → IsHere trace → HasLines (width_of observer) trace letters → AreAnswers observer [] letters text → GoesOn text
    goes_on trace letters text there lines answers =
        let found = some_verdict (width_of observer) trace in
        let more = lines_are_front (width_of observer) trace letters found.0 lines found.1 in
        let all = answered observer rules trace found.0 found.1 in
        let further = answers_of_front observer [] letters more.0 text all.0 answers (subst (λ (word : Word). AreAnswers observer [] word all.0) more.1 all.1) in
        record { outcome = outcome_of found.0 all.0; right = right_for trace found.0 all.0 there found.1 all.1; rest = further.0; is = further.1 }

    some_bytes : (bytes : List ℕ) → bytes ≢ [] → 0 < length bytes
    some_bytes [] some = absurd (some refl)
    some_bytes (c ∷ bytes) some = omega arith

    -- a front of the answers is one of the report
    front_of : (outcome : Outcome) (text sent left rest : List ℕ) → outcome.out ≡ text ++ rest → text ≡ sent ++ left → outcome.out ≡ sent ++ (left ++ rest)
    front_of outcome text sent left rest is all = is ∙ ap (λ front. front ++ rest) all ∙ append_assoc sent left rest

    taken : (whole sent rest : List ℕ) → whole ≡ sent ++ rest → sent ≡ take (length sent) whole
    taken whole sent rest is = sym (ap (take (length sent)) is ∙ take-append_seam sent rest)

    missing : (outcome : Outcome) (text sent left rest : List ℕ) → outcome.out ≡ text ++ rest → text ≡ sent ++ left → left ≢ [] → Appends before.written after.written sent
        → AppendsStrictPrefix before.written after.written outcome.out
    missing outcome text sent left rest is all some written =
        let whole = front_of outcome text sent left rest is all in (
          length sent,
          omega (arith, ap length whole, length-append sent (left ++ rest), length-append left rest, some_bytes left some),
          subst (λ (bytes : List ℕ). Appends before.written after.written bytes) (taken outcome.out sent (left ++ rest) whole) written,
        )

    up_to : (outcome : Outcome) (text rest : List ℕ) → outcome.out ≡ text ++ rest → Appends before.written after.written text → AppendsPrefix before.written after.written outcome.out
    up_to outcome text rest is written = (
      length text,
      omega (arith, ap length is, length-append text rest),
      subst (λ (bytes : List ℕ). Appends before.written after.written bytes) (taken outcome.out text rest is) written,
    )

    no_answers : (letters : Word) (text : List ℕ) → letters ≡ [] → AreAnswers observer [] letters text → text ≡ []
    no_answers letters text none answers = subst (λ (word : Word). AreAnswers observer [] word text) none answers

    pub performs_stopped : {T : Type 0} (why : ReplayFault) {replay : ReplayValue} → Ran {T = T} (Err why) replay → Counts {T = T} name (Err why) before after
        → Performs Right (LeavesTrace observer name) (name ∷ []) (1 + most_reads) (Err (only (refusal_of_replay why))) before after
    performs_stopped fault.Open ran counts =
        let silent = subst (λ (bytes : List ℕ). Appends before.written after.written bytes) (no_answers ran.letters ran.text (ran.unopened refl) ran.answers) (written_whole ran refl) in
        let left = for_any before.told (λ held. LeavesOfTrace observer name (held 0 name) before after []) (λ held. OfOpen counts.asked counts.opened refl) in
        performs counts (Err (only Open)) (ends_refused Right _ _ Open Only refl refl tt silent counts.faults) ([], left, silent) (inl (counts.opened, counts.read)) counts.opened.risen tt
    performs_stopped fault.Read ran counts =
        let traced = ran.traced refl in
        let on = goes_on traced.trace ran.letters ran.text traced.there traced.verdict ran.answers in
        let written = written_whole ran refl in
        let left = for_text before.told name traced.trace (λ held. LeavesOfTrace observer name (held 0 name) before after ran.text) traced.there
        (λ held is. OfRead counts.asked counts.read traced.trace is (record { letters = ran.letters; cut = traced.cut; answers = ran.answers })) in
        performs counts (Err (only Read)) (ends_cut Right _ _ on.outcome on.right (up_to on.outcome ran.text on.rest on.is written) counts.faults) (ran.text, left, written)
        (inr (counts.opened, counts.read)) tt counts.read.risen
    performs_stopped (fault.Line line) ran counts =
        let traced = ran.traced refl in
        let right = right_for traced.trace (Bad ran.letters line) ran.text traced.there traced.verdict ran.answers in
        performs counts (Err (only (Trace (Line line)))) (ends_at_fault Right _ _ (outcome_of (Bad ran.letters line) ran.text) right (written_whole ran refl) counts.faults (Line line) refl refl)
        tt (counts.opened, counts.read) tt tt
    performs_stopped fault.TooLong ran counts =
        let traced = ran.traced refl in
        let right = right_for traced.trace (Long ran.letters) ran.text traced.there traced.verdict ran.answers in
        performs counts (Err (only (Trace Length))) (ends_at_fault Right _ _ (outcome_of (Long ran.letters) ran.text) right (written_whole ran refl) counts.faults Length refl refl)
        tt (counts.opened, counts.read) tt tt
    performs_stopped fault.Empty ran counts =
        let traced = ran.traced refl in
        let right = right_for traced.trace Nothing ran.text traced.there traced.verdict.0 (no_answers ran.letters ran.text traced.verdict.1 ran.answers) in
        performs counts (Err (only (Trace Empty))) (ends_at_fault Right _ _ (outcome_of Nothing ran.text) right (written_whole ran refl) counts.faults Empty refl refl)
        tt (counts.opened, counts.read) tt tt
    performs_stopped fault.Write ran counts =
        let traced = ran.traced refl in
        let on = goes_on traced.trace ran.letters ran.text traced.there traced.verdict ran.answers in
        let part = missing on.outcome ran.text ran.sends.sent ran.left on.rest on.is ran.sends.all (ran.some refl) ran.sends.written in
        performs counts (Err (only Write)) (ends_broken Right _ _ on.outcome on.right part counts.faults) tt
        (output_cause before.open_faults after.open_faults before.read_faults after.read_faults counts.opened counts.read) tt tt
