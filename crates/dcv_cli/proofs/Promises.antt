-- A run that does what its words ask for keeps its promise.
use Rattle.dcv_cli.proofs.Common.{◌≡◌, ◌≢◌, ◌⊎◌, ℕ, Bool, false, List, [], Option, Some, Result, Ok, Err, IfOk, Global, inl, inr, map, refl}
use Rattle.dcv_cli.proofs.Common.{sym, ap, ◌∙◌, subst, IsTrue, OnTrue, string_bytes, true≢false, Disk, has_risen, RisesIf, Appends, Request}
use Rattle.dcv_cli.proofs.Common.{IsTaken, request_of, Refusal, Open, Write, Memory as OutOfMemory, Which, Only, Status, Usage, Input}
use Rattle.dcv_cli.proofs.Common.{Output, OutOfMemory as Memory, EndsBy, HasInputCause, Tells, Outcome, Outside, ending, message_of, only}
use Rattle.dcv_cli.proofs.Common.{status_of, is_open, is_read, AsksFor, Fulfilled, FulfilsOver, has_cause, is_answer, is_determined}
use Rattle.dcv_cli.proofs.Common.{is_input, is_output}
use Rattle.std.proofs.Common.{String, true, zero-le}
use Rattle.clap.specs.Words.{takes}
use Rattle.dcv_command.specs.Program.{program}
use Rattle.dcv_io.proofs.Asking.{asks_none}
use Rattle.dcv_cli.specs.declared.refusal.Refusal.TheVariants.{Read}
use Rattle.dcv_cli.specs.declared.refused.Refused.{Refused}
use Rattle.dcv_cli.specs.Ending.{TellsCause}
use Rattle.dcv_cli.specs.Performed.{PerformsRequest, said}
use Rattle.dcv_cli.specs.Promise.{NoFault, Promise, Seen}
use Rattle.dcv_cli.specs.Right.{IsRightOver}
use Rattle.dcv_cli.specs.Status.{is_usage}
use Rattle.dcv_cli.proofs.ThreeEnds.{answer_is_none, front_moved, nothing_told, of, on_true, on_true_weaker, stops_moved}

-- words that were read through a slice of strings
pub asks_for : (strings : List (String Global)) (words : List (List ℕ)) (request : Request) → map string_bytes strings ≡ words → IsTaken (map string_bytes strings)
    → request_of (map string_bytes strings) ≡ Some request → AsksFor words request
asks_for strings words request same taken asked =
    record { taken = subst (λ (words : List (List ℕ)). IsTaken words) same taken; asked = subst (λ (words : List (List ℕ)). request_of words ≡ Some request) same asked }

-- words that are taken end as they determine, where no call of the outside failed and memory did not run out
pub complete_of : (words : List (List ℕ)) (status : Status) (before after : Outside) → (status ≡ Usage → ¬ (IsTaken words))
    → HasInputCause status before.open_faults after.open_faults before.read_faults after.read_faults → RisesIf (is_output status) before.faults after.faults
    → IsTaken words → NoFault before after → IsTrue (is_determined status) ⊎ (status ≡ Memory)
complete_of words Usage before after usage input output taken none = absurd (usage refl taken)
complete_of words Input before after usage (inl opened) output taken none = absurd (true≢false (sym opened.0.risen ∙ none.opened))
complete_of words Input before after usage (inr read) output taken none = absurd (true≢false (sym read.1.risen ∙ none.read))
complete_of words Output before after usage input output taken none = absurd (true≢false (sym output.risen ∙ none.wrote))
complete_of words Memory before after usage input output taken none = inr refl
complete_of words _ before after usage input output taken none = inl refl

-- ---- refusals

no_answer : (refusal : Refusal) → is_answer (status_of refusal) ≡ false
no_answer Open = refl
no_answer _ = refl

no_usage : (refusal : Refusal) → is_usage (status_of refusal) ≡ false
no_usage Open = refl
no_usage _ = refl

never_usage : (result : Result Status Refused) → IfOk result (λ status. IsTrue (is_answer status)) → ending result ≢ Usage
never_usage (Ok status) answers is = true≢false (sym answers ∙ ap is_answer is)
never_usage (Err refusal) answers is = true≢false (sym (ap is_usage is) ∙ no_usage refusal.refusal)

-- the message names the cause
cause_of : (old new : Option (List ℕ)) (faults count : ℕ) (opened read : Bool) (refusal : Refusal) (which : Which) → OnTrue (is_open refusal) (IsTrue opened)
    → OnTrue (is_read refusal) (IsTrue read) → OnTrue (has_cause (status_of refusal)) (which ≡ Only) → Tells (message_of (of refusal which)) old new faults count
    → TellsCause (status_of refusal) opened read old new faults count
cause_of old new faults count opened read Open which is_opened _ none told =
    (message_of (only Open), inl (refl, is_opened), subst (λ which. Tells (message_of (of Open which)) old new faults count) none told)
cause_of old new faults count opened read Read which _ is_read none told =
    (message_of (only Read), inr (refl, is_read), subst (λ which. Tells (message_of (of Read which)) old new faults count) none told)
cause_of old new faults count opened read Write which _ _ none told =
    (message_of (only Write), refl, subst (λ which. Tells (message_of (of Write which)) old new faults count) none told)
cause_of old new faults count opened read OutOfMemory which _ _ none told =
    (message_of (only OutOfMemory), refl, subst (λ which. Tells (message_of (of OutOfMemory which)) old new faults count) none told)
cause_of old new faults count opened read _ which _ _ none told = tt

no_refusal_of_words : (P : Type 0) (status : Status) → status ≢ Usage → OnTrue (is_usage status) P
no_refusal_of_words P Usage not = absurd (not refl)
no_refusal_of_words P _ not = tt

-- ---- the promise

abbrev with_messages : Outside → Option (List ℕ) → ℕ → Seen
with_messages of written faults = record { outside = of; messages = written; message_faults = faults }

-- what is right for the request of the words is right for them
right : {words : List (List ℕ)} {request : Request} (asked : AsksFor words request) (told : Option Disk) (outcome : Outcome) → FulfilsOver request told outcome
    → IsRightOver words told outcome
right {request = request} asked told outcome over = record { held = over.held; same = over.same; holds = Fulfilled request asked over.holds }

module _ {words : List (List ℕ)} {request : Request} (asked : AsksFor words request) {before after : Outside} {old new : Option (List ℕ)} {faults count : ℕ} where
  promise : (result : Result Status Refused) → PerformsRequest request result before after → Tells (said result) old new faults count
      → OnTrue (is_answer (ending result)) (Appends old new [])
      → TellsCause (ending result) (has_risen before.open_faults after.open_faults) (has_risen before.read_faults after.read_faults) old new faults count
      → Promise words (ending result) (with_messages before old faults) (with_messages after new count)
  promise result is told silent cause =
      let ends = is.ends in
      let ended : EndsBy (FulfilsOver request before.told) (ending result) before.written after.written (λ message. message ≡ said result)
      → EndsBy (IsRightOver words before.told) (ending result) before.written after.written (λ message. Tells message old new faults count)
      = λ found. record {
        outcome = found.outcome;
        right = right asked before.told found.outcome found.right;
        ends = found.ends;
        report = found.report;
        message = subst (λ (message : List ℕ). Tells message old new faults count) (sym found.message) told;
      } in
      let usage = never_usage result ends.answer in
      record {
        right = on_true_weaker (is_determined (ending result)) ended ends.right;
        complete = complete_of words (ending result) before after (λ is taken. usage is) is.input ends.output;
        report = front_moved (right asked before.told) _ _ ends.front;
        usage = λ is taken. usage is;
        takes = λ is taken. usage is;
        refusal = no_refusal_of_words _ (ending result) usage;
        asked = λ of. (request, asked);
        files = inr (request, asked, is.asked);
        calls = inr (request, asked, is.calls);
        input = is.input;
        output = ends.output;
        cause = cause;
        no_message = silent;
        no_report = ends.silent;
        stops = on_true_weaker (is_output (ending result)) (stops_moved (right asked before.told) _ _) ends.stops;
        left = on_true_weaker (is_input (ending result)) (λ some. record { request = request; asked = asked; bytes = some.0; left = some.1; added = some.2 }) is.left;
        held = is.held;
      }

  pub promise_of_refusal : (refusal : Refused) (status : Status) → status ≡ status_of refusal.refusal → PerformsRequest request (Err refusal) before after
      → Tells (message_of refusal) old new faults count → Promise words status (with_messages before old faults) (with_messages after new count)
  promise_of_refusal refusal status same is told =
      subst (λ (status : Status). Promise words status (with_messages before old faults) (with_messages after new count)) (sym same)
      (promise (Err refusal) is told (rw (no_answer refusal.refusal) tt)
      (cause_of old new faults count _ _ refusal.refusal refusal.which is.opened is.read is.ends.of_none told))

-- an answer says nothing on the messages
pub promise_of_answer : {words : List (List ℕ)} {request : Request} (asked : AsksFor words request) {before after : Outside} {written : Option (List ℕ)} {faults : ℕ}
    (status : Status) → PerformsRequest request (Ok status) before after
    → Promise words status (with_messages before written faults) (with_messages after written faults)
promise_of_answer asked {written = written} status is =
    promise asked (Ok status) is (record { front = (0, zero-le, nothing_told written); whole = λ none. nothing_told written }) (on_true _ (nothing_told written))
    (rw (answer_is_none status is.ends.answer).cause tt)

-- words that are refused are, in some words, and nothing else happens
pub promise_of_misuse : (words : List (List ℕ)) (before : Outside) (old new : Option (List ℕ)) (faults count : ℕ) (text : List ℕ) → ¬ (IsTaken words)
    → ¬ (takes program words ≡ true) → text ≢ [] → Tells text old new faults count
    → Promise words Usage (with_messages before old faults) (with_messages before new count)
promise_of_misuse words before old new faults count text not refused some told = record {
  right = tt;
  complete = λ taken none. absurd (not taken);
  report = inl (nothing_told before.written);
  usage = λ is. not;
  takes = λ is. refused;
  refusal = (text, some, told);
  asked = λ of. absurd (true≢false (sym of));
  files = inl (asks_none before.asked);
  calls = inl refl;
  input = (refl, refl);
  output = refl;
  cause = tt;
  no_message = tt;
  no_report = nothing_told before.written;
  stops = tt;
  left = tt;
  held = refl;
}
