-- How each command keeps to what all of them do: by a refusal before anything is written, a report that is written whole, or one whose writing
-- failed; and a replay by a fault of the trace, or of a read of it, after what was written.
use Rattle.dcv_cli.proofs.Common.{◌≡◌, ℕ, ◌+◌, Bool, true, false, List, [], ◌∷◌, Option, None, Some, Result, Ok, Err, length, refl, sym, ap, ◌∙◌}
use Rattle.dcv_cli.proofs.Common.{subst, inl, inr, arith, take-length, IfErr, IsTrue, IsFalse, if◌then◌else◌, OnTrue, true≢false, Disk, has_risen}
use Rattle.dcv_cli.proofs.Common.{RisesIf, Appends, AppendsPrefix, AppendsStrictPrefix, strict_is_prefix, Refusal, Open, Trace, Write}
use Rattle.dcv_cli.proofs.Common.{Status, Valid, Done, NotValid, Input, Output, TraceFault, EndsBy, HasInputCause, NoneRises, Texts, OnHeld}
use Rattle.dcv_cli.proofs.Common.{ForHeld, OfHeldText, IsHeldText, Outcome, IsExplained, refused, Outside, Stream, with_output, Answers, Performs, Takes}
use Rattle.dcv_cli.proofs.Common.{ending, Which, Only, status_of, message_of, only, is_open, is_read, is_of_text, has_cause, is_answer}
use Rattle.dcv_cli.proofs.Common.{is_determined, is_input, is_output}
use Rattle.std.proofs.Common.{append-nil}
use Rattle.dcv_io.specs.Faults.{Rises}
use Rattle.dcv_io.proofs.Asking.{asks_no_prefix}
use Rattle.dcv_cli.specs.declared.refusal.Refusal.TheVariants.{Read}
use Rattle.dcv_cli.specs.Ending.{AddsFront, StopsWithin}
use Rattle.dcv_cli.specs.Performed.{Ends, Replies}
use Rattle.dcv_cli.specs.declared.refused.Refused.{Refused}
use Rattle.dcv_cli.specs.Performed.{is_open_refusal, is_read_refusal}
use Rattle.dcv_cli.specs.Refusal.{marked, is_of_taking}
use Rattle.dcv_cli.specs.Status.{is_silent}

pub on_true : (b : Bool) {P : Type 0} → P → OnTrue b P
on_true true h = h
on_true false h = tt

pub on_true_weaker : (b : Bool) {P Q : Type 0} → (P → Q) → OnTrue b P → OnTrue b Q
on_true_weaker true f h = f h
on_true_weaker false f h = tt

-- nothing is written where nothing changes
pub nothing_told : (written : Option (List ℕ)) → Appends written written []
nothing_told None = refl
nothing_told (Some bytes) = ap Some (sym (append-nil bytes))

-- ---- for what is held

pub for_any : (told : Option Disk) (P : Texts → Type 0) → ((held : Texts) → P held) → ForHeld told P
for_any None P fact = record { held = λ time n. None; same = tt; holds = fact (λ time n. None) }
for_any (Some disk) P fact = record { held = λ time. disk.held; same = λ time. refl; holds = fact (λ time. disk.held) }

-- what holds of the text that is held under a name
pub for_text : (told : Option Disk) (name text : List ℕ) (P : Texts → Type 0) → IsHeldText told name text → ((held : Texts) → held 0 name ≡ Some text → P held) → ForHeld told P
for_text None name text P there fact = record { held = λ time n. Some text; same = tt; holds = fact (λ time n. Some text) refl }
for_text (Some disk) name text P there fact = record { held = λ time. disk.held; same = λ time. refl; holds = fact (λ time. disk.held) there }

-- what is right for a text is right for the name under which it is held, or may be
pub fulfils_first : (told : Option Disk) (name text : List ℕ) (OfText : Texts → List ℕ → Outcome → Type 0) (outcome : Outcome) → IsHeldText told name text
    → ((held : Texts) → OfText held text outcome) → ForHeld told (λ held. OnHeld (held 0) name (OfText held) outcome)
fulfils_first told name text OfText outcome there right = for_text told name text (λ held. OnHeld (held 0) name (OfText held) outcome) there (λ held is. rw is (right held))

-- a refusal of a text that is held is one of what is held
pub explains_first : (told : Option Disk) (name : List ℕ) (OfText : Texts → List ℕ → Outcome → Type 0) (which : Which) (refusal : Refusal) (Refuses : List ℕ → Type 0)
    → ((held : Texts) (text : List ℕ) → Refuses text → OfText held text (refused refusal which))
    → OnTrue (is_determined (status_of refusal)) (OfHeldText told name Refuses)
    → IsExplained (λ outcome. ForHeld told (λ held. OnHeld (held 0) name (OfText held) outcome)) which refusal
explains_first told name OfText which refusal Refuses right explained =
    on_true_weaker (is_determined (status_of refusal))
    (λ some. fulfils_first told name some.text OfText (refused refusal which) some.there (λ held. right held some.text some.is)) explained

-- and so is one of a text that was taken
pub refused_held : {T : Type 0} (told : Option Disk) (name text : List ℕ) (Refuses : Refusal → List ℕ → Type 0) (result : Result T Refusal) → IsHeldText told name text
    → IfErr result (λ refusal. OnTrue (is_determined (status_of refusal)) (Refuses refusal text))
    → IfErr result (λ refusal. OnTrue (is_determined (status_of refusal)) (OfHeldText told name (Refuses refusal)))
refused_held told name text Refuses (Ok value) there refused = tt
refused_held told name text Refuses (Err refusal) there refused =
    on_true_weaker (is_determined (status_of refusal)) (λ is. record { text = text; there = there; is = is }) refused

-- ---- refusals

abbrev pub of : Refusal → Which → Refused
of refusal which = record { refusal = refusal; which = which }

no_output : (refusal : Refusal) → IsTrue (is_of_taking refusal) → is_output (status_of refusal) ≡ false
no_output Write is = absurd (true≢false (sym is))
no_output _ is = refl

pub text_is_of_taking : (refusal : Refusal) → IsTrue (is_of_text refusal) → IsTrue (is_of_taking refusal)
text_is_of_taking Write is = absurd (true≢false (sym is))
text_is_of_taking _ is = refl

text_no_input : (refusal : Refusal) → IsTrue (is_of_text refusal) → IsFalse (is_input (status_of refusal))
text_no_input Open is = absurd (true≢false (sym is))
text_no_input Read is = absurd (true≢false (sym is))
text_no_input _ is = refl

pub input_of : (refusal : Refusal) (a b c d : ℕ) → IsTrue (is_of_taking refusal) → RisesIf (is_open refusal) a b → RisesIf (is_read refusal) c d
    → HasInputCause (status_of refusal) a b c d
input_of Write a b c d is opened read = absurd (true≢false (sym is))
input_of Open a b c d is opened read = inl (opened, read)
input_of Read a b c d is opened read = inr (opened, read)
input_of _ a b c d is opened read = (opened, read)

pub no_cause : (status : Status) (a b c d : ℕ) → IsFalse (is_input status) → NoneRises a b c d → HasInputCause status a b c d
no_cause Input a b c d not none = absurd (true≢false not)
no_cause Output a b c d not none = inl none
no_cause _ a b c d not none = none

pub risen : (b : Bool) (before after : ℕ) → RisesIf b before after → OnTrue b (IsTrue (has_risen before after))
risen true before after rises = rises.risen
risen false before after rises = tt

-- a refusal that is marked by its file is as it would be, where it is determined
pub marked_explains : (Right : Outcome → Type 0) (which : Which) (refusal : Refusal) → IsExplained Right which refusal
    → IsExplained Right (marked which refusal).which refusal
marked_explains Right which Open is = is
marked_explains Right which _ is = is

pub marked_none : (which : Which) (refusal : Refusal) → OnTrue (has_cause (status_of refusal)) ((marked which refusal).which ≡ Only)
marked_none which refusal = by (has_cause (status_of refusal))
  where
    by : (cause : Bool) → OnTrue cause ((if cause then Only else which) ≡ Only)
    by true = refl
    by false = tt

-- a run that answers has met no fault, and says nothing else
pub record IsNoFault (status : Status) : Type 0 where
  pub silent : is_silent status ≡ false
  pub input : is_input status ≡ false
  pub output : is_output status ≡ false
  pub cause : has_cause status ≡ false

pub answer_is_none : (status : Status) → IsTrue (is_answer status) → IsNoFault status
answer_is_none Valid is = record { silent = refl; input = refl; output = refl; cause = refl }
answer_is_none Done is = record { silent = refl; input = refl; output = refl; cause = refl }
answer_is_none NotValid is = record { silent = refl; input = refl; output = refl; cause = refl }
answer_is_none _ is = absurd (true≢false (sym is))

-- ---- what was written

module _ (Right : Outcome → Type 0) where
  module _ (old new : Stream) where
    pub ends_refused : (refusal : Refusal) (which : Which) → IsTrue (is_of_taking refusal) → OnTrue (has_cause (status_of refusal)) (which ≡ Only)
        → IsExplained Right which refusal → Appends old.written new.written [] → new.faults ≡ old.faults → Ends Right (Err (of refusal which)) old new
    ends_refused refusal which taking none explained silent same = record {
      right = on_true_weaker (is_determined (status_of refusal))
          (λ right. record { outcome = refused refusal which; right = right; ends = refl; report = silent; message = refl }) explained;
      answer = tt;
      front = inl silent;
      silent = on_true _ silent;
      stops = rw (no_output refusal taking) tt;
      output = rw (no_output refusal taking) same;
      of_none = none;
    }

    -- some of a right report is missing, since a write failed
    pub ends_broken : (outcome : Outcome) → Right outcome → AppendsStrictPrefix old.written new.written outcome.out → Rises old.faults new.faults
        → Ends Right (Err (only Write)) old new
    ends_broken outcome right part rises = record {
      right = tt;
      answer = tt;
      front = inr (outcome, right, strict_is_prefix old.written new.written outcome.out part);
      silent = tt;
      stops = (outcome, right, part);
      output = rises;
      of_none = refl;
    }

    -- a read failed after the front of a right report
    pub ends_cut : (outcome : Outcome) → Right outcome → AppendsPrefix old.written new.written outcome.out → new.faults ≡ old.faults → Ends Right (Err (only Read)) old new
    ends_cut outcome right front same =
        record { right = tt; answer = tt; front = inr (outcome, right, front); silent = tt; stops = tt; output = same; of_none = refl }

    -- the whole of a right report was written
    module _ (outcome : Outcome) (right : Right outcome) (written : Appends old.written new.written outcome.out) (same : new.faults ≡ old.faults) where
      abbrev whole : AddsFront Right old.written new.written
      whole = inr (outcome, right, (length outcome.out, omega arith, rw take-length written))

      -- before a fault of the trace
      pub ends_at_fault : (fault : TraceFault) → outcome.status ≡ status_of (Trace fault) → outcome.err ≡ message_of (only (Trace fault))
          → Ends Right (Err (only (Trace fault))) old new
      ends_at_fault fault status message = record {
        right = record { outcome = outcome; right = right; ends = status; report = written; message = message };
        answer = tt;
        front = whole;
        silent = tt;
        stops = tt;
        output = same;
        of_none = tt;
      }

      -- and that is all
      pub ends_sent : IsTrue (is_answer outcome.status) → outcome.err ≡ [] → Ends Right (Ok outcome.status) old new
      ends_sent answers none =
          let faultless = answer_is_none outcome.status answers in
          let ended : EndsBy Right outcome.status old.written new.written (λ message. message ≡ []) =
          record { outcome = outcome; right = right; ends = refl; report = written; message = none } in
          record {
            right = on_true _ ended;
            answer = answers;
            front = whole;
            silent = rw faultless.silent tt;
            stops = rw faultless.output tt;
            output = rw faultless.output same;
            of_none = tt;
          }

    -- a report with this status is right
    pub answers_reply : (status : Status) (text : List ℕ) → Right (record { status = status; out = text; err = [] }) → IsTrue (is_answer status)
        → (given : Status) → given ≡ status → (result : Result Status Refused) → Replies given text result old new → Answers Right result old new
    answers_reply status text right answers given same (Ok answer) (is, written, unchanged) =
        subst (λ (answer : Status). Answers Right (Ok answer) old new) (sym (is ∙ same))
        (record { ends = ends_sent (record { status = status; out = text; err = [] }) right written unchanged answers refl; no_input = (answer_is_none status answers).input })
    answers_reply status text right answers given same (Err refusal) (is, part, rises) =
        subst (λ (refusal : Refused). Answers Right (Err refusal) old new) (sym is)
        (record { ends = ends_broken (record { status = status; out = text; err = [] }) right part rises; no_input = refl })

  pub answers_refused : (refusal : Refusal) (which : Which) → IsTrue (is_of_text refusal) → OnTrue (has_cause (status_of refusal)) (which ≡ Only)
      → IsExplained Right which refusal → (out : Stream) → Answers Right (Err (of refusal which)) out out
  answers_refused refusal which own none explained out =
      record { ends = ends_refused out out refusal which (text_is_of_taking refusal own) none explained (nothing_told out.written) refl; no_input = text_no_input refusal own }

  -- of the one file that is read, or of none
  pub answers_only : (refusal : Refusal) → IsTrue (is_of_text refusal) → IsExplained Right Only refusal → (out : Stream) → Answers Right (Err (only refusal)) out out
  answers_only refusal own explained = answers_refused refusal Only own (on_true (has_cause (status_of refusal)) refl) explained

-- what every right outcome has
module _ {One Other : Outcome → Type 0} (moves : (outcome : Outcome) → One outcome → Other outcome) where
  ends_moved : {status : Status} {old new : Option (List ℕ)} {P : List ℕ → Type 0} → EndsBy One status old new P → EndsBy Other status old new P
  ends_moved is = record { outcome = is.outcome; right = moves is.outcome is.right; ends = is.ends; report = is.report; message = is.message }

  pub front_moved : (old new : Option (List ℕ)) → AddsFront One old new → AddsFront Other old new
  front_moved old new (inl none) = inl none
  front_moved old new (inr some) = inr (some.0, moves some.0 some.1, some.2)

  pub stops_moved : (old new : Option (List ℕ)) → StopsWithin One old new → StopsWithin Other old new
  stops_moved old new some = (some.0, moves some.0 some.1, some.2)

  pub moved : {result : Result Status Refused} {old new : Stream} → Ends One result old new → Ends Other result old new
  moved {result = result} is = record {
    right = on_true_weaker (is_determined (ending result)) ends_moved is.right;
    answer = is.answer;
    front = front_moved _ _ is.front;
    silent = is.silent;
    stops = on_true_weaker (is_output (ending result)) (stops_moved _ _) is.stops;
    output = is.output;
    of_none = is.of_none;
  }

pub answers_moved : {One Other : Outcome → Type 0} (moves : (outcome : Outcome) → One outcome → Other outcome) {result : Result Status Refused} {old new : Stream}
    → Answers One result old new → Answers Other result old new
answers_moved moves is = record { ends = moved moves is.ends; no_input = is.no_input }

-- ---- what was read

-- where no input failed, no count has risen
pub no_input_refusal : (result : Result Status Refused) → IsFalse (is_input (ending result)) → (is_open_refusal result ≡ false) × (is_read_refusal result ≡ false)
no_input_refusal (Ok status) not = (refl, refl)
no_input_refusal (Err refused) not = by refused.refusal not
  where
    by : (refusal : Refusal) → IsFalse (is_input (status_of refusal)) → (is_open refusal ≡ false) × (is_read refusal ≡ false)
    by Open not = absurd (true≢false not)
    by Read not = absurd (true≢false not)
    by _ not = (refl, refl)

module _ {T : Type 0} (Right : Outcome → Type 0) (Left : Outside → Outside → List ℕ → Type 0) {name : List ℕ} (others : List (List ℕ)) {old new : Outside} (refusal : Refusal) {limit : ℕ} (more : ℕ)
    (takes : Takes {T = T} limit name (Err refusal) old new) (out : Stream) where
  abbrev before : Outside
  before = with_output old out

  abbrev after : Outside
  after = with_output new out

  -- the first file failed, or is refused
  untaken : (which : Which) → OnTrue (has_cause (status_of refusal)) (which ≡ Only) → IsExplained Right which refusal → Left before after []
      → Performs Right Left (name ∷ others) (limit + 2 + more) (Err (of refusal which)) before after
  untaken which none explained left =
      let some : (bytes : List ℕ) × Left before after bytes × Appends out.written out.written bytes = ([], left, nothing_told out.written) in
      record {
        ends = ends_refused Right out out refusal which takes.taking none explained (nothing_told out.written) refl;
        left = on_true _ some;
        asked = (1, takes.asked);
        calls = let few = takes.calls in omega arith;
        input = input_of refusal _ _ _ _ takes.taking takes.opened takes.read;
        opened = risen (is_open refusal) _ _ takes.opened;
        read = risen (is_read refusal) _ _ takes.read;
        held = takes.held;
      }

  pub performs_untaken : (which : Which) → IsExplained Right which refusal → Left before after [] → Performs Right Left (name ∷ others) (limit + 2 + more) (Err (marked which refusal)) before after
  performs_untaken which explained left = untaken (marked which refusal).which (marked_none which refusal) (marked_explains Right which refusal explained) left

  pub performs_only : IsExplained Right Only refusal → Left before after [] → Performs Right Left (name ∷ others) (limit + 2 + more) (Err (only refusal)) before after
  performs_only explained left = untaken Only (on_true (has_cause (status_of refusal)) refl) explained left

-- no file is asked for
pub performs_none : {Right : Outcome → Type 0} {Left : Outside → Outside → List ℕ → Type 0} {result : Result Status Refused} {old new : Stream} (names : List (List ℕ)) (calls : ℕ) (files : Outside)
    → Answers Right result old new → Performs Right Left names calls result (with_output files old) (with_output files new)
performs_none {result = result} names calls files is =
    let none = no_input_refusal result is.no_input in
    record {
      ends = is.ends;
      left = rw is.no_input tt;
      asked = asks_no_prefix files.asked names;
      calls = omega arith;
      input = no_cause (ending result) _ _ _ _ is.no_input (refl, refl);
      opened = rw none.0 tt;
      read = rw none.1 tt;
      held = refl;
    }
