-- How a run ends.
use Rattle.std.proofs.Common.{◌≡◌, ℕ, false, Result, Ok, Err, List, [], ◌++◌, length, Option, Some, None, inl, inr, refl, sym, ap, subst, ◌∙◌, arith}
use Rattle.std.specs.Option.{IfSome, IfNone}
use Rattle.std.specs.Result.{OnOk, is_err}
use Rattle.std.proofs.lemmas.Bool.{false≢true}
use Rattle.std.proofs.lemmas.List.{append-nil}
use Rattle.dcv_io.specs.Disk.{Disk, held_of, WhereTold, Opens}
use Rattle.dcv_word.specs.Behaviour.{Word}
use Rattle.dcv_replay.specs.TraceText.{AreLines}
use Rattle.dcv_replay.specs.Program.{ReplayValue, rest_of}
use Rattle.dcv_replay.specs.Answers.{answers}
use Rattle.dcv_replay.specs.Stops.{fault_of}
use Rattle.dcv_replay.specs.Replayed.{Sends, HasLines, IsTraceResult, is_open, is_write, IfRead, CutShort}
use Rattle.dcv_replay.specs.Running.{Answered, IsEnding, IsResultOf, EndsBy, IsFront, Ran, RunsOver, IsCut}
use Rattle.dcv_replay.specs.declared.fault.ReplayFault.{ReplayFault}
use Rattle.dcv_replay.specs.declared.fault.ReplayFault.TheVariants as fault
use Rattle.dcv_replay.specs.declared.fault.Stop.{Stop}
use Rattle.dcv_replay.specs.declared.fault.Stop.TheVariants.{Read, Line, TooLong, Empty}
use Rattle.dcv_replay.proofs.Texts.{wide_none}
use Rattle.dcv_replay.proofs.Steps.{sends_in_turn, answered_nothing}

-- the first lines of a trace, however it ends
has_lines : (width : ℕ) (text : List ℕ) (letters : Word) (why : Option Stop) → IsEnding width text letters why → HasLines width text letters
has_lines width text letters None ending = record { rest = []; lines = ending.lines; few = ending.few }
has_lines width text letters (Some Read) ending = ending
has_lines width text letters (Some (Line line)) ending = record { rest = ending.rest; lines = ending.lines; few = omega (arith, ending.few) }
has_lines width text letters (Some TooLong) ending = record { rest = ending.rest; lines = ending.lines; few = omega (arith, ending.full) }
has_lines width text letters (Some Empty) (none, no_letters) = record {
  rest = [];
  lines = subst (λ (word : Word). AreLines width word text []) (sym no_letters) none;
  few = omega (arith, ap length no_letters);
}

result_is : {T : Type 0} (width : ℕ) (text : List ℕ) (letters : Word) (why : Option Stop) (result : Result T ReplayFault) → IsResultOf why result
    → IsEnding width text letters why → IsTraceResult width text letters result
result_is width text letters None (Ok done) is ending = ending
result_is width text letters None (Err fault) is ending = absurd is
result_is width text letters (Some why) (Ok done) is ending = absurd is
result_is width text letters (Some why) (Err fault) is ending = subst (λ (one : ReplayFault). IsTraceResult {T = Unit {0}} width text letters (Err one)) (sym is) (of_fault why ending) where
  of_fault : (why : Stop) → IsEnding width text letters (Some why) → IsTraceResult {T = Unit {0}} width text letters (Err (fault_of why))
  of_fault Read ending = ending
  of_fault (Line line) ending = ending
  of_fault TooLong ending = ending
  of_fault Empty ending = ending

-- what is open is what is held
opened_held : (name text : List ℕ) (told opened : Option Disk) → WhereTold (Opens name) told opened → IfSome opened (λ disk. disk.open ≡ Some text)
    → IfSome (held_of told) (λ held. held name ≡ Some text)
opened_held name text None opened opens whole = tt
opened_held name text (Some disk) None opens whole = absurd opens
opened_held name text (Some disk) (Some after) opens whole = sym opens.whole ∙ whole

sent_on : {before after : ReplayValue} {written written' written'' : Option (List ℕ)} {block left : List ℕ} {letters : Word}
    → Answered before written [] letters after written' block → Sends written' written'' block left
    → Answered before written [] letters after written'' left
sent_on {before} {after} {written} {written'} {written''} {block} {left} {letters} answered sends = record {
  replay = answered.replay;
  sends = subst (λ (bytes : List ℕ). Sends written written'' bytes left) (append-nil ([] ++ answers (rest_of before) letters))
      (sends_in_turn [] answered.sends (subst (λ (bytes : List ℕ). Sends written' written'' bytes left) (sym (append-nil block)) sends));
}

cut_is : {T : Type 0} (width : ℕ) (opened told' : Option Disk) (letters : Word) (read : List ℕ) (why : Option Stop) (result : Result T ReplayFault) → IsResultOf why result
    → (front : IsFront read opened told') → IsCut width why read letters → IfRead result (CutShort width (read ++ front.rest) told' letters)
cut_is width opened told' letters read None (Ok done) is front cut = tt
cut_is width opened told' letters read None (Err fault) is front cut = absurd is
cut_is width opened told' letters read (Some why) (Ok done) is front cut = absurd is
cut_is {T} width opened told' letters read (Some why) (Err fault) is front cut =
    subst (λ (one : ReplayFault). IfRead {T = T} (Err one) (CutShort width (read ++ front.rest) told' letters)) (sym is) (of_fault why cut) where
      of_fault : (why : Stop) → IsCut width (Some why) read letters → IfRead {T = T} (Err (fault_of why)) (CutShort width (read ++ front.rest) told' letters)
      of_fault Read (line, come, free) = record { read = read; rest = front.rest; parts = refl; left = front.left; line = line; come = come; feedless = free }
      of_fault (Line line) cut = tt
      of_fault TooLong cut = tt
      of_fault Empty cut = tt

no_write_of : {T : Type 0} (why : Option Stop) (result : Result T ReplayFault) → IsResultOf why result → is_write result ≡ false
no_write_of None (Ok done) is = refl
no_write_of None (Err fault) is = absurd is
no_write_of (Some why) (Ok done) is = absurd is
no_write_of {T} (Some why) (Err fault) is = subst (λ (one : ReplayFault). is_write {T = T} (Err one) ≡ false) (sym is) (of_fault why) where
  of_fault : (why : Stop) → is_write {T = T} (Err (fault_of why)) ≡ false
  of_fault Read = refl
  of_fault (Line line) = refl
  of_fault TooLong = refl
  of_fault Empty = refl

-- how an open trace ends is no failed open
no_open_of : {T : Type 0} (why : Option Stop) (result : Result T ReplayFault) → IsResultOf why result → is_open result ≡ false
no_open_of None (Ok done) is = refl
no_open_of None (Err fault) is = absurd is
no_open_of (Some why) (Ok done) is = absurd is
no_open_of {T} (Some why) (Err fault) is = subst (λ (one : ReplayFault). is_open {T = T} (Err one) ≡ false) (sym is) (of_fault why) where
  of_fault : (why : Stop) → is_open {T = T} (Err (fault_of why)) ≡ false
  of_fault Read = refl
  of_fault (Line line) = refl
  of_fault TooLong = refl
  of_fault Empty = refl

pub replayed_end : {T : Type 0} (name : List ℕ) (told opened told' : Option Disk) (before after : ReplayValue) (written written' written'' : Option (List ℕ)) (first block : List ℕ) (why : Option Stop) (result : Result T ReplayFault)
    → WhereTold (Opens name) told opened
    → Ran (λ text letters. IsEnding before.program.width text letters why) (IsCut before.program.width why) opened told' before written first after written' block
    → first ≡ [] → EndsBy why written' written'' block result
    → RunsOver name told told' before written after written'' result
replayed_end name told opened told' before after written written' written'' first block why result opens ran none_yet ends = record {
  letters = ran.letters;
  left = ends.left;
  answered = sent_on (subst (λ (front : List ℕ). Answered before written front ran.letters after written' block) none_yet ran.answered) ends.sends;
  wide = ran.wide;
  some = λ wrote. elim ends.is [
    | inl (is, some) ↦ some
    | inr (none, is) ↦ absurd (false≢true (sym (no_write_of why result is) ∙ wrote))
  ];
  whole = λ no_write. elim ends.is [
    | inl (is, some) ↦ absurd (false≢true (sym no_write ∙ ap is_write is))
    | inr (none, is) ↦ none
  ];
  unopened = λ failed. elim ends.is [
    | inl (is, some) ↦ absurd (false≢true (ap is_open (sym is) ∙ failed))
    | inr (none, is) ↦ absurd (false≢true (sym (no_open_of why result is) ∙ failed))
  ];
  traced = λ was_opened. record {
    trace = ran.read ++ ran.front.rest;
    there = opened_held name (ran.read ++ ran.front.rest) told opened opens ran.front.whole;
    verdict = elim ends.is [
      | inl (is, some) ↦ subst (λ (one : Result _ ReplayFault). IsTraceResult before.program.width (ran.read ++ ran.front.rest) ran.letters one) (sym is)
          (has_lines before.program.width (ran.read ++ ran.front.rest) ran.letters why ran.verdict)
      | inr (none, is) ↦ result_is before.program.width (ran.read ++ ran.front.rest) ran.letters why result is ran.verdict
    ];
    cut = elim ends.is [
      | inl (is, some) ↦
          subst (λ (one : Result _ ReplayFault). IfRead one (CutShort before.program.width (ran.read ++ ran.front.rest) told' ran.letters)) (sym is) tt
      | inr (none, is) ↦ cut_is before.program.width opened told' ran.letters ran.read why result is ran.front ran.cut
    ];
  };
}

pub replayed_unopened : {T : Type 0} (name : List ℕ) (told told' : Option Disk) (replay : ReplayValue) (written : Option (List ℕ))
    → RunsOver {T = T} name told told' replay written replay written (Err fault.Open)
replayed_unopened name told told' replay written = record {
  letters = [];
  wide = wide_none replay.program.width;
  some = λ wrote. absurd (false≢true wrote);
  left = [];
  answered = answered_nothing replay written [];
  whole = λ no_write. refl;
  unopened = λ failed. refl;
  traced = λ was_opened. absurd (false≢true (sym was_opened));
}

pub where_ok : {T E : Type 0} {P : Type 0} (result : Result T E) → is_err result ≡ false → OnOk result P → P
where_ok (Ok value) fine fact = fact
where_ok (Err fault) fine fact = absurd (false≢true (sym fine))

-- where a run ends without a fault, nothing stopped it
pub read_to_end : {T : Type 0} {written written' : Option (List ℕ)} {block : List ℕ} (X : Type 0) (why : Option Stop) (result : Result T ReplayFault)
    → EndsBy why written written' block result → IfNone why X → OnOk result X
read_to_end X None (Ok done) ends x = x
read_to_end X (Some stop) (Ok done) ends x = elim ends.is [
  | inl (is, left) ↦ absurd (false≢true (ap is_err is))
  | inr (left, is) ↦ absurd is
]
read_to_end X why (Err fault) ends x = tt
