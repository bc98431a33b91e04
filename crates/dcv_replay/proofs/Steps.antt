-- Steps of a replay in turn.
use Rattle.std.proofs.Common.{◌≡◌, ◌≢◌, ℕ, zero, suc, set, Result, Ok, Err, ◌+◌, ◌<◌, ◌≤◌, List, [], ◌∷◌}
use Rattle.std.proofs.Common.{◌++◌, length, take, drop, get_or, Option, Some, None, refl, sym, ap, subst, ◌∙◌, arith, append_assoc, length-append}
use Rattle.std.specs.Result.{OnErr}
use Rattle.std.proofs.lemmas.List.{append-nil, take-append-drop, take_more, length-drop}
use Rattle.dcv_io.specs.Written.{appended, AppendsStrictPrefix}
use Rattle.dcv_io.proofs.Appending.{appended-appended}
use Rattle.dcv_word.specs.Behaviour.{Word}
use Rattle.dcv_replay.specs.Answers.{answers, answer_line, behind}
use Rattle.dcv_replay.specs.TraceText.{BeginsWithNoLine}
use Rattle.dcv_replay.specs.Coming.{LinesValue, HasCome, IsAtFault, IsLast}
use Rattle.dcv_replay.specs.declared.fault.Stop.{Stop}
use Rattle.dcv_replay.specs.declared.fault.Stop.TheVariants.{Read, Line, TooLong, Empty}
use Rattle.dcv_replay.specs.Program.{Program, ReplayValue, after_word, after_letter, rest_of, advanced}
use Rattle.dcv_replay.specs.Replayed.{Sends}
use Rattle.dcv_replay.specs.Running.{Going, going, Answered, Passes, StopsAt, Breaks, IsEndOf, EndsSo, Leads}
use Rattle.dcv_replay.proofs.Texts.{come_in_turn}

-- ---- words

pub after_word-append : (program : Program) (store : List ℕ) (u v : Word) → after_word program store (u ++ v) ≡ after_word program (after_word program store u) v
after_word-append program store [] v = refl
after_word-append program store (letter ∷ u) v = after_word-append program (after_letter program store letter) u v

pub advanced-append : (replay : ReplayValue) (u v : Word) → advanced replay (u ++ v) ≡ advanced (advanced replay u) v
advanced-append replay u v = ap (λ (store : List ℕ). record { program = replay.program; store = store }) (after_word-append replay.program replay.store u v)

pub answers-append : (replay : ReplayValue) (u v : Word) → answers (rest_of replay) (u ++ v) ≡ answers (rest_of replay) u ++ answers (rest_of (advanced replay u)) v
answers-append replay [] v = refl
answers-append replay (letter ∷ u) v =
    ap (λ more. answer_line (rest_of replay (letter ∷ [])) ++ more) (answers-append (advanced replay (letter ∷ [])) u v)
    ∙ sym (append_assoc (answer_line (rest_of replay (letter ∷ []))) (answers (behind (rest_of replay) letter) u) (answers (rest_of (advanced replay (letter ∷ u))) v))

-- ---- what is sent

pub sends_in_turn : {first second third : Option (List ℕ)} {bytes middle left : List ℕ} (more : List ℕ) → Sends first second bytes middle
    → Sends second third (middle ++ more) left → Sends first third (bytes ++ more) left
sends_in_turn {first} {second} {third} {bytes} {middle} {left} more one other = record {
  sent = one.sent ++ other.sent;
  written = other.written ∙ ap (λ (was : Option (List ℕ)). appended was other.sent) one.written ∙ appended-appended first one.sent other.sent;
  all =
      ap (λ text. text ++ more) one.all ∙ append_assoc one.sent middle more ∙ ap (λ text. one.sent ++ text) other.all
      ∙ sym (append_assoc one.sent other.sent left);
}

pub answered_in_turn : {first second third : ReplayValue} {written written' written'' : Option (List ℕ)} {block middle left : List ℕ} {u v : Word}
    → Answered first written block u second written' middle → Answered second written' middle v third written'' left → Answered first written block (u ++ v) third written'' left
answered_in_turn {first} {second} {third} {written} {written'} {written''} {block} {middle} {left} {u} {v} one other =
    let whole : third ≡ advanced first (u ++ v) = other.replay ∙ ap (λ (replay : ReplayValue). advanced replay v) one.replay ∙ sym (advanced-append first u v) in
    let rest : answers (rest_of second) v ≡ answers (rest_of (advanced first u)) v = ap (λ (replay : ReplayValue). answers (rest_of replay) v) one.replay in
    let sent : Sends written written'' ((block ++ answers (rest_of first) u) ++ answers (rest_of (advanced first u)) v) left =
    sends_in_turn (answers (rest_of (advanced first u)) v) one.sends (subst (λ (bytes : List ℕ). Sends written' written'' (middle ++ bytes) left) rest other.sends) in
    record {
      replay = whole;
      sends = subst (λ (bytes : List ℕ). Sends written written'' bytes left)
          (append_assoc block (answers (rest_of first) u) (answers (rest_of (advanced first u)) v) ∙ ap (λ bytes. block ++ bytes) (sym (answers-append first u v))) sent;
    }

pub passes_in_turn : {first second third : Going} {bytes more : List ℕ} → Passes first bytes second → Passes second more third → Passes first (bytes ++ more) third
passes_in_turn {first} {second} {third} {bytes} {more} one other = record {
  letters = one.letters ++ other.letters;
  come =
      subst (λ (text : List ℕ). HasCome first.lines.width text (one.letters ++ other.letters) third.lines.line) (append_assoc first.lines.line bytes more)
      (come_in_turn more one.come (subst (λ (width : ℕ). HasCome width (second.lines.line ++ more) other.letters third.lines.line) one.width other.come));
  width = other.width ∙ one.width;
  count = omega (arith, one.count, other.count, length-append one.letters other.letters);
  answered = answered_in_turn one.answered other.answered;
}

pub stops_in_turn : {first second third : Going} {bytes more : List ℕ} {why : _} → Passes first bytes second → StopsAt second more third why → StopsAt first (bytes ++ more) third why
stops_in_turn {first} {second} {third} {bytes} {more} {why} one other = record {
  taken = bytes ++ other.taken;
  back = other.back;
  parts = ap (λ text. bytes ++ text) other.parts ∙ sym (append_assoc bytes other.taken other.back);
  passes = passes_in_turn one other.passes;
  fault_there = other.fault_there;
}

pub breaks_in_turn : {first second : Going} {bytes more : List ℕ} {replay : _} {lines : _} {written : _} → Passes first bytes second
    → Breaks second more replay lines written → Breaks first (bytes ++ more) replay lines written
breaks_in_turn {first} {second} {bytes} {more} {replay} {lines} {written} one other = record {
  taken = bytes ++ other.taken;
  back = other.back;
  parts = ap (λ text. bytes ++ text) other.parts ∙ sym (append_assoc bytes other.taken other.back);
  left = other.left;
  some = other.some;
  passes = passes_in_turn one other.passes;
}

-- what is written before a failure is some of the front
some_dropped : (n : ℕ) (bytes : List ℕ) → n < length bytes → drop n bytes ≢ []
some_dropped n bytes below none = omega (arith, ap length none, length-drop n bytes, below)

pub strict_sends : {old new : Option (List ℕ)} (bytes : List ℕ) → AppendsStrictPrefix old new bytes → (left : List ℕ) × (left ≢ []) × Sends old new bytes left
strict_sends bytes part = (drop part.0 bytes, some_dropped part.0 bytes part.1, record { sent = take part.0 bytes; written = part.2; all = sym (take-append-drop part.0 bytes) })

pub failed_sends : {T E : Type 0} (result : Result T E) (old new : Option (List ℕ)) (bytes whole : List ℕ) → bytes ≡ whole
    → OnErr result (AppendsStrictPrefix old new bytes) → OnErr result ((left : List ℕ) × (left ≢ []) × Sends old new whole left)
failed_sends (Ok done) old new bytes whole same part = tt
failed_sends (Err fault) old new bytes whole same part = strict_sends whole (subst (AppendsStrictPrefix old new) same part)

two_behind : (xs : List ℕ) (at first second : ℕ) → at + 2 ≤ length xs → take (suc (suc at)) (set (set xs at first) (suc at) second) ≡ take at xs ++ first ∷ second ∷ []
two_behind [] at first second fits = absurd (omega arith)
two_behind (x ∷ []) at first second fits = absurd (omega arith)
two_behind (x ∷ y ∷ xs) zero first second fits = refl
two_behind (x ∷ y ∷ xs) (suc at) first second fits = ap (λ (rest : List ℕ). x ∷ rest) (two_behind (y ∷ xs) at first second (omega arith))

pub two_more : (xs : List ℕ) (at first second : ℕ) → at + 2 ≤ length xs → take (at + 2) (set (set xs at first) (at + 1) second) ≡ take at xs ++ first ∷ second ∷ []
two_more xs at first second fits =
    let next : at + 1 ≡ suc at = omega arith in
    let end : at + 2 ≡ suc (suc at) = omega arith in
    ap (λ (n : ℕ). take n (set (set xs at first) (at + 1) second)) end ∙ ap (λ (n : ℕ). take (suc (suc at)) (set (set xs at first) n second)) next ∙ two_behind xs at first second fits

-- ---- nothing yet

appended_nothing : (written : Option (List ℕ)) → written ≡ appended written []
appended_nothing None = refl
appended_nothing (Some bytes) = ap Some (sym (append-nil bytes))

pub answered_nothing : (replay : ReplayValue) (written : Option (List ℕ)) (block : List ℕ) → Answered replay written block [] replay written block
answered_nothing replay written block = record {
  replay = refl;
  sends = record { sent = []; written = appended_nothing written; all = append-nil block };
}

pub passes_nothing : (start : Going) → Passes start [] start
passes_nothing start = record {
  letters = [];
  come = record { front = []; ended = refl; whole = append-nil start.lines.line };
  width = refl;
  count = omega arith;
  answered = answered_nothing start.replay start.written start.block;
}

pub stops_here : (replay : ReplayValue) (lines lines' : LinesValue) (written : Option (List ℕ)) (block bytes : List ℕ) (why : Stop) → (lines' ≡ lines) × IsAtFault lines bytes why
    → StopsAt (going replay lines written block) bytes (going replay lines' written block) why
stops_here replay lines lines' written block bytes why (same, there) =
    subst (λ (after : LinesValue). StopsAt (going replay lines written block) bytes (going replay after written block) why) (sym same)
    (record { taken = []; back = bytes; parts = refl; passes = passes_nothing (going replay lines written block); fault_there = there })

-- ---- more after

some_more : (back rest : List ℕ) → back ≢ [] → back ++ rest ≢ []
some_more [] rest some none = some refl
some_more (c ∷ back) rest some none = cc

fault_further : (lines : LinesValue) (back rest : List ℕ) (why : Stop) → IsAtFault lines back why → IsAtFault lines (back ++ rest) why
fault_further lines back rest Read there = there
fault_further lines back rest (Line line) (number, few, some, bad) = (
  number,
  few,
  some_more back rest some,
  λ more. subst (BeginsWithNoLine lines.width) (sym (ap (λ text. text ++ more) (sym (append_assoc lines.line back rest)) ∙ append_assoc (lines.line ++ back) rest more)) (bad (rest ++ more)),
)
fault_further lines back rest TooLong (full, some) = (full, some_more back rest some)
fault_further lines back rest Empty there = there

pub stops_further : {before after : Going} {why : Stop} (bytes rest all : List ℕ) → all ≡ bytes ++ rest → StopsAt before bytes after why → StopsAt before all after why
stops_further {before} {after} {why} bytes rest all same stops = record {
  taken = stops.taken;
  back = stops.back ++ rest;
  parts = same ∙ ap (λ text. text ++ rest) stops.parts ∙ append_assoc stops.taken stops.back rest;
  passes = stops.passes;
  fault_there = fault_further after.lines stops.back rest why stops.fault_there;
}

pub breaks_further : {before : Going} {replay : ReplayValue} {lines : LinesValue} {written : Option (List ℕ)} (bytes rest all : List ℕ)
    → all ≡ bytes ++ rest → Breaks before bytes replay lines written → Breaks before all replay lines written
breaks_further bytes rest all same breaks = record {
  taken = breaks.taken;
  back = breaks.back ++ rest;
  parts = same ∙ ap (λ text. text ++ rest) breaks.parts ∙ append_assoc breaks.taken breaks.back rest;
  left = breaks.left;
  some = breaks.some;
  passes = breaks.passes;
}

-- ---- the end

end_of : (lines : LinesValue) (why : Stop) → IsLast lines (Err why) → IsEndOf lines [] (Some why)
end_of lines Read last = last
end_of lines (Line line) (number, few, some, bad) = (refl, number, few, some, bad)
end_of lines TooLong last = last
end_of lines Empty (none, zero_is) = (refl, none, zero_is)

pub ends_faulty : (replay : ReplayValue) (lines : LinesValue) (written : Option (List ℕ)) (block : List ℕ) (why : Stop) → IsLast lines (Err why)
    → EndsSo (going replay lines written block) (going replay lines written block) (Some why)
ends_faulty replay lines written block why last = record { letters = []; last = end_of lines why last; answered = answered_nothing replay written block }

pub ends_plain : (replay : ReplayValue) (lines : LinesValue) (written : Option (List ℕ)) (block : List ℕ) → IsLast lines (Ok None)
    → EndsSo (going replay lines written block) (going replay lines written block) None
ends_plain replay lines written block last = record { letters = []; last = last; answered = answered_nothing replay written block }

-- ---- one by one

pub parted : (bytes : List ℕ) (place : ℕ) → place < length bytes → bytes ≡ (take place bytes ++ get_or bytes place 0 ∷ []) ++ drop (place + 1) bytes
parted bytes place below = sym (ap (λ front. front ++ drop (place + 1) bytes) (sym (take_more bytes place 0 below)) ∙ take-append-drop (place + 1) bytes)

pub leads_stop : {before after : Going} {bytes : List ℕ} {found : Option Stop} {why : Stop} → found ≡ Some why → Leads before bytes after found → StopsAt before bytes after why
leads_stop {before} {after} {bytes} {found} {why} is leads = subst (Leads before bytes after) is leads

pub leads_on : {before after : Going} {bytes : List ℕ} {found : Option Stop} → found ≡ None → Leads before bytes after found → Passes before bytes after
leads_on {before} {after} {bytes} {found} is leads = subst (Leads before bytes after) is leads

pub passes_one_more : {first second third : Going} (bytes : List ℕ) (place : ℕ) → place < length bytes → Passes first (take place bytes) second
    → Passes second (get_or bytes place 0 ∷ []) third → Passes first (take (place + 1) bytes) third
passes_one_more {first} {second} {third} bytes place below one other = subst (λ (text : List ℕ). Passes first text third) (sym (take_more bytes place 0 below)) (passes_in_turn one other)

pub spent_further : (a b c place : ℕ) → a + 1 ≤ b → b + place ≤ c → a + (place + 1) ≤ c
spent_further a b c place one before = omega arith

pub on_err_from : {T E : Type 0} {P : Type 0} (result : Result T E) → P → OnErr result P
on_err_from (Ok value) fact = tt
on_err_from (Err fault) fact = fact
