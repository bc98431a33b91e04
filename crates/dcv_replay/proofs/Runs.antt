-- The run over an open trace.
use Rattle.std.proofs.Common.{◌≡◌, ◌≢◌, ℕ, ◌+◌, ◌*◌, ◌≤◌, Bool, Result, Ok, Err, List, [], ◌∷◌, ◌++◌, length}
use Rattle.std.proofs.Common.{take, Option, Some, None, inr, refl, sym, ap, subst, ◌∙◌, arith, append_assoc, length-append, rules}
use Rattle.std.specs.Option.{IfSome, IfNone, IsSome}
use Rattle.std.specs.Result.{IfOk, OnErr}
use Rattle.std.proofs.lemmas.List.{append-nil, length-take}
use Rattle.dcv_io.specs.Faults.{raised}
use Rattle.dcv_io.specs.Disk.{Disk, WhereTold, Gives, IsAtEnd}
use Rattle.dcv_io.proofs.Giving.{gives_in_turn}
use Rattle.dcv_word.specs.Behaviour.{Word}
use Rattle.dcv_word.specs.TraceLine.{trace_line}
use Rattle.dcv_replay.specs.TraceText.{most_lines, AreWide, AreLines, BeginsWithNoLine, IsTrace, HasBadLine}
use Rattle.dcv_replay.specs.Coming.{LinesValue, budget, IsLines, HasCome, IsAtFault}
use Rattle.dcv_replay.specs.Program.{ReplayValue}
use Rattle.dcv_replay.specs.Replayed.{HasLines}
use Rattle.dcv_replay.specs.Running.{Going, going, Passes, StopsAt, Breaks, IsEnding, IsCut, IsEndOf, EndsSo, BreaksOff, IsFront, Ran}
use Rattle.dcv_replay.specs.declared.fault.Stop.{Stop}
use Rattle.dcv_replay.specs.declared.fault.Stop.TheVariants.{Read, Line, TooLong, Empty}
use Rattle.dcv_replay.proofs.Texts.{come_lines, come_wide, wide_append, wide_one, wide_none, lines_in_turn}
use Rattle.dcv_replay.proofs.Steps.{answered_in_turn, passes_nothing}

-- ---- what is told of the text

abbrev front_is : (told told' : Option Disk) (read : List ℕ) → WhereTold (Gives read) told told' → IsFront read told told'
front_is None None read given = record { rest = []; whole = tt; left = tt }
front_is None (Some disk) read given = absurd given
front_is (Some disk) None read given = absurd given
front_is (Some disk) (Some disk') read given = record { rest = given.rest; whole = given.before; left = given.after }

same_some : (a b : List ℕ) → Some a ≡ Some b → a ≡ b
same_some a b same = cc

-- at its end nothing is left
front_is_whole : (told told' : Option Disk) (read : List ℕ) (given : WhereTold (Gives read) told told') → IsAtEnd told' → (front_is told told' read given).rest ≡ []
front_is_whole None None read given end = refl
front_is_whole None (Some disk) read given end = absurd given
front_is_whole (Some disk) None read given end = absurd given
front_is_whole (Some disk) (Some disk') read given end = same_some given.rest [] (sym given.after ∙ end)

told_whole : (told told' : Option Disk) (read : List ℕ) (P : List ℕ → Type 0) (given : WhereTold (Gives read) told told') → IsAtEnd told' → P read
    → P (read ++ (front_is told told' read given).rest)
told_whole told told' read P given end fact =
    subst P (sym (ap (λ rest. read ++ rest) (front_is_whole told told' read given end) ∙ append-nil read)) fact

pub if_ok_weaker : {T E : Type 0} {P Q : T → Type 0} (result : Result T E) → ((value : T) → P value → Q value) → IfOk result P → IfOk result Q
if_ok_weaker (Ok value) weaker fact = weaker value fact
if_ok_weaker (Err fault) weaker fact = tt

pub on_err_weaker : {T E : Type 0} {P Q : Type 0} (result : Result T E) → (P → Q) → OnErr result P → OnErr result Q
on_err_weaker (Ok value) weaker fact = tt
on_err_weaker (Err fault) weaker fact = weaker fact

-- ---- from the front of a trace on

abbrev pub start_of : ReplayValue → Option (List ℕ) → List ℕ → Going
start_of replay written block = going replay (record { width = replay.program.width; line = []; count = 0 }) written block

module _ (replay : ReplayValue) (written : Option (List ℕ)) (block : List ℕ) where
  abbrev width : ℕ
  width = replay.program.width

  pub ran_cut : {read : List ℕ} {now : Going} (told told' : Option Disk) → Passes (start_of replay written block) read now → IsLines now.lines → WhereTold (Gives read) told told'
      → Ran (λ text letters. IsEnding replay.program.width text letters (Some Read)) (IsCut replay.program.width (Some Read)) told told' replay written block now.replay now.written now.block
  ran_cut {read} {now} told told' passes is given = record {
    cut = (now.lines.line, passes.come, is.feedless);
    letters = passes.letters;
    wide = come_wide passes.come;
    answered = passes.answered;
    read = read;
    front = front_is told told' read given;
    verdict = record {
      rest = now.lines.line ++ (front_is told told' read given).rest;
      lines = come_lines passes.come (front_is told told' read given).rest;
      few = omega (arith, passes.count, is.few);
    };
  }

  some_left : (line back rest : List ℕ) → back ≢ [] → line ++ (back ++ rest) ≢ []
  some_left [] [] rest some none = some refl
  some_left [] (c ∷ back) rest some none = cc
  some_left (c ∷ line) back rest some none = cc

  stopping : (lines : LinesValue) (letters : Word) (text back rest : List ℕ) (why : Stop) → lines.width ≡ replay.program.width
      → lines.count ≡ length letters → AreLines replay.program.width letters text (lines.line ++ (back ++ rest))
      → IsAtFault lines back why → IsEnding replay.program.width text letters (Some why)
  stopping lines letters text back rest Read wide count are there = absurd there
  stopping lines letters text back rest (Line line) wide count are (number, few, some, bad) = record {
    rest = lines.line ++ (back ++ rest);
    lines = are;
    few = omega (arith, few, count);
    number = number ∙ ap (λ (n : ℕ). n + 1) count;
    some = some_left lines.line back rest some;
    bad = subst (λ (wide : ℕ). BeginsWithNoLine wide (lines.line ++ (back ++ rest))) wide (subst (BeginsWithNoLine lines.width) (append_assoc lines.line back rest) (bad rest));
  }
  stopping lines letters text back rest TooLong wide count are (full, some) = record {
    rest = lines.line ++ (back ++ rest);
    lines = are;
    full = sym count ∙ full;
    some = some_left lines.line back rest some;
  }
  stopping lines letters text back rest Empty wide count are there = absurd there

  no_cut : (width : ℕ) (lines : LinesValue) (back : List ℕ) (why : Stop) (read : List ℕ) (letters : Word) → IsAtFault lines back why → IsCut width (Some why) read letters
  no_cut width lines back Read read letters there = absurd there
  no_cut width lines back (Line line) read letters there = tt
  no_cut width lines back TooLong read letters there = tt
  no_cut width lines back Empty read letters there = tt

  no_end_cut : (width : ℕ) (lines : LinesValue) (v : Word) (why : Option Stop) (read : List ℕ) (letters : Word) → IsEndOf lines v why → IsCut width why read letters
  no_end_cut width lines v None read letters there = tt
  no_end_cut width lines v (Some Read) read letters there = absurd there
  no_end_cut width lines v (Some (Line line)) read letters there = tt
  no_end_cut width lines v (Some TooLong) read letters there = tt
  no_end_cut width lines v (Some Empty) read letters there = tt

  text_parts : (all taken back rest : List ℕ) → all ≡ taken ++ back → taken ++ (back ++ rest) ≡ all ++ rest
  text_parts all taken back rest same = sym (ap (λ text. text ++ rest) same ∙ append_assoc taken back rest)

  pub ran_stop : {all : List ℕ} {now : Going} {why : Stop} (told told' : Option Disk) → StopsAt (start_of replay written block) all now why → WhereTold (Gives all) told told'
      → Ran (λ text letters. IsEnding replay.program.width text letters (Some why)) (IsCut replay.program.width (Some why)) told told' replay written block now.replay now.written now.block
  ran_stop {all} {now} {why} told told' stops given = record {
    cut = no_cut replay.program.width now.lines stops.back why all stops.passes.letters stops.fault_there;
    letters = stops.passes.letters;
    wide = come_wide stops.passes.come;
    answered = stops.passes.answered;
    read = all;
    front = front_is told told' all given;
    verdict =
        let rest = (front_is told told' all given).rest in
        stopping now.lines stops.passes.letters (all ++ rest) stops.back rest why stops.passes.width (omega (arith, stops.passes.count))
        (subst (λ (text : List ℕ). AreLines replay.program.width stops.passes.letters text (now.lines.line ++ (stops.back ++ rest))) (text_parts all stops.taken stops.back rest stops.parts)
        (come_lines stops.passes.come (stops.back ++ rest))) stops.fault_there;
  }

  pub ran_broken : {all : List ℕ} {replay' : ReplayValue} {lines : LinesValue} {written' : Option (List ℕ)} (told told' : Option Disk)
      → Breaks (start_of replay written block) all replay' lines written' → IsLines lines
      → WhereTold (Gives all) told told' → (left : List ℕ) × (left ≢ []) × Ran (HasLines replay.program.width) (λ read letters. Unit {0}) told told' replay written block replay' written' left
  ran_broken {all} {replay'} {lines} {written'} told told' breaks is given = (
    breaks.left,
    breaks.some,
    record {
      cut = tt;
      letters = breaks.passes.letters;
      wide = come_wide breaks.passes.come;
      answered = breaks.passes.answered;
      read = all;
      front = front_is told told' all given;
      verdict = let rest = (front_is told told' all given).rest in record {
        rest = lines.line ++ (breaks.back ++ rest);
        few = omega (arith, breaks.passes.count, is.few);
        lines = subst (λ (text : List ℕ). AreLines replay.program.width breaks.passes.letters text (lines.line ++ (breaks.back ++ rest))) (text_parts all breaks.taken breaks.back rest breaks.parts)
            (come_lines breaks.passes.come (breaks.back ++ rest));
      };
    },
  )

  -- ---- the end

  whole_lines : {read : List ℕ} {now : Going} → (passes : Passes (start_of replay written block) read now) → AreLines replay.program.width passes.letters read now.lines.line
  whole_lines {read} {now} passes =
      subst (λ (text : List ℕ). AreLines replay.program.width passes.letters text now.lines.line) (append-nil read)
      (subst (AreLines replay.program.width passes.letters (read ++ [])) (append-nil now.lines.line) (come_lines passes.come []))

  last_line : (letter : List Bool) (line : List ℕ) → length letter ≡ replay.program.width → line ≡ trace_line letter → AreLines replay.program.width (letter ∷ []) line []
  last_line letter line fits spelled = (
    [],
    record { fits = fits; end = []; ends = inr (inr (refl, refl)); spelled = spelled ∙ sym (append-nil (trace_line letter)) },
    refl,
  )

  nothing_came : (letters : Word) (line read : List ℕ) → HasCome replay.program.width read letters line → length letters ≡ 0 → line ≡ [] → (read ≡ []) × (letters ≡ [])
  nothing_came [] line read come none empty = (come.whole ∙ ap (λ front. front ++ line) come.ended ∙ empty, refl)
  nothing_came (letter ∷ letters) line read come none empty = absurd (omega (arith, none))

  ending : (lines : LinesValue) (u v : Word) (read : List ℕ) (why : Option Stop) → IsLines lines → lines.width ≡ replay.program.width
      → lines.count ≡ length u → HasCome replay.program.width read u lines.line → AreLines replay.program.width u read lines.line
      → IsEndOf lines v why → IsEnding replay.program.width read (u ++ v) why
  ending lines u [] read None is wide count come are (empty, some) =
      subst (λ (letters : Word). IsTrace replay.program.width read letters) (sym (append-nil u)) (record {
        some = omega (arith, some, count);
        few = omega (arith, is.few, count);
        lines = subst (AreLines replay.program.width u read) empty are;
      })
  ending lines u (letter ∷ []) read None is wide count come are (fits, spelled, few) = record {
    some = omega (arith, length-append u (letter ∷ []));
    few = omega (arith, length-append u (letter ∷ []), few, count);
    lines = lines_in_turn replay.program.width u (letter ∷ []) read lines.line [] are (last_line letter lines.line (fits ∙ wide) spelled);
  }
  ending lines u (letter ∷ (other ∷ letters)) read None is wide count come are end = absurd end
  ending lines u v read (Some Read) is wide count come are end = absurd end
  ending lines u v read (Some (Line line)) is wide count come are (none, number, few, some, bad) =
      subst (λ (letters : Word). HasBadLine replay.program.width read letters line) (sym (ap (λ (letters : Word). u ++ letters) none ∙ append-nil u)) (record {
        rest = lines.line;
        lines = are;
        few = omega (arith, few, count);
        number = number ∙ ap (λ (n : ℕ). n + 1) count;
        some = some;
        bad = subst (λ (wide : ℕ). BeginsWithNoLine wide lines.line) wide bad;
      })
  ending lines u v read (Some TooLong) is wide count come are end = absurd end
  ending lines u v read (Some Empty) is wide count come are (none, empty, zero_is) =
      let both = nothing_came u lines.line read come (sym count ∙ zero_is) empty in
      (both.0, ap (λ (letters : Word). letters ++ v) both.1 ∙ none)

  end_wide : (lines : LinesValue) (v : Word) (why : Option Stop) → lines.width ≡ replay.program.width → IsEndOf lines v why → AreWide replay.program.width v
  end_wide lines [] None wide end = wide_none replay.program.width
  end_wide lines (letter ∷ []) None wide (fits, spelled, few) = wide_one replay.program.width letter (fits ∙ wide)
  end_wide lines (letter ∷ (other ∷ letters)) None wide end = absurd end
  end_wide lines v (Some Read) wide end = absurd end
  end_wide lines v (Some (Line line)) wide (none, number, few, some, bad) = subst (AreWide replay.program.width) (sym none) (wide_none replay.program.width)
  end_wide lines v (Some TooLong) wide end = absurd end
  end_wide lines v (Some Empty) wide (none, empty, zero_is) = subst (AreWide replay.program.width) (sym none) (wide_none replay.program.width)

  pub ran_end : {read : List ℕ} {before now : Going} {why : Option Stop} (told told' : Option Disk)
      → Passes (start_of replay written block) read before → IsLines before.lines → EndsSo before now why → WhereTold (Gives read) told told'
      → IsAtEnd told'
      → Ran (λ text letters. IsEnding replay.program.width text letters why) (IsCut replay.program.width why) told told' replay written block now.replay now.written now.block
  ran_end {read} {before} {now} {why} told told' passes is ends given end = record {
    cut = no_end_cut replay.program.width before.lines ends.letters why read (passes.letters ++ ends.letters) ends.last;
    letters = passes.letters ++ ends.letters;
    wide = wide_append replay.program.width passes.letters ends.letters (come_wide passes.come) (end_wide before.lines ends.letters why passes.width ends.last);
    answered = answered_in_turn passes.answered ends.answered;
    read = read;
    front = front_is told told' read given;
    verdict = told_whole told told' read (λ text. IsEnding replay.program.width text (passes.letters ++ ends.letters) why) given end
        (ending before.lines passes.letters ends.letters read why is passes.width (omega (arith, passes.count)) passes.come (whole_lines passes) ends.last);
  }

  pub ran_off : {read : List ℕ} {before : Going} {replay' : ReplayValue} {written' : Option (List ℕ)} (told told' : Option Disk)
      → Passes (start_of replay written block) read before → BreaksOff before replay' written' → WhereTold (Gives read) told told' → IsAtEnd told'
      → (left : List ℕ) × (left ≢ []) × Ran (HasLines replay.program.width) (λ read letters. Unit {0}) told told' replay written block replay' written' left
  ran_off {read} {before} {replay'} {written'} told told' passes breaks given end = (
    breaks.left,
    breaks.some,
    record {
      cut = tt;
      letters = passes.letters ++ breaks.letter ∷ [];
      wide = wide_append replay.program.width passes.letters (breaks.letter ∷ []) (come_wide passes.come) (wide_one replay.program.width breaks.letter (breaks.last.0 ∙ passes.width));
      answered = answered_in_turn passes.answered breaks.answered;
      read = read;
      front = front_is told told' read given;
      verdict = told_whole told told' read (λ text. HasLines replay.program.width text (passes.letters ++ breaks.letter ∷ [])) given end
          (record {
            rest = [];
            lines = lines_in_turn replay.program.width passes.letters (breaks.letter ∷ []) read before.lines.line [] (whole_lines passes)
                (last_line breaks.letter before.lines.line (breaks.last.0 ∙ passes.width) breaks.last.1);
            few = omega (arith, length-append passes.letters (breaks.letter ∷ []), passes.count, breaks.last.2);
          });
    },
  )

-- ---- where a run begins, and each read

pub given_nothing : (told : Option Disk) → IfSome told (λ disk. IsSome disk.open) → WhereTold (Gives []) told told
given_nothing None «open» = tt
given_nothing (Some disk) «open» = given_open disk disk.open refl «open» where
  given_open : (disk : Disk) (left : Option (List ℕ)) → disk.open ≡ left → IsSome left → Gives [] disk disk
  given_open disk None is none = absurd (search (rules, none))
  given_open disk (Some rest) is some = record { rest = rest; before = is; after = is }

pub passes_start : (replay : ReplayValue) (lines : LinesValue) (written : Option (List ℕ)) (block : List ℕ)
    → lines ≡ record { width = replay.program.width; line = []; count = 0 }
    → Passes (start_of replay written block) [] (going replay lines written block)
passes_start replay lines written block is = subst (λ (now : LinesValue). Passes (start_of replay written block) [] (going replay now written block)) (sym is) (passes_nothing (start_of replay written block))

-- a read of nothing gives nothing
pub read_none : (first second third : Option Disk) (read bytes : List ℕ) → bytes ≡ [] → WhereTold (Gives read) first second → WhereTold (Gives bytes) second third → WhereTold (Gives read) first third
read_none first second third read bytes none one other =
    subst (λ (all : List ℕ). WhereTold (Gives all) first third) (ap (λ more. read ++ more) none ∙ append-nil read) (gives_in_turn first second third read bytes one other)

pub none_taken : (count : ℕ) (buffer : List ℕ) → count ≡ 0 → take count buffer ≡ []
none_taken count buffer none = ap (λ (n : ℕ). take n buffer) none

pub read_failed : (first second third : Option Disk) (read : List ℕ) → third ≡ second → WhereTold (Gives read) first second → WhereTold (Gives read) first third
read_failed first second third read stays given = subst (WhereTold (Gives read) first) (sym stays) given

-- ---- counts

-- a file that was read to its end
pub at_end : {E X : Type 0} (result : Result (Option Stop) E) → X → IfOk result (λ stop. IfNone stop X)
at_end (Ok None) x = x
at_end (Ok (Some stop)) x = tt
at_end (Err fault) x = tt

pub start_budget : (calls : ℕ) (lines : LinesValue) (width : ℕ) → lines ≡ record { width = width; line = []; count = 0 } → calls + budget lines ≤ calls + 35 * most_lines + 34
start_budget calls lines width is = subst (λ (lines : LinesValue). calls + budget lines ≤ calls + 35 * most_lines + 34) (sym is) (omega arith)

pub calls_on : (calls calls' spent spent' count : ℕ) (buffer : List ℕ) (total : ℕ) → calls' ≡ raised calls
    → spent' + length (take count buffer) ≤ spent → (count ≡ 0 → ⊥) → count ≤ length buffer → calls + spent ≤ total → calls' + spent' ≤ total
calls_on calls calls' spent spent' count buffer total is less some fits before = omega (arith, is, less, some, length-take count buffer, fits, before)
