-- Lines of texts: where they end, and lines that come in turn.
use Rattle.std.proofs.Common.{◌≡◌, ◌≢◌, ◌⊎◌, ℕ, suc, ◌<◌, ◌≤◌, Bool, true, false, List, [], ◌∷◌, ◌++◌, length, map, inl, inr, refl, sym, ap, subst, ◌∙◌, arith, append_assoc, length-append}
use Rattle.std.specs.List.{AllByRecursion}
use Rattle.std.proofs.lemmas.List.{append-nil}
use Rattle.std.proofs.lemmas.List.Elements.{All-from_recursion, recursion_from_All}
use Rattle.dcv_word.specs.Behaviour.{Word}
use Rattle.dcv_word.specs.TraceLine.{line_feed, trace_line, digit_of}
use Rattle.dcv_replay.specs.TraceText.{AreWide, carriage_return, BeginsWithLine, AreLines}
use Rattle.dcv_replay.specs.Coming.{IsEnded, AreEnded, HasCome, HasNoFeed, IsBad}

-- ---- the first line feed

-- a text has one front that ends before its first line feed
pub one_front : (x y p q : List ℕ) → HasNoFeed x → HasNoFeed y → x ++ line_feed ∷ p ≡ y ++ line_feed ∷ q → (x ≡ y) × (p ≡ q)
one_front [] [] p q free other same = (refl, cc)
one_front [] (d ∷ y) p q free other same = let head : line_feed ≡ d = cc in absurd (other.0 (sym head))
one_front (c ∷ x) [] p q free other same = let head : c ≡ line_feed = cc in absurd (free.0 head)
one_front (c ∷ x) (d ∷ y) p q free other same =
    let rest : x ++ line_feed ∷ p ≡ y ++ line_feed ∷ q = cc in
    let both = one_front x y p q free.1 other.1 rest in
    let head : c ≡ d = cc in
    let tail : x ≡ y = both.0 in
    (cc, both.1)

-- and a front without one is no longer
pub no_longer : (x y more q : List ℕ) → HasNoFeed x → x ++ more ≡ y ++ line_feed ∷ q → length x ≤ length y
no_longer [] y more q free same = omega arith
no_longer (c ∷ x) [] more q free same = let head : c ≡ line_feed = cc in absurd (free.0 head)
no_longer (c ∷ x) (d ∷ y) more q free same =
    let rest : x ++ more ≡ y ++ line_feed ∷ q = cc in omega (arith, no_longer x y more q free.1 rest)

pub feedless_has_none : (x p : List ℕ) → HasNoFeed (x ++ line_feed ∷ p) → ⊥
feedless_has_none [] p free = free.0 refl
feedless_has_none (c ∷ x) p free = feedless_has_none x p free.1

pub feedless_more : (x y : List ℕ) → HasNoFeed x → HasNoFeed y → HasNoFeed (x ++ y)
feedless_more [] y first second = second
feedless_more (c ∷ x) y first second = (first.0, feedless_more x y first.1 second)

-- ---- the line of a letter

digit_no_feed : (value : Bool) → digit_of value ≢ line_feed
digit_no_feed true same = absurd (omega (arith, same))
digit_no_feed false same = absurd (omega (arith, same))

digits_no_feed : (values : List Bool) → HasNoFeed (map digit_of values)
digits_no_feed [] = tt
digits_no_feed (value ∷ values) = (digit_no_feed value, digits_no_feed values)

pub line_no_feed : (letter : List Bool) → HasNoFeed (trace_line letter)
line_no_feed [] = ((λ same. absurd (omega (arith, same))), tt)
line_no_feed (value ∷ values) = digits_no_feed (value ∷ values)

digit_no_return : (value : Bool) → digit_of value ≢ carriage_return
digit_no_return true same = absurd (omega (arith, same))
digit_no_return false same = absurd (omega (arith, same))

digits_no_return : (values : List Bool) (front : List ℕ) → map digit_of values ≡ front ++ carriage_return ∷ [] → ⊥
digits_no_return [] [] same = absurd (omega (arith, ap length same))
digits_no_return [] (c ∷ front) same = absurd (omega (arith, ap length same))
digits_no_return (value ∷ values) [] same = let head : digit_of value ≡ carriage_return = cc in digit_no_return value head
digits_no_return (value ∷ values) (c ∷ front) same = digits_no_return values front cc

pub line_no_return : (letter : List Bool) (front : List ℕ) → trace_line letter ≡ front ++ carriage_return ∷ [] → ⊥
line_no_return [] [] same = let head : 45 ≡ carriage_return = cc in absurd (omega (arith, head))
line_no_return [] (c ∷ front) same = let rest : [] ≡ front ++ carriage_return ∷ [] = cc in absurd (omega (arith, ap length rest, length-append front (carriage_return ∷ [])))
line_no_return (value ∷ values) front same = digits_no_return (value ∷ values) front same

digits_length : (values : List Bool) → length (map digit_of values) ≡ length values
digits_length [] = refl
digits_length (value ∷ values) = ap suc (digits_length values)

pub line_short : (letter : List Bool) → length letter ≤ 32 → length (trace_line letter) ≤ 32
line_short [] short = omega arith
line_short (value ∷ values) short = omega (arith, digits_length (value ∷ values))

-- ---- lines in turn

pub lines_in_turn : (width : ℕ) (u v : Word) (text middle rest : List ℕ) → AreLines width u text middle → AreLines width v middle rest → AreLines width (u ++ v) text rest
lines_in_turn width [] v text middle rest same lines = subst (λ (from : List ℕ). AreLines width v from rest) (sym same) lines
lines_in_turn width (letter ∷ u) v text middle rest (after, begins, others) lines = (after, begins, lines_in_turn width u v after middle rest others lines)

-- a line with its end begins each text that goes on from it
pub ended_begins : (width : ℕ) (letter : List Bool) (line after : List ℕ) → IsEnded width letter line → BeginsWithLine width (line ++ after) letter after
ended_begins width letter line after ended = record {
  fits = ended.fits;
  end = ended.end;
  ends = elim ended.ends [ inl feed ↦ inl feed | inr return_feed ↦ inr (inl return_feed) ];
  spelled = ap (λ one. one ++ after) ended.spelled ∙ append_assoc (trace_line letter) ended.end after;
}

pub ended_are_lines : (width : ℕ) (letters : Word) (front rest : List ℕ) → AreEnded width letters front → AreLines width letters (front ++ rest) rest
ended_are_lines width [] front rest none = ap (λ one. one ++ rest) none
ended_are_lines width (letter ∷ letters) front rest (line, after, ended, whole, others) = (
  after ++ rest,
  subst (λ (text : List ℕ). BeginsWithLine width text letter (after ++ rest)) (sym (ap (λ one. one ++ rest) whole ∙ append_assoc line after rest)) (ended_begins width letter line (after ++ rest) ended),
  ended_are_lines width letters after rest others,
)

pub ended_in_turn : (width : ℕ) (u v : Word) (front more : List ℕ) → AreEnded width u front → AreEnded width v more → AreEnded width (u ++ v) (front ++ more)
ended_in_turn width [] v front more none others = subst (AreEnded width v) (sym (ap (λ one. one ++ more) none)) others
ended_in_turn width (letter ∷ u) v front more (line, after, ended, whole, rest) others =
    (line, after ++ more, ended, ap (λ one. one ++ more) whole ∙ append_assoc line after more, ended_in_turn width u v after more rest others)

pub come_in_turn : {width : ℕ} {read : List ℕ} {u v : Word} {line line' : List ℕ} (more : List ℕ) → HasCome width read u line
    → HasCome width (line ++ more) v line' → HasCome width (read ++ more) (u ++ v) line'
come_in_turn {width} {read} {u} {v} {line} {line'} more one other = record {
  front = one.front ++ other.front;
  ended = ended_in_turn width u v one.front other.front one.ended other.ended;
  whole =
      ap (λ text. text ++ more) one.whole ∙ append_assoc one.front line more ∙ ap (λ text. one.front ++ text) other.whole
      ∙ sym (append_assoc one.front other.front line');
}

pub come_lines : {width : ℕ} {read : List ℕ} {letters : Word} {line : List ℕ} → HasCome width read letters line → (back : List ℕ) → AreLines width letters (read ++ back) (line ++ back)
come_lines {width} {read} {letters} {line} come back =
    subst (λ (text : List ℕ). AreLines width letters text (line ++ back)) (sym (ap (λ text. text ++ back) come.whole ∙ append_assoc come.front line back))
    (ended_are_lines width letters come.front (line ++ back) come.ended)

-- each has the width
ended_wide : (width : ℕ) (letters : Word) (front : List ℕ) → AreEnded width letters front → AllByRecursion (λ (letter : List Bool). length letter ≡ width) letters
ended_wide width [] front none = tt
ended_wide width (letter ∷ letters) front (line, after, ended, whole, others) = (ended.fits, ended_wide width letters after others)

pub come_wide : {width : ℕ} {read : List ℕ} {letters : Word} {line : List ℕ} → HasCome width read letters line → AreWide width letters
come_wide {width} {read} {letters} {line} come = All-from_recursion (λ (letter : List Bool). length letter ≡ width) letters (ended_wide width letters come.front come.ended)

wide_by_recursion : (width : ℕ) (u v : Word) → AllByRecursion (λ (letter : List Bool). length letter ≡ width) u → AllByRecursion (λ (letter : List Bool). length letter ≡ width) v
    → AllByRecursion (λ (letter : List Bool). length letter ≡ width) (u ++ v)
wide_by_recursion width [] v first second = second
wide_by_recursion width (letter ∷ u) v first second = (first.0, wide_by_recursion width u v first.1 second)

pub wide_append : (width : ℕ) (u v : Word) → AreWide width u → AreWide width v → AreWide width (u ++ v)
wide_append width u v first second =
    let each : List Bool → Type 0 = λ (letter : List Bool). length letter ≡ width in
    All-from_recursion each (u ++ v) (wide_by_recursion width u v (recursion_from_All each u first) (recursion_from_All each v second))

pub wide_one : (width : ℕ) (letter : List Bool) → length letter ≡ width → AreWide width (letter ∷ [])
wide_one width letter fits = All-from_recursion (λ (letter : List Bool). length letter ≡ width) (letter ∷ []) (fits, tt)

pub wide_none : (width : ℕ) → AreWide width []
wide_none width = All-from_recursion (λ (letter : List Bool). length letter ≡ width) [] tt

-- ---- lines that are none

-- a line that is too long is none, however it goes on
pub long_is_bad : (width : ℕ) (line : List ℕ) → width ≤ 32 → HasNoFeed line → 33 < length line → IsBad width line
long_is_bad width line narrow free long more letter after begins =
    let short = line_short letter (omega (arith, begins.fits)) in
    elim begins.ends [
      | inl feed ↦
          let same : line ++ more ≡ trace_line letter ++ line_feed ∷ after = begins.spelled ∙ ap (λ end. trace_line letter ++ (end ++ after)) feed in
          absurd (omega (arith, no_longer line (trace_line letter) more after free same))
      | inr (inl return_feed) ↦
          let same : line ++ more ≡ (trace_line letter ++ carriage_return ∷ []) ++ line_feed ∷ after =
          begins.spelled ∙ ap (λ end. trace_line letter ++ (end ++ after)) return_feed ∙ sym (append_assoc (trace_line letter) (carriage_return ∷ []) (line_feed ∷ after)) in
          absurd (omega (arith, no_longer line (trace_line letter ++ carriage_return ∷ []) more after free same, length-append (trace_line letter) (carriage_return ∷ [])))
      | inr (inr (none, nothing)) ↦
          let same : line ++ more ≡ trace_line letter = begins.spelled ∙ ap (λ end. trace_line letter ++ (end ++ after)) none ∙ ap (λ end. trace_line letter ++ end) nothing ∙ append-nil (trace_line letter) in
          absurd (omega (arith, ap length same, length-append line more))
    ]

-- What stands before the line feed of a line.
pub front_of_line : (width : ℕ) (line more : List ℕ) (letter : List Bool) (after : List ℕ) → HasNoFeed line → BeginsWithLine width (line ++ line_feed ∷ more) letter after
    → (line ≡ trace_line letter) ⊎ (line ≡ trace_line letter ++ carriage_return ∷ [])
front_of_line width line more letter after free begins =
    let spelled_free = line_no_feed letter in
    elim begins.ends [
      | inl feed ↦
          let same : line ++ line_feed ∷ more ≡ trace_line letter ++ line_feed ∷ after = begins.spelled ∙ ap (λ end. trace_line letter ++ (end ++ after)) feed in
          inl (one_front line (trace_line letter) more after free spelled_free same).0
      | inr (inl return_feed) ↦
          let same : line ++ line_feed ∷ more ≡ (trace_line letter ++ carriage_return ∷ []) ++ line_feed ∷ after =
          begins.spelled ∙ ap (λ end. trace_line letter ++ (end ++ after)) return_feed ∙ sym (append_assoc (trace_line letter) (carriage_return ∷ []) (line_feed ∷ after)) in
          let return_free : HasNoFeed (carriage_return ∷ []) = ((λ same. absurd (omega (arith, same))), tt) in
          inr (one_front line (trace_line letter ++ carriage_return ∷ []) more after free (feedless_more (trace_line letter) (carriage_return ∷ []) spelled_free return_free) same).0
      | inr (inr (none, nothing)) ↦
          let same : line ++ line_feed ∷ more ≡ trace_line letter = begins.spelled ∙ ap (λ end. trace_line letter ++ (end ++ after)) none ∙ ap (λ end. trace_line letter ++ end) nothing ∙ append-nil (trace_line letter) in
          absurd (feedless_has_none line more (subst HasNoFeed (sym same) spelled_free))
    ]
