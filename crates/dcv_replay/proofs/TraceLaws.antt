-- The laws of trace texts.
use Rattle.std.proofs.Common.{◌≡◌, ℕ, ◌<◌, List, [], ◌∷◌, ◌++◌, length, inl, inr, refl, sym, ap, subst, ◌∙◌, arith, length-append}
use Rattle.std.proofs.lemmas.Bool.{cases_lt}
use Rattle.dcv_word.specs.Behaviour.{Word}
use Rattle.dcv_word.specs.Laws.{LineIsOfOneLetter}
use Rattle.dcv_replay.specs.TraceText.{AreLines, BeginsWithNoLine, IsTrace, HasBadLine, IsTooLong, Good, Bad, Long, Nothing}
use Rattle.dcv_replay.specs.Laws.{OneVerdict, NoBadTrace, NoLongTrace, LinesAreFront}
use Rattle.dcv_replay.proofs.OneVerdict.{no_line_in_nothing, goes_on, none_more, one_trace, no_bad_trace, one_bad_line, too_long_once, one_too_long}

module _ (one : LineIsOfOneLetter) where
  pub no_bad : NoBadTrace
  no_bad width text letters other line trace bad = no_bad_trace width text letters other line one trace bad

  pub no_long : NoLongTrace
  no_long width text letters other trace long = (too_long_once width text other letters [] one long trace.lines trace.few (no_line_in_nothing width)).1 refl

  -- an empty text has no line
  none_of_nothing : (width : ℕ) (text : List ℕ) (letters : Word) (rest : List ℕ) → text ≡ [] → AreLines width letters text rest → letters ≡ []
  none_of_nothing width text letters rest empty lines =
      none_more width letters [] rest (subst (λ (t : List ℕ). AreLines width letters t rest) empty lines) (no_line_in_nothing width)

  no_nothing : (width : ℕ) (text : List ℕ) (letters : Word) → text ≡ [] → IsTrace width text letters → ⊥
  no_nothing width text letters empty trace = omega (arith, trace.some, ap length (none_of_nothing width text letters [] empty trace.lines))

  no_nothing_bad : (width : ℕ) (text : List ℕ) (letters : Word) (line : ℕ) → text ≡ [] → HasBadLine width text letters line → ⊥
  no_nothing_bad width text letters line empty bad =
      let none = none_of_nothing width text letters bad.rest empty bad.lines in
      bad.some (sym (subst (λ (w : Word). AreLines width w text bad.rest) none bad.lines) ∙ empty)

  no_nothing_long : (width : ℕ) (text : List ℕ) (letters : Word) → text ≡ [] → IsTooLong width text letters → ⊥
  no_nothing_long width text letters empty long = omega (arith, long.full, ap length (none_of_nothing width text letters long.rest empty long.lines))

  no_bad_long : (width : ℕ) (text : List ℕ) (u v : Word) (line : ℕ) → HasBadLine width text u line → IsTooLong width text v → ⊥
  no_bad_long width text u v line bad long =
      omega (arith, bad.few, (too_long_once width text v u bad.rest one long bad.lines (omega (arith, bad.few)) bad.bad).2)

  pub one_verdict : OneVerdict
  one_verdict width text (Good u) (Good v) first second = ap Good (one_trace width text u v one first second)
  one_verdict width text (Good u) (Bad v line) first second = absurd (no_bad width text u v line first second)
  one_verdict width text (Good u) (Long v) first second = absurd (no_long width text u v first second)
  one_verdict width text (Good u) Nothing first second = absurd (no_nothing width text u second first)
  one_verdict width text (Bad u line) (Good v) first second = absurd (no_bad width text v u line second first)
  one_verdict width text (Bad u line) (Bad v other) first second =
      let both = one_bad_line width text u v line other one first second in λ i. Bad (both.0 i) (both.1 i)
  one_verdict width text (Bad u line) (Long v) first second = absurd (no_bad_long width text u v line first second)
  one_verdict width text (Bad u line) Nothing first second = absurd (no_nothing_bad width text u line second first)
  one_verdict width text (Long u) (Good v) first second = absurd (no_long width text v u second first)
  one_verdict width text (Long u) (Bad v line) first second = absurd (no_bad_long width text v u line second first)
  one_verdict width text (Long u) (Long v) first second = ap Long (one_too_long width text u v one first second)
  one_verdict width text (Long u) Nothing first second = absurd (no_nothing_long width text u second first)
  one_verdict width text Nothing (Good v) first second = absurd (no_nothing width text v first second)
  one_verdict width text Nothing (Bad v line) first second = absurd (no_nothing_bad width text v line first second)
  one_verdict width text Nothing (Long v) first second = absurd (no_nothing_long width text v first second)
  one_verdict width text Nothing Nothing first second = refl

  -- ---- lines at the front

  -- after which no line stands, or no line may
  front_of : (width : ℕ) (text : List ℕ) (letters whole : Word) (rest rest' : List ℕ) → AreLines width letters text rest → AreLines width whole text rest'
      → (length whole < length letters → BeginsWithNoLine width rest') → (more : Word) × (whole ≡ letters ++ more)
  front_of width text letters whole rest rest' lines all stuck = elim (cases_lt (length whole) (length letters)) [
    | inl longer ↦
        let more = goes_on width whole letters text rest' rest one all lines (omega (arith, longer)) in
        absurd (omega (arith, longer, ap length more.1, length-append whole more.0, ap length (none_more width more.0 rest' rest more.2 (stuck longer))))
    | inr shorter ↦ let more = goes_on width letters whole text rest rest' one lines all shorter in (more.0, more.1)
  ]

  pub lines_are_front : LinesAreFront
  lines_are_front width text letters (Good whole) lines trace = front_of width text letters whole lines.rest [] lines.lines trace.lines (λ longer. no_line_in_nothing width)
  lines_are_front width text letters (Bad whole line) lines bad = front_of width text letters whole lines.rest bad.rest lines.lines bad.lines (λ longer. bad.bad)
  lines_are_front width text letters (Long whole) lines long =
      front_of width text letters whole lines.rest long.rest lines.lines long.lines (λ longer. absurd (omega (arith, longer, long.full, lines.few)))
  lines_are_front width text letters Nothing lines empty = ([], sym (none_of_nothing width text letters lines.rest empty lines.lines ∙ refl) ∙ sym (append_nil letters))
    where
      append_nil : (w : Word) → w ++ [] ≡ w
      append_nil [] = refl
      append_nil (letter ∷ w) = ap (λ (rest : Word). letter ∷ rest) (append_nil w)
