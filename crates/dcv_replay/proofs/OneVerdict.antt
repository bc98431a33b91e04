-- A text has one verdict as a trace, and one word of good lines.
use Rattle.std.proofs.Common.{◌≡◌, ◌⊎◌, ℕ, ◌+◌, ◌≤◌, Bool, List, [], ◌∷◌, ◌++◌, length, inl, inr, refl, sym, ap, subst, ◌∙◌, arith, append_assoc, length-append}
use Rattle.std.proofs.lemmas.Bool.{cases_lt}
use Rattle.std.proofs.lemmas.List.{append-nil, append_cancel_right, nil_from_length}
use Rattle.dcv_word.specs.Behaviour.{Word}
use Rattle.dcv_word.specs.TraceLine.{line_feed, trace_line}
use Rattle.dcv_word.specs.Laws.{LineIsOfOneLetter}
use Rattle.dcv_replay.specs.TraceText.{carriage_return, most_lines, BeginsWithLine, AreLines, BeginsWithNoLine, IsTrace, HasBadLine, IsTooLong}
use Rattle.dcv_replay.specs.Coming.{HasNoFeed}
use Rattle.dcv_replay.proofs.Texts.{one_front, feedless_has_none, feedless_more, line_no_feed, line_no_return}

-- a line before its line feed, or the whole text
Form : List ℕ → List Bool → List ℕ → Type 0
Form text letter after =
    ((line : List ℕ) × HasNoFeed line × ((line ≡ trace_line letter) ⊎ (line ≡ trace_line letter ++ carriage_return ∷ [])) × (text ≡ line ++ line_feed ∷ after))
    ⊎ ((text ≡ trace_line letter) × (after ≡ []))

form_of : (width : ℕ) (text : List ℕ) (letter : List Bool) (after : List ℕ) → BeginsWithLine width text letter after → Form text letter after
unfolding Form
form_of width text letter after begins = elim begins.ends [
  | inl feed ↦ inl (trace_line letter, line_no_feed letter, inl refl, begins.spelled ∙ ap (λ end. trace_line letter ++ (end ++ after)) feed)
  | inr (inl return_feed) ↦ inl (
    trace_line letter ++ carriage_return ∷ [],
    feedless_more (trace_line letter) (carriage_return ∷ []) (line_no_feed letter) ((λ same. absurd (omega (arith, same))), tt),
    inr refl,
    begins.spelled ∙ ap (λ end. trace_line letter ++ (end ++ after)) return_feed ∙ sym (append_assoc (trace_line letter) (carriage_return ∷ []) (line_feed ∷ after)),
  )
  | inr (inr (none, nothing)) ↦ inr (begins.spelled ∙ ap (λ end. trace_line letter ++ (end ++ after)) none ∙ ap (λ end. trace_line letter ++ end) nothing ∙ append-nil (trace_line letter), nothing)
]

same_spelling : (a b : List Bool) (x y : List ℕ) → LineIsOfOneLetter → x ≡ y → (x ≡ trace_line a) ⊎ (x ≡ trace_line a ++ carriage_return ∷ [])
    → (y ≡ trace_line b) ⊎ (y ≡ trace_line b ++ carriage_return ∷ []) → a ≡ b
same_spelling a b x y one same first second = elim first [
  | inl plain ↦ elim second [
    | inl other ↦ one a b (sym plain ∙ same ∙ other)
    | inr other ↦ absurd (line_no_return a (trace_line b) (sym plain ∙ same ∙ other))
  ]
  | inr returned ↦ elim second [
    | inl other ↦ absurd (line_no_return b (trace_line a) (sym other ∙ sym same ∙ returned))
    | inr other ↦ one a b (append_cancel_right (trace_line a) (trace_line b) (carriage_return ∷ []) (sym returned ∙ same ∙ other))
  ]
]

pub begins_once : (width : ℕ) (text : List ℕ) (a b : List Bool) (x y : List ℕ) → LineIsOfOneLetter → BeginsWithLine width text a x → BeginsWithLine width text b y → (a ≡ b) × (x ≡ y)
unfolding Form
begins_once width text a b x y one first second = elim (form_of width text a x first) [
  | inl (line, free, spelled, is) ↦ elim (form_of width text b y second) [
    | inl (other, other_free, other_spelled, other_is) ↦
        let both = one_front line other x y free other_free (sym is ∙ other_is) in
        (same_spelling a b line other one both.0 spelled other_spelled, both.1)
    | inr (whole, nothing) ↦ absurd (feedless_has_none line x (subst HasNoFeed (sym whole ∙ is) (line_no_feed b)))
  ]
  | inr (whole, nothing) ↦ elim (form_of width text b y second) [
    | inl (other, other_free, other_spelled, other_is) ↦ absurd (feedless_has_none other y (subst HasNoFeed (sym whole ∙ other_is) (line_no_feed a)))
    | inr (other_whole, other_nothing) ↦ (one a b (sym whole ∙ other_whole), nothing ∙ sym other_nothing)
  ]
]

pub no_line_in_nothing : (width : ℕ) → BeginsWithNoLine width []
no_line_in_nothing width [] after begins = absurd (omega (arith, ap length begins.spelled))
no_line_in_nothing width (value ∷ letter) after begins = absurd (omega (arith, ap length begins.spelled))

-- Of two fronts the longer goes on from the shorter.
pub goes_on : (width : ℕ) (u v : Word) (text rest rest' : List ℕ) → LineIsOfOneLetter → AreLines width u text rest → AreLines width v text rest' → length u ≤ length v
    → (w : Word) × (v ≡ u ++ w) × AreLines width w rest rest'
goes_on width [] v text rest rest' one same others shorter = (v, refl, subst (λ (from : List ℕ). AreLines width v from rest') same others)
goes_on width (letter ∷ u) [] text rest rest' one lines others shorter = absurd (omega arith)
goes_on width (letter ∷ u) (other ∷ v) text rest rest' one (after, begins, lines) (after', begins', others) shorter =
    let both = begins_once width text letter other after after' one begins begins' in
    let more = goes_on width u v after rest rest' one lines (subst (λ (from : List ℕ). AreLines width v from rest') (sym both.1) others) (omega arith) in
    (more.0, (let head : letter ≡ other = both.0 in let tail : v ≡ u ++ more.0 = more.1 in cc), more.2)

pub none_more : (width : ℕ) (w : Word) (rest rest' : List ℕ) → AreLines width w rest rest' → BeginsWithNoLine width rest → w ≡ []
none_more width [] rest rest' lines none = refl
none_more width (letter ∷ w) rest rest' (after, begins, lines) none = absurd (none letter after begins)

-- where no line goes on from either, they are one
pub stuck_once : (width : ℕ) (u v : Word) (text rest rest' : List ℕ) → LineIsOfOneLetter → AreLines width u text rest → AreLines width v text rest'
    → BeginsWithNoLine width rest → BeginsWithNoLine width rest' → (u ≡ v) × (rest ≡ rest')
stuck_once width u v text rest rest' one lines others none none' = elim (cases_lt (length v) (length u)) [
  | inl longer ↦
      let more = goes_on width v u text rest' rest one others lines (omega (arith, longer)) in
      let nothing = none_more width more.0 rest' rest more.2 none' in
      (more.1 ∙ ap (λ (w : Word). v ++ w) nothing ∙ append-nil v, sym (subst (λ (w : Word). AreLines width w rest' rest) nothing more.2))
  | inr shorter ↦
      let more = goes_on width u v text rest rest' one lines others shorter in
      let nothing = none_more width more.0 rest rest' more.2 none in
      (sym (more.1 ∙ ap (λ (w : Word). u ++ w) nothing ∙ append-nil u), subst (λ (w : Word). AreLines width w rest rest') nothing more.2)
]

pub one_trace : (width : ℕ) (text : List ℕ) (u v : Word) → LineIsOfOneLetter → IsTrace width text u → IsTrace width text v → u ≡ v
one_trace width text u v one first second = (stuck_once width u v text [] [] one first.lines second.lines (no_line_in_nothing width) (no_line_in_nothing width)).0

pub no_bad_trace : (width : ℕ) (text : List ℕ) (u v : Word) (line : ℕ) → LineIsOfOneLetter → IsTrace width text u → HasBadLine width text v line → ⊥
no_bad_trace width text u v line one first second =
    second.some (sym (stuck_once width u v text [] second.rest one first.lines second.lines (no_line_in_nothing width) second.bad).1)

pub one_bad_line : (width : ℕ) (text : List ℕ) (u v : Word) (line line' : ℕ) → LineIsOfOneLetter → HasBadLine width text u line → HasBadLine width text v line' → (u ≡ v) × (line ≡ line')
one_bad_line width text u v line line' one first second =
    let both = stuck_once width u v text first.rest second.rest one first.lines second.lines first.bad second.bad in
    (both.0, first.number ∙ ap (λ (word : Word). length word + 1) both.0 ∙ sym second.number)

-- a word that ends no later than the lines that may come, with nothing after it, is not too long
pub too_long_once : (width : ℕ) (text : List ℕ) (u v : Word) (rest : List ℕ) → LineIsOfOneLetter → IsTooLong width text u
    → AreLines width v text rest → length v ≤ most_lines → BeginsWithNoLine width rest → (u ≡ v) × (long : (rest ≡ []) → ⊥) × (length v ≡ most_lines)
too_long_once width text u v rest one long lines few none =
    let more = goes_on width v u text rest long.rest one lines long.lines (omega (arith, few, long.full)) in
    let nothing = none_more width more.0 rest long.rest more.2 none in
    let same : u ≡ v = more.1 ∙ ap (λ (w : Word). v ++ w) nothing ∙ append-nil v in
    (same, (λ empty. long.some (sym (subst (λ (w : Word). AreLines width w rest long.rest) nothing more.2) ∙ empty)), sym (ap length same) ∙ long.full)

pub one_too_long : (width : ℕ) (text : List ℕ) (u v : Word) → LineIsOfOneLetter → IsTooLong width text u → IsTooLong width text v → u ≡ v
one_too_long width text u v one first second =
    let more = goes_on width u v text first.rest second.rest one first.lines second.lines (omega (arith, first.full, second.full)) in
    let none : length more.0 ≡ 0 = omega (arith, ap length more.1, length-append u more.0, first.full, second.full) in
    sym (more.1 ∙ ap (λ (w : Word). u ++ w) (nil_from_length more.0 none) ∙ append-nil u)
