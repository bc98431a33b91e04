-- The end of a line, and of a trace.
use Rattle.std.proofs.Common.{◌≡◌, ◌≢◌, ℕ, ◌+◌, ◌-◌, ◌*◌, ◌<◌, ◌≤◌, Bool, List, [], ◌∷◌, ◌++◌, length, inl, inr, refl, sym, ap, subst, ◌∙◌, arith, append_assoc, Result, Ok, Err}
use Rattle.std.proofs.lemmas.List.{append-nil, append_cancel_right}
use Rattle.dcv_word.specs.TraceLine.{line_feed, trace_line}
use Rattle.dcv_replay.specs.TraceText.{carriage_return, most_lines, BeginsWithLine, BeginsWithNoLine}
use Rattle.dcv_replay.specs.Coming.{LinesValue, IsAtFault, IsLast, IsEnded, HasCome, HasNoFeed, IsBad, IsWithoutReturn}
use Rattle.dcv_replay.specs.declared.fault.Stop.{Stop}
use Rattle.dcv_replay.specs.declared.fault.Stop.TheVariants.{Line}
use Rattle.dcv_replay.proofs.Texts.{front_of_line, feedless_has_none, line_no_return}

-- a line with its end has come
pub ended_has_come : (width : ℕ) (letter : List Bool) (line : List ℕ) → IsEnded width letter line → HasCome width line (letter ∷ []) []
ended_has_come width letter line ended = record {
  front = line;
  ended = (line, [], ended, sym (append-nil line), refl);
  whole = sym (append-nil line);
}

pub line_ends : (width : ℕ) (letter : List Bool) (line content : List ℕ) → IsWithoutReturn line content → length letter ≡ width
    → content ≡ trace_line letter → HasCome width (line ++ line_feed ∷ []) (letter ∷ []) []
line_ends width letter line content without fits spelled = ended_has_come width letter (line ++ line_feed ∷ []) (elim without [
  | inl return ↦ record {
    fits = fits;
    end = carriage_return ∷ line_feed ∷ [];
    ends = inr refl;
    spelled = ap (λ text. text ++ line_feed ∷ []) (return ∙ ap (λ text. text ++ carriage_return ∷ []) spelled) ∙ append_assoc (trace_line letter) (carriage_return ∷ []) (line_feed ∷ []);
  }
  | inr (same, none) ↦ record { fits = fits; end = line_feed ∷ []; ends = inl refl; spelled = ap (λ text. text ++ line_feed ∷ []) (same ∙ spelled) }
])

-- A line that is none without its end is none.
pub line_is_bad : (width : ℕ) (line content : List ℕ) → IsWithoutReturn line content → HasNoFeed line
    → ((letter : List Bool) → length letter ≡ width → content ≡ trace_line letter → ⊥) → IsBad width (line ++ line_feed ∷ [])
line_is_bad width line content without free none more letter after begins =
    let from : (line ++ line_feed ∷ []) ++ more ≡ line ++ line_feed ∷ more = append_assoc line (line_feed ∷ []) more in
    let front = front_of_line width line more letter after free (subst (λ (text : List ℕ). BeginsWithLine width text letter after) from begins) in
    elim without [
      | inl return ↦ elim front [
        | inl plain ↦ line_no_return letter content (sym plain ∙ return)
        | inr returned ↦ none letter begins.fits (same_front content (trace_line letter) (sym return ∙ returned))
      ]
      | inr (same, no_return) ↦ elim front [
        | inl plain ↦ none letter begins.fits (sym same ∙ plain)
        | inr returned ↦ no_return (trace_line letter) returned
      ]
    ] where
      same_front : (x y : List ℕ) → x ++ carriage_return ∷ [] ≡ y ++ carriage_return ∷ [] → x ≡ y
      same_front x y same = append_cancel_right x y (carriage_return ∷ []) same

-- What is left at the end is none where it is no letter's line.
pub last_is_bad : (width : ℕ) (line : List ℕ) → HasNoFeed line → ((letter : List Bool) → length letter ≡ width → line ≡ trace_line letter → ⊥) → BeginsWithNoLine width line
last_is_bad width line free none letter after begins = elim begins.ends [
  | inl feed ↦
      let same : line ≡ trace_line letter ++ line_feed ∷ after = begins.spelled ∙ ap (λ end. trace_line letter ++ (end ++ after)) feed in
      feedless_has_none (trace_line letter) after (subst HasNoFeed same free)
  | inr (inl return_feed) ↦
      let same : line ≡ (trace_line letter ++ carriage_return ∷ []) ++ line_feed ∷ after =
      begins.spelled ∙ ap (λ end. trace_line letter ++ (end ++ after)) return_feed ∙ sym (append_assoc (trace_line letter) (carriage_return ∷ []) (line_feed ∷ after)) in
      feedless_has_none (trace_line letter ++ carriage_return ∷ []) after (subst HasNoFeed same free)
  | inr (inr (no_end, nothing)) ↦
      none letter begins.fits (begins.spelled ∙ ap (λ end. trace_line letter ++ (end ++ after)) no_end ∙ ap (λ end. trace_line letter ++ end) nothing ∙ append-nil (trace_line letter))
]

-- what was answered is no fault
pub no_letter : {T E : Type 0} (result : Result T E) (fault : E) (value : T) → result ≡ Err fault → result ≡ Ok value → ⊥
no_letter result fault value bad good = let both : Err fault ≡ Ok value = sym bad ∙ good in cc

-- ---- the words of clauses

pub bad_at : (lines : LinesValue) (why : Stop) (back : List ℕ) → why ≡ Line (lines.count + 1) → lines.count < most_lines → back ≢ [] → IsBad lines.width (lines.line ++ back)
    → (lines ≡ lines) × IsAtFault lines back why
bad_at lines why back is few some bad = rw is (refl, (refl, few, some, bad))

pub last_bad : (lines : LinesValue) (why : Stop) → why ≡ Line (lines.count + 1) → lines.count < most_lines → lines.line ≢ [] → BeginsWithNoLine lines.width lines.line → IsLast lines (Err why)
last_bad lines why is few some bad = rw is (refl, few, some, bad)

pub spent : (count short : ℕ) → count < most_lines → short ≤ 34 → 35 * (most_lines - (count + 1)) + (34 - 0) + 1 ≤ 35 * (most_lines - count) + (34 - short)
spent count short few fits = omega arith

pub some_bytes : {c : ℕ} {bytes : List ℕ} → c ∷ bytes ≢ []
some_bytes same = cc
