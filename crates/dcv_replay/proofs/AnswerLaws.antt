-- The laws of answers.
use Rattle.std.proofs.Common.{◌≡◌, ◌↔◌, ℕ, Bool, true, false, IsTrue, List, [], ◌∷◌, ◌++◌, length, refl, sym, ap, subst, ◌∙◌, append_assoc}
use Rattle.std.specs.List.{AllByRecursion}
use Rattle.std.proofs.lemmas.Bool.{false≢true}
use Rattle.dcv_word.specs.Behaviour.{Word}
use Rattle.dcv_lustre.specs.Laws.{TraceExists, TraceIsOne}
use Rattle.dcv_lustre.specs.Meaning.{Valuation, is_ok}
use Rattle.dcv_c.specs.Meaning.{unit_accepts}
use Rattle.dcv_c_tables.specs.Meaning.{tables_accept}
use Rattle.dcv_replay.specs.TraceText.{AreWide, AreLines, Verdict, HasVerdict, Good, Bad, Long, Nothing, good_letters}
use Rattle.dcv_replay.specs.Answers.{answer_line}
use Rattle.dcv_replay.specs.Observer.{Observer, Lustre, C, Tables, width_of, Accepts, KeepsTheRules, AreAnswers}
use Rattle.dcv_replay.specs.Laws.{GoodLinesAreAnswered}
use Rattle.dcv_replay.proofs.Texts.{wide_append, wide_one, wide_none}

-- ---- one text

same_truth : (one other : Bool) {P : Type 0} → IsTrue one ↔ P → IsTrue other ↔ P → one ≡ other
same_truth true true is is' = refl
same_truth true false is is' = absurd (false≢true (is'.1 (is.0 refl)))
same_truth false true is is' = absurd (false≢true (is.1 (is'.0 refl)))
same_truth false false is is' = refl

pub one_text : (letters : Word) (observer : Observer) (before : Word) (text other : List ℕ) → AreAnswers observer before letters text → AreAnswers observer before letters other
    → text ≡ other
one_text [] observer before text other is is' = is ∙ sym is'
one_text (letter ∷ letters) observer before text other (answer, after, is, spelled, rest) (answer', after', is', spelled', rest') =
    let same : answer ≡ answer' = same_truth answer answer' is is' in
    let behind : after ≡ after' = one_text letters observer (before ++ letter ∷ []) after after' rest rest' in
    spelled ∙ (λ i. answer_line (same i) ++ behind i) ∙ sym spelled'

pub answers_of_front : (letters : Word) (observer : Observer) (before more : Word) (text whole : List ℕ) → AreAnswers observer before letters text
    → AreAnswers observer before (letters ++ more) whole → (rest : List ℕ) × (whole ≡ text ++ rest)
answers_of_front [] observer before more text whole is is' = (whole, sym (ap (λ front. front ++ whole) is))
answers_of_front (letter ∷ letters) observer before more text whole (answer, after, is, spelled, rest) (answer', after', is', spelled', rest') =
    let same : answer' ≡ answer = same_truth answer' answer is' is in
    let further = answers_of_front letters observer (before ++ letter ∷ []) more after after' rest rest' in
    let behind : after' ≡ after ++ further.0 = further.1 in (
      further.0,
      spelled' ∙ (λ i. answer_line (same i) ++ behind i) ∙ sym (append_assoc (answer_line answer) after further.0) ∙ ap (λ front. front ++ further.0) (sym spelled),
    )

-- ---- some text

lines_wide : (width : ℕ) (letters : Word) (text rest : List ℕ) → AreLines width letters text rest → AllByRecursion (λ (letter : List Bool). length letter ≡ width) letters
lines_wide width [] text rest lines = tt
lines_wide width (letter ∷ letters) text rest (after, begins, lines) = (begins.fits, lines_wide width letters after rest lines)

module _ (exists : TraceExists) (only : TraceIsOne) where
  accepts_or_not : (observer : Observer) → KeepsTheRules observer → (word : Word) → AreWide (width_of observer) word → (answer : Bool) × (IsTrue answer ↔ Accepts observer word)
  accepts_or_not (Lustre node) rules word wide =
      let some = exists node rules word wide in (
        is_ok node some.0,
        (
          (λ ok. record { trace = some.0; is = some.1; accepted = ok }),
          λ accepts. subst (λ (trace : List Valuation). IsTrue (is_ok node trace)) (only node rules word accepts.trace some.0 accepts.is some.1) accepts.accepted,
        ),
      )
  accepts_or_not (C unit) rules word wide = (unit_accepts unit word, ((λ is. is), λ is. is))
  accepts_or_not (Tables unit) rules word wide = (tables_accept unit word, ((λ is. is), λ is. is))

  some_answers : (letters : Word) (observer : Observer) → KeepsTheRules observer → (before : Word) → AreWide (width_of observer) before
      → AllByRecursion (λ (letter : List Bool). length letter ≡ width_of observer) letters → (text : List ℕ) × AreAnswers observer before letters text
  some_answers [] observer rules before before_wide wide = ([], refl)
  some_answers (letter ∷ letters) observer rules before before_wide wide =
      let now = wide_append (width_of observer) before (letter ∷ []) before_wide (wide_one (width_of observer) letter wide.0) in
      let answer = accepts_or_not observer rules (before ++ letter ∷ []) now in
      let further = some_answers letters observer rules (before ++ letter ∷ []) now wide.1 in
      (answer_line answer.0 ++ further.0, (answer.0, further.0, answer.1, refl, further.1))

  good_wide : (width : ℕ) (trace : List ℕ) (verdict : Verdict) → HasVerdict width trace verdict → AllByRecursion (λ (letter : List Bool). length letter ≡ width) (good_letters verdict)
  good_wide width trace (Good letters) has = lines_wide width letters trace [] has.lines
  good_wide width trace (Bad letters line) has = lines_wide width letters trace has.rest has.lines
  good_wide width trace (Long letters) has = lines_wide width letters trace has.rest has.lines
  good_wide width trace Nothing has = tt

  pub good_lines_are_answered : GoodLinesAreAnswered
  good_lines_are_answered observer rules trace verdict has =
      some_answers (good_letters verdict) observer rules [] (wide_none (width_of observer)) (good_wide (width_of observer) trace verdict has)
