-- A replay that follows an observer goes on to follow it.
use Rattle.std.proofs.Common.{◌≡◌, ◌↔◌, ℕ, Bool, IsTrue, Result, List, [], ◌∷◌, ◌++◌, length, Option, refl, sym, ap, subst, ◌∙◌, arith, append_assoc, length-append}
use Rattle.std.specs.List.{AllByRecursion}
use Rattle.std.proofs.lemmas.List.Elements.{recursion_from_All}
use Rattle.dcv_io.specs.Disk.{Disk}
use Rattle.dcv_word.specs.Behaviour.{Word}
use Rattle.dcv_replay.specs.TraceText.{AreWide}
use Rattle.dcv_replay.specs.Answers.{answers}
use Rattle.dcv_replay.specs.Program.{ReplayValue, is_accepting, rest_of, advanced}
use Rattle.dcv_replay.specs.Observer.{Observer, width_of, Accepts, HasStore, Follows, AreAnswers}
use Rattle.dcv_replay.specs.Replayed.{Traced, Replayed}
use Rattle.dcv_replay.specs.Running.{RunsOver}
use Rattle.dcv_replay.specs.declared.fault.ReplayFault.{ReplayFault}
use Rattle.dcv_replay.proofs.Texts.{wide_append, wide_one}
use Rattle.dcv_replay.proofs.Steps.{after_word-append, advanced-append}

module _ {observer : Observer} {word : Word} {replay : ReplayValue} (follows : Follows observer word replay) where
  abbrev width : ℕ
  width = width_of observer

  rest_on : (more rest : Word) → rest_of replay (more ++ rest) ≡ rest_of (advanced replay more) rest
  rest_on more rest = ap (λ (store : List ℕ). is_accepting replay.program store) (after_word-append replay.program replay.store more rest)

  pub follows_on : (more : Word) → AreWide (width_of observer) more → Follows observer (word ++ more) (advanced replay more)
  follows_on more wide = record {
    width = follows.width;
    store = λ rest rest_wide.
        subst (λ (w : Word). HasStore observer w (advanced (advanced replay more) rest)) (sym (append_assoc word more rest))
        (subst (λ (r : ReplayValue). HasStore observer (word ++ (more ++ rest)) r) (advanced-append replay more rest)
        (follows.store (more ++ rest) (wide_append (width_of observer) more rest wide rest_wide)));
    answers = λ rest behaviour.
        subst (λ (w : Word). IsTrue (rest_of (advanced replay more) rest) ↔ Accepts observer w) (sym (append_assoc word more rest))
        (subst (λ (b : Bool). IsTrue b ↔ Accepts observer (word ++ (more ++ rest))) (rest_on more rest)
        (follows.answers (more ++ rest) (record {
          nonempty = omega (arith, behaviour.nonempty, length-append more rest);
          widths = wide_append (width_of observer) more rest wide behaviour.widths;
        })));
  }

  pub accepts_letter : (letter : List Bool) → length letter ≡ replay.program.width → {result : Bool} → result ≡ rest_of replay (letter ∷ []) → IsTrue result ↔ Accepts observer (word ++ letter ∷ [])
  accepts_letter letter fits is =
      subst (λ (b : Bool). IsTrue b ↔ Accepts observer (word ++ letter ∷ [])) (sym is)
      (follows.answers (letter ∷ []) (record { nonempty = omega arith; widths = wide_one (width_of observer) letter (fits ∙ follows.width) }))

  pub follows_letter : (letter : List Bool) → length letter ≡ replay.program.width → {after : ReplayValue} → after ≡ advanced replay (letter ∷ []) → Follows observer (word ++ letter ∷ []) after
  follows_letter letter fits is =
      subst (λ (r : ReplayValue). Follows observer (word ++ letter ∷ []) r) (sym is) (follows_on (letter ∷ []) (wide_one (width_of observer) letter (fits ∙ follows.width)))

answers_by_recursion : {observer : Observer} (letters : Word) (word : Word) (replay : ReplayValue) → Follows observer word replay
    → AllByRecursion (λ (letter : List Bool). length letter ≡ width_of observer) letters → AreAnswers observer word letters (answers (rest_of replay) letters)
answers_by_recursion [] word replay follows wide = refl
answers_by_recursion (letter ∷ letters) word replay follows wide = (
  rest_of replay (letter ∷ []),
  answers (rest_of (advanced replay (letter ∷ []))) letters,
  accepts_letter follows letter (wide.0 ∙ sym follows.width) refl,
  refl,
  answers_by_recursion letters (word ++ letter ∷ []) (advanced replay (letter ∷ [])) (follows_letter follows letter (wide.0 ∙ sym follows.width) refl) wide.1,
)

pub answers_are : {observer : Observer} {word : Word} {replay : ReplayValue} → (letters : Word) → Follows observer word replay → AreWide (width_of observer) letters
    → AreAnswers observer word letters (answers (rest_of replay) letters)
answers_are {observer} {word} {replay} letters follows wide = answers_by_recursion letters word replay follows (recursion_from_All (λ (letter : List Bool). length letter ≡ width_of observer) letters wide)

pub replayed_so : {T : Type 0} {observer : Observer} {word : Word} {name : List ℕ} {told told' : Option Disk} {before after : ReplayValue} {written written' : Option (List ℕ)}
    {result : Result T ReplayFault} → Follows observer word before → RunsOver name told told' before written after written' result
    → Replayed observer word name told told' written written' after result
replayed_so {observer = observer} {word} {name} {told} {told'} {before} {after} {written} {written'} {result} follows runs =
    let wide : AreWide (width_of observer) runs.letters = subst (λ (n : ℕ). AreWide n runs.letters) follows.width runs.wide in
    record {
      letters = runs.letters;
      follows = subst (λ (r : ReplayValue). Follows observer (word ++ runs.letters) r) (sym runs.answered.replay) (follows_on follows runs.letters wide);
      text = answers (rest_of before) runs.letters;
      answers = answers_are runs.letters follows wide;
      left = runs.left;
      sends = runs.answered.sends;
      whole = runs.whole;
      some = runs.some;
      unopened = runs.unopened;
      traced = λ opened. subst (λ (n : ℕ). Traced n name told told' runs.letters result) follows.width (runs.traced opened);
    }
