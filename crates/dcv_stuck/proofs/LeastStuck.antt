-- The least stuck word: the empty one where the start of the automaton of the stuck words accepts, and else the least word that it accepts.
use Rattle.std.proofs.Common.{◌≡◌, ◌≢◌, ℕ, ◌<◌, Bool, true, false, List, [], ◌∷◌, length, Option, None, Some, Result, Ok, Err, sym, ◌∙◌, subst, arith}
use Rattle.std.specs.Prelude.{MatchOption, IfOk, IfSome, IfNone, option_map}
use Rattle.std.specs.declared.cmp.Ordering.TheVariants.{Less}
use Rattle.std.proofs.lemmas.Bool.{true≢false}
use Rattle.std.proofs.lemmas.List.Elements.{All-nil}
use Rattle.dcv_word.specs.Behaviour.{Word, IsBehaviour}
use Rattle.dcv_word.specs.Word.{WordValue, shortlex_order}
use Rattle.dcv_language.specs.Automaton.{Automaton, accepts}
use Rattle.dcv_language.specs.Language.{Language}
use Rattle.dcv_language.specs.Least.{IsLeastWhere}
use Rattle.dcv_language.proofs.Runs.{accepts_by_state}
use Rattle.dcv_language.proofs.Words.{irreflexive, asymmetric}
use Rattle.dcv_quotient.proofs.WordOrder.{word_laws}
use Rattle.dcv_stuck.specs.Sink.{HasStuckWords}
use Rattle.dcv_stuck.specs.Stuck.{IsStuck, IsLeastStuck, IsLeastStuckOf}
use Rattle.dcv_stuck.proofs.StuckWords.{stuck_is_accepted, accepted_is_stuck}

-- no word comes before the empty one
none_before_empty : (word : Word) → shortlex_order word [] ≢ Less
none_before_empty [] h = irreflexive word_laws [] h
none_before_empty (letter ∷ word) h = asymmetric word_laws (letter ∷ word) [] h (word_laws.shorter [] (letter ∷ word) (omega arith))

module _ (k sink : ℕ) (automaton stuck : Automaton ℕ) (has : HasStuckWords k sink automaton stuck) where
  abbrev L : Language
  L = accepts automaton

  pub empty_is_least : stuck.accepting stuck.start ≡ true → IsLeastStuck k L []
  empty_is_least accepted = record {
    stuck = accepted_is_stuck k sink automaton stuck has [] (All-nil (λ (letter : List Bool). length letter ≡ k)) accepted;
    least = λ other s. none_before_empty other;
  }

  module _ (begins : stuck.accepting stuck.start ≡ false) where
    some_letters : (word : Word) → IsStuck k L word → 0 < length word
    some_letters [] s = absurd (true≢false (sym (stuck_is_accepted k sink automaton stuck has [] s) ∙ begins))
    some_letters (letter ∷ word) s = omega arith

    behaves : (word : Word) → IsStuck k L word → IsBehaviour k word
    behaves word s = record { nonempty = some_letters word s; widths = s.keeps.widths }

    accepts_stuck : (word : Word) → IsStuck k L word → accepts stuck word ≡ true
    accepts_stuck word s = accepts_by_state stuck word (some_letters word s) ∙ stuck_is_accepted k sink automaton stuck has word s

    pub least_accepted : (least : Option Word) → MatchOption least ((word : Word) → IsBehaviour k word → accepts stuck word ≢ true) (IsLeastWhere k (λ other. accepts stuck other ≡ true))
        → IsLeastStuckOf k L least
    least_accepted None none = λ word s. none word (behaves word s) (accepts_stuck word s)
    least_accepted (Some word) first = record {
      stuck = accepted_is_stuck k sink automaton stuck has word first.behaviour.widths (sym (accepts_by_state stuck word first.behaviour.nonempty) ∙ first.member);
      least = λ other s. first.least other (behaves other s) (accepts_stuck other s);
    }

    -- what a search for the least word that is accepted finds
    pub least_found : {E : Type 0} (j : ℕ) → j ≡ k → (result : Result (Option WordValue) E)
        → IfOk result (λ found. IfSome found (λ word. IsLeastWhere j (λ other. accepts stuck other ≡ true) word.letters))
        → IfOk result (λ found. IfNone found ((word : Word) → IsBehaviour j word → accepts stuck word ≢ true))
        → IfOk result (λ found. IsLeastStuckOf k L (option_map (λ (word : WordValue). word.letters) found))
    least_found j width (Ok None) first none = least_accepted None (subst (λ k. (word : Word) → IsBehaviour k word → accepts stuck word ≢ true) width none)
    least_found j width (Ok (Some word)) first none = least_accepted (Some word.letters) (subst (λ k. IsLeastWhere k (λ other. accepts stuck other ≡ true) word.letters) width first)
    least_found j width (Err e) first none = tt
