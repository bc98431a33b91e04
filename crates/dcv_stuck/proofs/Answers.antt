-- A set has one least stuck word at most, and this is that of each set with the same behaviours.
use Rattle.std.proofs.Common.{◌≡◌, ℕ, Bool, not, List, [], ◌∷◌, ◌++◌, length, take, None, Some, refl, sym, ap, ◌∙◌, arith, length-append}
use Rattle.std.proofs.lemmas.List.{length-take-le}
use Rattle.std.proofs.lemmas.List.Elements.{All-take}
use Rattle.dcv_word.specs.Behaviour.{Word, IsBehaviour}
use Rattle.dcv_language.specs.Language.{Language, HaveSameBehaviours}
use Rattle.dcv_language.proofs.Behaviours.{Widths-append, one_letter}
use Rattle.dcv_language.proofs.Words.{same_words}
use Rattle.dcv_quotient.proofs.WordOrder.{word_laws}
use Rattle.dcv_stuck.specs.Stuck.{KeepsTo, IsStuck}
use Rattle.dcv_stuck.specs.Laws.{OneLeastStuck, LeastStuckOfSameBehaviours}

pub one_least_stuck : OneLeastStuck
one_least_stuck k L None None p q = refl
one_least_stuck k L None (Some v) p q = absurd (p v q.stuck)
one_least_stuck k L (Some u) None p q = absurd (q u p.stuck)
one_least_stuck k L (Some u) (Some v) p q = ap Some (same_words word_laws u v (q.least u p.stuck) (p.least v q.stuck))

module _ (k : ℕ) (L M : Language) (same : HaveSameBehaviours k L M) where
  keeps-same : (word : Word) → KeepsTo k L word → KeepsTo k M word
  keeps-same word keeps = record {
    widths = keeps.widths;
    prefixes = λ size some within.
        let prefix : IsBehaviour k (take size word) = record {
          nonempty = omega (arith, length-take-le size word within);
          widths = All-take (λ (letter : List Bool). length letter ≡ k) size word keeps.widths;
        } in
        sym (same (take size word) prefix) ∙ keeps.prefixes size some within;
  }

  stuck-same : (word : Word) → IsStuck k L word → IsStuck k M word
  stuck-same word s = record {
    keeps = keeps-same word s.keeps;
    no_next = λ letter width.
        let next : IsBehaviour k (word ++ letter ∷ []) = record {
          nonempty = omega (arith, length-append word (letter ∷ []));
          widths = Widths-append k word (letter ∷ []) s.keeps.widths (one_letter k letter width);
        } in
        ap not (sym (same (word ++ letter ∷ []) next)) ∙ s.no_next letter width;
  }

pub least_stuck_of_same_behaviours : LeastStuckOfSameBehaviours
least_stuck_of_same_behaviours k L M None same never = λ word s. never word (stuck-same k M L (λ word b. sym (same word b)) word s)
least_stuck_of_same_behaviours k L M (Some least) same l = record {
  stuck = stuck-same k L M same least l.stuck;
  least = λ other s. l.least other (stuck-same k M L (λ word b. sym (same word b)) other s);
}
