-- What two steps took.
use Rattle.std.proofs.Common.{◌≡◌, List, [], ◌∷◌, ◌++◌, sym, ap, subst, ◌∙◌, arith}
use Rattle.std.proofs.lemmas.List.Elements.{All-from_recursion}
use Rattle.dcv_language.specs.declared.count.Count.{Count}
use Rattle.dcv_print.specs.Counts.{IsPrintableCount, ArePrintableCounts}

abbrev few : Count
few = record { at = 13; states = 2; nodes = 1 }

abbrev most : Count
most = record { at = 262143; states = 32000; nodes = 1000000 }

few_is : IsPrintableCount few
few_is = record { at = omega arith; some_states = omega arith; few_states = omega arith; few_nodes = omega arith }

most_is : IsPrintableCount most
most_is = record { at = omega arith; some_states = omega arith; few_states = omega arith; few_nodes = omega arith }

both_are : ArePrintableCounts (few ∷ most ∷ [])
both_are = record { few = omega arith; each = All-from_recursion IsPrintableCount (few ∷ most ∷ []) (few_is, (most_is, tt)) }

pub two_counts : (none one both : List Count) → none ≡ [] → one ≡ none ++ few ∷ [] → both ≡ one ++ most ∷ [] → ArePrintableCounts both
two_counts none one both empty first second =
    subst ArePrintableCounts (sym (second ∙ ap (λ counts. counts ++ most ∷ []) (first ∙ ap (λ counts. counts ++ few ∷ []) empty))) both_are
