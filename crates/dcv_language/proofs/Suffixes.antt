-- How the suffixes of a certificate begin.
use Rattle.std.proofs.Common.{◌≡◌, ℕ, zero, suc, [], ◌∷◌, ◌++◌, Some, refl, ap, sym, ◌∙◌, arith}
use Rattle.std.specs.List.{IsAmong}
use Rattle.dcv_word.specs.Behaviour.{Word}
use Rattle.dcv_language.specs.Language.{Language}
use Rattle.dcv_language.specs.Apart.{TellsApart}
use Rattle.dcv_language.specs.Laws.{OneWordNeedsNoSuffix, FirstSuffixIsEmpty}

among_one : (word x : Word) → IsAmong (word ∷ []) x → x ≡ word
among_one word x (zero, (h, e)) = e
among_one word x (suc i, (h, e)) = absurd (omega arith)

not_from_itself : (k : ℕ) (L : Language) (u v suffix : Word) → u ≡ v → TellsApart k L u v suffix → ⊥
not_from_itself k L u v suffix e t = t.differ (ap (λ w. L (w ++ suffix)) e)

pub one_word_needs_no_suffix : OneWordNeedsNoSuffix
one_word_needs_no_suffix k L word [] c = refl
one_word_needs_no_suffix k L word (suffix ∷ suffixes) c =
    let pair = (c.each [] suffixes suffix refl).tells in
    absurd (not_from_itself k L pair.first pair.second suffix
    (among_one word pair.first pair.first_is_access ∙ sym (among_one word pair.second pair.second_is_access)) pair.tells)

no_member : (x : Word) → IsAmong [] x → ⊥
no_member x (i, (h, e)) = omega arith

pub first_suffix_is_empty : FirstSuffixIsEmpty
first_suffix_is_empty k L first second words [] c =
    let told = c.told 0 1 [] (omega arith) (omega arith) in absurd (no_member told.suffix told.listed)
first_suffix_is_empty k L first second words (suffix ∷ suffixes) c = ap Some (c.each [] suffixes suffix refl).grows
