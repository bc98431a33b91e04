-- A proposition of the code that holds a vector has the propositions in it as operands.
use Rattle.std.proofs.Common.{◌≡◌, List, map, Vec, Global, refl, ap, sym, ◌∙◌}
use mathlib.Core.Former.{Count}
use Rattle.dcv_syntax.specs.declared.propositions.Connective.{Connective}
use Rattle.dcv_core.specs.declared.truths.Truth.{Truth, Joined', Joined, items-the_row-Truth, items_hidden-the_row-Truth-0}
use Rattle.dcv_core.specs.declared.truths.Truth.TheBlock.{Row_of-Truth, end_of-Truth, more_of-Truth}
use Rattle.dcv_core.specs.Core.{TruthJoined, truth_operand}
use Rattle.dcv_core.specs.TruthViews.{plain_truth, plain_truths, truths_of}

truths_are : (n : _) (row : Row_of-Truth n) → plain_truths row ≡ truths_of (map plain_truth (items-the_row-Truth n row))
truths_are n end_of-Truth = refl
truths_are n (more_of-Truth truth row) = ap (truth_operand (plain_truth truth)) (truths_are _ row)

abbrev truth_row : Truth → (n : Count) × Row_of-Truth n
truth_row (Joined' connective shape row) = (_, row)
truth_row _ = (_, end_of-Truth)

pub truth_joined : (connective : Connective) (operands : Vec Truth Global)
    → plain_truth (Joined connective operands) ≡ TruthJoined connective (truths_of (map plain_truth operands.items))
truth_joined connective operands =
    let row = truth_row (Joined connective operands) in
    ap (TruthJoined connective) (truths_are row.0 row.1 ∙ ap (λ ps. truths_of (map plain_truth ps)) (items_hidden-the_row-Truth-0 operands))

-- where the code finds one
pub is_joined : {truth : Truth} {items : List Truth} (connective : Connective) (operands : Vec Truth Global) → truth ≡ Joined connective operands → items ≡ operands.items
    → plain_truth truth ≡ TruthJoined connective (truths_of (map plain_truth items))
is_joined connective operands is are =
    ap plain_truth is ∙ truth_joined connective operands ∙ ap (λ items. TruthJoined connective (truths_of (map plain_truth items))) (sym are)
