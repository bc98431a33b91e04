use Rattle.std.proofs.Common.{ℕ, map, false, sym, ◌∙◌, arith}
use Rattle.std.specs.Prelude.{nat_eq}
use Rattle.std.proofs.lemmas.List.{same_lists, get_or-map, get_or_default, length-map}
use Rattle.dcv_automaton_read.proofs.letters.spelled.Goals as goal

pub returns : goal.returns
returns c =
    let digits = c.args.digits.now in
    let letter = c.loop-slot.letter in
    let value = λ (digit : ℕ). nat_eq 49 digit in
    let size = c.loop-slot.invariant.0 in
    same_lists letter (map value digits) (size ∙ sym (length-map digits value))
    (λ k d below. get_or_default letter k d false below ∙ c.loop-slot.invariant.1 k (omega (arith, size, below)) ∙ sym (get_or-map value digits k 0 d (omega (arith, size, below))))
