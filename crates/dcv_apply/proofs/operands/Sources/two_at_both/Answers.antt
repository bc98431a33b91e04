use Rattle.std.proofs.Common.{false, true, [], ◌∷◌, ◌++◌, ap, ◌∙◌, arith}
use Rattle.std.proofs.lemmas.List.{length_push, set_at}
use Rattle.dcv_apply.specs.Sources.{number_in}
use Rattle.dcv_apply.proofs.operands.Sources.two_at_both.Goals as goal

pub returns : goal.returns
returns c letter size =
    let sources = c.args.self.now in
    let slots = c.args.slots in
    let one = c.args.one in
    let other = c.args.other in
    let low = letter ++ false ∷ [] in
    let high = letter ++ true ∷ [] in
    let low_size = length_push letter false in
    let high_size = length_push letter true in
    let one_low = c.number.ensures low (omega arith) ∙ c.parts.ensures.lo_number low (omega arith) ∙ ap (λ at. number_in sources at one) (set_at letter false [] false slots size) in
    let other_low = c.number-2.ensures low (omega arith) ∙ c.parts-2.ensures.lo_number low (omega arith) ∙ ap (λ at. number_in sources at other) (set_at letter false [] false slots size) in
    let one_high = c.number-3.ensures high (omega arith) ∙ c.parts.ensures.hi_number high (omega arith) ∙ ap (λ at. number_in sources at one) (set_at letter true [] true slots size) in
    let other_high = c.number-4.ensures high (omega arith) ∙ c.parts-2.ensures.hi_number high (omega arith) ∙ ap (λ at. number_in sources at other) (set_at letter true [] true slots size) in
    λ i. one_low i ∷ other_low i ∷ one_high i ∷ other_high i ∷ []
