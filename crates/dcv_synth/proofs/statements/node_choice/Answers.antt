use Rattle.std.proofs.Common.{ℕ, List, ap, ◌∙◌, ◌+◌}
use Rattle.dcv_c.specs.Tree.{Assign, Chosen, Holds}
use Rattle.dcv_c.specs.Seen.{name_at}
use Rattle.dcv_synth.proofs.statements.node_choice.Goals as goal

pub returns : goal.returns
returns c = λ (all names : List (List ℕ)) (name : ℕ → List ℕ) (nodes : ℕ) inputs stand below fits.
    let variable = ap (λ slot. name_at all (1 + slot)) c.from.ensures ∙ inputs c.args.line.slot fits.slot in
    let hi = c.child_item-hi.ensures all name nodes stand fits.hi in
    let lo = c.child_item-lo.ensures all name nodes stand fits.lo in
    λ i. Assign (stand c.args.number below i) (Chosen (Holds (variable i)) (hi i) (lo i))
