use Rattle.std.proofs.Common.{◌++◌, ◌∷◌, [], ◌∙◌, ap, sym}
use Rattle.dcv_sets.proofs.SetBits.{is_kept, states_are, popped_ascends}
use Rattle.dcv_sets.proofs.state_set.StateSet.split_last.Goals as goal

pub pack-requires : goal.pack-requires
pack-requires c = record { ascends = popped_ascends c.pop.new.self.items c.in-Some.last c.self.invariant.ascends c.self.view_is c.in_ok-states.ensures c.in-Some.ensures.items }

pub invariant_of-others : goal.invariant_of-others
invariant_of-others c =
    is_kept c.pop.new.self.items (popped_ascends c.pop.new.self.items c.in-Some.last c.self.invariant.ascends c.self.view_is c.in_ok-states.ensures c.in-Some.ensures.items)
    c.in_ok-dense.ensures.form c.in_ok-dense.ensures.words c.in_ok-dense.ensures.width

pub returns : goal.returns
returns c =
    sym c.in_ok-states.ensures ∙ c.in-Some.ensures.items
    ∙ ap (λ front. front ++ c.in-Some.last ∷ []) (sym (states_are c.pop.new.self.items (popped_ascends c.pop.new.self.items c.in-Some.last c.self.invariant.ascends c.self.view_is c.in_ok-states.ensures c.in-Some.ensures.items)
    c.in_ok-dense.ensures.form c.in_ok-dense.ensures.words))
