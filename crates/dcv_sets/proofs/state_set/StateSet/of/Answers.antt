use Rattle.std.proofs.Common.{◌∙◌, ap}
use Rattle.dcv_language.specs.StateSet.{set_of}
use Rattle.dcv_sets.proofs.SetBits.{is_kept, states_are, set_ascending}
use Rattle.dcv_sets.proofs.state_set.StateSet.of.Goals as goal

pub pack-requires : goal.pack-requires
pack-requires c = record { ascends = set_ascending c.in_ok-listed.listed.items c.ascend.ensures }

pub invariant_of-result : goal.invariant_of-result
invariant_of-result c =
    is_kept c.ascend.new.states.items (set_ascending c.in_ok-listed.listed.items c.ascend.ensures) c.in_ok-dense.ensures.form c.in_ok-dense.ensures.words c.in_ok-dense.ensures.width

pub returns : goal.returns
returns c =
    states_are c.ascend.new.states.items (set_ascending c.in_ok-listed.listed.items c.ascend.ensures) c.in_ok-dense.ensures.form c.in_ok-dense.ensures.words
    ∙ c.ascend.ensures ∙ ap set_of c.in_ok-listed.ensures.ok
