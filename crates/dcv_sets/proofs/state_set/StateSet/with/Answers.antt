use Rattle.std.proofs.Common.{◌++◌, ◌∷◌, [], take, get_or, sym, ap, ◌∙◌}
use Rattle.std.proofs.lemmas.List.{append-nil, append_assoc, take_more, take_all}
use Rattle.dcv_language.specs.StateSet.{set_of}
use Rattle.dcv_sets.proofs.SameSets.{same_joined}
use Rattle.dcv_sets.proofs.SetBits.{is_kept, states_are, set_ascending}
use Rattle.dcv_sets.proofs.state_set.StateSet.with.Goals as goal

pub loop-state-init : goal.loop-state-init
loop-state-init c = ap set_of (c.in_ok-states.ensures ∙ sym (append-nil c.args.self.now))

pub loop-state-preserved : goal.loop-state-preserved
loop-state-preserved c =
    let self = c.args.self.now in
    let more = c.args.more.now in
    let i = c.loop-state.state-index in
    let state = get_or more i 0 in
    c.in_ok-add.ensures
    ∙ same_joined c.loop-state.states.items (self ++ take i more) (state ∷ []) c.loop-state.invariant
    ∙ ap set_of (append_assoc self (take i more) (state ∷ []) ∙ ap (λ listed. self ++ listed) (sym (take_more more i 0 c.loop-state-test.true)))

pub pack-requires : goal.pack-requires
pack-requires c = record { ascends = set_ascending c.loop-state.states.items c.ascend.ensures }

pub invariant_of-result : goal.invariant_of-result
invariant_of-result c =
    is_kept c.ascend.new.states.items (set_ascending c.loop-state.states.items c.ascend.ensures) c.in_ok-dense.ensures.form c.in_ok-dense.ensures.words c.in_ok-dense.ensures.width

pub returns : goal.returns
returns c =
    states_are c.ascend.new.states.items (set_ascending c.loop-state.states.items c.ascend.ensures) c.in_ok-dense.ensures.form c.in_ok-dense.ensures.words
    ∙ c.ascend.ensures ∙ c.loop-state.invariant ∙ ap (λ listed. set_of (c.args.self.now ++ listed)) (take_all c.loop-state.state-index c.args.more.now c.loop-state-test.false)
