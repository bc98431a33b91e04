use Rattle.std.proofs.Common.{ℕ, List, [], length, refl, sym, ap, subst, ◌∙◌}
use Rattle.dcv_replay.specs.Program.{IsReplay}
use Rattle.dcv_replay.specs.Selecting.{slot_of}
use Rattle.dcv_replay.specs.Observer.{Lustre, Follows}
use Rattle.dcv_replay.proofs.NodeNames.{have_slots}
use Rattle.dcv_replay.proofs.NodeReplays.{is_replay_of_node, follows_of_node}
use Rattle.dcv_replay.proofs.Values.{same_parts}
use Rattle.dcv_replay.proofs.replay.Replay.lustre.Goals as goal

pub selects_of-requires-clause-placed : goal.selects_of-requires-clause-placed
selects_of-requires-clause-placed c =
    have_slots c.args.node.now c.keeps_the_rules.ensures.form c.equations-equations.result.now c.equations-equations.ensures
    c.in_ok-count.count c.in_ok-count.ensures.count c.in_ok-count.ensures.within

pub store_of-requires-clause-placed : goal.store_of-requires-clause-placed
store_of-requires-clause-placed c =
    have_slots c.args.node.now c.keeps_the_rules.ensures.form c.equations-equations.result.now c.equations-equations.ensures
    c.in_ok-count.count c.in_ok-count.ensures.count c.in_ok-count.ensures.within

pub of-requires : goal.of-requires
of-requires c =
    same_parts IsReplay _ _ _ _ _ _ _ _ _ _ c.width_of-width.ensures c.slot_of.ensures c.in_ok-selects.ensures
    (c.slot_of-answer.ensures ∙ ap (λ (names : List (List ℕ)). slot_of (length names)) c.inputs.ensures) refl
    (is_replay_of_node c.args.node.now c.keeps_the_rules.ensures.names c.keeps_the_rules.ensures.form c.one_trace.ensures.some
    c.equations-equations.result.now c.equations-equations.ensures c.in_ok-count.count c.in_ok-count.ensures.count _ c.in_ok-store.ensures)

pub returns : goal.returns
returns c =
    subst (Follows (Lustre c.args.node.now) []) (sym c.of.ensures)
    (same_parts (Follows (Lustre c.args.node.now) []) _ _ _ _ _ _ _ _ _ _ c.width_of-width.ensures c.slot_of.ensures c.in_ok-selects.ensures
    (c.slot_of-answer.ensures ∙ ap (λ (names : List (List ℕ)). slot_of (length names)) c.inputs.ensures) refl
    (follows_of_node c.args.node.now c.keeps_the_rules.ensures.names c.keeps_the_rules.ensures.form c.one_trace.ensures.some
    c.equations-equations.result.now c.equations-equations.ensures c.in_ok-count.count c.in_ok-count.ensures.count _ c.in_ok-store.ensures))
