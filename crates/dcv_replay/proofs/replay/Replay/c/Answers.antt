use Rattle.std.proofs.Common.{ℕ, List, [], length, refl, sym, ap, subst, ◌∙◌}
use Rattle.dcv_replay.specs.Program.{IsReplay}
use Rattle.dcv_replay.specs.Selecting.{slot_of}
use Rattle.dcv_replay.specs.Observer.{C, Follows}
use Rattle.dcv_replay.proofs.UnitReplays.{is_replay_of_unit, follows_of_unit}
use Rattle.dcv_replay.proofs.Values.{same_parts}
use Rattle.dcv_replay.proofs.replay.Replay.c.Goals as goal

pub of-requires : goal.of-requires
of-requires c =
    same_parts IsReplay _ _ _ _ _ _ _ _ _ _ c.width_of-width.ensures refl refl refl refl
    (is_replay_of_unit c.args.unit.now c.keeps_the_rules.ensures.names c.keeps_the_rules.ensures.form c.nothing_left_over_is_read.ensures
    c.in_ok-count.count c.in_ok-count.ensures.count _ _ (c.slot_of-inputs.ensures ∙ ap (λ (names : List (List ℕ)). slot_of (length names)) c.statics.ensures) c.slot_of-answer.ensures _ c.in_ok-selects.ensures _ c.in_ok-store.ensures)

pub returns : goal.returns
returns c =
    subst (Follows (C c.args.unit.now) []) (sym c.of.ensures)
    (same_parts (Follows (C c.args.unit.now) []) _ _ _ _ _ _ _ _ _ _ c.width_of-width.ensures refl refl refl refl
    (follows_of_unit c.args.unit.now c.keeps_the_rules.ensures.names c.keeps_the_rules.ensures.form c.nothing_left_over_is_read.ensures
    c.in_ok-count.count c.in_ok-count.ensures.count _ _ (c.slot_of-inputs.ensures ∙ ap (λ (names : List (List ℕ)). slot_of (length names)) c.statics.ensures) c.slot_of-answer.ensures _ c.in_ok-selects.ensures _ c.in_ok-store.ensures))
