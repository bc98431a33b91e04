use Rattle.std.proofs.Common.{◌≡◌, ℕ, suc, ◌+◌, ◌-◌, ◌∷◌, length, map, drop, get_or, ap, ◌∙◌, arith}
use Rattle.std.proofs.lemmas.List.{at_drop_more}
use Rattle.dcv_core.specs.Steps.{PlainCore}
use Rattle.dcv_tracks.specs.ShiftViews.{plain_shift}
use Rattle.dcv_tracks.specs.ShiftSteps.{with_steps, closed_step, closed_steps}
use Rattle.dcv_tracks.proofs.ClosingSteps.{next_closed, closed_step-length}
use Rattle.dcv_tracks.proofs.placing.Placing.close.Goals as goal

pub loop-place-preserved : goal.loop-place-preserved
loop-place-preserved c =
    let shifts = c.args.self.now.shifts.now in
    let all = map plain_shift shifts in
    let k = c.args.self.now.declared in
    let old = c.args.core.now in
    let core = c.loop-place.core in
    let place = c.loop-place.place in
    let p = place - 1 in
    let shift = get_or shifts p c.index-self-place.result in
    let next : suc p ≡ place = omega arith in
    let more : p + 1 ≡ place = omega arith in
    let left : map plain_shift (drop p shifts) ≡ plain_shift shift ∷ map plain_shift (drop place shifts) =
    at_drop_more (map plain_shift) shifts p c.index-self-place.result (omega arith)
    ∙ ap (λ (m : ℕ). plain_shift shift ∷ map plain_shift (drop m shifts)) more in
    let added : c.close_slot.new.core ≡ with_steps core (closed_step k all (k + p) (plain_shift shift) core.steps) = c.in_ok-close_slot.ensures in
    record {
      within = omega arith;
      size = omega (arith, ap (λ (core : PlainCore). length core.steps) added, closed_step-length k all (k + p) (plain_shift shift) core.steps, c.loop-place.invariant.size);
      closed = added
          ∙ ap (λ (core : PlainCore). with_steps core (closed_step k all (k + p) (plain_shift shift) core.steps)) c.loop-place.invariant.closed
          ∙ ap (with_steps old) (next_closed k all p place (plain_shift shift) (map plain_shift (drop p shifts)) (map plain_shift (drop place shifts)) old.steps next left);
    }

pub returns : goal.returns
returns c =
    let shifts = c.args.self.now.shifts.now in
    let all = map plain_shift shifts in
    let k = c.args.self.now.declared in
    let old = c.args.core.now in
    let first : c.loop-place.place ≡ 0 = omega arith in
    let slot : k + 0 ≡ k = omega arith in
    c.loop-place.invariant.closed
    ∙ ap (λ (place : ℕ). with_steps old (closed_steps k all (k + place) (map plain_shift (drop place shifts)) old.steps)) first
    ∙ ap (λ (slot : ℕ). with_steps old (closed_steps k all slot all old.steps)) slot
