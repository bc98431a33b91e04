use Rattle.std.proofs.Common.{◌≡◌, ℕ, suc, Bool, List, length, ◌<◌, ◌+◌, ◌-◌, sym, subst, arith}
use Rattle.dcv_arena.specs.declared.nodes.Ref.{Ref}
use Rattle.dcv_synth.specs.Forced.{IsForced}
use Rattle.dcv_synth.proofs.Forced.{forced_ref}
use Rattle.dcv_synth.proofs.Descents.{IsDescent, descent_goes_on, descent_ends}
use Rattle.dcv_synth.proofs.forcing.Forcing.least_input.Goals as goal

pub loop-slot-preserved : goal.loop-slot-preserved
loop-slot-preserved c =
    let self = c.args.self.now in
    let arena = self.arena.now in
    let slot = c.loop-slot.slot in
    let m = arena.slots - self.inputs in
    let split = c.split-lo.ensures in
    let lo = c.split-lo.result.0 in
    let hi = c.split-lo.result.1 in
    let inner : slot < arena.slots = omega (arith, c.loop-slot-test.true, c.requires.inputs) in
    let low : IsForced self.inputs arena self.lost.items lo c.is_forced-low.result =
    subst (IsForced self.inputs arena self.lost.items lo) (sym c.is_forced-low.ensures)
    (forced_ref self.inputs arena self.lost.items self.forced.items (length arena.nodes) lo c.requires.forced.each split.lo_is_ref) in
    let down = descent_goes_on self.inputs m arena self.lost.items c.args.root slot c.loop-slot.input c.loop-slot.current lo hi c.is_forced-low.result
    c.loop-slot.invariant (omega (arith, c.requires.inputs)) c.loop-slot-test.true split.lo_is_ref split.hi_is_ref (split.lo_level inner) (split.hi_level inner) split.value low in
    let next : suc slot ≡ slot + 1 = omega arith in
    subst (λ (parts : ℕ × List Bool × Ref). IsDescent self.inputs m arena self.lost.items c.args.root parts.0 parts.1 parts.2)
    (λ i. (next i, sym c.with-input.ensures i, sym c.side-current.ensures i)) down

pub returns : goal.returns
returns c =
    let self = c.args.self.now in
    descent_ends self.inputs (self.arena.now.slots - self.inputs) self.arena.now self.lost.items c.args.root c.loop-slot.slot c.loop-slot.input c.loop-slot.current
    (omega (arith, c.loop-slot-test.false, c.loop-slot.invariant.width)) c.loop-slot.invariant
