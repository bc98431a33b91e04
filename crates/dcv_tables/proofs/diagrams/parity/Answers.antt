use Rattle.std.proofs.Common.{◌-◌, arith}
use Rattle.dcv_arena.proofs.Roots.{kept_in_turn}
use Rattle.dcv_tables.proofs.ParityFacts.{one_slot_more}
use Rattle.dcv_tables.proofs.diagrams.parity.Goals as goal

pub loop-slot-preserved : goal.loop-slot-preserved
loop-slot-preserved c =
    let slot = c.loop-slot.slot - 1 in
    let slots = c.args.arena.now.slots in
    let before = c.loop-slot.invariant in
    record {
      kept = kept_in_turn c.args.arena.now c.loop-slot.arena c.parities.new.arena before.kept c.parities.ensures.kept;
      arena = c.parities.ensures.arena;
      within = omega (arith, before.within);
      same = c.in_ok-same.ensures.even;
      other = c.in_ok-same.ensures.odd;
      same_value = λ letter. one_slot_more c.args.each c.args.even c.args.odd slot c.loop-slot.slot slots _ _ _ _ letter (omega arith) (omega (arith, before.within)) c.counts-counted.ensures
          (before.same_value letter) (before.other_value letter) (c.in_ok-same.ensures.even_value letter);
      other_value = λ letter. one_slot_more c.args.each c.args.odd c.args.even slot c.loop-slot.slot slots _ _ _ _ letter (omega arith) (omega (arith, before.within)) c.counts-counted.ensures
          (before.other_value letter) (before.same_value letter) (c.in_ok-same.ensures.odd_value letter);
    }
