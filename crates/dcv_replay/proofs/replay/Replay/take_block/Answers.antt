use Rattle.std.proofs.Common.{◌+◌, ◌∙◌, drop, arith, refl}
use Rattle.dcv_replay.proofs.Steps.{passes_nothing, stops_in_turn, breaks_in_turn, stops_further, breaks_further, on_err_from, leads_on, leads_stop, parted, passes_one_more, spent_further}
use Rattle.dcv_replay.proofs.replay.Replay.take_block.Goals as goal

pub loop-byte-init : goal.loop-byte-init
loop-byte-init g c = record {
  passed = passes_nothing _;
  are = c.requires.lines;
  width = c.requires.width;
  spent = omega arith;
  faults = refl;
}

pub returns-in_err-stop-clause-err : goal.returns-in_err-stop-clause-err
returns-in_err-stop-clause-err g c =
    on_err_from c.from_residual.result (breaks_further _ (drop (c.loop-byte.byte-index + 1) c.args.bytes.now) c.args.bytes.now (parted c.args.bytes.now c.loop-byte.byte-index c.loop-byte-test.true)
    (breaks_in_turn c.loop-byte.invariant.passed c.in_err-stop.ensures.err))

pub returns-in-Some-clause-ok : goal.returns-in-Some-clause-ok
returns-in-Some-clause-ok g c =
    stops_further _ (drop (c.loop-byte.byte-index + 1) c.args.bytes.now) c.args.bytes.now (parted c.args.bytes.now c.loop-byte.byte-index c.loop-byte-test.true)
    (stops_in_turn c.loop-byte.invariant.passed (leads_stop c.in-Some.is c.in_ok-stop.ensures.ok))

pub loop-byte-preserved : goal.loop-byte-preserved
loop-byte-preserved g c = record {
  passed = passes_one_more c.args.bytes.now c.loop-byte.byte-index c.loop-byte-test.true c.loop-byte.invariant.passed (leads_on c.in_default.is c.in_ok-stop.ensures.ok);
  are = c.take_byte.ensures.lines;
  width = c.take_byte.ensures.width;
  spent = spent_further _ _ _ _ (rw c.in_default.is at c.in_ok-stop.ensures.budget) c.loop-byte.invariant.spent;
  faults = c.in_ok-stop.ensures.faults ∙ c.loop-byte.invariant.faults;
}
