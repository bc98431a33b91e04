use Rattle.std.proofs.Common.{◌∙◌, refl, ap, [], ℕ, arith}
use Rattle.dcv_io.proofs.Giving.{gives_in_turn}
use Rattle.dcv_replay.specs.Coming.{LinesValue}
use Rattle.dcv_replay.proofs.Steps.{passes_in_turn, stops_in_turn, breaks_in_turn, leads_on, leads_stop, on_err_from}
use Rattle.dcv_replay.proofs.Runs.{ran_cut, ran_stop, ran_broken, ran_end, ran_off, if_ok_weaker, on_err_weaker}
use Rattle.dcv_replay.proofs.Runs.{given_nothing, passes_start, read_none, none_taken, read_failed, at_end, start_budget, calls_on}
use Rattle.dcv_replay.proofs.replay.Replay.run_over.Goals as goal

pub loop-count-init : goal.loop-count-init
loop-count-init g c = record {
  read = [];
  given = given_nothing _ c.requires;
  passed = passes_start _ _ _ _ (c.new-lines.ensures.lines ∙ ap (λ (width : ℕ). record { width = width; line = []; count = 0 }) c.width.ensures.width);
  are = c.new-lines.ensures.are;
  width = ap (λ (lines : LinesValue). lines.width) c.new-lines.ensures.lines ∙ c.width.ensures.width;
  buffer = refl;
  asked = refl;
  calls = start_budget _ _ _ c.new-lines.ensures.lines;
  held = refl;
  open_faults = refl;
  read_faults = refl;
  faults = refl;
}

pub returns-in_default-clause-ok : goal.returns-in_default-clause-ok
returns-in_default-clause-ok g c =
    ran_cut _ _ _ _ _ c.loop-count.invariant.passed c.loop-count.invariant.are (read_failed _ _ _ _ c.in_default.ensures.stays c.loop-count.invariant.given)

pub returns-then-count-eq0-clause-ok : goal.returns-then-count-eq0-clause-ok
returns-then-count-eq0-clause-ok g c =
    if_ok_weaker _ (λ stop ends. ran_end _ _ _ _ _ c.loop-count.invariant.passed c.loop-count.invariant.are ends
    (read_none _ _ _ _ _ (none_taken _ _ c.if-count-eq0.true) c.loop-count.invariant.given c.in-Ok.ensures.gives)
    (c.in-Ok.ensures.end c.if-count-eq0.true (omega (arith, c.loop-count.invariant.buffer)))) c.take_end.ensures.ok

pub returns-then-count-eq0-clause-err : goal.returns-then-count-eq0-clause-err
returns-then-count-eq0-clause-err g c =
    on_err_weaker _ (λ breaks. ran_off _ _ _ _ _ c.loop-count.invariant.passed breaks
    (read_none _ _ _ _ _ (none_taken _ _ c.if-count-eq0.true) c.loop-count.invariant.given c.in-Ok.ensures.gives)
    (c.in-Ok.ensures.end c.if-count-eq0.true (omega (arith, c.loop-count.invariant.buffer)))) c.take_end.ensures.err

pub returns-then-count-eq0-clause-end : goal.returns-then-count-eq0-clause-end
returns-then-count-eq0-clause-end g c = at_end _ (c.in-Ok.ensures.end c.if-count-eq0.true (omega (arith, c.loop-count.invariant.buffer)))

pub returns-in_err-stop-clause-err : goal.returns-in_err-stop-clause-err
returns-in_err-stop-clause-err g c =
    on_err_from c.from_residual.result (ran_broken _ _ _ _ _ (breaks_in_turn c.loop-count.invariant.passed c.in_err-stop.ensures.err) c.take_block.ensures.lines
    (gives_in_turn _ _ _ _ _ c.loop-count.invariant.given c.in-Ok.ensures.gives))

pub returns-in-Some-clause-ok : goal.returns-in-Some-clause-ok
returns-in-Some-clause-ok g c =
    ran_stop _ _ _ _ _ (stops_in_turn c.loop-count.invariant.passed (leads_stop c.in-Some.is c.in_ok-stop.ensures.ok))
    (gives_in_turn _ _ _ _ _ c.loop-count.invariant.given c.in-Ok.ensures.gives)

pub loop-count-preserved : goal.loop-count-preserved
loop-count-preserved g c = record {
  read = _;
  given = gives_in_turn _ _ _ _ _ c.loop-count.invariant.given c.in-Ok.ensures.gives;
  passed = passes_in_turn c.loop-count.invariant.passed (leads_on c.in_default-2.is c.in_ok-stop.ensures.ok);
  are = c.take_block.ensures.lines;
  width = c.take_block.ensures.width;
  asked = c.read.ensures.asked ∙ c.loop-count.invariant.asked;
  calls = calls_on _ _ _ _ c.in-Ok.count c.read.new.buf _ c.read.ensures.calls (rw c.in_default-2.is at c.in_ok-stop.ensures.budget) c.if-count-eq0.false
      (omega (arith, c.in-Ok.ensures.bound, c.read.auto.buf)) c.loop-count.invariant.calls;
  buffer = c.read.auto.buf ∙ c.loop-count.invariant.buffer;
  held = c.read.ensures.held ∙ c.loop-count.invariant.held;
  open_faults = c.read.ensures.open_faults ∙ c.loop-count.invariant.open_faults;
  read_faults = c.in-Ok.ensures.read_faults ∙ c.loop-count.invariant.read_faults;
  faults = c.in_ok-stop.ensures.faults ∙ c.loop-count.invariant.faults;
}
