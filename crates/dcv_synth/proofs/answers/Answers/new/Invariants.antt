use Rattle.std.proofs.Common.{◌≡◌, length}
use Rattle.dcv_synth.specs.Answered.{AreAnswers}
use Rattle.dcv_synth.proofs.answers.Answers.new.Given as goal

abbrev pub invariant-loop-place : goal.invariant-loop-place
invariant-loop-place l =
    (l.all.arena.now ≡ l.arena) × (l.all.win.now ≡ l.win) × AreAnswers l.arena l.win l.all.answers.items × (length l.all.answers.items ≡ l.place)
