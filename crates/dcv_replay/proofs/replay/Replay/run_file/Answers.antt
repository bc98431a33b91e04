use Rattle.std.proofs.Common.{sym, ◌∙◌}
use Rattle.dcv_replay.proofs.Endings.{replayed_end, replayed_unopened, where_ok, read_to_end}
use Rattle.dcv_replay.proofs.replay.Replay.run_file.Goals as goal

pub returns-then-is_err-clause-replayed : goal.returns-then-is_err-clause-replayed
returns-then-is_err-clause-replayed g c = replayed_unopened _ _ _ _ _

pub returns-in-Ok-clause-replayed : goal.returns-in-Ok-clause-replayed
returns-in-Ok-clause-replayed g c =
    replayed_end _ _ _ _ _ _ _ _ _ _ _ _ _ (where_ok _ (sym c.is_err.ensures.value ∙ c.if-is_err.false) c.open_file.ensures.opened)
    c.in-Ok.ensures.ok c.new-answers.ensures c.end.ensures.ends

pub returns-in-Ok-clause-end : goal.returns-in-Ok-clause-end
returns-in-Ok-clause-end g c = read_to_end _ _ _ c.end.ensures.ends c.in-Ok.ensures.end
