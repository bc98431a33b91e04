use Rattle.dcv_replay.proofs.Following.{follows_letter, accepts_letter}
use Rattle.dcv_replay.proofs.replay.Replay.step.Goals as goal

pub returns-clause-follows : goal.returns-clause-follows
returns-clause-follows c = λ observer before follows. follows_letter follows c.args.letter.now c.requires c.advance.ensures.after

pub returns-clause-accepts : goal.returns-clause-accepts
returns-clause-accepts c = λ observer before follows. accepts_letter follows c.args.letter.now c.requires c.advance.ensures.answer
