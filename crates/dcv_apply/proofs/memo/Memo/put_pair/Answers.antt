use Rattle.dcv_apply.specs.Remembered.{entry_of_pair}
use Rattle.dcv_apply.proofs.MemoFacts.{kept_adds}
use Rattle.dcv_apply.proofs.memo.Memo.put_pair.Goals as goal

pub returns-clause-adds : goal.returns-clause-adds
returns-clause-adds c = kept_adds (entry_of_pair (c.args.pair, c.args.root)) c.args.self.now c.turn.new.self c.add_pair.new.self c.turn.ensures.kept c.add_pair.ensures.adds
