use Rattle.dcv_apply.specs.Remembered.{entry_of}
use Rattle.dcv_apply.proofs.MemoFacts.{kept_adds}
use Rattle.dcv_apply.proofs.memo.Memo.put.Goals as goal

pub returns-clause-adds : goal.returns-clause-adds
returns-clause-adds c = kept_adds (entry_of (c.args.key, c.args.root)) c.args.self.now c.forget_lists.new.self c.add.new.self c.forget_lists.ensures.kept c.add.ensures.adds
