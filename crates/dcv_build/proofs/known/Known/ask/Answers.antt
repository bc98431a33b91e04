use Rattle.std.proofs.Common.{Ok, sym, subst}
use Rattle.dcv_explore.specs.declared.explorer.Limits.{Limits}
use Rattle.dcv_build.specs.Asked.{KnownValue, asked_row, IsAnswer}
use Rattle.dcv_build.specs.Settled.{Answers}
use Rattle.dcv_build.proofs.Answered.{for_put, put_answers, answer_of}
use Rattle.dcv_build.proofs.known.Known.ask.Goals as goal

pub remember-requires : goal.remember-requires
remember-requires c =
    let old = c.args.self.now in
    let new = c.put.new.self in
    let row = asked_row old.tables c.args.asked in
    subst (λ (limits : Limits). IsAnswer new.tables limits c.args.asked c.in_ok-answer.answer) (sym c.put.ensures.limits)
    (answer_of old.tables new.tables c.put.ensures.kept old.limits c.args.asked c.in_ok-answer.answer c.requires
    (for_put row.machine row.parts old.limits c.args.step new.tables c.in_ok-explored.explored c.in_ok-made.made c.in_ok-answer.answer c.in_ok-explored.ensures.built c.in_ok-made.ensures c.in_ok-answer.ensures.put))

pub returns-clause-answers : goal.returns-clause-answers
returns-clause-answers c =
    let old = c.args.self.now in
    let row = asked_row old.tables c.args.asked in
    subst (λ (known : KnownValue). Answers row.machine row.parts old.limits c.args.step known.tables (Ok c.in_ok-answer.answer)) (sym c.remember.ensures)
    (put_answers row.machine row.parts old.limits c.args.step c.put.new.self.tables c.in_ok-explored.explored c.in_ok-made.made c.in_ok-answer.answer c.in_ok-explored.ensures.built
    c.in_ok-made.ensures c.in_ok-answer.ensures.put)
