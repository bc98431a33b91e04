use Rattle.std.proofs.Common.{subst}
use Rattle.std.proofs.lemmas.Option.{slice_get_within}
use Rattle.dcv_build.specs.Asked.{KnownValue, asked_row, ServesAsked}
use Rattle.dcv_build.proofs.Recalled.{recalled_serves}
use Rattle.dcv_build.proofs.Settled.{settled_serves}
use Rattle.dcv_build.proofs.known.Known.make.Goals as goal

pub recall-requires : goal.recall-requires
recall-requires c = slice_get_within c.args.self.now.tables c.in-Some.answer.number c.in-Some.ensures.is_for.one c.in-Some.ensures.is_for.there

pub returns-in_ok-recall-in-Some-clause-serves : goal.returns-in_ok-recall-in-Some-clause-serves
returns-in_ok-recall-in-Some-clause-serves c =
    let old = c.args.self.now in
    let row = asked_row old.tables c.args.asked in
    record {
      built = recalled_serves c.one_canonical_table.ensures row.machine row.parts old.limits old.tables c.in-Some.answer c.in_ok-recall-in-Some.field-0 c.in-Some.ensures.is_for c.in_ok-recall-in-Some.ensures;
      over = tt;
    }

pub returns-in-None-clause-serves : goal.returns-in-None-clause-serves
returns-in-None-clause-serves c =
    let known = c.count.new.self in
    subst (λ (known : KnownValue). ServesAsked known.tables c.args.asked known.limits c.args.step c.explore.result) c.count.ensures
    (settled_serves (asked_row known.tables c.args.asked) known.limits c.args.step c.explore.result c.explore.ensures)
