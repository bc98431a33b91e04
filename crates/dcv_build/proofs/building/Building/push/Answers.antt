use Rattle.std.proofs.Common.{sym, subst}
use Rattle.std.proofs.lemmas.Result.{on_ok_weaker}
use Rattle.dcv_build.specs.Asked.{AreThere}
use Rattle.dcv_build.proofs.Moves.{push_there, is_pushed}
use Rattle.dcv_build.proofs.building.Building.push.Goals as goal

pub returns-clause-built : goal.returns-clause-built
returns-clause-built c =
    let old = c.args.self.now in
    let tables = old.known.tables in
    on_ok_weaker c.note.result (λ noted. record {
      there = subst (AreThere tables) (sym c.in_ok-push.ensures.items) (push_there tables old.waiting.items c.args.answer.number c.requires.there c.requires.number);
      built = is_pushed c.args.core.now c.args.step old.known.limits tables old.waiting.items _ old.counts.items _ c.args.answer c.in_ok-push.ensures.items noted c.requires.goes;
    }) c.note.ensures
