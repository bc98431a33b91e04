use Rattle.std.proofs.Common.{◌<◌, subst, sym, arith}
use Rattle.std.specs.List.{All}
use Rattle.std.proofs.lemmas.List.Elements.{All-push}
use Rattle.dcv_minimise.proofs.Pushed.{each_more}
use Rattle.dcv_minimise.proofs.refine.every_state.Goals as goal

pub loop-state-preserved : goal.loop-state-preserved
loop-state-preserved c =
    let was = c.loop-state.invariant in
    record {
      each = each_more c.loop-state.all.items c.push.new.self.items c.loop-state.state c.in_ok-push.ensures.items was.each;
      only = subst (All (λ state. state < c.args.states)) (sym c.in_ok-push.ensures.items)
          (All-push (λ state. state < c.args.states) c.loop-state.all.items c.loop-state.state was.only (omega arith));
    }
