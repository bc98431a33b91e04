use Rattle.std.proofs.Common.{◌∷◌, [], subst}
use Rattle.std.specs.Prelude.{List, ℕ, OnOk, OnErr}
use Rattle.dcv_io.specs.Written.{Appends, AppendsStrictPrefix}
use Rattle.dcv_io.proofs.Putting.{puts_written}
use Rattle.dcv_io.proofs.block.Block.flush.Goals as goal

pub returns-clause-puts : goal.returns-clause-puts
returns-clause-puts g c =
    let sink = c.args.self.now.sink in
    let old = g.S.Sink.written sink.now in
    let new = g.S.Sink.written c.write_all.new.sink in
    rw (c.if-self.false, c.clear-2.ensures, c.is_err-self.ensures.value)
    (puts_written (sink.ghost_name ∷ []) old new (g.S.Sink.faults sink.now) (g.S.Sink.faults c.write_all.new.sink)
    (g.S.Sink.last_failed sink.now) (g.S.Sink.last_failed c.write_all.new.sink) c.args.self.now.held c.write_all.result
    (subst (λ (held : List ℕ). OnOk c.write_all.result (Appends old new held)) c.as_slice.ensures c.write_all.ensures.ok)
    (subst (λ (held : List ℕ). OnErr c.write_all.result (AppendsStrictPrefix old new held)) c.as_slice.ensures c.write_all.ensures.failed)
    c.write_all.ensures.faults c.write_all.ensures.once c.write_all.ensures.stops)
