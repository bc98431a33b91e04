-- What is right for the trace, after the observer, is right for both.
use Rattle.dcv_cli.proofs.Common.{refl, [], ◌∷◌, ◌+◌, err_from_is_err_and, IsReplay, OnHeld, OnObserver, Only}
use Rattle.dcv_replay.specs.Coming.{most_reads}
use Rattle.dcv_cli.specs.ObserverFile.{Refused}
use Rattle.dcv_cli.specs.Replayed.{OfObserver}
use Rattle.dcv_cli.proofs.Replays.{fulfils_replay, keeps_the_rules, leaves_replay}
use Rattle.dcv_cli.proofs.ThreeEnds.{explains_first, for_any, performs_only}
use Rattle.dcv_cli.proofs.TwoFiles.{performs_later}
use Rattle.dcv_cli.proofs.replay.replay_file.Goals as goal

pub returns-in_err-replay : goal.returns-in_err-replay
returns-in_err-replay g c =
    let p = err_from_is_err_and c.from_residual.result c.from_residual.ensures.1 in
    let refusal = c.in_err-replay.field-0.0 in
    let taken = c.in_err-replay.ensures.taken in
    rw (p.1, p.2) (performs_only _ _ (c.args.trace.now ∷ []) refusal (1 + most_reads) taken _
    (explains_first _ _ (λ held text. OnObserver c.args.subset text (λ one. OnHeld (held 1) c.args.trace.now (IsReplay one))) Only refusal _ (λ held text is. Refused refusal is refl) c.in_err-replay.ensures.refused)
    (for_any _ _ (λ held. OfObserver taken.asked taken.bytes refl)))

pub returns : goal.returns
returns g c =
    let taken = c.in_ok-replay.ensures.taken in
    let known = c.in_ok-replay.ensures.observer in
    performs_later taken _
    (fulfils_replay c.args.subset _ c.args.observer.now c.args.trace.now _ known.text known.is.observer taken.held known.there known.is.is)
    c.answer_trace.result (c.args.trace.now ∷ []) (1 + most_reads) _
    (λ bytes left. leaves_replay c.args.subset c.args.observer.now c.args.trace.now known.text known.is.observer _ _ _ _ _ bytes taken.asked taken.held known.there known.is.is left)
    (c.answer_trace.ensures known.is.observer (keeps_the_rules c.read_units_keep_the_rules.ensures c.args.subset known.text known.is.observer known.is.is) known.is.follows)
