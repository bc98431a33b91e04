use Rattle.std.proofs.Common.{sym, ap, subst, length, List, Bool, arith}
use Rattle.dcv_arena.specs.Arena.{ArenaValue}
use Rattle.dcv_synth.specs.Answered.{IsAnswer, AreAnswers}
use Rattle.dcv_arena.specs.declared.nodes.Ref.TheVariants.{Place}
use Rattle.dcv_synth.proofs.Answering.{answers_more, answers_longer}
use Rattle.dcv_synth.proofs.answers.Answers.new.Goals as goal

pub of_node-answer-requires-clause-answers : goal.of_node-answer-requires-clause-answers
of_node-answer-requires-clause-answers c =
    let is = c.loop-place.invariant in
    subst (λ (parts : ArenaValue × List Bool). AreAnswers parts.0 parts.1 c.loop-place.all.answers.items) (λ i. (sym is.0 i, sym is.1 i)) is.2

pub loop-place-preserved : goal.loop-place-preserved
loop-place-preserved c =
    let is = c.loop-place.invariant in
    let all = c.loop-place.all in
    let node : IsAnswer c.args.arena.now c.args.win.now (Place c.loop-place.place) c.of_node-answer.result =
    subst (λ (parts : ArenaValue × List Bool). IsAnswer parts.0 parts.1 (Place c.loop-place.place) c.of_node-answer.result) (λ i. (is.0 i, is.1 i)) c.of_node-answer.ensures in (
      is.0,
      is.1,
      subst (AreAnswers c.args.arena.now c.args.win.now) (sym c.in_ok-push.ensures.items)
          (answers_more c.args.arena.now c.args.win.now all.answers.items c.loop-place.place c.of_node-answer.result is.2 is.3 node),
      omega (arith, is.3, ap length c.in_ok-push.ensures.items, answers_longer all.answers.items c.of_node-answer.result),
    )
