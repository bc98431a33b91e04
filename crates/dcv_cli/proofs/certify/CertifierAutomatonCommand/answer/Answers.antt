-- What is answered of the automaton is what is right for its text.
use Rattle.dcv_cli.proofs.Common.{ap, refl, line, answer_words, status_of_answer}
use Rattle.dcv_cli.proofs.Certificates.{answers_end}
use Rattle.dcv_cli.proofs.ThreeEnds.{answers_reply}
use Rattle.dcv_cli.proofs.certify.CertifierAutomatonCommand.answer.Goals as goal

pub returns : goal.returns
returns g c =
    let answer = c.in_ok-answer.answer in
    answers_reply _ _ _ (status_of_answer answer) (line (answer_words c.states.result answer))
    (record {
      answer = answer;
      is = c.in_ok-answer.ensures.answer;
      fewest = c.in_ok-answer.ensures.fewest;
      reached = c.in_ok-answer.ensures.reached;
      status = refl;
      says = ap (λ count. line (answer_words count answer)) c.states.ensures;
      no_message = refl;
    })
    (answers_end answer) _ c.status.ensures _ c.reply_with.ensures
