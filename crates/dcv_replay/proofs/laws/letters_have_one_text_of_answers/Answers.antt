use Rattle.dcv_replay.proofs.AnswerLaws.{one_text, answers_of_front, good_lines_are_answered}
use Rattle.dcv_replay.proofs.laws.letters_have_one_text_of_answers.Goals as goal

pub returns-clause-one : goal.returns-clause-one
returns-clause-one c observer before letters text other is is' = one_text letters observer before text other is is'

pub returns-clause-front : goal.returns-clause-front
returns-clause-front c observer before letters more text whole is is' = answers_of_front letters observer before more text whole is is'

pub returns-clause-some : goal.returns-clause-some
returns-clause-some c = good_lines_are_answered c.one_trace.ensures.some c.one_trace.ensures.only
