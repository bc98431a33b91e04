use Rattle.std.proofs.Common.{◌≡◌, ℕ, ◌+◌, ◌-◌, List, [], ap, ◌∙◌, Some, Err, arith}
use Rattle.dcv_automaton_text.specs.Rules.{judged_words}
use Rattle.dcv_automaton_text.specs.Spelled.{spelled}
use Rattle.dcv_automaton_lines.specs.Seen.{file_of}
use Rattle.dcv_automaton_read.specs.Judged.{first_word}
use Rattle.dcv_automaton_read.specs.Starts.{start_of_word}
use Rattle.dcv_automaton_read.proofs.HeadWords.{judged_stop}
use Rattle.dcv_automaton_read.proofs.TextWords.{text_in, none_broken, broken_at}
use Rattle.dcv_automaton_read.proofs.rules.good_nodes.Goals as goal

pub returns-in-Ok-clause-judged : goal.returns-in-Ok-clause-judged
returns-in-Ok-clause-judged c = none_broken (judged_words (file_of c.args.lines.now)) 0 0 c.in-Ok.ensures.judged

pub returns-in-Err-Word-clause-judged : goal.returns-in-Err-Word-clause-judged
returns-in-Err-Word-clause-judged c =
    let file = file_of c.args.lines.now in
    let text = spelled file in
    let number = c.in-Err-Word.number in
    let stopped = judged_stop (first_word 0 (judged_words file)) c.judge_lines.result number (c.in-Err-Word.is ∙ ap Err c.in-Err-Word.field-0-is) c.judge_lines.ensures.judged in
    let broken = broken_at (judged_words file) text [] 0 0 number (text_in file c.requires.form.spellable) stopped in
    let whole : number - 0 ≡ number = omega arith in
    let from : 0 + start_of_word text (number - 0) ≡ c.start_of_word.result =
    omega (arith, ap (start_of_word text) whole, ap (λ (all : List ℕ). start_of_word all number) c.requires.form.spelled, c.start_of_word.ensures) in
    broken.1 ∙ ap Some from
