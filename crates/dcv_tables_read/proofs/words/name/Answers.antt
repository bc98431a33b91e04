use Rattle.std.proofs.Common.{take}
use Rattle.dcv_automaton_lines.proofs.WordSets.{passes, front_at, cut_at}
use Rattle.dcv_tables_read.proofs.NameLists.{no_name_stuck, name_end_stuck, word_is}
use Rattle.dcv_tables_read.proofs.words.name.Goals as goal

pub returns-then-size-eq0-clause-fault : goal.returns-then-size-eq0-clause-fault
returns-then-size-eq0-clause-fault c =
    no_name_stuck c.args.behind.now c.args.text.now c.word_length-size.result c.if-size-eq0.true c.word_length-size.ensures.ends

pub returns-in_err-rest-clause-fault : goal.returns-in_err-rest-clause-fault
returns-in_err-rest-clause-fault c =
    let size = c.word_length-size.result in
    let text = c.args.text.now in
    passes _ _ _ c.in_err-rest.field-0.0 c.from_residual.ensures.1
    (name_end_stuck c.args.behind.now (take size text) _ _ text c.requires (word_is size text c.if-size-eq0.false c.word_length-size.ensures.within c.word_length-size.ensures.all)
    (front_at _ text size c.word_length-size.ensures.ends) (cut_at text size) c.in_err-rest.ensures.fault)

pub returns-clause-word : goal.returns-clause-word
returns-clause-word c = word_is c.word_length-size.result c.args.text.now c.if-size-eq0.false c.word_length-size.ensures.within c.word_length-size.ensures.all
