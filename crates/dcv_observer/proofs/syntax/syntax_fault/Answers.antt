use Rattle.std.proofs.Common.{Some, None, length}
use Rattle.dcv_grammar.specs.Grammar.{grammar_of}
use Rattle.dcv_lexer.specs.Lexicon.{lexicon_of}
use Rattle.dcv_observer.proofs.Faults.{at_start, item_refused, item_taken, end_refused, end_reached, one_found}
use Rattle.dcv_observer.proofs.syntax.syntax_fault.Goals as goal

pub loop-item-init : goal.loop-item-init
loop-item-init c =
    at_start (lexicon_of c.args.lexicon.now) c.args.grammar.now c.args.text.now c.in_ok-reading.reading c.new-items.result
    c.in_ok-reading.ensures.grammar c.new-items.ensures.lexicon c.new-items.ensures.all c.in_ok-reading.ensures.taken

pub returns-then-not-branch-clause-verdict : goal.returns-then-not-branch-clause-verdict
returns-then-not-branch-clause-verdict c =
    item_refused (lexicon_of c.args.lexicon.now) c.args.grammar.now c.args.text.now c.loop-item.reading c.loop-item.items c.loop-item.invariant
    c.in-Some.item c.next.new.self c.take.new.self c.in_ok-take.field-0 c.in-Some.ensures.steps c.take.ensures.grammar c.in_ok-take.ensures.taken
    c.if-not-branch.true

pub returns-then-not-branch-clause-only : goal.returns-then-not-branch-clause-only
returns-then-not-branch-clause-only c = λ other v.
    one_found (lexicon_of c.args.lexicon.now) (grammar_of c.args.grammar.now) c.args.text.now other (Some c.in-Some.item.start) v
    (returns-then-not-branch-clause-verdict c)

pub loop-item-preserved : goal.loop-item-preserved
loop-item-preserved c =
    item_taken (lexicon_of c.args.lexicon.now) c.args.grammar.now c.args.text.now c.loop-item.reading c.loop-item.items c.loop-item.invariant
    c.in-Some.item c.next.new.self c.take.new.self c.in_ok-take.field-0 c.in-Some.ensures.steps c.take.ensures.grammar c.in_ok-take.ensures.taken
    c.if-not-branch.false

pub returns-then-not-branch-2-clause-verdict : goal.returns-then-not-branch-2-clause-verdict
returns-then-not-branch-2-clause-verdict c =
    end_refused (lexicon_of c.args.lexicon.now) c.args.grammar.now c.args.text.now c.loop-item.reading c.loop-item.items c.loop-item.invariant
    c.in_ok-end.field-0 c.in_default.ensures.steps c.in_ok-end.ensures c.if-not-branch-2.true

pub returns-then-not-branch-2-clause-only : goal.returns-then-not-branch-2-clause-only
returns-then-not-branch-2-clause-only c = λ other v.
    one_found (lexicon_of c.args.lexicon.now) (grammar_of c.args.grammar.now) c.args.text.now other (Some (length c.args.text.now)) v
    (returns-then-not-branch-2-clause-verdict c)

pub returns-clause-verdict : goal.returns-clause-verdict
returns-clause-verdict c =
    end_reached (lexicon_of c.args.lexicon.now) c.args.grammar.now c.args.text.now c.loop-item.reading c.loop-item.items c.loop-item.invariant
    c.in_ok-end.field-0 c.in_default.ensures.steps c.in_ok-end.ensures c.if-not-branch-2.false

pub returns-clause-only : goal.returns-clause-only
returns-clause-only c = λ other v.
    one_found (lexicon_of c.args.lexicon.now) (grammar_of c.args.grammar.now) c.args.text.now other None v (returns-clause-verdict c)
