use Rattle.std.proofs.Common.{◌∙◌, take, length, map, true, false, sym, subst, Some, None, arith}
use Rattle.std.proofs.lemmas.List.{length-map}
use Rattle.dcv_grammar.specs.Grammar.{grammar_of, IsViable}
use Rattle.dcv_grammar.specs.Taking.{HasTaken, IsEnded}
use Rattle.dcv_grammar.proofs.Steps.{one_verdict}
use Rattle.dcv_grammar.proofs.Stacks.{classes_more, classes_all}
use Rattle.dcv_grammar.proofs.Readings.{taken_is_kept, none_begins, fault_here, fault_past}
use Rattle.dcv_grammar.proofs.reader.first_fault.Goals as goal

pub returns-then-not-branch-clause-verdict : goal.returns-then-not-branch-clause-verdict
returns-then-not-branch-clause-verdict g c =
    let classes = map g.T.Classified.class_of c.args.tokens.now in
    let place = c.loop-place.place in
    let taken = c.loop-place.invariant.taken in
    let more = classes_more g.T.Classified.class_of c.args.tokens.now place c.index-tokens-place.result c.class.result c.loop-place-test.true c.index-tokens-place.is c.class.ensures in
    fault_here (grammar_of c.args.grammar.now) classes place c.class.result (omega (arith, length-map c.args.tokens.now g.T.Classified.class_of, c.loop-place-test.true)) more
    (subst (λ t. IsViable (grammar_of t) (take place classes)) c.loop-place.invariant.grammar taken.viable)
    (none_begins c.loop-place.reading c.take.new.self c.args.grammar.now c.take.ensures.grammar c.loop-place.invariant.grammar c.in_ok-take.field-0 _
    (c.in_ok-take.ensures.taken (take place classes) taken) c.if-not-branch.true)

pub returns-then-not-branch-clause-only : goal.returns-then-not-branch-clause-only
returns-then-not-branch-clause-only g c = λ other v.
    one_verdict (grammar_of c.args.grammar.now) (map g.T.Classified.class_of c.args.tokens.now) other (Some c.loop-place.place) v (returns-then-not-branch-clause-verdict g c)

pub loop-place-preserved : goal.loop-place-preserved
loop-place-preserved g c =
    let classes = map g.T.Classified.class_of c.args.tokens.now in
    let place = c.loop-place.place in
    let more = classes_more g.T.Classified.class_of c.args.tokens.now place c.index-tokens-place.result c.class.result c.loop-place-test.true c.index-tokens-place.is c.class.ensures in
    record {
      grammar = c.take.ensures.grammar ∙ c.loop-place.invariant.grammar;
      taken = subst (HasTaken c.take.new.self) (sym more)
          (taken_is_kept c.loop-place.reading c.take.new.self c.args.grammar.now c.take.ensures.grammar c.loop-place.invariant.grammar c.in_ok-take.field-0 _
          (c.in_ok-take.ensures.taken (take place classes) c.loop-place.invariant.taken) c.if-not-branch.false);
    }

pub returns-then-not-branch-2-clause-verdict : goal.returns-then-not-branch-2-clause-verdict
returns-then-not-branch-2-clause-verdict g c =
    let grammar = grammar_of c.args.grammar.now in
    let tokens = c.args.tokens.now in
    let classes = map g.T.Classified.class_of tokens in
    let all = classes_all g.T.Classified.class_of tokens c.loop-place.place c.loop-place-test.false in
    let taken = subst (HasTaken c.loop-place.reading) all c.loop-place.invariant.taken in
    fault_past grammar classes (length tokens) (sym (length-map tokens g.T.Classified.class_of))
    (subst (λ t. IsViable (grammar_of t) classes) c.loop-place.invariant.grammar taken.viable)
    (subst (λ t. IsEnded false (grammar_of t) classes) c.loop-place.invariant.grammar
    (subst (λ whole. IsEnded whole (grammar_of c.loop-place.reading.grammar) classes) c.if-not-branch-2.true (c.in_ok-end.ensures classes taken)))

pub returns-then-not-branch-2-clause-only : goal.returns-then-not-branch-2-clause-only
returns-then-not-branch-2-clause-only g c = λ other v.
    one_verdict (grammar_of c.args.grammar.now) (map g.T.Classified.class_of c.args.tokens.now) other (Some (length c.args.tokens.now)) v
    (returns-then-not-branch-2-clause-verdict g c)

pub returns-clause-verdict : goal.returns-clause-verdict
returns-clause-verdict g c =
    let tokens = c.args.tokens.now in
    let classes = map g.T.Classified.class_of tokens in
    let all = classes_all g.T.Classified.class_of tokens c.loop-place.place c.loop-place-test.false in
    let taken = subst (HasTaken c.loop-place.reading) all c.loop-place.invariant.taken in
    subst (λ t. IsEnded true (grammar_of t) classes) c.loop-place.invariant.grammar
    (subst (λ whole. IsEnded whole (grammar_of c.loop-place.reading.grammar) classes) c.if-not-branch-2.false (c.in_ok-end.ensures classes taken))

pub returns-clause-only : goal.returns-clause-only
returns-clause-only g c = λ other v.
    one_verdict (grammar_of c.args.grammar.now) (map g.T.Classified.class_of c.args.tokens.now) other None v (returns-clause-verdict g c)
