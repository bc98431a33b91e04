use Rattle.std.proofs.Common.{length, map, reverse, refl, ap, sym, subst, ◌∙◌}
use Rattle.dcv_grammar.specs.Grammar.{grammar_of}
use Rattle.dcv_lexer.specs.Lexicon.{lexicon_of}
use Rattle.dcv_lexer.specs.Cuts.{Token}
use Rattle.dcv_observer.specs.declared.items.Item.{Item}
use Rattle.dcv_translation.specs.UnderWay.{Takes}
use Rattle.dcv_observer.proofs.Within.{begun, ready, class_is, item_refused, item_taken, part_found, end_refused}
use Rattle.dcv_observer.proofs.translation.translate.Goals as goal

pub loop-item-init : goal.loop-item-init
loop-item-init g c =
    let machine = c.in_ok-machine.machine in (
      c.in_ok-machine.ensures.grammar,
      begun g.T.Translation.scheme (lexicon_of c.args.lexicon.now) c.requires.class c.args.text.now (reverse machine.steps.items)
          (map g.T.Translation.meaning machine.parts.items) c.new-items.result
          (ap reverse c.in_ok-machine.ensures.steps) (ap (map g.T.Translation.meaning) c.in_ok-machine.ensures.parts)
          c.new-items.ensures.lexicon c.new-items.ensures.all,
    )

pub take-requires : goal.take-requires
take-requires g c =
    let scheme = g.T.Translation.scheme in
    let meaning = g.T.Translation.meaning in
    let lexicon = lexicon_of c.args.lexicon.now in
    let machine = c.loop-item.machine in
    let steps = reverse machine.steps.items in
    let parts = map meaning machine.parts.items in
    let within = c.loop-item.invariant.1 in
    λ κs. (
      (refl, tt),
      (
        c.loop-item.invariant.0,
        (
          c.in_ok-machine.ensures.predictive,
          (
            class_is scheme lexicon c.requires.class c.args.text.now steps parts c.loop-item.items within c.in-Some.item c.next.new.self c.in-Some.ensures.steps
                ∙ ap (λ (see : Item → Token). scheme.class (see c.in-Some.item)) (sym c.requires.seen),
            ready scheme lexicon c.requires.class c.args.text.now steps parts c.loop-item.items within,
          ),
        ),
      ),
    )

pub returns-then-not-branch-clause-fault : goal.returns-then-not-branch-clause-fault
returns-then-not-branch-clause-fault g c = λ other.
    let scheme = g.T.Translation.scheme in
    let meaning = g.T.Translation.meaning in
    let lexicon = lexicon_of c.args.lexicon.now in
    let machine = c.loop-item.machine in
    let steps = reverse machine.steps.items in
    let parts = map meaning machine.parts.items in
    let within = c.loop-item.invariant.1 in
    let new = c.take.new.self in
    let told = subst (λ (see : Item → Token). Takes scheme (see c.in-Some.item) c.in_ok-take.field-0 steps parts (reverse new.steps.items) (map meaning new.parts.items))
    c.requires.seen c.in_ok-take.ensures.taken in
    let is = item_refused scheme lexicon c.requires.class c.args.text.now steps parts c.loop-item.items within c.in-Some.item c.next.new.self c.in-Some.ensures.steps
    c.in_ok-take.field-0 (reverse new.steps.items) (map meaning new.parts.items) told c.in_ok-machine.ensures.predictive c.if-not-branch.true in
    (c.in-Some.item.start, refl, is)

pub loop-item-preserved : goal.loop-item-preserved
loop-item-preserved g c =
    let scheme = g.T.Translation.scheme in
    let meaning = g.T.Translation.meaning in
    let lexicon = lexicon_of c.args.lexicon.now in
    let machine = c.loop-item.machine in
    let steps = reverse machine.steps.items in
    let parts = map meaning machine.parts.items in
    let within = c.loop-item.invariant.1 in
    let new = c.take.new.self in
    let told = subst (λ (see : Item → Token). Takes scheme (see c.in-Some.item) c.in_ok-take.field-0 steps parts (reverse new.steps.items) (map meaning new.parts.items))
    c.requires.seen c.in_ok-take.ensures.taken in (
      ap grammar_of c.take.ensures.grammar ∙ c.loop-item.invariant.0,
      item_taken scheme lexicon c.requires.class c.args.text.now steps parts c.loop-item.items within c.in-Some.item c.next.new.self c.in-Some.ensures.steps
          c.in_ok-take.field-0 (reverse new.steps.items) (map meaning new.parts.items) told c.if-not-branch.false,
    )

pub finish-requires : goal.finish-requires
finish-requires g c =
    let scheme = g.T.Translation.scheme in
    let meaning = g.T.Translation.meaning in
    let lexicon = lexicon_of c.args.lexicon.now in
    let machine = c.loop-item.machine in
    let steps = reverse machine.steps.items in
    let parts = map meaning machine.parts.items in
    let within = c.loop-item.invariant.1 in
    λ κs. (
      (refl, tt),
      (
        c.loop-item.invariant.0,
        (
          c.in_ok-machine.ensures.predictive,
          ready scheme lexicon c.requires.class c.args.text.now steps parts c.loop-item.items within,
        ),
      ),
    )

pub returns-in-Some-2-clause-part : goal.returns-in-Some-2-clause-part
returns-in-Some-2-clause-part g c =
    let scheme = g.T.Translation.scheme in
    let meaning = g.T.Translation.meaning in
    let lexicon = lexicon_of c.args.lexicon.now in
    let machine = c.loop-item.machine in
    let steps = reverse machine.steps.items in
    let parts = map meaning machine.parts.items in
    let within = c.loop-item.invariant.1 in
    part_found scheme lexicon c.requires.class c.args.text.now steps parts c.loop-item.items within c.in_default.ensures.steps meaning c.in_ok-part.field-0
    c.in_ok-part.ensures.whole c.in-Some-2.part c.in-Some-2.is c.in_ok-part.ensures.ended

pub returns-clause-fault : goal.returns-clause-fault
returns-clause-fault g c = λ other.
    let scheme = g.T.Translation.scheme in
    let meaning = g.T.Translation.meaning in
    let lexicon = lexicon_of c.args.lexicon.now in
    let machine = c.loop-item.machine in
    let steps = reverse machine.steps.items in
    let parts = map meaning machine.parts.items in
    let within = c.loop-item.invariant.1 in
    let is = end_refused scheme lexicon c.requires.class c.args.text.now steps parts c.loop-item.items within c.in_default.ensures.steps meaning c.in_ok-part.field-0
    c.in_ok-part.ensures.whole c.in_ok-machine.ensures.predictive c.in_default-2.is in
    (length c.args.text.now, refl, is)
