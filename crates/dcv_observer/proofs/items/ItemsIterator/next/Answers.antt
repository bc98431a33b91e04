use Rattle.std.proofs.Common.{◌∙◌, refl, ap}
use Rattle.dcv_lexer.specs.Lexicon.{lexicon_of}
use Rattle.dcv_observer.specs.Classes.{class_of}
use Rattle.dcv_observer.proofs.Lefts.{same_left, from_there, token_gives}
use Rattle.dcv_observer.proofs.items.ItemsIterator.next.Goals as goal

pub returns-in_default-clause-steps : goal.returns-in_default-clause-steps
returns-in_default-clause-steps c =
    let none = c.in_default.ensures.steps in
    from_there c.args.self.now (record { lexer = c.next.new.self }) c.stray.new.self c.stray.result
    (same_left c.args.self.now.lexer c.next.new.self none) none.further.lexicon c.stray.ensures.gives

pub returns-clause-steps : goal.returns-clause-steps
returns-clause-steps c =
    token_gives c.args.self.now c.in-Some.field-0 _ (record { lexer = c.next.new.self }) c.in-Some.ensures.steps refl
    (c.class_within-class.ensures ∙ ap (λ tables. class_of (lexicon_of tables) c.in-Some.field-0.bytes.now) c.lexicon-lexicon.ensures)
