use Rattle.std.proofs.Common.{◌≡◌, ◌∙◌, ◌+◌, sym, refl}
use Rattle.dcv_lexer.specs.declared.reading.Lexer.{Lexer}
use Rattle.dcv_lexer.specs.Fronts.{IsFront}
use Rattle.dcv_lexer.specs.Reading.{lexicon_in}
use Rattle.dcv_lexer.proofs.Lexers.{IsBehind, passed_blank, gives_one}
use Rattle.dcv_lexer.proofs.reading.LexerIterator.next.Goals as goal
use Rattle.dcv_lexer.proofs.reading.LexerIterator.next.Goals.{After-split_at}

piece : (c : After-split_at) → IsFront (lexicon_in c.loop-front.self) c.loop-front.self.rest.now c.in-Some.front
piece c = c.in-Some.ensures.some

behind : (c : After-split_at) (new : Lexer) → new.lexicon.now ≡ c.loop-front.self.lexicon.now → new.rest.now ≡ c.split_at.result.1.now
    → new.start ≡ c.loop-front.self.start + c.in-Some.front.length → IsBehind c.loop-front.self c.split_at.result.0.now new
behind c new lexicon rest start = record {
  lexicon = rw lexicon refl;
  first = rw c.split_at.ensures.front (piece c).longest;
  parts = rw rest c.split_at.ensures.by_index.0;
  start = rw (start, c.split_at.ensures.front_len) refl;
}

pub returns-in-Some-class-clause-steps : goal.returns-in-Some-class-clause-steps
returns-in-Some-class-clause-steps c =
    let at = (goal.at.returns-in-Some-class-clause-steps c).After-split_at in
    gives_one c.args.self.now c.loop-front.self _ _ c.loop-front.invariant (behind at _ refl refl refl) refl
    (rw c.split_at.ensures.front (sym (piece at).class ∙ c.in-Some-class.is))

pub loop-front-preserved : goal.loop-front-preserved
loop-front-preserved c =
    let at = (goal.at.loop-front-preserved c).After-split_at in
    passed_blank c.args.self.now c.loop-front.self _ c.split_at.result.0.now c.loop-front.invariant (behind at _ refl refl refl)
    (rw c.split_at.ensures.front (sym (piece at).class ∙ c.in_default-class.is))
