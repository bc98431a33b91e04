use Rattle.std.proofs.Common.{◌∙◌, ℕ, ◌<◌, List, length, take, sym, ap, subst, arith}
use Rattle.dcv_lexer.specs.Lexicon.{lexicon_of}
use Rattle.dcv_observer.proofs.Lefts.{IsStray, is_stray, stray_gives}
use Rattle.dcv_observer.proofs.items.Items.stray.Goals as goal

pub returns-clause-gives : goal.returns-clause-gives
returns-clause-gives c =
    let old = c.args.self.now in
    let some : 0 < length old.lexer.rest.now = grind (arith, c.is_empty.ensures, c.if-is_empty.false, c.rest-rest.ensures) in
    let stray = is_stray old.lexer c.new-self.result c.requires some c.new-self.ensures.all in
    stray_gives old _ _
    (subst (λ (rest : List ℕ). IsStray old.lexer (take 1 rest) c.new-self.result) (sym c.rest-rest.ensures) stray)
    c.start-start.ensures (ap (λ tables. tables.unknown) c.lexicon-lexicon.ensures) (ap lexicon_of (c.new-self.ensures.lexicon ∙ c.lexicon-lexicon.ensures))
