use Rattle.std.proofs.Common.{List, sym, subst}
use Rattle.dcv_lexer.specs.Lexicon.{lexicon_of}
use Rattle.dcv_lexer.specs.Cuts.{Token}
use Rattle.dcv_observer.specs.Items.{HasItems}
use Rattle.dcv_observer.specs.Left.{items_from}
use Rattle.dcv_observer.proofs.Cutting.{has_items}
use Rattle.dcv_observer.proofs.items.Items.new.Goals as goal

pub returns-clause-all : goal.returns-clause-all
returns-clause-all c =
    let text = c.args.text.now in
    let lexicon = lexicon_of c.args.lexicon.now in
    subst (λ (items : List Token). HasItems lexicon text items)
    (λ i. items_from (lexicon_of (sym c.new.ensures.lexicon i)) (sym c.new.ensures.from i) (sym c.new.ensures.all i)) (has_items lexicon text)
