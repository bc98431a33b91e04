-- The grammar of nested lists that the tests' tables have.
use Rattle.std.proofs.Common.{◌≡◌, ℕ, List, [], ◌∷◌, ◌++◌, map, refl, ap, ◌∙◌}
use Rattle.dcv_grammar.specs.declared.grammar.Production.{Production as ProductionTable}
use Rattle.dcv_grammar.specs.Grammar.{ContextFree, Production, production_of}
use Rattle.dcv_grammar.specs.Predictive.{IsPredictive}
use Rattle.dcv_text_tests.specs.Examples.{lists, item, items, more}

abbrev pub itself : ℕ → ℕ
itself class = class

pub predictive : IsPredictive lists
unfolding lists IsPredictive
predictive = refl

-- the grammar that the tables have
pub tables_are : (a b : List ProductionTable) → map production_of a ≡ item ∷ [] → map production_of b ≡ items ∷ more ∷ [] → record { start = 0; productions = map production_of a ++ (map production_of b ++ []) } ≡ lists
unfolding lists
tables_are a b ea eb =
    let grammar : List Production → ContextFree = λ rules. record { start = 0; productions = rules } in
    ap (λ rules. grammar (rules ++ (map production_of b ++ []))) ea ∙ ap (λ rules. grammar (item ∷ (rules ++ []))) eb
