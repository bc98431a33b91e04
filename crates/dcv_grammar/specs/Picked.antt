-- Which body the next class picks.
use Rattle.std.specs.Prelude.{ℕ, List, [], ◌∷◌, Option, Some, None, if◌then◌else◌, ◌==◌}
use Rattle.std.specs.List.{list_any}
use Rattle.dcv_grammar.specs.declared.grammar.Symbol.{Symbol}
use Rattle.dcv_grammar.specs.Grammar.{Alternative, Production}

-- the body of the first alternative that has the class, or else the one taken otherwise
abbrev pub picked : List Alternative → List Symbol → ℕ → List Symbol
picked [] otherwise class = otherwise
picked (alternative ∷ alternatives) otherwise class =
    if list_any (λ k. k == class) alternative.classes then alternative.body else picked alternatives otherwise class

-- the body that the next class picks; at the end, the one taken otherwise
abbrev pub body_for : Production → Option ℕ → List Symbol
body_for rule None = rule.otherwise
body_for rule (Some class) = picked rule.alternatives rule.otherwise class
