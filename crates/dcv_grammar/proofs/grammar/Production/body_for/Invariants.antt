use Rattle.std.proofs.Common.{◌≡◌, drop, map, Some}
use Rattle.dcv_grammar.specs.Grammar.{production_of, alternative_of}
use Rattle.dcv_grammar.specs.Picked.{body_for, picked}
use Rattle.dcv_grammar.proofs.grammar.Production.body_for.Given as goal

-- the alternatives that are left pick what all of them do
abbrev pub invariant-loop-alternative : goal.invariant-loop-alternative
invariant-loop-alternative l =
    picked (map alternative_of (drop l.alternative-index l.alternative-items)) l.self.otherwise.now l.class ≡ body_for (production_of l.self) (Some l.class)
