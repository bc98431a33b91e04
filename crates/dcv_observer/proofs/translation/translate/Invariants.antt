use Rattle.std.proofs.Common.{◌≡◌, length, map, reverse}
use Rattle.dcv_grammar.specs.Grammar.{grammar_of}
use Rattle.dcv_lexer.specs.Lexicon.{lexicon_of}
use Rattle.dcv_observer.proofs.Within.{IsWithin}
use Rattle.dcv_observer.proofs.translation.translate.Given as goal

-- the part of the whole is made of the items that are left
abbrev pub invariant-loop-item : goal.invariant-loop-item
invariant-loop-item g l =
    (grammar_of l.machine.grammar ≡ g.T.Translation.scheme.grammar)
    × IsWithin g.T.Translation.scheme (lexicon_of l.lexicon) l.text (reverse l.machine.steps.items) (map g.T.Translation.meaning l.machine.parts.items) l.items

abbrev pub decreases-loop-item : goal.decreases-loop-item
decreases-loop-item g l = length l.items.lexer.rest.now
