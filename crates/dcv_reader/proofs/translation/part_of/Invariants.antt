use Rattle.std.proofs.Common.{◌≡◌, map, take, reverse}
use Rattle.dcv_grammar.specs.Grammar.{grammar_of}
use Rattle.dcv_tokens.specs.Reading.{seen}
use Rattle.dcv_sentence.specs.Language.{language}
use Rattle.dcv_translation.proofs.Passed.{HasPassed}
use Rattle.dcv_reader.specs.Actions.{scheme}
use Rattle.dcv_reader.specs.Parts.{seen_part}
use Rattle.dcv_reader.proofs.translation.part_of.Given as goal

-- the machine has passed the tokens before
abbrev pub invariant-loop-token : goal.invariant-loop-token
invariant-loop-token l =
    (grammar_of l.machine.grammar ≡ language)
    × HasPassed scheme (reverse l.machine.steps.items) (map seen_part l.machine.parts.items) (map seen (take l.token-index l.tokens))
