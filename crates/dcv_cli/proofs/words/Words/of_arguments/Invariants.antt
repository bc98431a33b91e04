use Rattle.dcv_cli.proofs.Common.{◌≡◌, ◌++◌, map, drop, string_bytes}
use Rattle.dcv_cli.proofs.words.Words.of_arguments.Given as goal

-- with the words that are left these are all
abbrev pub invariant-loop-argument : goal.invariant-loop-argument
invariant-loop-argument l = l.words ++ map string_bytes (drop l.argument-index l.rest) ≡ map string_bytes (drop 1 l.arguments)
