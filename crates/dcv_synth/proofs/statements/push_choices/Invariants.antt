use Rattle.std.proofs.Common.{◌≡◌, ℕ, ◌++◌, List, length, map, take}
use Rattle.std.specs.List.{All}
use Rattle.dcv_automaton_file.specs.File.{Fits}
use Rattle.dcv_c.specs.Seen.{seen_statement}
use Rattle.dcv_synth.specs.Units.{input_name, choices}
use Rattle.dcv_synth.specs.Placing.{StandAt}
use Rattle.dcv_synth.proofs.statements.push_choices.Given as goal

-- the statements of the nodes so far are there
abbrev pub invariant-loop-number : goal.invariant-loop-number
invariant-loop-number l =
    (all names : List (List ℕ)) (name : ℕ → List ℕ) → StandAt all 1 (length names) (input_name names)
    → StandAt all l.first (length l.lines) name → All (Fits (length names) (length l.lines)) l.lines
    → map (seen_statement all) l.statements.items ≡ map (seen_statement all) l.initial.statements.items ++ choices name names (take l.number l.lines)
