use Rattle.std.proofs.Common.{◌≡◌, ℕ, ◌++◌, List, map, take}
use Rattle.std.specs.List.{All}
use Rattle.dcv_language.specs.Limits.{number_bound}
use Rattle.dcv_dfa.specs.NodeLines.{IsBelow}
use Rattle.dcv_c.specs.Seen.{seen_statement}
use Rattle.dcv_synth.specs.Units.{all_state_choices}
use Rattle.dcv_synth.specs.Placing.{HasNames}
use Rattle.dcv_synth.proofs.statements.push_rows.Given as goal

-- the statements of the states so far are there
abbrev pub invariant-loop-place : goal.invariant-loop-place
invariant-loop-place l =
    (all names : List (List ℕ)) (count : ℕ) → HasNames names count l.places all
    → All (IsBelow number_bound l.places.nexts) l.nexts → All (IsBelow number_bound count) l.outputs
    → map (seen_statement all) l.statements.items
    ≡ map (seen_statement all) l.initial.statements.items ++ all_state_choices (take l.place l.states) (take l.place l.nexts) (take l.place l.outputs)
