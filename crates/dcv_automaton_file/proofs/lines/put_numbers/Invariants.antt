use Rattle.std.proofs.Common.{◌++◌}
use Rattle.std.specs.Fmt.{decimal}
use Rattle.std.specs.List.{flat_map, range_with_len}
use Rattle.dcv_io.specs.Putting.{Puts}
use Rattle.dcv_automaton_file.specs.Lines.{in_turn}
use Rattle.dcv_automaton_file.proofs.lines.put_numbers.Given as goal

-- the numbers so far are put
abbrev pub invariant-loop-number : goal.invariant-loop-number
invariant-loop-number g l =
    Puts (g.T.Target.standing l.fn.target) (g.T.Target.standing l.target) (flat_map (λ number. in_turn l.before ++ (decimal number ++ l.after)) (range_with_len 0 l.number))
