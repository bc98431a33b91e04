use Rattle.std.proofs.Common.{take, ◌∷◌}
use Rattle.std.specs.Fmt.{decimal}
use Rattle.dcv_print.specs.Pushed.{spelled_lines}
use Rattle.dcv_io.specs.Putting.{Puts}
use Rattle.dcv_print.proofs.automaton_lines.put_entries.Given as goal

-- the lines so far are put
abbrev pub invariant-loop-number : goal.invariant-loop-number
invariant-loop-number g l = Puts (g.T.Target.standing l.fn.target) (g.T.Target.standing l.target) (spelled_lines (λ numbered. l.word ∷ decimal numbered.0 ∷ g.E.Entry.words numbered.1) (take l.number l.entries))
