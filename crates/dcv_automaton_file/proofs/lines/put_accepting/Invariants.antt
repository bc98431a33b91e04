use Rattle.std.proofs.Common.{◌≡◌, List, length, take}
use Rattle.dcv_io.specs.Putting.{Puts}
use Rattle.dcv_language.specs.declared.child.Child.{Child}
use Rattle.dcv_automaton_file.specs.File.{state_lines}
use Rattle.dcv_automaton_file.specs.Lines.{accepting_numbers}
use Rattle.dcv_automaton_file.proofs.PutLines.{has_some, joined}
use Rattle.dcv_automaton_file.proofs.lines.put_accepting.Given as goal

-- the numbers so far are put, and it is known whether there are any
abbrev pub invariant-loop-state : goal.invariant-loop-state
invariant-loop-state g l =
    (rows : List Child) → length rows ≡ length l.auto'.rows
    → (l.some ≡ has_some (accepting_numbers (state_lines l.auto' (take l.state rows))))
    × Puts (g.T.Target.standing l.fn.target) (g.T.Target.standing l.target) (joined l.listing (accepting_numbers (state_lines l.auto' (take l.state rows))))
