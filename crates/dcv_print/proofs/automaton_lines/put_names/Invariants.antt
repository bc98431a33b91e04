use Rattle.std.proofs.Common.{take, ◌∷◌}
use Rattle.std.specs.List.{flat_map}
use Rattle.dcv_syntax.specs.declared.names.Name.{Name}
use Rattle.dcv_io.specs.Putting.{Puts}
use Rattle.dcv_print.proofs.automaton_lines.put_names.Given as goal

-- the names so far are put
abbrev pub invariant-loop-name : goal.invariant-loop-name
invariant-loop-name g l = Puts (g.T.Target.standing l.fn.target) (g.T.Target.standing l.target) (flat_map (λ (name : Name). 32 ∷ name.text) (take l.name-index l.names))
