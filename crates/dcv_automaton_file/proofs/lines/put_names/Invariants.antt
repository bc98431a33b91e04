use Rattle.std.proofs.Common.{◌++◌, take}
use Rattle.std.specs.List.{flat_map}
use Rattle.dcv_io.specs.Putting.{Puts}
use Rattle.dcv_syntax.specs.declared.names.Name.{Name}
use Rattle.dcv_automaton_file.specs.Lines.{one_listed}
use Rattle.dcv_automaton_file.proofs.lines.put_names.Given as goal

-- the names so far are put, each but the first after what stands between
abbrev pub invariant-loop-name : goal.invariant-loop-name
invariant-loop-name g l =
    Puts (g.T.Target.standing l.initial.target) (g.T.Target.standing l.target)
    (flat_map (λ (name : Name). l.listing.between.now ++ one_listed l.listing name.text) (take l.name-index l.others))
