use Rattle.std.proofs.Common.{◌≡◌, ◌++◌}
use Rattle.dcv_synth.specs.Units.{names_of_nodes}
use Rattle.dcv_synth.specs.Placing.{numbered}
use Rattle.dcv_synth.proofs.unit_names.push_nodes.Given as goal

abbrev pub invariant-loop-number : goal.invariant-loop-number
invariant-loop-number l = l.locals.items ≡ l.initial.locals.items ++ names_of_nodes (numbered l.letter) l.number
