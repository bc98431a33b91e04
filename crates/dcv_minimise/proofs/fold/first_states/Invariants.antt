use Rattle.dcv_reach.specs.Reached.{states_of}
use Rattle.dcv_minimise.specs.Classes.{AreMet, HasFirsts}
use Rattle.dcv_minimise.proofs.fold.first_states.Given as goal

-- the blocks that were met are those of the states so far, and the first states of these are kept
abbrev pub invariant-loop-one : goal.invariant-loop-one
invariant-loop-one l = record {
  met : AreMet l.blocks (states_of l.found) l.one-index l.met.items;
  has : HasFirsts l.blocks (states_of l.found) l.one-index l.start l.states.items;
}
