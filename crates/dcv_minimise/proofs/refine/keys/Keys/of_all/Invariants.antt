use Rattle.std.proofs.Common.{◌≡◌, take}
use Rattle.std.specs.List.{All}
use Rattle.dcv_minimise.specs.Keys.{IsKeys, IsKeyed, blocks_in, states_in}
use Rattle.dcv_minimise.proofs.refine.keys.Keys.of_all.Given as goal

abbrev pub invariant-loop-state : goal.invariant-loop-state
invariant-loop-state l = record {
  keys : IsKeys l.raw (blocks_in l.fn.self) l.self;
  states : states_in l.keyed.items ≡ take l.state-index l.states;
  keyed : All (IsKeyed l.raw (blocks_in l.fn.self) l.self.renumbering.own) l.keyed.items;
}
