use Rattle.std.proofs.Common.{◌≡◌, true, ℕ, ◌<◌, All, length, take, Contains}
use Rattle.dcv_certificate.specs.Partition.{IsButMended}
use Rattle.dcv_refinement.specs.Members.{list_of, HaveTheirOwn}
use Rattle.dcv_certificate.specs.Ones.{is_one}
use Rattle.dcv_certificate.proofs.Candidates.{IsSettled}
use Rattle.dcv_certificate.proofs.partition.Partition.candidates.Given as goal

abbrev pub invariant-loop-block : goal.invariant-loop-block
invariant-loop-block l = record {
  kept : IsButMended l.fn.self l.self;
  mended : HaveTheirOwn l.fn.self.blocks.items (list_of l.self.members);
  states_are : All (λ state. state < length l.fn.self.blocks.items) l.states.items;
  every_one : (state : ℕ) → is_one l.ones state ≡ true → Contains l.states.items state;
  others : All (IsSettled l.fn.self.blocks.items l.fn.self.sizes.items l.ones l.states.items) (take l.block-index l.ones.blocks.items);
}
