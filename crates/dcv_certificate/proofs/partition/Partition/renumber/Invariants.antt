use Rattle.std.proofs.Common.{◌≡◌, ◌+◌, take, length}
use Rattle.dcv_certificate.specs.Partition.{raw_in}
use Rattle.dcv_certificate.specs.Tallies.{AreSizes}
use Rattle.dcv_refinement.specs.Members.{list_of, HaveTheirOwn}
use Rattle.dcv_certificate.proofs.Moving.{AreMoved}
use Rattle.dcv_certificate.proofs.partition.Partition.renumber.Given as goal

abbrev pub invariant-loop-state : goal.invariant-loop-state
invariant-loop-state l = record {
  vertices : raw_in l.self ≡ raw_in l.fn.self;
  suffixes : l.self.suffixes ≡ l.fn.self.suffixes;
  parts : l.self.parts ≡ l.fn.self.parts;
  count : l.self.count ≡ l.fn.self.count;
  bound : length l.self.sizes.items ≡ l.fn.self.count + length l.left.keys;
  sizes : AreSizes l.self.blocks.items (length l.self.sizes.items) l.self.sizes.items;
  listed : HaveTheirOwn l.self.blocks.items (list_of l.self.members);
  moved : AreMoved l.fn.self.count (length l.fn.self.blocks.items) l.fn.self.blocks.items (take l.state-index l.part) l.self.blocks.items l.left.keys;
}
