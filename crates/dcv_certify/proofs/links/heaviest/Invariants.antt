use Rattle.std.proofs.Common.{◌≡◌, length}
use Rattle.dcv_certify.specs.Links.{AreHeaviest}
use Rattle.dcv_certify.proofs.links.heaviest.Given as goal

abbrev pub invariant-loop-place : goal.invariant-loop-place
invariant-loop-place l = record {
  sizes : length l.sizes.items ≡ length l.file.suffix_lines;
  are : AreHeaviest l.file l.heaviest.items;
}
