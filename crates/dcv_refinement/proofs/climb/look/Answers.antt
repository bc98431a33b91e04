use Rattle.std.proofs.Common.{◌<◌, ◌≤◌, ◌-◌, length, arith}
use Rattle.dcv_refinement.specs.Lists.{entry_at}
use Rattle.dcv_refinement.proofs.MarkFacts.{look_back}
use Rattle.dcv_refinement.proofs.climb.look.Goals as goal

pub entries-preserved : goal.entries-preserved
entries-preserved c =
    let entries = c.args.entries.now in
    let was = c.entries.invariant in
    let inside : c.entries.next - 1 < length entries = omega (arith, c.entries-test.true, was.within) in
    let before : (entry_at entries (c.entries.next - 1)).earlier ≤ c.entries.next - 1 = c.requires.earlier (c.entries.next - 1) inside in
    record {
      within = omega (arith, before, inside);
      rest = look_back entries c.requires.earlier c.entries.next c.entries-test.true was.within c.entries.looked.items c.push.new.self.items _ c.in_ok-push.ensures.items was.rest;
    }
