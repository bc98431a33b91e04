use Rattle.dcv_build_tests.proofs.FewCounts.{two_counts}
use Rattle.dcv_build_tests.proofs.printed.two_counts.Goals as goal

pub returns : goal.returns
returns c = two_counts _ _ _ c.new-counts.ensures.items c.in_ok-push.ensures.items c.in_ok-push-2.ensures.items
