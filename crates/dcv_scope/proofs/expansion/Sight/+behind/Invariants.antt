use Rattle.dcv_scope.proofs.expansion.Sight.+behind.Given as goal

abbrev pub decreases-behind : goal.decreases-behind
decreases-behind l = goal.size-behind l
