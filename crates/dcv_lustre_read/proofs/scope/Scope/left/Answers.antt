use Rattle.std.proofs.Common.{map}
use Rattle.dcv_observer.specs.Conditions.{Names}
use Rattle.dcv_lustre.specs.Placed.{equation_of}
use Rattle.dcv_lustre.specs.Tree.{Node}
use Rattle.dcv_lustre_read.specs.Seen.{seen_equation}
use Rattle.dcv_lustre_read.specs.Scope.{seen_row}
use Rattle.dcv_observer.proofs.Judging.{broken_word}
use Rattle.dcv_lustre_read.proofs.Lefts.{known_left}
use Rattle.dcv_lustre_read.proofs.scope.Scope.left.Goals as goal

pub returns-then-name : goal.returns-then-name
returns-then-name c = λ (node : Node) (earlier : Names) knows.
    broken_word c.broken-then-name.ensures
    (known_left node earlier c.args.self.now.declared (map seen_row c.args.self.now.names.items) knows (equation_of (seen_equation c.args.equation.now)) _
    (c.in-Some.ensures node earlier knows) c.if-name.true)
