use Rattle.std.proofs.Common.{◌≡◌, ℕ, List, Bool, Option, map, drop, ◌++◌}
use Rattle.std.specs.List.{flat_map, AllByRecursion}
use Rattle.dcv_lexer.specs.Cuts.{Token}
use Rattle.dcv_lustre.specs.Placed.{arm_of}
use Rattle.dcv_lustre.specs.Words.{AreWordsOfArm}
use Rattle.dcv_observer.specs.Conditions.{Names}
use Rattle.dcv_lustre.specs.Seen.{seen_kind, seen_arm as arm_seen}
use Rattle.dcv_lustre.specs.Tree.{Node}
use Rattle.dcv_lustre.specs.Meaning.{names_of}
use Rattle.dcv_lustre.specs.Rules.{keeps_arm}
use Rattle.dcv_lustre_read.specs.Seen.{seen_arm}
use Rattle.dcv_lustre_read.specs.Scope.{seen_row, Knows}
use Rattle.dcv_observer.specs.Judged.{IsLeft}
use Rattle.dcv_lustre_read.specs.Judged.{words_of_arms}
use Rattle.dcv_lustre_read.proofs.scope.Scope.arms.Given as goal

abbrev pub invariant-loop-arm : goal.invariant-loop-arm
invariant-loop-arm l =
    let later = map seen_arm (drop l.arm-index l.arms) in
    AllByRecursion AreWordsOfArm later
    × ((node : Node) (earlier : Names) → Knows node earlier l.self.declared (map seen_row l.self.names.items)
    → (whole : Option ℕ) (words : List Token) (keeps : List Bool)
    → IsLeft whole (words_of_arms (map seen_arm l.arms) ++ words)
    (flat_map (keeps_arm node (node.inputs ++ earlier) (seen_kind l.kind)) (map arm_of (map seen_arm l.arms)) ++ keeps)
    → (map (arm_seen (names_of node)) l.all.items ++ map arm_of later ≡ map arm_of (map seen_arm l.arms))
    × IsLeft whole (words_of_arms later ++ words) (flat_map (keeps_arm node (node.inputs ++ earlier) (seen_kind l.kind)) (map arm_of later) ++ keeps))
