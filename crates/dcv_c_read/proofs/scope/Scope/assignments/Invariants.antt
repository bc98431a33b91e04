use Rattle.std.proofs.Common.{ℕ, List, Bool, Option, map, drop, ◌++◌, []}
use Rattle.std.specs.List.{AllByRecursion}
use Rattle.dcv_lexer.specs.Cuts.{Token}
use Rattle.dcv_c.specs.Placed.{assignment_of}
use Rattle.dcv_c.specs.Words.{AreWordsOfAssignment}
use Rattle.dcv_c.specs.Rules.{keeps_assignments}
use Rattle.dcv_c_read.specs.Seen.{seen_assignment}
use Rattle.dcv_c_read.specs.Scope.{Frame, with_known, Knows}
use Rattle.dcv_observer.specs.Judged.{IsLeft}
use Rattle.dcv_c_read.specs.Judged.{words_of_assignments}
use Rattle.dcv_c_read.proofs.Loops.{AreAssignedSoFar}
use Rattle.dcv_c_read.proofs.scope.Scope.assignments.Given as goal

abbrev pub invariant-loop-assignment : goal.invariant-loop-assignment
invariant-loop-assignment l =
    AllByRecursion AreWordsOfAssignment (map seen_assignment (drop l.assignment-index l.assignments))
    × ((frame : Frame) → Knows (with_known [] frame) l.initial.self → (whole : Option ℕ) (words : List Token) (keeps : List Bool)
    → IsLeft whole (words_of_assignments (map seen_assignment l.assignments) ++ words)
    (keeps_assignments frame.lefts [] (map assignment_of (map seen_assignment l.assignments)) ++ keeps)
    → AreAssignedSoFar frame whole words keeps l.assignments l.all.items (drop l.assignment-index l.assignments) l.self)
