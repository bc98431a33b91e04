use Rattle.std.proofs.Common.{◌≡◌, ℕ, List, Bool, Option, map, drop, [], ◌+◌, subst}
use Rattle.std.specs.List.{AllByRecursion}
use Rattle.std.proofs.lemmas.List.{drop_more, at_drop_all}
use Rattle.dcv_lexer.specs.Cuts.{Token}
use Rattle.dcv_c.specs.Words.{AreWordsOfAssignment}
use Rattle.dcv_c_read.specs.declared.placed.PlacedAssignment.{PlacedAssignment}
use Rattle.dcv_c_read.specs.Seen.{seen_assignment}
use Rattle.dcv_c_read.specs.Scope.{Frame, with_known}
use Rattle.dcv_observer.proofs.Judging.{leads_on}
use Rattle.dcv_c_read.proofs.Loops.{AreAssignedSoFar, assignments_more, assignments_end}
use Rattle.dcv_c_read.proofs.scope.Scope.assignments.Goals as goal

pub returns-in_err-assignment : goal.returns-in_err-assignment
returns-in_err-assignment c = λ (frame : Frame) knows (whole : Option ℕ) (words : List Token) (keeps : List Bool) left.
    let items = c.args.assignments.now in
    let i = c.loop-assignment.assignment-index in
    let sofar = subst (λ (later : List PlacedAssignment). AreAssignedSoFar frame whole words keeps items c.loop-assignment.all.items later c.loop-assignment.self)
    (drop_more items i _ c.loop-assignment-test.true)
    (c.loop-assignment.invariant.1 frame knows whole words keeps left) in
    leads_on whole _ c.from_residual.result c.in_err-assignment.field-0.0 c.from_residual.ensures.1
    (c.in_err-assignment.ensures (with_known sofar.known frame) sofar.knows whole _ _ sofar.left)

pub loop-assignment-preserved : goal.loop-assignment-preserved
loop-assignment-preserved c =
    let items = c.args.assignments.now in
    let i = c.loop-assignment.assignment-index in
    let split = drop_more items i _ c.loop-assignment-test.true in (
      (subst (λ (later : List PlacedAssignment). AllByRecursion AreWordsOfAssignment (map seen_assignment later)) split c.loop-assignment.invariant.0).1,
      λ (frame : Frame) knows (whole : Option ℕ) (words : List Token) (keeps : List Bool) left.
          let sofar = subst (λ (later : List PlacedAssignment). AreAssignedSoFar frame whole words keeps items c.loop-assignment.all.items later c.loop-assignment.self) split
          (c.loop-assignment.invariant.1 frame knows whole words keeps left) in
          assignments_more frame whole words keeps items c.loop-assignment.all.items _ (drop (i + 1) items) c.loop-assignment.self _ sofar c.push.new.self.items c.in_ok-assignment.field-0
          c.in_ok-push.ensures.items (c.in_ok-assignment.ensures (with_known sofar.known frame) sofar.knows whole _ _ sofar.left),
    )

pub returns : goal.returns
returns c = λ (frame : Frame) knows (whole : Option ℕ) (words : List Token) (keeps : List Bool) left.
    let items = c.args.assignments.now in
    let none : drop c.loop-assignment.assignment-index items ≡ [] =
    at_drop_all (λ (later : List PlacedAssignment). later) items c.loop-assignment.assignment-index c.loop-assignment-test.false in
    assignments_end frame whole words keeps items c.loop-assignment.all.items c.loop-assignment.self
    (subst (λ (later : List PlacedAssignment). AreAssignedSoFar frame whole words keeps items c.loop-assignment.all.items later c.loop-assignment.self) none
    (c.loop-assignment.invariant.1 frame knows whole words keeps left))
