-- One more assignment, one more statement and one more test.
use Rattle.std.proofs.Common.{◌≡◌, ℕ, zero, suc, ◌<◌, ◌≤◌, Bool, true, ◌||◌, List, [], ◌∷◌, ◌++◌, length, map, drop, Option, refl, sym, subst, ◌∙◌, arith, append_assoc}
use Rattle.std.proofs.Math.Bool.{or-false}
use Rattle.std.specs.Prelude.{bytes_eq}
use Rattle.std.proofs.lemmas.List.{at_drop_all, append-nil}
use Rattle.dcv_lexer.specs.Cuts.{Token}
use Rattle.dcv_observer.specs.Conditions.{Names, name_at, seen_test as test_seen}
use Rattle.dcv_observer.specs.declared.conditions.Test.{Test as CodeTest}
use Rattle.dcv_observer.specs.declared.fault.ObsFault.{ObsFault}
use Rattle.dcv_observer.specs.Naming.{is_among}
use Rattle.dcv_c.specs.declared.unit.Assignment.{Assignment as CodeAssignment}
use Rattle.dcv_c.specs.declared.unit.Statement.{Statement as CodeStatement}
use Rattle.dcv_c.specs.Tree.{Test, CUnit}
use Rattle.dcv_c.specs.Seen.{seen_assignment as assignment_seen, seen_statement as statement_seen}
use Rattle.dcv_c.specs.Placed.{assignment_of, statement_of, test_of}
use Rattle.dcv_c.specs.Rules.{keeps_assignments, keeps_statement, keeps_statements, known_after, words_of_statement}
use Rattle.dcv_c_read.specs.declared.placed.PlacedAssignment.{PlacedAssignment}
use Rattle.dcv_c_read.specs.declared.placed.PlacedStatement.{PlacedStatement}
use Rattle.dcv_c_read.specs.declared.placed.PlacedTest.{PlacedTest}
use Rattle.dcv_c_read.specs.declared.scope.Scope.{Scope}
use Rattle.dcv_c_read.specs.Seen.{seen_assignment, seen_statement, seen_test}
use Rattle.dcv_c_read.specs.Scope.{Frame, with_known, Knows, KnowsAssigned, KnowsMore, IsNamed}
use Rattle.dcv_observer.specs.Judged.{IsLeft, IsBroken, IsFaultOf}
use Rattle.dcv_c_read.specs.Judged.{words_of_assignments, names_of_assignments, words_of_statements, words_of_tests, keeps_tests}
use Rattle.dcv_observer.proofs.Declaring.{or_turned}
use Rattle.dcv_observer.proofs.Judging.{kept, first_fault}
use Rattle.dcv_observer.proofs.SoFar.{one_more}

-- ---- assignments

-- a name keeps its place
name_append : (placed more : Names) (place : ℕ) → place < length placed → name_at (placed ++ more) place ≡ name_at placed place
name_append [] more place within = absurd (omega arith)
name_append (n ∷ placed) more zero within = refl
name_append (n ∷ placed) more (suc place) within = name_append placed more place (omega arith)

pub named_with : (placed more : Names) (name : List ℕ) (place : ℕ) → IsNamed placed name place → name_at (placed ++ more) place ≡ name
named_with placed more name place named = name_append placed more place named.within ∙ named.is

pub record AreAssignedSoFar (frame : Frame) (whole : Option ℕ) (words : List Token) (keeps : List Bool) (all : List PlacedAssignment)
    (made : List CodeAssignment) (later : List PlacedAssignment) (scope : Scope) : Type 0 where
  pub known : Names
  pub knows : Knows (with_known known frame) scope
  pub are_made : (more : Names) → map (assignment_seen (frame.placed ++ more)) made ++ map assignment_of (map seen_assignment later) ≡ map assignment_of (map seen_assignment all)
  pub are_assigned : (name : List ℕ) → (is_among known name || is_among (names_of_assignments (map assignment_of (map seen_assignment later))) name)
      ≡ is_among (names_of_assignments (map assignment_of (map seen_assignment all))) name
  pub left : IsLeft whole (words_of_assignments (map seen_assignment later) ++ words) (keeps_assignments frame.lefts known (map assignment_of (map seen_assignment later)) ++ keeps)

module _ (frame : Frame) (whole : Option ℕ) (words : List Token) (keeps : List Bool) (all : List PlacedAssignment) where
  pub assignments_more : (made : List CodeAssignment) (assignment : PlacedAssignment) (later : List PlacedAssignment) (scope then : Scope)
      (sofar : AreAssignedSoFar frame whole words keeps all made (assignment ∷ later) scope) (more : List CodeAssignment) (x : CodeAssignment) → more ≡ made ++ x ∷ []
      → ((names : Names) → assignment_seen (frame.placed ++ names) x ≡ assignment_of (seen_assignment assignment))
      × Knows (with_known ((seen_assignment assignment).name.bytes ∷ sofar.known) frame) then
      × IsLeft whole (words_of_assignments (map seen_assignment later) ++ words)
      (keeps_assignments frame.lefts ((seen_assignment assignment).name.bytes ∷ sofar.known) (map assignment_of (map seen_assignment later)) ++ keeps)
      → AreAssignedSoFar frame whole words keeps all more later then
  assignments_more made assignment later scope then sofar more x pushed this =
      record {
        known = (seen_assignment assignment).name.bytes ∷ sofar.known;
        knows = this.1;
        are_made = λ names.
            one_more (assignment_seen (frame.placed ++ names)) assignment_of made more x (seen_assignment assignment) (map seen_assignment later)
            (map assignment_of (map seen_assignment all)) pushed (this.0 names) (sofar.are_made names);
        are_assigned = λ name.
            sym (or_turned (is_among sofar.known name) (bytes_eq name (seen_assignment assignment).name.bytes)
            (is_among (names_of_assignments (map assignment_of (map seen_assignment later))) name))
            ∙ sofar.are_assigned name;
        left = this.2;
      }

  pub assignments_end : (made : List CodeAssignment) (scope : Scope) → AreAssignedSoFar frame whole words keeps all made [] scope
      → ((more : Names) → map (assignment_seen (frame.placed ++ more)) made ≡ map assignment_of (map seen_assignment all))
      × KnowsAssigned frame (names_of_assignments (map assignment_of (map seen_assignment all))) scope × IsLeft whole words keeps
  assignments_end made scope sofar = (
    λ more. sym (append-nil (map (assignment_seen (frame.placed ++ more)) made)) ∙ sofar.are_made more,
    record { known = sofar.known; knows = sofar.knows; are_assigned = λ name. sym (or-false (is_among sofar.known name)) ∙ sofar.are_assigned name },
    sofar.left,
  )

-- ---- statements

pub record AreStatementsSoFar (unit : CUnit) (frame : Frame) (whole : Option ℕ) (words : List Token) (all : List PlacedStatement)
    (made : List CodeStatement) (later : List PlacedStatement) (scope : Scope) : Type 0 where
  pub known : Names
  pub knows : Knows (with_known known frame) scope
  pub are_made : map (statement_seen frame.placed) made ++ map statement_of (map seen_statement later) ≡ map statement_of (map seen_statement all)
  pub left : IsLeft whole (words_of_statements (map seen_statement later) ++ words) (keeps_statements unit known (map statement_of (map seen_statement later)))

module _ (unit : CUnit) (frame : Frame) (whole : Option ℕ) (words : List Token) (all : List PlacedStatement) where
  module _ (made : List CodeStatement) (statement : PlacedStatement) (later : List PlacedStatement) (scope : Scope)
      (sofar : AreStatementsSoFar unit frame whole words all made (statement ∷ later) scope) where
    -- the words of the next one, and those after it
    pub statement_left : IsLeft whole (words_of_statement (seen_statement statement) ++ (words_of_statements (map seen_statement later) ++ words))
        (keeps_statement unit sofar.known (statement_of (seen_statement statement))
        ++ keeps_statements unit (known_after sofar.known (statement_of (seen_statement statement))) (map statement_of (map seen_statement later)))
    statement_left =
        subst (λ (ws : List Token). IsLeft whole ws (keeps_statement unit sofar.known (statement_of (seen_statement statement))
        ++ keeps_statements unit (known_after sofar.known (statement_of (seen_statement statement))) (map statement_of (map seen_statement later))))
        (append_assoc (words_of_statement (seen_statement statement)) (words_of_statements (map seen_statement later)) words) sofar.left

    pub statements_more : (then : Scope) (more : List CodeStatement) (x : CodeStatement) → more ≡ made ++ x ∷ []
        → (statement_seen frame.placed x ≡ statement_of (seen_statement statement))
        × Knows (with_known (known_after sofar.known (statement_of (seen_statement statement))) frame) then
        × IsLeft whole (words_of_statements (map seen_statement later) ++ words)
        (keeps_statements unit (known_after sofar.known (statement_of (seen_statement statement))) (map statement_of (map seen_statement later)))
        → AreStatementsSoFar unit frame whole words all more later then
    statements_more then more x pushed this =
        record {
          known = known_after sofar.known (statement_of (seen_statement statement));
          knows = this.1;
          are_made = one_more (statement_seen frame.placed) statement_of made more x (seen_statement statement) (map seen_statement later)
              (map statement_of (map seen_statement all)) pushed this.0 sofar.are_made;
          left = this.2;
        }

  pub statements_end : (made : List CodeStatement) (scope : Scope) → AreStatementsSoFar unit frame whole words all made [] scope
      → (map (statement_seen frame.placed) made ≡ map statement_of (map seen_statement all)) × KnowsMore unit frame whole words scope
  statements_end made scope sofar = (
    sym (append-nil (map (statement_seen frame.placed) made)) ∙ sofar.are_made,
    record { known = sofar.known; knows = sofar.knows; left = sofar.left },
  )

-- ---- tests

module _ (placed known : Names) (whole : Option ℕ) where
  abbrev pub TestsLeft : List PlacedTest → Type 0
  TestsLeft later = IsLeft whole (words_of_tests (map seen_test later)) (keeps_tests known (map test_of (map seen_test later)))

  abbrev pub AreTestsSoFar : List Test → List CodeTest → List PlacedTest → Type 0
  AreTestsSoFar all made later = (map (test_seen placed) made ++ map test_of (map seen_test later) ≡ all) × TestsLeft later

  pub tests_fault : (here : List PlacedTest) (test : PlacedTest) (later : List PlacedTest) (fault : ObsFault) → here ≡ test ∷ later → TestsLeft here
      → IsBroken test.name.start (is_among known (seen_test test).name.bytes) fault → IsFaultOf whole fault
  tests_fault here test later fault split left not = first_fault fault not (subst TestsLeft split left)

  pub tests_more : (here : List PlacedTest) (test : PlacedTest) (later : List PlacedTest) (all : List Test) (made more : List CodeTest) (x : CodeTest) → here ≡ test ∷ later
      → more ≡ made ++ x ∷ [] → AreTestsSoFar all made here
      → (is_among known (seen_test test).name.bytes ≡ true) × (test_seen placed x ≡ test_of (seen_test test)) → AreTestsSoFar all more later
  tests_more here test later all made more x split pushed sofar this =
      let there = subst (AreTestsSoFar all made) split sofar in (
        one_more (test_seen placed) test_of made more x (seen_test test) (map seen_test later) all pushed this.1 there.0,
        kept this.0 there.1,
      )

  pub tests_whole : (items : List PlacedTest) (i : ℕ) (all : List Test) (made : List CodeTest) → length items ≤ i → AreTestsSoFar all made (drop i items)
      → (map (test_seen placed) made ≡ all) × IsLeft whole [] []
  tests_whole items i all made done sofar =
      let none : drop i items ≡ [] = at_drop_all (λ (later : List PlacedTest). later) items i done in
      let there = subst (AreTestsSoFar all made) none sofar in (sym (append-nil (map (test_seen placed) made)) ∙ there.0, there.1)
