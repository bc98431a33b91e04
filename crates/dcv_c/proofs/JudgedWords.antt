-- Each word that a rule of names judges has its judgement, so no judgement is lost.
use Rattle.std.proofs.Common.{◌≡◌, ℕ, ◌+◌, List, [], ◌∷◌, ◌++◌, length, map, refl, sym, ap, ◌∙◌, arith}
use Rattle.std.proofs.Common.{length-append}
use Rattle.std.specs.List.{flat_map}
use Rattle.std.proofs.lemmas.List.{length-map}
use Rattle.dcv_lexer.specs.Cuts.{Token}
use Rattle.dcv_observer.specs.Naming.{is_among}
use Rattle.dcv_c.specs.Tree.{Test, CUnit}
use Rattle.dcv_c.specs.Placed.{PlacedAssignment, PlacedStatement, PlacedAssign, PlacedWhen, PlacedRight, PlacedPlain, PlacedChosen, PlacedReturned}
use Rattle.dcv_c.specs.Placed.{PlacedFixed, PlacedRead, PlacedTested, PlacedTest, PlacedUnit, test_of, right_of, statement_of, returned_of, assignment_of, bytes_of, unit_of}
use Rattle.dcv_c.specs.Rules.{keeps_new, keeps_apart, keeps_parameters, keeps_assignments, has_all_assignments, keeps_right, keeps_statement}
use Rattle.dcv_c.specs.Rules.{keeps_statements, keeps_returned, known_after, before_step, before_parameters, before_locals, judged}
use Rattle.dcv_c.specs.Rules.{words_of_right, words_of_statement, words_of_returned, words_of}

apart_words : (earlier : List (List ℕ)) (tokens : List Token) → length (keeps_apart earlier (bytes_of tokens)) ≡ length tokens
apart_words earlier [] = refl
apart_words earlier (token ∷ tokens) = omega (arith, apart_words (earlier ++ token.bytes ∷ []) tokens)

parameter_words : (earlier : List (List ℕ)) (place : ℕ) (tokens : List Token) → length (keeps_parameters earlier place (bytes_of tokens)) ≡ length tokens
parameter_words earlier place [] = refl
parameter_words earlier place (token ∷ tokens) = omega (arith, parameter_words (earlier ++ token.bytes ∷ []) (place + 1) tokens)

assignment_words : (statics earlier : List (List ℕ)) (assignments : List PlacedAssignment)
    → length (keeps_assignments statics earlier (map assignment_of assignments)) ≡ length assignments
assignment_words statics earlier [] = refl
assignment_words statics earlier (assignment ∷ assignments) = omega (arith, assignment_words statics (assignment.name.bytes ∷ earlier) assignments)

right_words : (known : List (List ℕ)) (right : PlacedRight) → length (keeps_right known (right_of right)) ≡ length (words_of_right right)
right_words known (PlacedPlain item) = refl
right_words known (PlacedChosen name choice) = refl

returned_words : (known : List (List ℕ)) (returned : PlacedReturned) → length (keeps_returned known (returned_of returned)) ≡ length (words_of_returned returned)
returned_words known (PlacedFixed number) = refl
returned_words known (PlacedRead name) = refl
returned_words known (PlacedTested tests) =
    length-map (map test_of tests) (λ (test : Test). is_among known test.name) ∙ length-map tests test_of ∙ sym (length-map tests (λ (test : PlacedTest). test.name))

module _ (unit : CUnit) where
  statement_words : (known : List (List ℕ)) (statement : PlacedStatement)
      → length (keeps_statement unit known (statement_of statement)) ≡ length (words_of_statement statement)
  statement_words known (PlacedAssign left right) = omega (arith, right_words known right)
  statement_words known (PlacedWhen name number left item) = refl

  statements_words : (returned : PlacedReturned) → unit.returned ≡ returned_of returned → (known : List (List ℕ)) (statements : List PlacedStatement)
      → length (keeps_statements unit known (map statement_of statements)) ≡ length (flat_map words_of_statement statements) + length (words_of_returned returned)
  statements_words returned same known [] =
      let one = ap (λ returned. length (keeps_returned known returned)) same in omega (arith, one, returned_words known returned)
  statements_words returned same known (statement ∷ statements) =
      let one = statement_words known statement in
      let more = statements_words returned same (known_after known (statement_of statement)) statements in
      length-append (keeps_statement unit known (statement_of statement)) (keeps_statements unit (known_after known (statement_of statement)) (map statement_of statements))
      ∙ omega (arith, one, more, length-append (words_of_statement statement) (flat_map words_of_statement statements))

pub as_many : (placed : PlacedUnit) → length (words_of placed) ≡ length (judged (unit_of placed))
unfolding words_of judged
as_many placed =
    let unit = unit_of placed in
    let first = keeps_apart [] unit.statics in
    let assigned = keeps_assignments unit.statics [] unit.assignments in
    let parameters = keeps_parameters (before_parameters unit) 0 unit.parameters in
    let locals = keeps_apart (before_locals unit) unit.locals in
    let statements = keeps_statements unit (unit.statics ++ unit.parameters) unit.statements in
    let last = flat_map words_of_statement placed.statements ++ words_of_returned placed.returned in
    let from_parameters = placed.parameters ++ (placed.locals ++ last) in
    let assignment_names = map (λ (assignment : PlacedAssignment). assignment.name) placed.assignments in
    omega (
      arith,
      length-append placed.statics (placed.reset ∷ assignment_names ++ (placed.reset_end ∷ placed.step ∷ from_parameters)),
      length-append assignment_names (placed.reset_end ∷ placed.step ∷ from_parameters),
      length-append placed.parameters (placed.locals ++ last),
      length-append placed.locals last,
      length-append (flat_map words_of_statement placed.statements) (words_of_returned placed.returned),
      length-map placed.assignments (λ (assignment : PlacedAssignment). assignment.name),
      length-append first (keeps_new unit.statics unit.reset ∷ assigned
          ++ (has_all_assignments unit ∷ keeps_new (before_step unit) unit.step ∷ parameters ++ (locals ++ statements))),
      length-append assigned (has_all_assignments unit ∷ keeps_new (before_step unit) unit.step ∷ parameters ++ (locals ++ statements)),
      length-append parameters (locals ++ statements),
      length-append locals statements,
      apart_words [] placed.statics,
      assignment_words unit.statics [] placed.assignments,
      parameter_words (before_parameters unit) 0 placed.parameters,
      apart_words (before_locals unit) placed.locals,
      statements_words unit placed.returned refl (unit.statics ++ unit.parameters) placed.statements,
    )
