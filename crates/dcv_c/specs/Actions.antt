-- What each rule of the grammar stands for, by what its body's symbols stand for: an equation for each body. Punctuation stands for nothing.
--     Part                  what a symbol stands for
--     has_part class        whether the tokens of a class stand for anything
--     RULE_part parts       what a rule stands for, by the parts of its body
--     scheme                what derivation trees stand for
--     Spells text placed    the text stands for the placed unit
use Rattle.std.specs.Prelude.{ℕ, ◌==◌, Bool, ◌||◌, List, [], ◌∷◌, Option, Some, None, slice_index_or}
use Rattle.dcv_lexer.specs.Cuts.{Token}
use Rattle.dcv_observer.specs.Scheme.{Scheme, StandsFor}
use Rattle.dcv_observer.specs.Classes.{name as plain_name, number as plain_number}
use Rattle.dcv_c.specs.Classes.{lexicon, close_brace}
use Rattle.dcv_c.specs.Language.{language}
use Rattle.dcv_c.specs.Placed.{PlacedUnit, PlacedAssignment, PlacedStatement, PlacedAssign, PlacedWhen, PlacedRight, PlacedPlain, PlacedChosen}
use Rattle.dcv_c.specs.Placed.{PlacedChoice, PlacedReturned, PlacedFixed, PlacedRead, PlacedTested, PlacedTest, PlacedTests}

-- what a symbol stands for
pub data Part : Type 0 where
  AToken : Token → Part
  Tokens : List Token → Part
  AnAssignment : PlacedAssignment → Part
  Assignments : List PlacedAssignment → Part
  -- the function that sets the statics: its name, its assignments and the brace after them
  AReset : Token → List PlacedAssignment → Token → Part
  AStatement : PlacedStatement → Part
  Statements : List PlacedStatement → Part
  ARight : PlacedRight → Part
  -- what may stand after a name on a right side
  Choice : Option PlacedChoice → Part
  -- the number of a condition, which may not be there
  Maybe : Option Token → Part
  -- a condition
  Compared : Token → Option Token → Part
  AReturned : PlacedReturned → Part
  ATest : PlacedTest → Part
  Tests : List PlacedTest → Part
  -- what may stand after the first name of a result
  Behind : Option PlacedTests → Part
  -- the function that makes a step: its name, its parameters, its locals, its statements and what it returns
  AStep : Token → List Token → List Token → List PlacedStatement → PlacedReturned → Part
  AUnit : PlacedUnit → Part
  -- the parts are those of no body
  Nothing : Part

-- unit = static more_statics reset step
abbrev pub unit_part : List Part → Part
unit_part (AToken static ∷ Tokens statics ∷ AReset reset assignments reset_end ∷ AStep step parameters locals statements returned ∷ []) =
    AUnit (record {
      statics = static ∷ statics;
      reset = reset;
      assignments = assignments;
      reset_end = reset_end;
      step = step;
      parameters = parameters;
      locals = locals;
      statements = statements;
      returned = returned;
    })
unit_part _ = Nothing

-- static = "static" "int" name ";", parameter = "int" name, local = "int" name ";", item = number | name
abbrev pub token_part : List Part → Part
token_part (AToken token ∷ []) = AToken token
token_part _ = Nothing

-- more_statics = {static}, locals = {local}, parameters = "void" | parameter more_parameters, more_parameters = {"," parameter}
abbrev pub tokens_part : List Part → Part
tokens_part [] = Tokens []
tokens_part (AToken name ∷ Tokens names ∷ []) = Tokens (name ∷ names)
tokens_part _ = Nothing

-- reset = "void" name "(" "void" ")" "{" assignments "}"
abbrev pub reset_part : List Part → Part
reset_part (AToken name ∷ Assignments assignments ∷ AToken reset_end ∷ []) = AReset name assignments reset_end
reset_part _ = Nothing

-- assignments = {assignment}
abbrev pub assignments_part : List Part → Part
assignments_part [] = Assignments []
assignments_part (AnAssignment assignment ∷ Assignments assignments ∷ []) = Assignments (assignment ∷ assignments)
assignments_part _ = Nothing

-- assignment = name "=" number ";"
abbrev pub assignment_part : List Part → Part
assignment_part (AToken name ∷ AToken number ∷ []) = AnAssignment (record { name = name; number = number })
assignment_part _ = Nothing

-- step = "int" name "(" parameters ")" "{" locals statements "return" returned ";" "}"
abbrev pub step_part : List Part → Part
step_part (AToken name ∷ Tokens parameters ∷ Tokens locals ∷ Statements statements ∷ AReturned returned ∷ AToken end ∷ []) =
    AStep name parameters locals statements returned
step_part _ = Nothing

-- statements = {statement}
abbrev pub statements_part : List Part → Part
statements_part [] = Statements []
statements_part (AStatement statement ∷ Statements statements ∷ []) = Statements (statement ∷ statements)
statements_part _ = Nothing

-- statement = "if" "(" condition ")" name "=" item ";" | name "=" right ";"
abbrev pub statement_part : List Part → Part
statement_part (Compared name number ∷ AToken left ∷ AToken item ∷ []) = AStatement (PlacedWhen name number left item)
statement_part (AToken left ∷ ARight right ∷ []) = AStatement (PlacedAssign left right)
statement_part _ = Nothing

-- right = number | name choice
abbrev pub right_part : List Part → Part
right_part (AToken number ∷ []) = ARight (PlacedPlain number)
right_part (AToken name ∷ Choice None ∷ []) = ARight (PlacedPlain name)
right_part (AToken name ∷ Choice (Some choice) ∷ []) = ARight (PlacedChosen name choice)
right_part _ = Nothing

-- choice = ["?" item ":" item | "==" number "?" item ":" item]
abbrev pub choice_part : List Part → Part
choice_part [] = Choice None
choice_part (AToken item ∷ AToken otherwise ∷ []) = Choice (Some (record { number = None; item = item; otherwise = otherwise }))
choice_part (AToken number ∷ AToken item ∷ AToken otherwise ∷ []) =
    Choice (Some (record { number = Some number; item = item; otherwise = otherwise }))
choice_part _ = Nothing

-- condition = name compared
abbrev pub condition_part : List Part → Part
condition_part (AToken name ∷ Maybe number ∷ []) = Compared name number
condition_part _ = Nothing

-- compared = ["==" number]
abbrev pub compared_part : List Part → Part
compared_part [] = Maybe None
compared_part (AToken number ∷ []) = Maybe (Some number)
compared_part _ = Nothing

-- returned = number | name tests
abbrev pub returned_part : List Part → Part
returned_part (AToken number ∷ []) = AReturned (PlacedFixed number)
returned_part (AToken name ∷ Behind None ∷ []) = AReturned (PlacedRead name)
returned_part (AToken name ∷ Behind (Some tests) ∷ []) = AReturned (PlacedTested (record { name = name; number = tests.number } ∷ tests.others))
returned_part _ = Nothing

-- tests = ["==" number more_tests]
abbrev pub tests_part : List Part → Part
tests_part [] = Behind None
tests_part (AToken number ∷ Tests others ∷ []) = Behind (Some (record { number = number; others = others }))
tests_part _ = Nothing

-- more_tests = {"||" test}
abbrev pub more_tests_part : List Part → Part
more_tests_part [] = Tests []
more_tests_part (ATest test ∷ Tests tests ∷ []) = Tests (test ∷ tests)
more_tests_part _ = Nothing

-- test = name "==" number
abbrev pub test_part : List Part → Part
test_part (AToken name ∷ AToken number ∷ []) = ATest (record { name = name; number = number })
test_part _ = Nothing

-- of each rule, in the order of their numbers
abbrev pub actions : List (List Part → Part)
actions =
    unit_part ∷ token_part ∷ tokens_part ∷ reset_part ∷ assignments_part ∷ assignment_part ∷ step_part ∷ tokens_part
    ∷ tokens_part ∷ token_part ∷ tokens_part ∷ token_part ∷ statements_part ∷ statement_part ∷ right_part ∷ choice_part
    ∷ condition_part ∷ compared_part ∷ token_part ∷ returned_part ∷ tests_part ∷ more_tests_part ∷ test_part ∷ []

-- what a rule stands for
abbrev pub action : ℕ → List Part → Part
action rule parts = (slice_index_or actions rule (λ parts. Nothing)) parts

-- names, numbers, and the brace at the end of a function
abbrev pub has_part : ℕ → Bool
has_part class = class == plain_name || class == plain_number || class == close_brace

-- what derivation trees stand for
abbrev pub scheme : Scheme Part
scheme = record { lexicon = lexicon; grammar = language; has_part = has_part; of_token = AToken; action = action }

-- the text stands for the unit
abbrev pub Spells : List ℕ → PlacedUnit → Type 0
Spells text placed = StandsFor scheme text (AUnit placed)
