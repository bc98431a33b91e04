-- The grammar of the subset. In the comments `{x}` is any number of x, also none, and `[x]` is x or nothing.
use Rattle.std.specs.Prelude.{ℕ, List, [], ◌∷◌}
use Rattle.dcv_grammar.specs.declared.grammar.Symbol.{Symbol}
use Rattle.dcv_grammar.specs.declared.grammar.Symbol.TheVariants.{Class, Rule}
use Rattle.dcv_grammar.specs.Grammar.{Alternative, Production, ContextFree}
use Rattle.dcv_observer.specs.Classes.{name, number}
use Rattle.dcv_c.specs.Classes.{open_parenthesis, close_parenthesis, open_brace, close_brace, comma, semicolon, colon, question, equals}
use Rattle.dcv_c.specs.Classes.{double_equals, double_bar, word_static, word_int, word_void, word_return, word_if}

-- ---- numbers of rules

abbrev pub unit : ℕ
unit = 0

abbrev pub static : ℕ
static = 1

abbrev pub more_statics : ℕ
more_statics = 2

abbrev pub reset : ℕ
reset = 3

abbrev pub assignments : ℕ
assignments = 4

abbrev pub assignment : ℕ
assignment = 5

abbrev pub step : ℕ
step = 6

abbrev pub parameters : ℕ
parameters = 7

abbrev pub more_parameters : ℕ
more_parameters = 8

abbrev pub parameter : ℕ
parameter = 9

abbrev pub locals : ℕ
locals = 10

abbrev pub local : ℕ
local = 11

abbrev pub statements : ℕ
statements = 12

abbrev pub statement : ℕ
statement = 13

abbrev pub right : ℕ
right = 14

abbrev pub choice : ℕ
choice = 15

abbrev pub condition : ℕ
condition = 16

abbrev pub compared : ℕ
compared = 17

abbrev pub item : ℕ
item = 18

abbrev pub returned : ℕ
returned = 19

abbrev pub tests : ℕ
tests = 20

abbrev pub more_tests : ℕ
more_tests = 21

abbrev pub test : ℕ
test = 22

-- ---- rules

-- a rule with one body
abbrev pub always : List Symbol → Production
always body = record { alternatives = []; otherwise = body }

-- a body that begins with a class, which picks it
abbrev pub after : ℕ → List Symbol → Alternative
after class symbols = record { classes = class ∷ []; body = Class class ∷ symbols }

-- a body that begins with a class, or nothing
abbrev pub optional : ℕ → List Symbol → Production
optional class symbols = record { alternatives = after class symbols ∷ []; otherwise = [] }

-- any number of what begins with a class
abbrev pub many : List ℕ → ℕ → ℕ → Production
many classes one more = record { alternatives = record { classes = classes; body = Rule one ∷ Rule more ∷ [] } ∷ []; otherwise = [] }

-- unit = static more_statics reset step
abbrev pub unit_rule : Production
unit_rule = always (Rule static ∷ Rule more_statics ∷ Rule reset ∷ Rule step ∷ [])

-- static = "static" "int" name ";"
abbrev pub static_rule : Production
static_rule = always (Class word_static ∷ Class word_int ∷ Class name ∷ Class semicolon ∷ [])

-- more_statics = {static}
abbrev pub more_statics_rule : Production
more_statics_rule = many (word_static ∷ []) static more_statics

-- reset = "void" name "(" "void" ")" "{" assignments "}"
abbrev pub reset_rule : Production
reset_rule =
    always
    (Class word_void ∷ Class name ∷ Class open_parenthesis ∷ Class word_void ∷ Class close_parenthesis ∷ Class open_brace
    ∷ Rule assignments ∷ Class close_brace ∷ [])

-- assignments = {assignment}
abbrev pub assignments_rule : Production
assignments_rule = many (name ∷ []) assignment assignments

-- assignment = name "=" number ";"
abbrev pub assignment_rule : Production
assignment_rule = always (Class name ∷ Class equals ∷ Class number ∷ Class semicolon ∷ [])

-- step = "int" name "(" parameters ")" "{" locals statements "return" returned ";" "}"
abbrev pub step_rule : Production
step_rule =
    always
    (Class word_int ∷ Class name ∷ Class open_parenthesis ∷ Rule parameters ∷ Class close_parenthesis ∷ Class open_brace
    ∷ Rule locals ∷ Rule statements ∷ Class word_return ∷ Rule returned ∷ Class semicolon ∷ Class close_brace ∷ [])

-- parameters = "void" | parameter more_parameters
abbrev pub parameters_rule : Production
parameters_rule = record { alternatives = after word_void [] ∷ []; otherwise = Rule parameter ∷ Rule more_parameters ∷ [] }

-- more_parameters = {"," parameter}
abbrev pub more_parameters_rule : Production
more_parameters_rule = optional comma (Rule parameter ∷ Rule more_parameters ∷ [])

-- parameter = "int" name
abbrev pub parameter_rule : Production
parameter_rule = always (Class word_int ∷ Class name ∷ [])

-- locals = {local}
abbrev pub locals_rule : Production
locals_rule = many (word_int ∷ []) local locals

-- local = "int" name ";"
abbrev pub local_rule : Production
local_rule = always (Class word_int ∷ Class name ∷ Class semicolon ∷ [])

-- statements = {statement}
abbrev pub statements_rule : Production
statements_rule = many (name ∷ word_if ∷ []) statement statements

-- statement = "if" "(" condition ")" name "=" item ";" | name "=" right ";"
abbrev pub statement_rule : Production
statement_rule =
    record {
      alternatives =
          after word_if
          (Class open_parenthesis ∷ Rule condition ∷ Class close_parenthesis ∷ Class name ∷ Class equals ∷ Rule item ∷ Class semicolon ∷ [])
          ∷ [];
      otherwise = Class name ∷ Class equals ∷ Rule right ∷ Class semicolon ∷ [];
    }

-- right = number | name choice
abbrev pub right_rule : Production
right_rule = record { alternatives = after number [] ∷ []; otherwise = Class name ∷ Rule choice ∷ [] }

-- choice = ["?" item ":" item | "==" number "?" item ":" item]
abbrev pub choice_rule : Production
choice_rule =
    record {
      alternatives =
          after question (Rule item ∷ Class colon ∷ Rule item ∷ [])
          ∷ after double_equals (Class number ∷ Class question ∷ Rule item ∷ Class colon ∷ Rule item ∷ [])
          ∷ [];
      otherwise = [];
    }

-- condition = name compared
abbrev pub condition_rule : Production
condition_rule = always (Class name ∷ Rule compared ∷ [])

-- compared = ["==" number]
abbrev pub compared_rule : Production
compared_rule = optional double_equals (Class number ∷ [])

-- item = number | name
abbrev pub item_rule : Production
item_rule = record { alternatives = after number [] ∷ []; otherwise = Class name ∷ [] }

-- returned = number | name tests
abbrev pub returned_rule : Production
returned_rule = record { alternatives = after number [] ∷ []; otherwise = Class name ∷ Rule tests ∷ [] }

-- tests = ["==" number more_tests]
abbrev pub tests_rule : Production
tests_rule = optional double_equals (Class number ∷ Rule more_tests ∷ [])

-- more_tests = {"||" test}
abbrev pub more_tests_rule : Production
more_tests_rule = optional double_bar (Rule test ∷ Rule more_tests ∷ [])

-- test = name "==" number
abbrev pub test_rule : Production
test_rule = always (Class name ∷ Class double_equals ∷ Class number ∷ [])

unfoldable pub language : ContextFree
language =
    record {
      start = unit;
      productions =
          unit_rule ∷ static_rule ∷ more_statics_rule ∷ reset_rule ∷ assignments_rule ∷ assignment_rule ∷ step_rule ∷ parameters_rule
          ∷ more_parameters_rule ∷ parameter_rule ∷ locals_rule ∷ local_rule ∷ statements_rule ∷ statement_rule ∷ right_rule ∷ choice_rule
          ∷ condition_rule ∷ compared_rule ∷ item_rule ∷ returned_rule ∷ tests_rule ∷ more_tests_rule ∷ test_rule ∷ [];
    }
