-- The grammar of the subset. In the comments `{x}` is any number of x, also none, and `[x]` is x or nothing.
use Rattle.std.specs.Prelude.{ℕ, List, [], ◌∷◌}
use Rattle.dcv_grammar.specs.declared.grammar.Symbol.{Symbol}
use Rattle.dcv_grammar.specs.declared.grammar.Symbol.TheVariants.{Class, Rule}
use Rattle.dcv_grammar.specs.Grammar.{Alternative, Production, ContextFree}
use Rattle.dcv_observer.specs.Classes.{name as plain_name, number}
use Rattle.dcv_lustre.specs.Classes.{open_parenthesis, close_parenthesis, colon, semicolon, equals, arrow, word_node, word_returns, word_var}
use Rattle.dcv_lustre.specs.Classes.{word_let, word_tel, word_if, word_then, word_else, word_pre, word_or, word_true, word_false, word_bool, word_int}
use Rattle.dcv_lustre.specs.Classes.{word_ok}

-- ---- numbers of rules

abbrev pub node : ℕ
node = 0

abbrev pub more_inputs : ℕ
more_inputs = 1

abbrev pub input : ℕ
input = 2

abbrev pub variables : ℕ
variables = 3

abbrev pub locals : ℕ
locals = 4

abbrev pub local : ℕ
local = 5

abbrev pub kind : ℕ
kind = 6

abbrev pub equations : ℕ
equations = 7

abbrev pub equation : ℕ
equation = 8

abbrev pub right : ℕ
right = 9

abbrev pub delay : ℕ
delay = 10

abbrev pub choice : ℕ
choice = 11

abbrev pub condition : ℕ
condition = 12

abbrev pub compared : ℕ
compared = 13

abbrev pub test : ℕ
test = 14

abbrev pub more_tests : ℕ
more_tests = 15

abbrev pub item : ℕ
item = 16

abbrev pub literal : ℕ
literal = 17

abbrev pub name : ℕ
name = 18

abbrev pub output : ℕ
output = 19

-- ---- rules

-- a rule with one body
abbrev pub always : List Symbol → Production
always body = record { alternatives = []; otherwise = body }

-- a body that begins with a class, which picks it
abbrev pub after : ℕ → List Symbol → Alternative
after class symbols = record { classes = class ∷ []; body = Class class ∷ symbols }

-- a body that begins with a class, or nothing
abbrev pub optional : ℕ → List Symbol → Production
optional class symbols = record { alternatives = after class symbols ∷ []; otherwise = [] }

-- a body that begins with a name, or nothing
abbrev pub by_name : List Symbol → Production
by_name body = record { alternatives = record { classes = plain_name ∷ word_ok ∷ []; body = body } ∷ []; otherwise = [] }

-- node = "node" name "(" input more_inputs ")" output variables "let" equations "tel"
abbrev pub node_rule : Production
node_rule =
    always
    (Class word_node ∷ Rule name ∷ Class open_parenthesis ∷ Rule input ∷ Rule more_inputs ∷ Class close_parenthesis
    ∷ Rule output ∷ Rule variables ∷ Class word_let ∷ Rule equations ∷ Class word_tel ∷ [])

-- more_inputs = {";" input}
abbrev pub more_inputs_rule : Production
more_inputs_rule = optional semicolon (Rule input ∷ Rule more_inputs ∷ [])

-- input = name ":" "bool"
abbrev pub input_rule : Production
input_rule = always (Rule name ∷ Class colon ∷ Class word_bool ∷ [])

-- output = "returns" "(" "ok" ":" "bool" ")" ";"
abbrev pub output_rule : Production
output_rule =
    always
    (Class word_returns ∷ Class open_parenthesis ∷ Class word_ok ∷ Class colon ∷ Class word_bool ∷ Class close_parenthesis
    ∷ Class semicolon ∷ [])

-- variables = ["var" local locals]
abbrev pub variables_rule : Production
variables_rule = optional word_var (Rule local ∷ Rule locals ∷ [])

-- locals = {local}
abbrev pub locals_rule : Production
locals_rule = by_name (Rule local ∷ Rule locals ∷ [])

-- local = name ":" kind ";"
abbrev pub local_rule : Production
local_rule = always (Rule name ∷ Class colon ∷ Rule kind ∷ Class semicolon ∷ [])

-- kind = "bool" | "int"
abbrev pub kind_rule : Production
kind_rule = record { alternatives = after word_bool [] ∷ []; otherwise = Class word_int ∷ [] }

-- equations = {equation}
abbrev pub equations_rule : Production
equations_rule = by_name (Rule equation ∷ Rule equations ∷ [])

-- equation = name "=" right ";"
abbrev pub equation_rule : Production
equation_rule = always (Rule name ∷ Class equals ∷ Rule right ∷ Class semicolon ∷ [])

-- right = literal delay | "if" condition "then" item "else" choice | test more_tests | name
abbrev pub right_rule : Production
right_rule =
    record {
      alternatives =
          record { classes = number ∷ word_true ∷ word_false ∷ []; body = Rule literal ∷ Rule delay ∷ [] }
          ∷ after word_if (Rule condition ∷ Class word_then ∷ Rule item ∷ Class word_else ∷ Rule choice ∷ [])
          ∷ record { classes = open_parenthesis ∷ []; body = Rule test ∷ Rule more_tests ∷ [] }
          ∷ [];
      otherwise = Rule name ∷ [];
    }

-- delay = ["->" "pre" name]
abbrev pub delay_rule : Production
delay_rule = optional arrow (Class word_pre ∷ Rule name ∷ [])

-- choice = {"if" condition "then" item "else"} item
abbrev pub choice_rule : Production
choice_rule =
    record {
      alternatives = after word_if (Rule condition ∷ Class word_then ∷ Rule item ∷ Class word_else ∷ Rule choice ∷ []) ∷ [];
      otherwise = Rule item ∷ [];
    }

-- condition = name compared
abbrev pub condition_rule : Production
condition_rule = always (Rule name ∷ Rule compared ∷ [])

-- compared = ["=" number]
abbrev pub compared_rule : Production
compared_rule = optional equals (Class number ∷ [])

-- test = "(" name "=" number ")"
abbrev pub test_rule : Production
test_rule = always (Class open_parenthesis ∷ Rule name ∷ Class equals ∷ Class number ∷ Class close_parenthesis ∷ [])

-- more_tests = {"or" test}
abbrev pub more_tests_rule : Production
more_tests_rule = optional word_or (Rule test ∷ Rule more_tests ∷ [])

-- item = literal | name
abbrev pub item_rule : Production
item_rule =
    record {
      alternatives = record { classes = number ∷ word_true ∷ word_false ∷ []; body = Rule literal ∷ [] } ∷ [];
      otherwise = Rule name ∷ [];
    }

-- literal = number | "true" | "false"
abbrev pub literal_rule : Production
literal_rule = record { alternatives = after number [] ∷ after word_true [] ∷ []; otherwise = Class word_false ∷ [] }

-- name = a word that is not reserved | "ok"
abbrev pub name_rule : Production
name_rule = record { alternatives = after word_ok [] ∷ []; otherwise = Class plain_name ∷ [] }

unfoldable pub language : ContextFree
language =
    record {
      start = node;
      productions =
          node_rule ∷ more_inputs_rule ∷ input_rule ∷ variables_rule ∷ locals_rule ∷ local_rule ∷ kind_rule ∷ equations_rule
          ∷ equation_rule ∷ right_rule ∷ delay_rule ∷ choice_rule ∷ condition_rule ∷ compared_rule ∷ test_rule ∷ more_tests_rule
          ∷ item_rule ∷ literal_rule ∷ name_rule ∷ output_rule ∷ [];
    }
