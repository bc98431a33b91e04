-- What each rule of the grammar stands for, by what its body's symbols stand for: an equation for each body. Punctuation stands for nothing.
--     Part                  what a symbol stands for
--     has_part class        whether the tokens of a class stand for anything
--     RULE_part parts       what a rule stands for, by the parts of its body
--     scheme                what derivation trees stand for
--     Spells text placed    the text stands for the placed node
use Rattle.std.specs.Prelude.{ℕ, ◌==◌, Bool, ◌||◌, List, [], ◌∷◌, Option, Some, None, slice_index_or}
use Rattle.dcv_lexer.specs.Cuts.{Token}
use Rattle.dcv_observer.specs.Scheme.{Scheme, StandsFor}
use Rattle.dcv_observer.specs.Classes.{name as plain_name, number as plain_number}
use Rattle.dcv_lustre.specs.Classes.{lexicon, word_tel, word_true, word_false, word_bool, word_int, word_ok}
use Rattle.dcv_lustre.specs.Language.{language}
use Rattle.dcv_lustre.specs.Placed.{PlacedNode, PlacedLocal, PlacedEquation, PlacedRight, PlacedDelayed, PlacedChosen, PlacedTested, PlacedArm, PlacedTest}

-- what a symbol stands for
pub data Part : Type 0 where
  AToken : Token → Part
  Tokens : List Token → Part
  ALocal : PlacedLocal → Part
  Locals : List PlacedLocal → Part
  AnEquation : PlacedEquation → Part
  Equations : List PlacedEquation → Part
  ARight : PlacedRight → Part
  -- a token that may not be there: the source of a delay, or the number of a condition
  Maybe : Option Token → Part
  -- a condition
  Compared : Token → Option Token → Part
  Choice : List PlacedArm → Token → Part
  ATest : PlacedTest → Part
  Tests : List PlacedTest → Part
  ANode : PlacedNode → Part
  -- the parts are those of no body
  Nothing : Part

-- node = "node" name "(" input more_inputs ")" output variables "let" equations "tel"
abbrev pub node_part : List Part → Part
node_part (AToken name ∷ AToken input ∷ Tokens inputs ∷ AToken output ∷ Locals locals ∷ Equations equations ∷ AToken tel ∷ []) =
    ANode (record { name = name; inputs = input ∷ inputs; output = output; locals = locals; equations = equations; tel = tel })
node_part _ = Nothing

-- more_inputs = {";" input}
abbrev pub more_inputs_part : List Part → Part
more_inputs_part [] = Tokens []
more_inputs_part (AToken input ∷ Tokens inputs ∷ []) = Tokens (input ∷ inputs)
more_inputs_part _ = Nothing

-- input = name ":" "bool", output = "returns" "(" "ok" ":" "bool" ")" ";"
abbrev pub truth_part : List Part → Part
truth_part (AToken name ∷ AToken bool ∷ []) = AToken name
truth_part _ = Nothing

-- variables = ["var" local locals], locals = {local}
abbrev pub locals_part : List Part → Part
locals_part [] = Locals []
locals_part (ALocal local ∷ Locals locals ∷ []) = Locals (local ∷ locals)
locals_part _ = Nothing

-- local = name ":" kind ";"
abbrev pub local_part : List Part → Part
local_part (AToken name ∷ AToken kind ∷ []) = ALocal (record { name = name; kind = kind })
local_part _ = Nothing

-- a rule that is one token
abbrev pub token_part : List Part → Part
token_part (AToken token ∷ []) = AToken token
token_part _ = Nothing

-- equations = {equation}
abbrev pub equations_part : List Part → Part
equations_part [] = Equations []
equations_part (AnEquation equation ∷ Equations equations ∷ []) = Equations (equation ∷ equations)
equations_part _ = Nothing

-- equation = name "=" right ";"
abbrev pub equation_part : List Part → Part
equation_part (AToken left ∷ ARight right ∷ []) = AnEquation (record { left = left; right = right })
equation_part _ = Nothing

abbrev pub arm : Token → Option Token → Token → PlacedArm
arm name number item = record { name = name; number = number; item = item }

-- right = literal delay | "if" condition "then" item "else" choice | test more_tests | name
abbrev pub right_part : List Part → Part
right_part (AToken name ∷ []) = ARight (PlacedChosen [] name)
right_part (AToken literal ∷ Maybe None ∷ []) = ARight (PlacedChosen [] literal)
right_part (AToken literal ∷ Maybe (Some source) ∷ []) = ARight (PlacedDelayed literal source)
right_part (Compared name number ∷ AToken item ∷ Choice arms otherwise ∷ []) = ARight (PlacedChosen (arm name number item ∷ arms) otherwise)
right_part (ATest test ∷ Tests tests ∷ []) = ARight (PlacedTested (test ∷ tests))
right_part _ = Nothing

-- delay = ["->" "pre" name], compared = ["=" number]
abbrev pub maybe_part : List Part → Part
maybe_part [] = Maybe None
maybe_part (AToken token ∷ []) = Maybe (Some token)
maybe_part _ = Nothing

-- choice = {"if" condition "then" item "else"} item
abbrev pub choice_part : List Part → Part
choice_part (AToken item ∷ []) = Choice [] item
choice_part (Compared name number ∷ AToken item ∷ Choice arms otherwise ∷ []) = Choice (arm name number item ∷ arms) otherwise
choice_part _ = Nothing

-- condition = name compared
abbrev pub condition_part : List Part → Part
condition_part (AToken name ∷ Maybe number ∷ []) = Compared name number
condition_part _ = Nothing

-- test = "(" name "=" number ")"
abbrev pub test_part : List Part → Part
test_part (AToken name ∷ AToken number ∷ []) = ATest (record { name = name; number = number })
test_part _ = Nothing

-- more_tests = {"or" test}
abbrev pub more_tests_part : List Part → Part
more_tests_part [] = Tests []
more_tests_part (ATest test ∷ Tests tests ∷ []) = Tests (test ∷ tests)
more_tests_part _ = Nothing

-- of each rule, in the order of their numbers
abbrev pub actions : List (List Part → Part)
actions =
    node_part ∷ more_inputs_part ∷ truth_part ∷ locals_part ∷ locals_part ∷ local_part ∷ token_part ∷ equations_part
    ∷ equation_part ∷ right_part ∷ maybe_part ∷ choice_part ∷ condition_part ∷ maybe_part ∷ test_part ∷ more_tests_part
    ∷ token_part ∷ token_part ∷ token_part ∷ truth_part ∷ []

-- what a rule stands for
abbrev pub action : ℕ → List Part → Part
action rule parts = (slice_index_or actions rule (λ parts. Nothing)) parts

-- names, numbers, other constants, types, and the last word
abbrev pub has_part : ℕ → Bool
has_part class =
    class == plain_name || class == plain_number || class == word_tel || class == word_true || class == word_false
    || class == word_bool || class == word_int || class == word_ok

-- what derivation trees stand for
abbrev pub scheme : Scheme Part
scheme = record { lexicon = lexicon; grammar = language; has_part = has_part; of_token = AToken; action = action }

-- the text stands for the node
abbrev pub Spells : List ℕ → PlacedNode → Type 0
Spells text placed = StandsFor scheme text (ANode placed)
